use Rattle.std.proofs.Common.{arith}
use Rattle.std.proofs.lemmas.Grind.{common_steps}
use Rattle.std.proofs.lemmas.List.Edits.{map_over_more}
use Rattle.graft_loader.specs.Slots.{free_in_place}
use Rattle.graft_loader.proofs.Slots.{all_free}
use Rattle.graft_loader.proofs.images.free_all.Goals as goal

pub loop-slot-preserved : goal.loop-slot-preserved
loop-slot-preserved c = grind (arith, common_steps, map_over_more free_in_place)

pub returns : goal.returns
returns c = grind (arith, common_steps, all_free c.args.slots.now, c.loop-slot.invariant, c.loop-slot-test.false)
