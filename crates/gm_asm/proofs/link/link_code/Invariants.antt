use Rattle.std.proofs.Common.{map}
use Rattle.gm_asm.specs.State.{placed_view, label_view}
use Rattle.gm_asm.proofs.Linking.{Links}
use Rattle.gm_asm.proofs.link.link_code.Given as goal

abbrev pub invariant-loop-placed : goal.invariant-loop-placed
invariant-loop-placed l = Links (map label_view l.labels.entries) (map placed_view l.code) l.placed-index l.linked.items
