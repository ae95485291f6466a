use Rattle.std.proofs.Common.{ap, ◌∙◌}
use Rattle.lock_table.specs.declared.Holds.{Holds}
use Rattle.lock_table.specs.Masks.{held_by}
use Rattle.lock_table.proofs.Used.{free_levels, no_holds-unused}
use Rattle.lock_table.specs.Masks.{no_holds}
use Rattle.lock_table.proofs.NotedLemmas.{noted_none}
use Rattle.lock_table.proofs.call.CallHolds.new.Goals as goal

pub invariant_of-result : goal.invariant_of-result
invariant_of-result c = (
  c.in_ok-masks.ensures.size,
  rw c.new.ensures
      (noted_none c.in_ok-masks.masks.items c.in_ok-masks.ensures.free),
  c.in_ok-masks.ensures.room,
)

pub returns : goal.returns
returns c n e = ap (λ (h : Holds). held_by h e) (c.in_ok-masks.ensures.free n) ∙ free_levels no_holds no_holds-unused e
