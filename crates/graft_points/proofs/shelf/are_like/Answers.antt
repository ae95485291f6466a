use Rattle.std.proofs.Common.{rules, arith}
use Rattle.std.proofs.lemmas.List.{length-map}
use Rattle.graft_points.proofs.Places.{alike_everywhere}
use Rattle.graft_points.proofs.shelf.are_like.Goals as goal

pub returns : goal.returns
returns g c = (
  λ _. alike_everywhere _ _ (simp length-map (search rules))
      (λ k h. let n = simp length-map at h in c.loop-i.invariant k (omega arith)),
  λ _. search rules,
)
