use Rattle.std.proofs.Common.{sym, ◌∙◌}
use Rattle.call_pieces.proofs.Sides.{first_some, second_some}
use Rattle.call_pieces.proofs.beside.BesideCalls.piece.Goals as goal

pub returns-then-owns-clause-some : goal.returns-then-owns-clause-some
returns-then-owns-clause-some g c =
    λ images. first_some _ _ _ _ _ _ _ _
    (sym (c.owns.ensures c.args.work.now.bytes.items) ∙ c.if-owns.true)
    (c.piece.ensures.some images)

pub returns-else-owns-clause-some : goal.returns-else-owns-clause-some
returns-else-owns-clause-some g c =
    λ images. second_some _ _ _ _ _ _ _ _
    (sym (c.owns.ensures c.args.work.now.bytes.items) ∙ c.if-owns.false)
    (c.piece-else-owns.ensures.some images)
