use Rattle.std.proofs.Common.{ap}
use Rattle.audit_pieces.specs.Ends.{Left}
use Rattle.audit_pieces.proofs.Store.piece.Goals as goal

pub returns : goal.returns
returns c = λ images.
    let left = c.in_ok-end.ensures images in
    record {
      objects = ap (λ (l : Left). l.objects) left;
      blocks = ap (λ (l : Left). l.blocks) left;
      gave = ap (λ (l : Left). l.gave) left;
      after = ap (λ (l : Left). l.after) left;
    }
