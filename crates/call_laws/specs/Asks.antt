-- The system calls meet the laws of the points that pieces ask.
use Rattle.std.specs.Prelude.{ℕ, ◌≤◌}
use Rattle.std.proofs.Common.{sym, ◌∙◌}
use Rattle.kernel_model.specs.Needs.{piece_needs}
use Rattle.kernel_model.specs.Pieces.{plain_upto}
use Rattle.kernel_model.specs.Laws.{AskLaws}
use Rattle.call_laws.specs.AskAlike.{piece_kind, piece_ahead_alike}
use Rattle.call_laws.specs.AskLooks.{each_agrees, piece_asks_same}
use Rattle.call_laws.specs.GrantedCalls.{piece_stands}
use Rattle.call_laws.specs.AskRanges.{piece_asks_right}
use Rattle.call_laws.specs.BeforePoint.{piece_before_point}

-- the laws of asked points hold of the system calls
pub asks_of_plain : (top : ℕ) → top ≤ 15 → AskLaws (plain_upto top)
asks_of_plain top most =
    record {
      looks = λ v s u p t h k a. piece_asks_same t.call t.piece v s u p
          (each_agrees s u (piece_needs t.call t.piece v s p) a);
      ranges = λ v images s p t a c e.
          piece_asks_right v images s p t.call t.piece a (piece_stands top v images s p t most c) e;
      alike = λ v s u p t h a. piece_kind t.call t.piece v s u p a;
      alike_before = λ v s u p t a b h k e f.
          piece_before_point t.call t.piece v s p a e
          ∙ sym (piece_before_point t.call t.piece v u p b f);
      alike_ahead = λ v s u p t a b h k e f. piece_ahead_alike t.call t.piece v s u p a b h k e f;
    }
