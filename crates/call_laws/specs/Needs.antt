-- The system calls meet the laws of the objects that pieces need.
use Rattle.std.specs.Prelude.{ℕ, ◌≤◌, ◌++◌}
use Rattle.std.proofs.Common.{ap, sym, ◌∙◌}
use Rattle.kernel_model.specs.Needs.{piece_needs}
use Rattle.kernel_model.specs.Pieces.{plain_upto}
use Rattle.kernel_model.specs.Laws.{NeedLaws, needs_of_point}
use Rattle.call_laws.specs.GrantedCalls.{piece_stands}
use Rattle.call_laws.specs.NeedParts.{each_contains}
use Rattle.call_laws.specs.NeedOrder.{follows_next, follows_piece}
use Rattle.call_laws.specs.NeedKinds.{IsOwnNeed, own_piece, piece_few}
use Rattle.call_laws.specs.NeedRanges.{NeedIsInRange, piece_ranges}
use Rattle.call_laws.specs.BeforePoint.{piece_ends, piece_before_point}
use Rattle.call_laws.specs.NeedGrafts.{calls_take_grafts}
use Rattle.call_laws.specs.NeedModes.{plain_needs_have_one_mode}
use Rattle.call_laws.specs.NeedAnswers.{calls_need_answers}

-- the laws of needed objects hold of the system calls
pub needs_of_plain : (top : ℕ) → top ≤ 15 → NeedLaws (plain_upto top)
needs_of_plain top most =
    record {
      prefix = λ v s u p t i h k a.
          follows_next s u (piece_needs t.call t.piece v s p) (piece_needs t.call t.piece v u p) i
          (follows_piece t.call t.piece v s u p) a;
      files = λ v s p t n h c.
          (each_contains (IsOwnNeed t.call p) (piece_needs t.call t.piece v s p) n
          (own_piece t.call t.piece v s p) c).file;
      user = λ v s p t n h c.
          (each_contains (IsOwnNeed t.call p) (piece_needs t.call t.piece v s p) n
          (own_piece t.call t.piece v s p) c).user;
      most = λ v s p t h. piece_few t.call t.piece v s p;
      ranges = λ v images s p t n h c.
          each_contains NeedIsInRange (piece_needs t.call t.piece v s p) n
          (piece_ranges v images s p t.call t.piece (piece_stands top v images s p t most h)) c;
      point = λ v s p t a h e.
          piece_ends t.call t.piece v s p a e
          ∙ sym (ap (λ ns. ns ++ needs_of_point s a) (piece_before_point t.call t.piece v s p a e));
      grafts = calls_take_grafts top;
      modes = plain_needs_have_one_mode top;
      answers = calls_need_answers top;
    }
