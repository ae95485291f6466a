-- Before the call of a number begins there is nothing of it.
use Rattle.std.specs.Prelude.{◌≡◌, ◌≢◌, ℕ, List, [], ◌∷◌, ◌++◌, Option, Some, None}
use Rattle.std.proofs.Common.{◌∙◌}
use Rattle.script_model.specs.declared.Note.{Note}
use Rattle.script_model.specs.Objects.{at}
use Rattle.script_model.specs.Meaning.{Meaning}
use Rattle.script_model.specs.Kernel.{Call}
use Rattle.script_model.specs.Settle.{finish_on}
use Rattle.session_laws.specs.Sent.{those, given}
use Rattle.session_laws.proofs.ShownLemmas.{Shown, and_then, takes, completes}
use Rattle.session_laws.proofs.ServeKeptLemmas.{IsKept}
use Rattle.session_laws.proofs.ServeOtherLemmas.{TellsEnd, Leaves, line_leaves, end_leaves}
use Rattle.session_laws.proofs.ServeOtherLemmas.{marks_leaves, default_leaves, drop_leaves}
use Rattle.session_laws.proofs.ServeOtherLemmas.{answer_leaves}

-- nothing is of this number
pub record IsFresh (n : ℕ) (l : Shown) (call : ℕ → Option Call) (notes : List Note) : Type 0 where
  pub calls : (q : ℕ) (c : Call) → call q ≡ Some c → c.number ≢ n
  pub bytes : given n notes ≡ []
  pub number : (x : ℕ) → TellsEnd n notes x → ⊥
  pub answers : those n l.answers ≡ []
  pub completed : those n l.completed ≡ []
  pub taken : those n l.taken ≡ []

-- what leaves the number keeps it so
pub fresh_left : (n : ℕ) (a b : Shown) (call after : ℕ → Option Call) (notes more : List Note) →
    IsFresh n a call notes →
    Leaves n a b call after notes more → IsFresh n b after more
fresh_left n a b call after notes more h left =
    record {
      calls = λ q c e same. h.calls q c (left.calls q c e same) same;
      bytes = left.bytes ∙ h.bytes;
      number = λ x told. h.number x (left.number x told);
      answers = left.answers ∙ h.answers;
      completed = left.completed ∙ h.completed;
      taken = left.taken ∙ h.taken;
    }

-- a call of another number begins
pub fresh_begins : (n : ℕ) (l : Shown) (call : ℕ → Option Call) (notes : List Note) (p : ℕ) (c : Call) → c.number ≢ n →
    IsFresh n l call notes → IsFresh n l (at p (Some c) call) notes
fresh_begins n l call notes p c ne h =
    fresh_left n l l call (at p (Some c) call) notes notes h (marks_leaves n l call notes p c ne)

-- so it stays
pub fresh_kept : (m : Meaning) (n : ℕ) → IsKept m (IsFresh n)
fresh_kept m n =
    record {
      lines =
          λ l call notes x silent h. fresh_left n l l call call notes (notes ++ x ∷ []) h
          (line_leaves n l call notes x silent);
      marks = λ l call notes p c ks e h. fresh_begins n l call notes p (record c { marks = Some ks }) (h.calls p c e) h;
      ends = λ l call notes p h. fresh_left n l l call (at p None call) notes notes h (end_leaves n l call notes p);
      default = λ l p c r e h.
          fresh_left n l (and_then l (takes c r)) r.kernel.call
          (finish_on m p c r.kernel.objects None r).kernel.call r.notes
          (finish_on m p c r.kernel.objects None r).notes h (default_leaves m n l p c r (h.calls p c e));
      drop = λ l p c s a r e f h.
          fresh_left n l l r.kernel.call (finish_on m p c s None r).kernel.call r.notes
          (finish_on m p c s None r).notes h
          (drop_leaves m n l p c s r (h.calls p c e));
      answer = λ l p c s a x r e f h.
          fresh_left n l (and_then l (completes c a x)) r.kernel.call (finish_on m p c s (Some x) r).kernel.call r.notes
          (finish_on m p c s (Some x) r).notes h (answer_leaves m n l p c s a x r (h.calls p c e));
    }
