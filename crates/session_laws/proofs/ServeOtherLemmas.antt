-- What a step of any other call leaves of one number, and that before its call begins there is nothing of it.
use Rattle.std.specs.Prelude.{◌≡◌, ◌≢◌, ◌⊎◌, ℕ, ◌<◌, ◌==◌, true, false, List, [], ◌∷◌, ◌++◌}
use Rattle.std.specs.Prelude.{Option, Some, None, Contains}
use Rattle.std.proofs.Common.{refl, sym, ap, ◌∙◌, inl, inr, arith, eq-eqb}
use Rattle.std.proofs.lemmas.Bool.{cases_eq, cond-true}
use Rattle.std.proofs.lemmas.List.{append-nil}
use Rattle.std.proofs.lemmas.List.Elements.{Contains-append_cases, Contains-push_cases}
use Rattle.script_model.specs.declared.Note.{Note}
use Rattle.script_model.specs.declared.Note.TheVariants.{Ended, Refused, Gave}
use Rattle.script_model.specs.declared.Point.{Point}
use Rattle.script_model.specs.declared.Reply.{Reply}
use Rattle.script_model.specs.declared.Reply.TheVariants.{One}
use Rattle.script_model.specs.Objects.{Objects, at}
use Rattle.script_model.specs.Meaning.{Meaning, Stage, Answer, Piece, After, Continues, EndsWith, Fails}
use Rattle.script_model.specs.Kernel.{Call, Run, gave_note, after_note, call_after, finish}
use Rattle.script_model.specs.Settle.{finish_on}
use Rattle.session_laws.specs.Sent.{those, numbered, given, taken_by}
use Rattle.session_laws.proofs.ServeThoseLemmas.{those_append, none_numbered, given_append, given_none}
use Rattle.session_laws.proofs.ShownLemmas.{Shown, and_then, takes, completes}
use Rattle.session_laws.proofs.ServeKeptLemmas.{is_silent}
use Rattle.call_laws.specs.Ledgers.{at_other}

-- ---- a function changed at one place

pub at_here : {A : Type 0} (p q : ℕ) (v : A) (f : ℕ → A) → q ≡ p → at p v f q ≡ v
at_here p q v f e = cond-true (q == p) v (f q) (eq-eqb q p e)

-- ---- ends among notes

-- the end of the call of this number, with this number of answers
abbrev pub TellsEnd : ℕ → List Note → ℕ → Type 0
TellsEnd n notes x = Contains notes (Ended n (One x))

pub none_contained : {A : Type 0} (x : A) → Contains [] x → ⊥
none_contained x c = no c.0 c.1
  where
    no : (k : ℕ) → k < 0 → ⊥
    no k h = omega arith

pub one_contained : {A : Type 0} (x y : A) → Contains (y ∷ []) x → y ≡ x
one_contained x y c = elim (Contains-push_cases [] y x c) [ inl before ↦ absurd (none_contained x before) | inr e ↦ e ]

-- a silent note is no end
silent_no_end : (note : Note) (n : ℕ) (reply : Reply) → is_silent note ≡ true → note ≡ Ended n reply → ⊥
silent_no_end note n reply h e = no (sym (ap is_silent e) ∙ h)
  where
    no : false ≡ true → ⊥
    no h = cc

-- bytes are no end
pub gave_no_end : (k n : ℕ) (g : Option (List ℕ)) (x : ℕ) → TellsEnd n (gave_note k g) x → ⊥
gave_no_end k n None x c = none_contained (Ended n (One x)) c
gave_no_end k n (Some bytes) x c = no (one_contained (Ended n (One x)) (Gave k bytes) c)
  where
    no : Gave k bytes ≡ Ended n (One x) → ⊥
    no e = cc

-- a call that goes on has no end
pub on_no_end : (k n : ℕ) (t : Stage) (x : ℕ) → TellsEnd n (after_note k (Continues t)) x → ⊥
on_no_end k n t x c = none_contained (Ended n (One x)) c

-- the end of another call isn't that of this
other_end : (k n : ℕ) (a : After) (x : ℕ) → k ≢ n → TellsEnd n (after_note k a) x → ⊥
other_end k n (Continues t) x ne c = none_contained (Ended n (One x)) c
other_end k n (EndsWith reply) x ne c = ne (same (one_contained (Ended n (One x)) (Ended k reply) c))
  where
    same : Ended k reply ≡ Ended n (One x) → k ≡ n
    same e = cc
other_end k n (Fails refusal) x ne c = no (one_contained (Ended n (One x)) (Refused k refusal) c)
  where
    no : Refused k refusal ≡ Ended n (One x) → ⊥
    no e = cc

-- where a call ends that ended with this number, the notes told it before, or its bytes or its end do
pub end_cases : (n : ℕ) (notes gave after : List Note) (x : ℕ) → TellsEnd n ((notes ++ gave) ++ after) x →
    (TellsEnd n notes x ⊎ TellsEnd n gave x) ⊎ TellsEnd n after x
end_cases n notes gave after x c = elim (Contains-append_cases (notes ++ gave) after (Ended n (One x)) c) [
  | inl front ↦ inl (Contains-append_cases notes gave (Ended n (One x)) front)
  | inr back ↦ inr back
]

-- ---- bytes among notes

silent_gives_none : (n : ℕ) (x : Note) → is_silent x ≡ true → given n (x ∷ []) ≡ []
silent_gives_none n (Gave k bytes) h = absurd (no h)
  where
    no : false ≡ true → ⊥
    no h = cc
silent_gives_none n x h = refl

-- the end of a call gives no bytes
pub after_gives_none : (k n : ℕ) (a : After) → given n (after_note k a) ≡ []
after_gives_none k n (Continues t) = refl
after_gives_none k n (EndsWith reply) = refl
after_gives_none k n (Fails refusal) = refl

-- another call gives none
other_gives_none : (k n : ℕ) (g : Option (List ℕ)) → k ≢ n → given n (gave_note k g) ≡ []
other_gives_none k n None ne = refl
other_gives_none k n (Some bytes) ne = given_none k n bytes ne

-- ---- what other calls leave

-- of this number nothing changes, but that calls may be gone
pub record Leaves (n : ℕ) (a b : Shown) (call after : ℕ → Option Call) (notes more : List Note) : Type 0 where
  pub bytes : given n more ≡ given n notes
  pub number : (x : ℕ) → TellsEnd n more x → TellsEnd n notes x
  pub answers : those n b.answers ≡ those n a.answers
  pub completed : those n b.completed ≡ those n a.completed
  pub taken : those n b.taken ≡ those n a.taken
  pub calls : (q : ℕ) (c : Call) → after q ≡ Some c → c.number ≡ n → call q ≡ Some c

pub some_call : (a b : Call) → Some a ≡ Some b → a ≡ b
some_call a b e = cc

pub no_call : (a : Call) → None ≡ Some a → ⊥
no_call a e = cc

-- a silent note
pub line_leaves : (n : ℕ) (l : Shown) (call : ℕ → Option Call) (notes : List Note) (x : Note) → is_silent x ≡ true →
    Leaves n l l call call notes (notes ++ x ∷ [])
line_leaves n l call notes x h =
    record {
      bytes =
          given_append n notes (x ∷ []) ∙ ap (λ ys. given n notes ++ ys) (silent_gives_none n x h)
          ∙ append-nil (given n notes);
      number = λ k c. elim (Contains-push_cases notes x (Ended n (One k)) c) [
        | inl before ↦ before
        | inr same ↦ absurd (silent_no_end x n (One k) h same)
      ];
      answers = refl;
      completed = refl;
      taken = refl;
      calls = λ q c e same. e;
    }

-- a call that is taken out
pub end_leaves : (n : ℕ) (l : Shown) (call : ℕ → Option Call) (notes : List Note) (p : ℕ) →
    Leaves n l l call (at p None call) notes notes
end_leaves n l call notes p =
    record {
      bytes = refl;
      number = λ k c. c;
      answers = refl;
      completed = refl;
      taken = refl;
      calls = λ q c e same. elim (cases_eq q p) [
        | inl here ↦ absurd (no_call c (sym (at_here p q None call here) ∙ e))
        | inr other ↦ sym (at_other p q None call other) ∙ e
      ];
    }

-- a new history of another call
pub marks_leaves : (n : ℕ) (l : Shown) (call : ℕ → Option Call) (notes : List Note) (p : ℕ) (d : Call) → d.number ≢ n →
    Leaves n l l call (at p (Some d) call) notes notes
marks_leaves n l call notes p d ne =
    record {
      bytes = refl;
      number = λ k c. c;
      answers = refl;
      completed = refl;
      taken = refl;
      calls = λ q c e same. elim (cases_eq q p) [
        | inl here ↦ absurd (ne (ap (λ (x : Call). x.number)
            (some_call d c (sym (at_here p q (Some d) call here) ∙ e)) ∙ same))
        | inr other ↦ sym (at_other p q (Some d) call other) ∙ e
      ];
    }

-- a call keeps its number
number_after : (c d : Call) (a : After) → call_after c a ≡ Some d → d.number ≡ c.number
number_after c d (Continues t) e =
    ap (λ (x : Call). x.number)
    (sym (some_call (record { number = c.number; stage = t; marks = None }) d e))
number_after c d (EndsWith reply) e = absurd (no_call d e)
number_after c d (Fails refusal) e = absurd (no_call d e)

-- a piece of another call is done
pub done_leaves : (n : ℕ) (l : Shown) (p : ℕ) (c : Call) (q : Piece) (r : Run) → c.number ≢ n →
    Leaves n l l r.kernel.call (finish p c q r).kernel.call r.notes (finish p c q r).notes
done_leaves n l p c q r ne =
    record {
      bytes = given_append n (r.notes ++ gave_note c.number q.gave) (after_note c.number q.after)
          ∙ ap (λ ys. given n (r.notes ++ gave_note c.number q.gave) ++ ys) (after_gives_none c.number n q.after)
          ∙ append-nil (given n (r.notes ++ gave_note c.number q.gave))
          ∙ given_append n r.notes (gave_note c.number q.gave)
          ∙ ap (λ ys. given n r.notes ++ ys) (other_gives_none c.number n q.gave ne)
          ∙ append-nil (given n r.notes);
      number = λ x told. elim (end_cases n r.notes (gave_note c.number q.gave) (after_note c.number q.after) x told) [
        | inl (inl before) ↦ before
        | inl (inr gave) ↦ absurd (gave_no_end c.number n q.gave x gave)
        | inr end ↦ absurd (other_end c.number n q.after x ne end)
      ];
      answers = refl;
      completed = refl;
      taken = refl;
      calls = λ i d e same. elim (cases_eq i p) [
        | inl here ↦ absurd (ne (sym (number_after c d q.after
            (sym (at_here p i (call_after c q.after) r.kernel.call here) ∙ e)) ∙ same))
        | inr other ↦ sym (at_other p i (call_after c q.after) r.kernel.call other) ∙ e
      ];
    }

-- what another call shows
pub more_of_other : {A : Type 0} (k n : ℕ) (xs : List (ℕ × A)) (ys : List A) → k ≢ n →
    those n (xs ++ numbered k ys) ≡ those n xs
more_of_other k n xs ys ne =
    those_append n xs (numbered k ys) ∙ ap (λ zs. those n xs ++ zs) (none_numbered k n ys ne) ∙ append-nil (those n xs)

-- and no more
pub no_more : {A : Type 0} (n : ℕ) (xs : List (ℕ × A)) → those n (xs ++ []) ≡ those n xs
no_more n xs = ap (those n) (append-nil xs)

-- the default of another call's piece
pub default_leaves : (m : Meaning) (n : ℕ) (l : Shown) (p : ℕ) (c : Call) (r : Run) → c.number ≢ n →
    Leaves n l (and_then l (takes c r)) r.kernel.call (finish_on m p c r.kernel.objects None r).kernel.call r.notes
    (finish_on m p c r.kernel.objects None r).notes
default_leaves m n l p c r ne =
    let h = done_leaves n l p c (m.piece r.kernel.world r.kernel.images r.kernel.objects r.blocks p
    c.stage None r.io) r ne in
    record {
      bytes = h.bytes;
      number = h.number;
      answers = no_more n l.answers;
      completed = no_more n l.completed;
      taken =
          more_of_other c.number n l.taken
          (taken_by c.stage.call c.stage.piece r.kernel.objects.things.handlers) ne;
      calls = h.calls;
    }

-- the same where a graft call of it was dropped
pub drop_leaves : (m : Meaning) (n : ℕ) (l : Shown) (p : ℕ) (c : Call) (s : Objects) (r : Run) → c.number ≢ n →
    Leaves n l l r.kernel.call (finish_on m p c s None r).kernel.call r.notes (finish_on m p c s None r).notes
drop_leaves m n l p c s r ne =
    done_leaves n l p c (m.piece r.kernel.world r.kernel.images s r.blocks p c.stage None r.io) r ne

-- and where one completed
pub answer_leaves : (m : Meaning) (n : ℕ) (l : Shown) (p : ℕ) (c : Call) (s : Objects) (a : Point)
    (x : Answer) (r : Run) → c.number ≢ n →
    Leaves n l (and_then l (completes c a x)) r.kernel.call (finish_on m p c s (Some x) r).kernel.call r.notes
    (finish_on m p c s (Some x) r).notes
answer_leaves m n l p c s a x r ne =
    let h = done_leaves n l p c (m.piece r.kernel.world r.kernel.images s r.blocks p c.stage (Some x) r.io) r ne in
    record {
      bytes = h.bytes;
      number = h.number;
      answers = more_of_other c.number n l.answers (x ∷ []) ne;
      completed = more_of_other c.number n l.completed ((a.installer, a.point) ∷ []) ne;
      taken = no_more n l.taken;
      calls = h.calls;
    }
