-- The notes of one number through the steps of an event: none of them is an answer as long as the call
-- of that number is in flight, and then the last one is.
use Rattle.std.specs.Prelude.{◌≡◌, ◌≢◌, ℕ, ◌==◌, Bool, true, false, cond, List, [], ◌∷◌, ◌++◌}
use Rattle.std.specs.Prelude.{filter, Option, Some, None}
use Rattle.std.proofs.Common.{arith, refl, subst, sym, ap, ◌∙◌, inl, inr}
use Rattle.std.proofs.lemmas.Bool.{cases_Bool, cases_eq, eqb-true}
use Rattle.std.proofs.lemmas.Bool.Decides.{nat_tests}
use Rattle.std.proofs.lemmas.List.{append_assoc, append-nil}
use Rattle.std.proofs.lemmas.List.Elements.{filter-append}
use Rattle.script_model.specs.declared.Note.{Note}
use Rattle.script_model.specs.declared.Note.TheVariants.{Waits, InGraft}
use Rattle.script_model.specs.Meaning.{Meaning}
use Rattle.script_model.specs.Kernel.{Call, Kernel, Run}
use Rattle.script_model.specs.Blocking.{number_of_call, same_call}
use Rattle.graft_laws.specs.Notes.{is_end}
use Rattle.session_laws.specs.NoteNumbers.{number_of, numbered, is_answer}
use Rattle.session_laws.specs.Answers.{has_call}
use Rattle.session_laws.proofs.TellingLemmas.{Bear, all_numbered, none_numbered, IsTelling, Tells}
use Rattle.session_laws.proofs.ActionLemmas.{IsKept}
use Rattle.kernel_laws.proofs.FrameLemmas.{contrary}

pub is_itself : (n : ℕ) → (n == n) ≡ true
is_itself n = grind (arith, nat_tests)

-- a test of options is that of what they are
pub option_is : {A : Type 0} (a b : A) → Some a ≡ Some b → a ≡ b
option_is a b e = cc

-- ---- notes of a number

numbered_more : (n : ℕ) (xs ys : List Note) → numbered n (xs ++ ys) ≡ numbered n xs ++ numbered n ys
numbered_more n xs ys = filter-append (λ (x : Note). number_of x == n) xs ys

-- one note more, with this number or another
pub own_more : (n : ℕ) (xs : List Note) (x : Note) → number_of x ≡ n →
    numbered n (xs ++ x ∷ []) ≡ numbered n xs ++ x ∷ []
own_more n xs x e =
    numbered_more n xs (x ∷ []) ∙ ap (λ ys. numbered n xs ++ ys) (all_numbered n (x ∷ []) (e, tt))

pub other_more : (n : ℕ) (xs : List Note) (x : Note) → (number_of x == n) ≡ false →
    numbered n (xs ++ x ∷ []) ≡ numbered n xs
other_more n xs x other =
    numbered_more n xs (x ∷ [])
    ∙ ap (λ ys. numbered n xs ++ ys) (none_numbered n (number_of x) (x ∷ []) (refl, tt) other)
    ∙ append-nil (numbered n xs)

-- after others an answer is the only one
pub one_answer : (xs : List Note) (x : Note) → filter is_answer xs ≡ [] → is_answer x ≡ true →
    filter is_answer (xs ++ x ∷ []) ≡ x ∷ []
one_answer xs x none is =
    filter-append is_answer xs (x ∷ []) ∙ ap (λ ys. ys ++ filter is_answer (x ∷ [])) none
    ∙ ap (λ b. cond b (x ∷ []) []) is

-- an end is an answer
ends_answer : (x : Note) → is_end x ≡ true → is_answer x ≡ true
ends_answer (Waits n object holder) e = refl
ends_answer (InGraft n q pt depth) e = refl
ends_answer x e = e

-- ---- calls by their number

-- a process whose call is this one has it exactly where it has this number
pub call_test : (k : Kernel) (p n : ℕ) (x : Option Call) → k.call p ≡ x →
    has_call k p n ≡ same_call (number_of_call x) (Some n)
call_test k p n x e = ap (λ y. same_call (number_of_call y) (Some n)) e

-- what is told of a call that has another number
other_after : (n : ℕ) (c : Call) (new : List Note) (x : Option Call) → (c.number == n) ≡ false →
    IsTelling c.number new x → same_call (number_of_call x) (Some n) ≡ false
other_after n c new None other own = refl
other_after n c new (Some d) other own = ap (λ a. a == n) own.0 ∙ other

-- ---- where no call has the number

-- no call has the number, and these are the notes of it
pub record IsAbsent (n : ℕ) (notes : List Note) (r : Run) : Type 0 where
  pub calls : (q : ℕ) → has_call r.kernel q n ≡ false
  pub told : numbered n r.notes ≡ notes

pub absent_kept : (m : Meaning) (n : ℕ) (notes : List Note) → IsKept m (IsAbsent n notes)
absent_kept m n notes =
    record { told = told; ordered = λ es r h. record { calls = h.calls; told = h.told } }
  where
    told : (q : ℕ) (c : Call) (r u : Run) → r.kernel.call q ≡ Some c → Tells q c r u →
        IsAbsent n notes r → IsAbsent n notes u
    told q c r u is t h =
        let other = sym (call_test r.kernel q n (Some c) is) ∙ h.calls q in
        record {
          calls = λ i. elim (cases_eq i q) [
            | inl same ↦ ap (λ j. has_call u.kernel j n) same
                ∙ other_after n c t.new (u.kernel.call q) other t.own
            | inr ne ↦ call_test u.kernel i n (r.kernel.call i) (t.others i ne) ∙ h.calls i
          ];
          told = ap (numbered n) t.notes ∙ numbered_more n r.notes t.new
              ∙ ap (λ ys. numbered n r.notes ++ ys) (none_numbered n c.number t.new t.numbers other)
              ∙ append-nil (numbered n r.notes) ∙ h.told;
        }

-- ---- where one process may have the call

-- the notes of a call so far: no answer where it is in flight, and else one, at their end
abbrev pub IsAnswering : List Note → Bool → Type 0
IsAnswering notes true = filter is_answer notes ≡ []
IsAnswering notes false = (before : List Note) × (answer : Note) × (notes ≡ before ++ answer ∷ [])
    × (filter is_answer notes ≡ answer ∷ []) × (is_end answer ≡ true)

-- no process but p has the call
pub record IsAnsweringTo (p n : ℕ) (r : Run) : Type 0 where
  pub others : (q : ℕ) → q ≢ p → has_call r.kernel q n ≡ false
  pub own : IsAnswering (numbered n r.notes) (has_call r.kernel p n)

pub answering_kept : (m : Meaning) (p n : ℕ) → IsKept m (IsAnsweringTo p n)
answering_kept m p n =
    record { told = told; ordered = λ es r h. record { others = h.others; own = h.own } }
  where
    -- a call of another number
    told_other : (q : ℕ) (c : Call) (r u : Run) → r.kernel.call q ≡ Some c → Tells q c r u →
        (c.number == n) ≡ false → IsAnsweringTo p n r → IsAnsweringTo p n u
    told_other q c r u is t other h =
        let same : (i : ℕ) → has_call u.kernel i n ≡ has_call r.kernel i n = λ i. elim (cases_eq i q) [
          | inl at_q ↦ ap (λ j. has_call u.kernel j n) at_q
              ∙ other_after n c t.new (u.kernel.call q) other t.own
              ∙ sym (ap (λ j. has_call r.kernel j n) at_q ∙ call_test r.kernel q n (Some c) is ∙ other)
          | inr ne ↦ call_test u.kernel i n (r.kernel.call i) (t.others i ne)
        ] in
        let notes : numbered n u.notes ≡ numbered n r.notes =
        ap (numbered n) t.notes ∙ numbered_more n r.notes t.new
        ∙ ap (λ ys. numbered n r.notes ++ ys) (none_numbered n c.number t.new t.numbers other)
        ∙ append-nil (numbered n r.notes) in
        record {
          others = λ i ne. same i ∙ h.others i ne;
          own = subst (λ xs. IsAnswering xs (has_call u.kernel p n)) (sym notes)
              (subst (IsAnswering (numbered n r.notes)) (sym (same p)) h.own);
        }

    -- the notes after those of the call, by where it is then
    more : (c : Call) (xs new : List Note) (x : Option Call) → (c.number == n) ≡ true →
        filter is_answer xs ≡ [] → IsTelling c.number new x →
        IsAnswering (xs ++ new) (same_call (number_of_call x) (Some n))
    more c xs new None is none own =
        let all : xs ++ new ≡ (xs ++ own.0) ++ own.1 ∷ [] =
        ap (λ ys. xs ++ ys) own.2 ∙ sym (append_assoc xs own.0 (own.1 ∷ [])) in
        let quiet : filter is_answer (xs ++ own.0) ≡ [] =
        filter-append is_answer xs own.0 ∙ ap (λ ys. ys ++ filter is_answer own.0) none ∙ own.3 in (
          xs ++ own.0,
          own.1,
          all,
          ap (filter is_answer) all ∙ one_answer (xs ++ own.0) own.1 quiet (ends_answer own.1 own.4),
          own.4,
        )
    more c xs new (Some d) is none own =
        subst (IsAnswering (xs ++ new)) (sym (ap (λ a. a == n) own.0 ∙ is))
        (filter-append is_answer xs new ∙ ap (λ ys. ys ++ filter is_answer new) none ∙ own.1)

    -- the call itself, which is p's
    told_own : (q : ℕ) (c : Call) (r u : Run) → q ≡ p → r.kernel.call q ≡ Some c → Tells q c r u →
        (c.number == n) ≡ true → IsAnsweringTo p n r → IsAnsweringTo p n u
    told_own q c r u at_p is t own h =
        let has : has_call r.kernel p n ≡ true =
        ap (λ j. has_call r.kernel j n) (sym at_p) ∙ call_test r.kernel q n (Some c) is ∙ own in
        let none : filter is_answer (numbered n r.notes) ≡ [] = subst (IsAnswering (numbered n r.notes)) has h.own in
        let notes : numbered n u.notes ≡ numbered n r.notes ++ t.new =
        ap (numbered n) t.notes ∙ numbered_more n r.notes t.new
        ∙ ap (λ ys. numbered n r.notes ++ ys)
        (all_numbered n t.new (subst (λ i. Bear i t.new) (eqb-true c.number n own) t.numbers)) in
        record {
          others = λ i ne. call_test u.kernel i n (r.kernel.call i) (t.others i (λ e. ne (e ∙ at_p)))
              ∙ h.others i ne;
          own = subst (λ xs. IsAnswering xs (has_call u.kernel p n)) (sym notes)
              (subst (λ i. IsAnswering (numbered n r.notes ++ t.new) (has_call u.kernel i n)) at_p
              (more c (numbered n r.notes) t.new (u.kernel.call q) own none t.own));
        }

    told : (q : ℕ) (c : Call) (r u : Run) → r.kernel.call q ≡ Some c → Tells q c r u →
        IsAnsweringTo p n r → IsAnsweringTo p n u
    told q c r u is t h = elim (cases_Bool (c.number == n)) [
      | inr other ↦ told_other q c r u is t other h
      | inl own ↦ elim (cases_eq q p) [
        | inl at_p ↦ told_own q c r u at_p is t own h
        | inr ne ↦ absurd (contrary (sym own ∙ sym (call_test r.kernel q n (Some c) is) ∙ h.others q ne))
      ]
    ]
