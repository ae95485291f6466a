-- What a filter did, by how it ended.
use Rattle.std.specs.Prelude.{◌≡◌, ◌≢◌, ◌==◌, ℕ, ◌+◌, ◌≤◌, true, false, List, [], length, Option, Result, Ok}
use Rattle.std.specs.Io.KnownBytes.{Appends}
use Rattle.std.proofs.KnownBytes.{Keeps-refl}
use Rattle.std.proofs.Common.{arith, refl, sym, ap, subst, ◌∙◌, inl, inr, length-append}
use Rattle.std.proofs.lemmas.Bool.{cases_Bool}
use Rattle.std.proofs.lemmas.Bool.Decides.{nat_tests}
use Rattle.script_model.specs.Outcome.{Ending, End, Fault, Over, SCRIPT_BYTES}
use Rattle.script_model.specs.Filters.{Filter, Box, Check, Reseal, Asm, Dis, Lang, Audit, Answer, IsFilterAnswer}
use Rattle.vino_base.specs.Streams.{DeviceSeen, SourceSeen, SinkSeen, IsUsed, not_used, AppendsPart}
use Rattle.commands.specs.declared.input.Ending as declared
use Rattle.commands.specs.declared.input.Ending.TheVariants as declared_ending
use Rattle.commands.specs.Views.{ending_of, reading_failed}
use Rattle.commands.specs.Filtered.{HasEnded, Took, Gave, Filtered}
use Rattle.commands.proofs.Statuses.{is_fault, answers_usual}

-- reading failed exactly where it ended with a fault
pub failed_is : {E : Type 0} (r : Result declared.Ending E) (e : declared.Ending) → r ≡ Ok e →
    reading_failed r ≡ is_fault (ending_of e)
failed_is r declared_ending.End is = ap reading_failed is
failed_is r declared_ending.Fault is = ap reading_failed is
failed_is r declared_ending.Over is = ap reading_failed is

-- as many bytes as an input may have, and at most one more
within : (e : Ending) (taken : List ℕ) (s t : SourceSeen) → HasEnded e taken s t →
    length taken ≤ SCRIPT_BYTES + 1
within End taken s t h = omega (arith, h.0)
within Fault taken s t h = omega (arith, h.0)
within Over taken s t h = omega (arith, h)

-- some bytes were given
pub gave_some : (e : Ending) (taken : List ℕ) (s t : SourceSeen) → Took s t taken e → Gave s t
gave_some e taken s t h =
    record { taken = taken; within = within e taken s t h.ended; consumed = h.consumed }

-- ---- want of memory

pub lacked_memory : (f : Filter) (s t : SourceSeen) (k : SinkSeen) → Gave s t →
    IsUsed s.device t.device false → Filtered f s t k k 5
lacked_memory f s t k gave used =
    record {
      ran = λ sink memory. absurd (memory refl);
      broke = λ four. absurd (five_four 5 refl four);
      memory = λ five. (gave, Keeps-refl k.got);
      source = used;
      sink = not_used k.device;
    }
  where
    five_four : (n : ℕ) → n ≡ 5 → n ≡ 4 → ⊥
    five_four n five four = omega (arith, five, four)

-- ---- an answer

-- where reading failed, nothing is written
silent : (f : Filter) (taken : List ℕ) (a : Answer) → IsFilterAnswer f taken Fault a → a.written ≡ []
silent (Box keys keep) taken a is = ap (λ (b : Answer). b.written) is
silent (Check keys) taken a is = ap (λ (b : Answer). b.written) is
silent (Reseal keys) taken a is = ap (λ (b : Answer). b.written) is
silent Asm taken a is = ap (λ (b : Answer). b.written) is
silent Dis taken a is = ap (λ (b : Answer). b.written) is
silent (Audit keys) taken a is = ap (λ (b : Answer). b.written) is
silent Lang taken a is = ap (λ (b : Answer). b.written) is

-- a part isn't all of nothing
no_part : (old new : Option (List ℕ)) (bytes : List ℕ) → bytes ≡ [] → AppendsPart old new bytes → ⊥
no_part old new bytes none h =
    omega (arith, h.lacks, length-append h.part h.more, ap length (sym h.whole ∙ none))

-- the source failed exactly where the status says so
source_used : (f : Filter) (taken : List ℕ) (e : Ending) (a : Answer) (s t : DeviceSeen)
    (old new : Option (List ℕ)) (status : ℕ) → IsFilterAnswer f taken e a → IsUsed s t (is_fault e) →
    (status ≢ 4 → status ≡ a.status) → (status ≡ 4 → AppendsPart old new a.written) →
    IsUsed s t (status == 3)
source_used f taken e a s t old new status is used whole part = elim (cases_Bool (status == 4)) [
  | inl four ↦ subst (IsUsed s t) (no_fault e is (part (equal status four)) ∙ sym (not_three status four)) used
  | inr other ↦ subst (IsUsed s t)
      (sym (answers_usual f taken e a is).1 ∙ ap (λ n. n == 3) (sym (whole (differs status other)))) used
]
  where
    equal : (n : ℕ) → (n == 4) ≡ true → n ≡ 4
    equal n h = grind (arith, nat_tests)

    differs : (n : ℕ) → (n == 4) ≡ false → n ≢ 4
    differs n h e = grind (arith, nat_tests)

    not_three : (n : ℕ) → (n == 4) ≡ true → (n == 3) ≡ false
    not_three n h = grind (arith, nat_tests)

    no_fault : (e : Ending) → IsFilterAnswer f taken e a → AppendsPart old new a.written → is_fault e ≡ false
    no_fault End is short = refl
    no_fault Over is short = refl
    no_fault Fault is short = absurd (no_part old new a.written (silent f taken a is) short)

pub answered : (f : Filter) (taken : List ℕ) (e : Ending) (a : Answer) (s t : SourceSeen)
    (k m : SinkSeen) (status : ℕ) → Took s t taken e → IsUsed s.device t.device (is_fault e) →
    IsFilterAnswer f taken e a → (status ≢ 4 → (status ≡ a.status) × Appends k.got m.got a.written) →
    (status ≡ 4 → AppendsPart k.got m.got a.written) → IsUsed k.device m.device (status == 4) →
    Filtered f s t k m status
answered f taken e a s t k m status took used is whole part sink =
    record {
      ran = λ four five. record {
        taken = taken;
        ending = e;
        within = within e taken s t took.ended;
        consumed = took.consumed;
        ended = took.ended;
        answer = a;
        answers = is;
        status_is = (whole four).0;
        appended = (whole four).1;
      };
      broke = λ four. record {
        taken = taken;
        ending = e;
        within = within e taken s t took.ended;
        consumed = took.consumed;
        ended = took.ended;
        answer = a;
        answers = is;
        short = part four;
      };
      memory = λ five. absurd ((answers_usual f taken e a is).0
          (sym (whole (not_four status five)).0 ∙ five));
      source = source_used f taken e a s.device t.device k.got m.got status is used (λ four. (whole four).0) part;
      sink = sink;
    }
  where
    not_four : (n : ℕ) → n ≡ 5 → n ≢ 4
    not_four n five four = omega (arith, five, four)
