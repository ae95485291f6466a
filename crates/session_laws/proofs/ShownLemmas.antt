-- What the steps of events show together: answers, the handlers that completed, and those that were taken.
use Rattle.std.specs.Prelude.{◌≡◌, ℕ, Bool, true, false, ◌&&◌, nat_le, List, [], ◌∷◌, ◌++◌, Option, Some, None, Result}
use Rattle.std.proofs.lemmas.List.{append-nil, append_assoc}
use Rattle.script_model.specs.declared.Event.{Event}
use Rattle.script_model.specs.declared.Point.{Point}
use Rattle.script_model.specs.declared.Refusal.{Refusal}
use Rattle.script_model.specs.declared.SysCall.{SysCall}
use Rattle.script_model.specs.Meaning.{Meaning, Stage, Answer}
use Rattle.script_model.specs.Kernel.{Call, Blocker, Waiter, Run, joins}
use Rattle.script_model.specs.Settle.{step, settled}
use Rattle.script_model.specs.Events.{MOST_STEPS, entry_action}
use Rattle.session_laws.specs.Shown.{settle_shows, settled_shows, begun_shows, sys_shows}
use Rattle.session_laws.specs.Shown.{steps_show, actions_show, event_on_shows}
use Rattle.session_laws.specs.Sent.{numbered, taken_by, call_taken, step_taken, with_handler}
use Rattle.session_laws.specs.Sent.{call_answers, step_answers, asked_by, step_completed}

-- ---- what is shown

-- the answers, the handlers that completed and those that were taken
pub record Shown : Type 0 where
  pub answers : List (ℕ × Answer)
  pub completed : List (ℕ × (ℕ × ℕ))
  pub taken : List (ℕ × (ℕ × ℕ))

abbrev pub nothing : Shown
nothing = record { answers = []; completed = []; taken = [] }

abbrev pub and_then : Shown → Shown → Shown
and_then a b =
    record { answers = a.answers ++ b.answers; completed = a.completed ++ b.completed; taken = a.taken ++ b.taken }

pub same_shown : (a b : Shown) → a.answers ≡ b.answers → a.completed ≡ b.completed → a.taken ≡ b.taken → a ≡ b
same_shown a b e f g = λ i. record { answers = e i; completed = f i; taken = g i }

pub then_nothing : (a : Shown) → and_then a nothing ≡ a
then_nothing a =
    same_shown (and_then a nothing) a (append-nil a.answers) (append-nil a.completed) (append-nil a.taken)

pub then_then : (a b c : Shown) → and_then (and_then a b) c ≡ and_then a (and_then b c)
then_then a b c =
    same_shown (and_then (and_then a b) c) (and_then a (and_then b c)) (append_assoc a.answers b.answers c.answers)
    (append_assoc a.completed b.completed c.completed) (append_assoc a.taken b.taken c.taken)

-- what the default of a piece takes
abbrev pub takes : Call → Run → Shown
takes c r =
    record {
      answers = [];
      completed = [];
      taken = numbered c.number (taken_by c.stage.call c.stage.piece r.kernel.objects.things.handlers);
    }

-- a graft call of this point completes
abbrev pub completes : Call → Point → Answer → Shown
completes c a answer =
    record {
      answers = (c.number, answer) ∷ [];
      completed = (c.number, (a.installer, a.point)) ∷ [];
      taken = [];
    }

-- a call that has just begun
abbrev pub new_call : ℕ → Stage → Call
new_call number t = record { number = number; stage = t; marks = None }

module _ (m : Meaning) where
  -- what the next step of a call shows, if there is one
  abbrev pub call_shown : ℕ → Option Call → Run → Shown
  call_shown p x r =
      record {
        answers = call_answers m p x r;
        completed = with_handler (asked_by m p x r) (call_answers m p x r);
        taken = call_taken x r;
      }

  -- what the next step of a process shows
  abbrev pub step_shown : ℕ → Run → Shown
  step_shown p r = record { answers = step_answers m p r; completed = step_completed m p r; taken = step_taken p r }

  -- settling
  abbrev pub settle_shown : ℕ → Run → Shown
  settle_shown n r =
      record {
        answers = settle_shows m (step_answers m) n r;
        completed = settle_shows m (step_completed m) n r;
        taken = settle_shows m step_taken n r;
      }

  -- all steps that can be taken
  abbrev pub settled_shown : Run → Shown
  settled_shown r = settle_shown 256 r

  -- instructions
  abbrev pub steps_shown : (p n : ℕ) → Run → Shown
  steps_shown p n r =
      record {
        answers = steps_show m (step_answers m) p n r;
        completed = steps_show m (step_completed m) p n r;
        taken = steps_show m step_taken p n r;
      }

  -- the actions of a tick
  abbrev pub actions_shown : ℕ → Run → Shown
  actions_shown n r =
      record {
        answers = actions_show m (step_answers m) n r;
        completed = actions_show m (step_completed m) n r;
        taken = actions_show m step_taken n r;
      }

  -- a call that begins
  abbrev pub begun_shown : (number p : ℕ) → Result Stage Refusal → Run → Shown
  begun_shown number p x r =
      record {
        answers = begun_shows m (step_answers m) number p x r;
        completed = begun_shows m (step_completed m) number p x r;
        taken = begun_shows m step_taken number p x r;
      }

  -- an event
  abbrev pub event_shown : ℕ → Event → Run → Shown
  event_shown number e r =
      record {
        answers = event_on_shows m (step_answers m) number e r;
        completed = event_on_shows m (step_completed m) number e r;
        taken = event_on_shows m step_taken number e r;
      }

  -- ---- the same by what decides it

  -- what is shown by whose step is next
  abbrev pub next_shows : {A : Type 0} → (ℕ → Run → List A) → ℕ → Run → Option ℕ → List A
  next_shows {A} shows n r x =
      elim x as (λ _. List A) [ None ↦ [] | Some p ↦ shows p r ++ settle_shows m shows n (step m p r) ]

  -- what is shown by whether an instruction is taken, and what blocks it
  abbrev pub taken_shows : {A : Type 0} → (ℕ → Run → List A) → (p n : ℕ) → Run → Bool → Option Blocker → List A
  taken_shows {A} shows p n r b w =
      elim b as (λ _. List A) [
        | false ↦ []
        | true ↦ elim w as (λ _. List A) [
          | Some x ↦ settled_shows m shows (joins p r)
          | None ↦ shows p r ++ (settled_shows m shows (step m p r) ++ steps_show m shows p n (settled m (step m p r)))
        ]
      ]

  -- what is shown by who waited too long
  abbrev pub expired_shows : {A : Type 0} → (ℕ → Run → List A) → ℕ → Run → Option Waiter → List A
  expired_shows {A} shows n r x =
      elim x as (λ _. List A) [
        | None ↦ []
        | Some e ↦ settled_shows m shows (entry_action m e e.blocker r) ++ actions_show m shows n
            (settled m (entry_action m e e.blocker r))
      ]

  -- what a system call shows by whether its process lives
  abbrev pub life_shows : {A : Type 0} → (ℕ → Run → List A) → (number p : ℕ) → SysCall → Run → Bool → List A
  life_shows {A} shows number p call r b =
      elim b as (λ _. List A) [ false ↦ [] | true ↦ sys_shows m shows number p call (r.kernel.call p) r ]

  -- what a step shows by whether its number is in the range, and by whether its process lives
  abbrev pub range_shows : {A : Type 0} → (ℕ → Run → List A) → (p n : ℕ) → Run → Bool → List A
  range_shows {A} shows p n r b = elim b as (λ _. List A) [ true ↦ steps_show m shows p n r | false ↦ [] ]

  abbrev pub step_life_shows : {A : Type 0} → (ℕ → Run → List A) → (p n : ℕ) → Run → Bool → List A
  step_life_shows {A} shows p n r b =
      elim b as (λ _. List A) [ false ↦ [] | true ↦ range_shows shows p n r (nat_le 1 n && nat_le n MOST_STEPS) ]
