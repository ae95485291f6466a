-- The events of a kernel are answered.
use Rattle.std.specs.Prelude.{◌≡◌, ℕ, ◌≤◌, ◌==◌, ◌&&◌, nat_le, Bool, true, false, not, List, []}
use Rattle.std.specs.Prelude.{◌∷◌, ◌++◌, filter, Option, Some, None, Result, Ok, Err}
use Rattle.std.proofs.Common.{arith, refl, subst, sym, ap, ◌∙◌}
use Rattle.std.proofs.lemmas.Bool.{eqb-true}
use Rattle.std.proofs.lemmas.Bool.Decides.{nat_tests}
use Rattle.std.proofs.lemmas.List.{append_assoc}
use Rattle.script_model.specs.declared.Event.TheVariants.{Step, Sys}
use Rattle.script_model.specs.declared.Note.TheVariants.{Refused, Ran}
use Rattle.script_model.specs.declared.Refusal.{Refusal}
use Rattle.script_model.specs.declared.Refusal.TheVariants.{NoProcess, Busy, BadIndex}
use Rattle.script_model.specs.declared.SysCall.{SysCall}
use Rattle.script_model.specs.World.{Blocks}
use Rattle.script_model.specs.Policies.{lives}
use Rattle.script_model.specs.Meaning.{Meaning, Stage}
use Rattle.script_model.specs.Kernel.{Call, Kernel, Run, noted, joins, with_call, has_level}
use Rattle.script_model.specs.Settle.{settled, step}
use Rattle.script_model.specs.Events.{MOST_STEPS, last_note, last, begun, sys_event, steps, step_event, event}
use Rattle.script_model.specs.Sound.{IsSoundKernel, IsAtRest, HasWholeBlocks}
use Rattle.script_model.specs.Laws.{Laws}
use Rattle.call_laws.specs.Ledgers.{at_here, at_other}
use Rattle.kernel_laws.proofs.SettleLemmas.{settles_to_rest}
use Rattle.graft_laws.specs.Kernels.{IsSoundRun}
use Rattle.graft_laws.proofs.KernelStepLemmas.{step_sound}
use Rattle.graft_laws.proofs.SettleSoundLemmas.{settled_sound, joined_call_sound}
use Rattle.graft_laws.proofs.EventLemmas.{joins_sound}
use Rattle.session_laws.specs.NoteNumbers.{numbered, is_answer}
use Rattle.session_laws.specs.Answers.{has_call, IsAnswered, IsTold, EventsAreAnswered}
use Rattle.session_laws.proofs.ActionLemmas.{StepsKeep, steps_keep, settled_keeps, all_steps_keep}
use Rattle.session_laws.proofs.AnsweringLemmas.{is_itself, option_is, own_more}
use Rattle.session_laws.proofs.AnsweringLemmas.{other_more, one_answer, call_test, IsAbsent}
use Rattle.session_laws.proofs.AnsweringLemmas.{absent_kept, IsAnswering, IsAnsweringTo}
use Rattle.session_laws.proofs.AnsweringLemmas.{answering_kept}
use Rattle.session_laws.proofs.PlaceLemmas.{IsPlace, call_place}
use Rattle.session_laws.proofs.TellingLemmas.{all_numbered}
use Rattle.kernel_laws.proofs.FrameLemmas.{contrary}
use Rattle.kernel_laws.proofs.OpeningLemmas.{none_some}

-- a run that is sound and rests
pub record IsQuiet (m : Meaning) (r : Run) : Type 0 where
  pub sound : IsSoundRun m r
  pub rests : IsAtRest m r.kernel

module _ (m : Meaning) (laws : Laws m) where
  -- ---- rest

  pub settled_quiet : (r : Run) → IsSoundRun m r → IsQuiet m (settled m r)
  settled_quiet r h =
      record {
        sound = settled_sound m laws laws.need.grafts r h;
        rests = settles_to_rest m laws r h.kernel h.blocks;
      }

  pub steps_quiet : (p n taken : ℕ) (r : Run) → IsQuiet m r → IsQuiet m (steps m p n taken r).1
  steps_quiet p n taken r h = steps_keep m (IsQuiet m) goes p n taken r h
    where
      level_call : (x : Option Call) → has_level x ≡ true → (c : Call) × (x ≡ Some c)
      level_call None e = absurd (contrary (sym e))
      level_call (Some c) e = (c, refl)

      goes : StepsKeep m (IsQuiet m)
      goes =
          record {
            taken = λ p r level free h.
                let c = level_call (r.kernel.call p) level in
                settled_quiet (step m p r) (step_sound m laws laws.need.grafts r p c.0 h.sound c.1 free);
            blocked = λ p b r level away is h.
                settled_quiet (joins p r) (joins_sound m laws laws.need.grafts p b r h.sound level away is);
          }

  module _ (k : Kernel) (blocks : Blocks) (n : ℕ) (sound : IsSoundKernel m k)
      (whole : HasWholeBlocks k.world blocks) (fresh : (p : ℕ) → has_call k p n ≡ false) where
    -- the run before its event
    abbrev before_event : List Bool → Run
    before_event io = record { kernel = k; blocks = blocks; notes = []; io = io }

    -- ---- system calls

    refused : (p : ℕ) (io : List Bool) (why : Refusal) →
        IsAnswered m p n (noted (Refused n why) (before_event io))
    refused p io why =
        let alone = all_numbered n (Refused n why ∷ []) (refl, tt) in
        record {
          before = [];
          answer = Refused n why;
          last = alone;
          once = ap (filter is_answer) alone;
          over = sym (ap not (fresh p));
          of_no_other = λ q ne. fresh q;
          stands = λ e. absurd (contrary e);
        }

    -- a run in which the call is over, whatever is noted of another number behind its end
    over_answered : (p : ℕ) (r u : Run) → IsAnsweringTo p n r → has_call r.kernel p n ≡ false →
        u.kernel ≡ r.kernel → numbered n u.notes ≡ numbered n r.notes → IsAnswered m p n u
    over_answered p r u h gone same notes =
        let own = subst (IsAnswering (numbered n r.notes)) gone h.own in
        record {
          before = own.0;
          answer = own.1;
          last = notes ∙ own.2;
          once = ap (filter is_answer) notes ∙ own.3;
          over = own.4 ∙ sym (ap not (ap (λ (y : Kernel). has_call y p n) same ∙ gone));
          of_no_other = λ q ne. ap (λ (y : Kernel). has_call y q n) same ∙ h.others q ne;
          stands = λ e. absurd (contrary (sym own.4 ∙ e));
        }

    -- the last note of a run that is sound and rests
    last_answered : (p : ℕ) (r : Run) → IsQuiet m r → IsAnsweringTo p n r → IsAnswered m p n (last m p r)
    last_answered p r quiet h = by_call (r.kernel.call p) refl
      where
        by_number : (c : Call) → r.kernel.call p ≡ Some c → (b : Bool) → (c.number == n) ≡ b →
            (place : IsPlace m r.kernel p c) → IsAnswered m p n (noted place.note r)
        by_number c is true own place =
            let has : has_call r.kernel p n ≡ true = call_test r.kernel p n (Some c) is ∙ own in
            let none : filter is_answer (numbered n r.notes) ≡ [] =
            subst (IsAnswering (numbered n r.notes)) has h.own in
            let notes = own_more n r.notes place.note (place.number ∙ eqb-true c.number n own) in
            record {
              before = numbered n r.notes;
              answer = place.note;
              last = notes;
              once = ap (filter is_answer) notes
                  ∙ one_answer (numbered n r.notes) place.note none place.answers;
              over = place.no_end ∙ sym (ap not has);
              of_no_other = h.others;
              stands = λ e. (place.says, r.notes, refl);
            }
        by_number c is false other place =
            over_answered p r (noted place.note r) h (call_test r.kernel p n (Some c) is ∙ other) refl
            (other_more n r.notes place.note (ap (λ i. i == n) place.number ∙ other))

        by_call : (x : Option Call) → r.kernel.call p ≡ x → IsAnswered m p n (last_note m p x r)
        by_call None is = over_answered p r r h (call_test r.kernel p n None is) refl refl
        by_call (Some c) is =
            let place = call_place m laws r.kernel r.blocks p c quiet.sound.kernel quiet.rests quiet.sound.blocks is in
            subst (IsAnswered m p n) (sym (place.is r refl)) (by_number c is (c.number == n) refl place)

    -- a call that begins, or is refused at once
    begun_answered : (p : ℕ) (call : SysCall) (io : List Bool) (x : Result Stage Refusal) →
        k.call p ≡ None → lives k.objects.things.queue p ≡ true → m.early k.world k.images p call ≡ x →
        IsAnswered m p n (last m p (begun m n p x (before_event io)))
    begun_answered p call io (Err why) none alive early =
        subst (λ x. IsAnswered m p n (last_note m p x (noted (Refused n why) (before_event io)))) (sym none)
        (refused p io why)
    begun_answered p call io (Ok t) none alive early =
        let r = before_event io in
        let c : Call = record { number = n; stage = t; marks = None } in
        let u = joins p (with_call p (Some c) r) in
        let begins = joined_call_sound m laws laws.need.grafts n p call t r
        (record { kernel = sound; blocks = whole }) none alive early in
        let has : has_call u.kernel p n ≡ true =
        call_test u.kernel p n (Some c) (at_here p (Some c) k.call) ∙ is_itself n in
        last_answered p (settled m u) (settled_quiet u begins)
        (settled_keeps m (IsAnsweringTo p n) (answering_kept m p n) u
        (record {
          others = λ q ne. call_test u.kernel q n (k.call q) (at_other p q (Some c) k.call ne) ∙ fresh q;
          own = subst (IsAnswering []) (sym has) refl;
        }))

    call_answered : (p : ℕ) (call : SysCall) (io : List Bool) →
        IsAnswered m p n (event m k blocks n (Sys p call) io)
    call_answered p call io = by_lives (lives k.objects.things.queue p) refl
      where
        by_call : (x : Option Call) → k.call p ≡ x → lives k.objects.things.queue p ≡ true →
            IsAnswered m p n (sys_event m n p call x (before_event io))
        by_call (Some c) is alive = refused p io (Busy c.number)
        by_call None is alive =
            begun_answered p call io (m.early k.world k.images p call) is alive refl

        by_lives : (alive : Bool) → lives k.objects.things.queue p ≡ alive →
            IsAnswered m p n (elim alive as (λ _. Run) [
              | false ↦ noted (Refused n NoProcess) (before_event io)
              | true ↦ sys_event m n p call (k.call p) (before_event io)
            ])
        by_lives false e = refused p io NoProcess
        by_lives true e = by_call (k.call p) refl e

    -- ---- steps

    step_told : (p count : ℕ) (io : List Bool) → IsAtRest m k →
        IsTold m p n (step_event m n p count (before_event io))
    step_told p count io rests = by_call (s.1.kernel.call p) refl
      where
        s : ℕ × Run
        s = steps m p count 0 (before_event io)

        quiet : IsQuiet m s.1
        quiet = steps_quiet p count 0 (before_event io)
            (record { sound = record { kernel = sound; blocks = whole }; rests = rests })

        absent : IsAbsent n [] s.1
        absent = all_steps_keep m (IsAbsent n []) (absent_kept m n []) p count 0 (before_event io)
            (record { calls = fresh; told = refl })

        u : Run
        u = noted (Ran n s.0) s.1

        alone : numbered n u.notes ≡ Ran n s.0 ∷ []
        alone = own_more n s.1.notes (Ran n s.0) refl ∙ ap (λ ys. ys ++ Ran n s.0 ∷ []) absent.told

        by_call : (x : Option Call) → s.1.kernel.call p ≡ x → IsTold m p n (last_note m p x u)
        by_call None is =
            record {
              before = s.1.notes;
              count = s.0;
              behind = [];
              notes = refl;
              once = alone;
              over = λ e. refl;
              stands = λ c e. absurd (none_some c (sym is ∙ e));
            }
        by_call (Some c) is =
            let sound = quiet.sound in
            let place = call_place m laws s.1.kernel s.1.blocks p c sound.kernel quiet.rests sound.blocks is in
            let other = sym (call_test s.1.kernel p n (Some c) is) ∙ absent.calls p in
            subst (IsTold m p n) (sym (place.is u refl))
            (record {
              before = s.1.notes;
              count = s.0;
              behind = place.note ∷ [];
              notes = append_assoc s.1.notes (Ran n s.0 ∷ []) (place.note ∷ []);
              once = other_more n u.notes place.note (ap (λ i. i == n) place.number ∙ other) ∙ alone;
              over = λ e. absurd (none_some c (sym e ∙ is));
              stands = λ d e. (
                place.note,
                refl,
                place.number ∙ ap (λ (x : Call). x.number) (option_is c d (sym is ∙ e)),
                place.says,
              );
            })

    event_told : (p count : ℕ) (io : List Bool) → IsAtRest m k → lives k.objects.things.queue p ≡ true →
        1 ≤ count → count ≤ MOST_STEPS → IsTold m p n (event m k blocks n (Step p count) io)
    event_told p count io rests alive least most =
        by_both (lives k.objects.things.queue p) (nat_le 1 count && nat_le count MOST_STEPS) alive
        (in_range count MOST_STEPS least most)
      where
        in_range : (i high : ℕ) → 1 ≤ i → i ≤ high → (nat_le 1 i && nat_le i high) ≡ true
        in_range i high h e = grind (arith, nat_tests)

        by_both : (a b : Bool) → a ≡ true → b ≡ true →
            IsTold m p n (elim a as (λ _. Run) [
              | false ↦ noted (Refused n NoProcess) (before_event io)
              | true ↦ elim b as (λ _. Run) [
                | true ↦ step_event m n p count (before_event io)
                | false ↦ noted (Refused n BadIndex) (before_event io)
              ]
            ])
        by_both false b e f = absurd (contrary (sym e))
        by_both true false e f = absurd (contrary (sym f))
        by_both true true e f = step_told p count io rests

pub events_are_answered : (m : Meaning) → Laws m → EventsAreAnswered m
events_are_answered m laws k blocks n sound rests whole fresh =
    record {
      in_flight = λ p c is. let place = call_place m laws k blocks p c sound rests whole is in (
        place.note,
        place.number,
        place.says,
      );
      calls = call_answered m laws k blocks n sound whole fresh;
      steps = λ p count io. event_told m laws k blocks n sound whole fresh p count io rests;
    }
