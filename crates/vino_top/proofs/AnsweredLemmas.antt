-- Proofs that each line is answered before more is read.
use Rattle.std.specs.Prelude.{◌≡◌, ◌≢◌, ◌==◌, ◌⊎◌, ℕ, ◌≤◌, Bool, true, false, cond, List, [], ◌∷◌}
use Rattle.std.specs.Prelude.{length, take, Option, Some}
use Rattle.std.specs.List.{concat}
use Rattle.std.specs.Io.KnownBytes.{Appends}
use Rattle.std.proofs.Common.{arith, refl, subst, sym, ap, ◌∙◌, inl, inr}
use Rattle.std.proofs.lemmas.Bool.Decides.{nat_tests}
use Rattle.vino_base.specs.declared.health.Health.{Health}
use Rattle.vino_base.specs.declared.health.Health.TheVariants.{Sound, Broken}
use Rattle.vino_base.specs.Streams.{SourceSeen, IsUsed, health_after}
use Rattle.commands.specs.Filtered.{HasEnded}
use Rattle.script_model.specs.Outcome.{SCRIPT_BYTES, Ending, End, Fault, Over, Outcome, written}
use Rattle.script_model.specs.Outcome.{ends_as, at_ending, rest_after}
use Rattle.script_model.specs.Session.{Session}
use Rattle.vino_top.specs.Answered.{AnsweredBeforeFault, AnswersBeforeReads}
use Rattle.vino_top.specs.Does.{RunDoes}
use Rattle.vino_top.specs.Parsed.{Parsed, text_parsed, status_by}
use Rattle.vino_top.specs.Run.{Place, place, Devices, Ran, IsFirst, outcome_at, first_on}
use Rattle.vino_top.specs.Run.{script_lines, pieces_run}

-- a device that wasn't blamed is sound
not_broken : (h : Option Health) (failed : Bool) → h ≡ Some (health_after failed Sound) → h ≡ Some Broken → failed ≡ true
not_broken h true e f = refl
not_broken h false e f = absurd (differs (sym e ∙ f))
  where
    differs : ◌≡◌ {A = Option Health} (Some Sound) (Some Broken) → ⊥
    differs e = cc

-- a number that passes the test is that number
is_three : (n : ℕ) → (n == 3) ≡ true → n ≡ 3
is_three n h = grind (arith, nat_tests, h)

-- where the status is 3 no line was refused, and reading ended with a fault
by_fault : (p : Parsed) (e : Ending) (taken rest : List ℕ) (s t : SourceSeen) → 3 ≡ status_by p e rest →
    (p.refused ≡ true) ⊎ HasEnded e taken s t → length taken ≤ SCRIPT_BYTES
by_fault p e taken rest s t is ended = by_refused p.refused is ended
  where
    by_ending : (e : Ending) (rest : List ℕ) → 3 ≡ status_by (record p { refused = false }) e rest →
        HasEnded e taken s t → length taken ≤ SCRIPT_BYTES
    by_ending End rest is h = h.0
    by_ending Fault rest is h = h.0
    by_ending Over rest is h = absurd cc

    by_refused : (r : Bool) → 3 ≡ status_by (record p { refused = r }) e rest → (r ≡ true) ⊎ HasEnded e taken s t →
        length taken ≤ SCRIPT_BYTES
    by_refused true is ended = absurd cc
    by_refused false is (inl r) = absurd cc
    by_refused false is (inr h) = by_ending e rest is h

-- an outcome with status 3 writes what its lines write, and no more
writes_lines : (refused : Bool) (e : Ending) (s : Session) (pieces : List (List ℕ)) (rest : List ℕ) →
    3 ≡ (elim refused as (λ _. Outcome) [ true ↦ ends_as 2 s pieces | false ↦ at_ending e s pieces rest ]).status →
    written (elim refused as (λ _. Outcome) [ true ↦ ends_as 2 s pieces | false ↦ at_ending e s pieces rest ])
    ≡ concat pieces
writes_lines true e s pieces rest is = absurd cc
writes_lines false End s pieces [] is = absurd cc
writes_lines false End s pieces (byte ∷ bytes) is = absurd cc
writes_lines false Fault s pieces rest is = refl
writes_lines false Over s pieces rest is = absurd cc

pub answers_before_reads : AnswersBeforeReads
answers_before_reads keys x y status does source sink sound broken =
    let blamed = not_broken y.source.device.health (status == 3) (source.stops sound) broken in
    let three = is_three status blamed in
    let c = place keys x.disk.size in
    let ran = subst (λ n. Ran c x y n) three (does.ran (λ e. four (sym three ∙ e)) (λ e. five (sym three ∙ e))) in
    record {
      status_is = three;
      taken = ran.taken;
      within =
          by_fault (text_parsed c.words ran.taken) ran.ending ran.taken
          (rest_after [] (take SCRIPT_BYTES ran.taken)) x.source y.source
          ran.status_by_text ran.ended;
      consumed = ran.consumed;
      ios = ran.ios;
      one_each = ran.one_each;
      calls = ran.calls;
      used = ran.used;
      answered = λ a first. all_written c ran a first;
      sink = λ h. subst (λ n. y.sink.device.health ≡ Some (health_after (n == 4) Sound)) three (sink.stops h);
    }
  where
    four : ◌≡◌ {A = ℕ} 3 4 → ⊥
    four e = cc

    five : ◌≡◌ {A = ℕ} 3 5 → ⊥
    five e = cc

    all_written : (c : Place) (ran : Ran c x y 3) (a : Session) → IsFirst c.size x.disk.known a →
        Appends x.sink.got y.sink.got (concat (pieces_run c a (script_lines ran.taken) ran.ios))
    all_written c ran a first =
        subst (λ (z : Session). Appends x.sink.got y.sink.got (concat (pieces_run c z (script_lines ran.taken) ran.ios)))
        (sym first.session)
        (subst (λ bytes. Appends x.sink.got y.sink.got bytes)
        (writes_lines _ ran.ending _ _ _ (ran.status_is a first)) (ran.appended a first))
