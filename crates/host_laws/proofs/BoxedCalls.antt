-- A call of a plug-in whose code was made of raw code answers as the raw code ends.
use Rattle.std.proofs.Common.{◌≡◌, ℕ, ◌==◌, Bool, true, false, cond, [], ◌∷◌}
use Rattle.std.proofs.Common.{Option, None, Some, refl, sym, ap, subst, ◌∙◌}
use Rattle.std.proofs.lemmas.Bool.{eqb-true}
use Rattle.graft_code.specs.Machine.{segment_base}
use Rattle.graft_code.specs.Runs.{CodeRun, first_run, raw_run, Halt, Unanswered, AtReturn, AtDivision, AtTrap, Astray}
use Rattle.vino_host.specs.declared.Stop.{Stop}
use Rattle.vino_host.specs.declared.Stop.TheVariants.{Returns, Waits, Drops}
use Rattle.vino_host.specs.Codes.{DIVIDED, TRAPPED, BAD_ANSWER, is_taken}
use Rattle.vino_host.specs.Plugins.{code_of}
use Rattle.vino_host.specs.HostMachine.{by_place}
use Rattle.vino_host.specs.Calls.{Frame, Found, found, found_by, judged, first_frame, first_segment}
use Rattle.vino_host.specs.HostRuns.{Ended}
use Rattle.host_laws.specs.RawAnswers.{halt_of}
use Rattle.host_laws.specs.Boxed.{DoesWhatRawDid, BoxedPluginsAreRaw, ReturnsWhatRawDid, BoxedCallsAreRaw}
use Rattle.host_laws.specs.Boxed.{IsFoundAsRaw, first_state}
use Rattle.host_laws.specs.Talks.{host_talk, talk_answers}
use Rattle.host_laws.proofs.Conversing.{conversed}

-- ---- what the end of a run says of why it stopped

-- the end of a drop, by what its cause is
abbrev halt_at : (a b c d : Bool) (detail : ℕ) → Option Halt
halt_at a b c d detail =
    cond a (Some AtDivision) (cond b (Some (AtTrap detail))
    (cond c None (cond d (Some Astray) (Some (Unanswered detail)))))

no_return : (a b c d : Bool) (detail : ℕ) →
    halt_at a b c d detail
    ≡ Some AtReturn → ⊥
no_return true b c d detail h = cc
no_return false true c d detail h = cc
no_return false false true d detail h = cc
no_return false false false true detail h = cc
no_return false false false false detail h = cc

is_division : (a b c d : Bool) (detail : ℕ) →
    halt_at a b c d detail
    ≡ Some AtDivision → a ≡ true
is_division true b c d detail h = refl
is_division false true c d detail h = cc
is_division false false true d detail h = cc
is_division false false false true detail h = cc
is_division false false false false detail h = cc

is_trap : (a b c d : Bool) (detail code : ℕ) →
    halt_at a b c d detail
    ≡ Some (AtTrap code) → (b ≡ true) × (detail ≡ code)
is_trap true b c d detail code h = cc
is_trap false true c d detail code h = let same : detail ≡ code = cc in (refl, same)
is_trap false false true d detail code h = cc
is_trap false false false true detail code h = cc
is_trap false false false false detail code h = cc

-- ---- what a caller finds

returned : (f : Frame) (e : Ended) (raw : CodeRun) → DoesWhatRawDid raw e → raw.ended ≡ Some AtReturn →
    is_taken f.point f.fed (raw.machine.regs 0) ≡ true → ReturnsWhatRawDid raw (found f e)
returned f e raw h ends takes = by_stop e.stop refl (sym h.ended ∙ ends)
  where
    by_taken : (why : e.stop ≡ Returns) (t : Bool) → t ≡ true →
        ReturnsWhatRawDid raw (found_by f e.left e.state (cond t Returns (Drops BAD_ANSWER (e.state.machine.regs 0))))
    by_taken why true g =
        record {
          kind = refl;
          r0 = h.registers why 0 (λ x. cc);
          r1 = h.registers why 1 (λ x. cc);
          r2 = h.registers why 2 (λ x. cc);
          r3 = h.registers why 3 (λ x. cc);
          segment = h.segment why;
        }
    by_taken why false g = cc

    by_stop : (why : Stop) → e.stop ≡ why → halt_of why ≡ Some AtReturn →
        ReturnsWhatRawDid raw (found_by f e.left e.state (judged f why (e.state.machine.regs 0)))
    by_stop Returns why g =
        by_taken why (is_taken f.point f.fed (e.state.machine.regs 0))
        (ap (λ (x : ℕ). is_taken f.point f.fed x) (h.registers why 0 (λ x. cc)) ∙ takes)
    by_stop (Waits id) why g = cc
    by_stop (Drops cause detail) why g =
        absurd (no_return (cause == 1) (cause == 2) (cause == 9) (cause == 17) detail g)

divided : (f : Frame) (e : Ended) (why : Stop) → halt_of why ≡ Some AtDivision →
    (found_by f e.left e.state (judged f why (e.state.machine.regs 0))).answer.kind ≡ DIVIDED
divided f e Returns g = cc
divided f e (Waits id) g = cc
divided f e (Drops cause detail) g =
    eqb-true cause 1 (is_division (cause == 1) (cause == 2) (cause == 9) (cause == 17) detail g)

trapped : (f : Frame) (e : Ended) (why : Stop) (code : ℕ) → halt_of why ≡ Some (AtTrap code) →
    let answer = (found_by f e.left e.state (judged f why (e.state.machine.regs 0))).answer in
    (answer.kind ≡ TRAPPED) × (answer.detail ≡ code)
trapped f e Returns code g = cc
trapped f e (Waits id) code g = cc
trapped f e (Drops cause detail) code g =
    let both = is_trap (cause == 1) (cause == 2) (cause == 9) (cause == 17) detail code g in
    (eqb-true cause 2 both.0, both.1)

-- ---- the law

pub boxed_calls_are_raw : BoxedPluginsAreRaw → BoxedCallsAreRaw
boxed_calls_are_raw law code plugin request fed segment words table n halt made size ends most =
    let begins = first_segment plugin request fed segment in
    let args = request.r0 ∷ request.r1 ∷ request.r2 ∷ request.r3 ∷ [] in
    let f = first_frame request fed segment in
    let first = first_state args begins table in
    let raw = raw_run code n (first_run (segment_base 0) (by_place begins) args
    (talk_answers request.number (code_of plugin) words request.limit first)) in
    let e = host_talk request.number (code_of plugin) words request.limit first in
    let does = law code (code_of plugin) request.number request.limit n args begins words table halt made size ends
    most in
    subst (λ (x : Found). IsFoundAsRaw request fed raw x) (sym (conversed plugin request fed segment words table))
    (record {
      returned = λ back takes. returned f e _ does back takes;
      divided = λ d. divided f e e.stop (sym does.ended ∙ d);
      trapped = λ c t. trapped f e e.stop c (sym does.ended ∙ t);
    })
