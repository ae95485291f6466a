-- A plug-in whose code was made of raw code does what the raw code does.
use Rattle.std.proofs.Common.{◌≡◌, ℕ, zero, suc, ◌+◌, ◌-◌, ◌*◌, ◌<◌, ◌≤◌, Bool, true, false, List, [], ◌∷◌}
use Rattle.std.proofs.Common.{length}
use Rattle.std.proofs.Common.{Option, None, Some, refl, sym, ap, ◌∙◌, arith}
use Rattle.std.specs.Prelude.{nat_le}
use Rattle.std.proofs.lemmas.Bool.{leb-true, leb-false}
use Rattle.std.proofs.lemmas.List.{get_or_past}
use Rattle.graft_code.specs.declared.Instr.{Instr}
use Rattle.graft_code.specs.Boxed.{IsBoxed, ends_well}
use Rattle.graft_code.specs.Machine.{Machine, Done, Places, first_machine, segment_base, segment_place}
use Rattle.graft_code.specs.Runs.{CodeRun, Halt, Unanswered, run_by, run_step, raw_run, boxed_run, first_run}
use Rattle.graft_code.specs.SandboxClaims.{Sandbox, Rewriting, HasComeAsFar}
use Rattle.box_rewriter.specs.Laws.{RewrittenIsBoxed}
use Rattle.vino_host.specs.declared.Stop.{Stop}
use Rattle.vino_host.specs.declared.Stop.TheVariants as stop
use Rattle.vino_host.specs.HostMachine.{by_place, host_step}
use Rattle.vino_host.specs.HostRuns.{State, state, Ended, Answered, Goes, Stops, answered}
use Rattle.vino_host.specs.HostRuns.{after_answer, after_done, host_run}
use Rattle.host_laws.specs.RawAnswers.{halt_of}
use Rattle.host_laws.specs.Talks.{host_talk, talk_answers, after_wait, with_word}
use Rattle.host_laws.specs.Claims.{IsRawRun}
use Rattle.host_laws.specs.Boxed.{BoxedPluginsAreRaw, first_state}
use Rattle.host_laws.proofs.Answering.{IsAnswered, is_answered}
use Rattle.host_laws.proofs.Talking.{talks_are_raw}
use Rattle.host_laws.proofs.Boxing.{IsHome, same_run}

-- ---- a run that ended stays as it is

after_end : (place : Places) (code : List Instr) (n : ℕ) (r : CodeRun) (halt : Halt) → r.ended ≡ Some halt →
    run_by place code n r ≡ r
after_end place code zero r halt e = refl
after_end place code (suc n) r halt e =
    ap (λ (o : Option Halt). elim o as (λ _. CodeRun) [
      | Some h ↦ r
      | None ↦ run_by place code n (run_step place code r)
    ]) e

pub no_more : (place : Places) (code : List Instr) (a b : ℕ) (r : CodeRun) (halt : Halt) → a ≤ b →
    (run_by place code a r).ended ≡ Some halt → run_by place code b r ≡ run_by place code a r
no_more place code zero b r halt most e = after_end place code b r halt e
no_more place code (suc a) zero r halt most e = absurd (omega (arith, most))
no_more place code (suc a) (suc b) r halt most e =
    by_end (λ g. no_more place code a b (run_step place code r) halt (omega (arith, most)) g) r.ended e
  where
    by_end : ((run_by place code a (run_step place code r)).ended ≡ Some halt →
        run_by place code b (run_step place code r) ≡ run_by place code a (run_step place code r)) →
        (o : Option Halt) →
        (elim o as (λ _. CodeRun) [
          | Some h ↦ r
          | None ↦ run_by place code a (run_step place code r)
        ]).ended ≡ Some halt →
        ◌≡◌ {A = CodeRun} (elim o as (λ _. CodeRun) [
          | Some h ↦ r
          | None ↦ run_by place code b (run_step place code r)
        ]) (elim o as (λ _. CodeRun) [
          | Some h ↦ r
          | None ↦ run_by place code a (run_step place code r)
        ])
    by_end rest (Some h) g = refl
    by_end rest None g = rest g

-- ---- a plug-in that has not ended took all that it may

abbrev Rest : (number : ℕ) → List Instr → ℕ → Type 0
Rest number code n =
    (q : State) → halt_of (host_run number code n q).stop ≡ None → (host_run number code n q).left ≡ 0

none_left : (number : ℕ) (code : List Instr) (n : ℕ) (s : State) → halt_of (host_run number code n s).stop ≡ None →
    (host_run number code n s).left ≡ 0
unfolding host_run
none_left number code zero s e = refl
none_left number code (suc n) s e =
    by_done (λ q g. none_left number code n q g) (host_step code s.machine) e
  where
    by_answer : Rest number code n → (id : ℕ) (q : State) (a : Answered) → IsAnswered id q a →
        halt_of (after_answer (host_run number code n) n a).stop ≡ None →
        (after_answer (host_run number code n) n a).left ≡ 0
    by_answer rest id q (Goes k) said g = rest k g
    by_answer rest id q (Stops why k) said g =
        let both : ◌≡◌ {A = Option Halt} None (Some (Unanswered id)) = sym g ∙ said.halts why k refl in cc

    by_done : Rest number code n → (d : Done) → halt_of (after_done number (host_run number code n) n d s).stop ≡ None →
        (after_done number (host_run number code n) n d s).left ≡ 0
    by_done rest (Done.Went m) g = rest (state m s.table s.records) g
    by_done rest (Done.Called id m) g =
        by_answer rest id (state m s.table s.records) (answered number id (state m s.table s.records))
        (is_answered number id (state m s.table s.records)) g
    by_done rest Done.Returned g = cc
    by_done rest Done.DividedByZero g = cc
    by_done rest (Done.Trapped c) g = cc
    by_done rest Done.Outside g = cc
    by_done rest Done.PastEnd g = cc

-- the same of a run that the host answers
talk_none_left : (number : ℕ) (code : List Instr) (words : List ℕ) (n : ℕ) (s : State) →
    halt_of (host_talk number code words n s).stop ≡ None → (host_talk number code words n s).left ≡ 0
unfolding host_talk
talk_none_left number code [] n s e = none_left number code n s e
talk_none_left number code (x ∷ xs) n s e =
    by_stop (λ k q g. talk_none_left number code xs k q g) (host_run number code n s).stop refl e
  where
    first : Ended
    first = host_run number code n s

    by_stop : ((k : ℕ) (q : State) → halt_of (host_talk number code xs k q).stop ≡ None →
        (host_talk number code xs k q).left ≡ 0) → (why : Stop) → first.stop ≡ why →
        halt_of (after_wait (host_talk number code xs) x first why).stop ≡ None →
        (after_wait (host_talk number code xs) x first why).left ≡ 0
    by_stop rest stop.Returns is g = none_left number code n s g
    by_stop rest (stop.Waits id) is g = rest first.left (with_word x first) g
    by_stop rest (stop.Drops cause detail) is g = none_left number code n s g

-- ---- the first machine

some_code : (code : List Instr) → ends_well code ≡ true → 0 < length code
some_code [] e = cc
some_code (i ∷ is) e = omega arith

pub first_home : (code : List Instr) (args segment : List ℕ) → IsBoxed code → length segment ≡ 4096 →
    IsHome code (first_machine (segment_base 0) args (by_place segment))
first_home code args segment boxed size =
    record {
      inside = record {
        slot_fits = omega arith;
        place = some_code code boxed.last;
        base = refl;
        second = λ e. cc;
        third_low = λ e. cc;
        third_high = λ e. cc;
      };
      beyond = λ k far. let past : length segment ≤ k = omega (arith, size, far) in get_or_past segment k 0 past;
    }

-- ---- the law

-- two runs of boxed code, of which one came to an end and the other is as long as the plug-in's, are one
pub boxed_plugins_are_raw : Sandbox → RewrittenIsBoxed → Rewriting → BoxedPluginsAreRaw
boxed_plugins_are_raw sandbox is_boxed rewriting code boxed number limit n args segment words table halt made size ends
    most =
    record {
      ended = sym far.ended ∙ ap (λ (q : CodeRun). q.ended) same ∙ mine.ended;
      registers = λ back i other.
          ap (λ (m : Machine). m.regs i) (sym (mine.machine back))
          ∙ ap (λ (q : CodeRun). q.machine.regs i) (sym same) ∙ far.registers i other;
      segment = λ back k within.
          ap (λ (m : Machine). m.memory k) (sym (mine.machine back))
          ∙ ap (λ (q : CodeRun). q.machine.memory k) (sym same) ∙ far.segment k within;
    }
  where
    s : State
    s = first_state args segment table

    e : Ended
    e = host_talk number boxed words limit s

    first : CodeRun
    first = first_run (segment_base 0) (by_place segment) args (talk_answers number boxed words limit s)

    raw : CodeRun
    raw = raw_run code n first

    all : ℕ
    all = n + 2 * raw.accesses

    mine : IsRawRun e (raw_run boxed (limit - e.left) first)
    mine = talks_are_raw number boxed words limit s first refl refl refl

    far : HasComeAsFar code raw (boxed_run boxed all first)
    far = rewriting code boxed 0 n (by_place segment) args (talk_answers number boxed words limit s) made (omega arith)

    alone : raw_run boxed (limit - e.left) first ≡ boxed_run boxed (limit - e.left) first
    alone = same_run sandbox boxed (limit - e.left) first (is_boxed code boxed made)
        (λ _. first_home boxed args segment (is_boxed code boxed made) size)

    far_ended : (boxed_run boxed all first).ended ≡ Some halt
    far_ended = far.ended ∙ ends

    by_halt : (o : Option Halt) → halt_of e.stop ≡ o →
        boxed_run boxed all first ≡ boxed_run boxed (limit - e.left) first
    by_halt None g =
        let longer : all ≤ limit - e.left = omega (arith, most, talk_none_left number boxed words limit s g) in
        sym (no_more segment_place boxed all (limit - e.left) first halt longer far_ended)
    by_halt (Some h) g =
        let mine_ended : (boxed_run boxed (limit - e.left) first).ended ≡ Some h =
        ap (λ (q : CodeRun). q.ended) (sym alone) ∙ mine.ended ∙ g in
        by_length (nat_le all (limit - e.left)) refl mine_ended
      where
        by_length : (t : Bool) → nat_le all (limit - e.left) ≡ t →
            (boxed_run boxed (limit - e.left) first).ended ≡ Some h →
            boxed_run boxed all first ≡ boxed_run boxed (limit - e.left) first
        by_length true t m =
            sym (no_more segment_place boxed all (limit - e.left) first halt
            (leb-true all (limit - e.left) t) far_ended)
        by_length false t m =
            let shorter : limit - e.left ≤ all = omega (arith, leb-false all (limit - e.left) t) in
            no_more segment_place boxed (limit - e.left) all first h shorter m

    same : boxed_run boxed all first ≡ raw_run boxed (limit - e.left) first
    same = by_halt (halt_of e.stop) refl ∙ sym alone
