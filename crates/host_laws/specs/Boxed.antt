-- What is claimed of plug-ins whose code the rewriter made of raw code.
use Rattle.std.specs.Prelude.{◌≡◌, ◌≢◌, ℕ, ◌+◌, ◌*◌, ◌<◌, ◌≤◌, true, List, [], ◌∷◌, length, Some, Ok}
use Rattle.graft_code.specs.declared.Instr.{Instr}
use Rattle.graft_code.specs.Boxed.{rewrite}
use Rattle.graft_code.specs.Machine.{first_machine, segment_base}
use Rattle.graft_code.specs.Runs.{CodeRun, Halt, AtReturn, AtDivision, AtTrap, first_run, raw_run}
use Rattle.vino_host.specs.declared.Request.{Request}
use Rattle.vino_host.specs.declared.Stop.TheVariants as stop
use Rattle.vino_host.specs.declared.Word.{Word}
use Rattle.vino_host.specs.Codes.{RETURNED, DIVIDED, TRAPPED, is_taken}
use Rattle.vino_host.specs.Plugins.{code_of}
use Rattle.vino_host.specs.Calls.{Found, first_segment, call_says}
use Rattle.vino_host.specs.HostMachine.{by_place}
use Rattle.vino_host.specs.HostRuns.{State, state, Ended}
use Rattle.host_laws.specs.RawAnswers.{halt_of}
use Rattle.host_laws.specs.Talks.{host_talk, talk_answers, answered_with}

-- a plug-in's run does what a run of raw code did: it ended in the same way, and where the plug-in
-- returned, it has the same registers, r14 apart, and the same segment
pub record DoesWhatRawDid (raw : CodeRun) (e : Ended) : Type 0 where
  pub ended : raw.ended ≡ halt_of e.stop
  pub registers : e.stop ≡ stop.Returns → (i : ℕ) → i ≢ 14 → e.state.machine.regs i ≡ raw.machine.regs i
  pub segment : e.stop ≡ stop.Returns → (k : ℕ) → k < 4096 → e.state.machine.memory k ≡ raw.machine.memory k

-- the moment at which a call begins
abbrev pub first_state : (args segment : List ℕ) → List Word → State
first_state args segment table =
    state (first_machine (segment_base 0) args (by_place segment)) table []

-- Where raw code comes to its end within n instructions, k accesses among them, its boxed code as a
-- plug-in's, which may take n + 2k and more, does what the raw code did. The host answers the plug-in's
-- calls with these words; the raw code is given the words that the table and the host give the plug-in.
abbrev pub BoxedPluginsAreRaw : Type 0
BoxedPluginsAreRaw =
    (code boxed : List Instr) (number limit n : ℕ) (args segment words : List ℕ) (table : List Word)
    (halt : Halt) →
    rewrite code ≡ Ok boxed → length segment ≡ 4096 →
    let first = first_state args segment table in
    let raw = raw_run code n
    (first_run (segment_base 0) (by_place segment) args (talk_answers number boxed words limit first)) in
    raw.ended ≡ Some halt → n + 2 * raw.accesses ≤ limit →
    DoesWhatRawDid raw (host_talk number boxed words limit first)

-- a call returned what raw code returned
pub record ReturnsWhatRawDid (raw : CodeRun) (f : Found) : Type 0 where
  pub kind : f.answer.kind ≡ RETURNED
  pub r0 : f.answer.r0 ≡ raw.machine.regs 0
  pub r1 : f.answer.r1 ≡ raw.machine.regs 1
  pub r2 : f.answer.r2 ≡ raw.machine.regs 2
  pub r3 : f.answer.r3 ≡ raw.machine.regs 3
  pub segment : (k : ℕ) → k < 4096 → f.segment k ≡ raw.machine.memory k

-- what a caller finds after a call is what raw code did: it returned an answer that the point takes,
-- divided by zero, or trapped
pub record IsFoundAsRaw (request : Request) (fed : List ℕ) (raw : CodeRun) (f : Found) : Type 0 where
  pub returned : raw.ended ≡ Some AtReturn → is_taken request.point (length fed) (raw.machine.regs 0) ≡ true →
      ReturnsWhatRawDid raw f
  pub divided : raw.ended ≡ Some AtDivision → f.answer.kind ≡ DIVIDED
  pub trapped : (code : ℕ) → raw.ended ≡ Some (AtTrap code) →
      (f.answer.kind ≡ TRAPPED) × (f.answer.detail ≡ code)

-- A call of a plug-in whose code the rewriter made of raw code answers as the raw code ends, where that
-- comes to its end within n instructions, k accesses among them, and the call may take n + 2k. The
-- caller answers each call of the host with the next of these words.
abbrev pub BoxedCallsAreRaw : Type 0
BoxedCallsAreRaw =
    (code : List Instr) (plugin : List ℕ) (request : Request) (fed segment words : List ℕ)
    (table : List Word) (n : ℕ) (halt : Halt) →
    rewrite code ≡ Ok (code_of plugin) → length (first_segment plugin request fed segment) ≡ 4096 →
    let begins = first_segment plugin request fed segment in
    let args = request.r0 ∷ request.r1 ∷ request.r2 ∷ request.r3 ∷ [] in
    let answers = talk_answers request.number (code_of plugin) words request.limit
    (first_state args begins table) in
    let raw = raw_run code n (first_run (segment_base 0) (by_place begins) args answers) in
    raw.ended ≡ Some halt → n + 2 * raw.accesses ≤ request.limit →
    IsFoundAsRaw request fed raw
    (answered_with plugin words (call_says plugin request fed segment table))
