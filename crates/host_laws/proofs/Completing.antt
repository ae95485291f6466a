-- A call that completed: its program ended, and the words that it left fit 32 bits.
use Rattle.std.proofs.Common.{◌≡◌, ℕ, zero, suc, ◌+◌, ◌-◌, ◌*◌, ◌≤◌, Bool, true, false, cond, not}
use Rattle.std.proofs.Common.{List, [], ◌∷◌, length, Option, None, Some, Ok, refl, sym, ap, subst, ◌∙◌, arith}
use Rattle.std.specs.Prelude.{◌==◌, slice_get, slice_set}
use Rattle.kernel_data.specs.World.{Image}
use Rattle.graft_code.specs.declared.Instr.{Instr}
use Rattle.graft_code.specs.declared.Keys.{Keys}
use Rattle.graft_code.specs.Boxed.{rewrite}
use Rattle.graft_code.specs.Images.{load, sealed_under}
use Rattle.graft_code.specs.Machine.{Machine, segment_base, segment_place}
use Rattle.graft_code.specs.Runs.{CodeRun, Halt, AtReturn, first_run, raw_run, boxed_run}
use Rattle.graft_code.specs.SandboxClaims.{Sandbox, Rewriting, HasComeAsFar}
use Rattle.graft_loader.specs.Laws.{IsBoxedImage, SealedImagesLoad}
use Rattle.box_rewriter.specs.Laws.{RewrittenIsBoxed}
use Rattle.graft_texts.specs.LanguageGrammar as grammar
use Rattle.graft_texts.specs.LanguageImages.{IsCompiled, end_by, end_of, said}
use Rattle.graft_texts.specs.LanguageMeaning.{Answered, numbered}
use Rattle.vino_host.specs.declared.Record.{Record}
use Rattle.vino_host.specs.declared.Request.{Request}
use Rattle.vino_host.specs.declared.Stop.{Stop}
use Rattle.vino_host.specs.declared.Stop.TheVariants as stop
use Rattle.vino_host.specs.declared.Word.{Word}
use Rattle.vino_host.specs.Codes.{RETURNED, BAD_ANSWER, is_taken}
use Rattle.vino_host.specs.Plugins.{code_of, image_of}
use Rattle.vino_host.specs.HostMachine.{by_place}
use Rattle.vino_host.specs.HostRuns.{State, state, Ended, host_run}
use Rattle.vino_host.specs.Tables.{released, given_back}
use Rattle.vino_host.specs.Calls.{Frame, Found, found, found_by, judged, first_frame, first_segment, call_says, begun}
use Rattle.host_laws.specs.Boxed.{first_state}
use Rattle.host_laws.specs.Claims.{IsRawRun}
use Rattle.host_laws.specs.RawAnswers.{halt_of}
use Rattle.host_laws.specs.Talks.{host_talk, talk_answers, after_wait, with_word, answered_with}
use Rattle.host_laws.specs.Written.{HasWords, FitTable, FitWords, boxed_image}
use Rattle.host_laws.proofs.Boxing.{same_run}
use Rattle.host_laws.proofs.BoxedRuns.{no_more, first_home}
use Rattle.host_laws.proofs.Conversing.{conversed}
use Rattle.host_laws.proofs.Fitting.{Fits, set_fits, word_fits, run_fits, talk_answers_fit}
use Rattle.host_laws.proofs.Sound.{has_cause, run_cause}
use Rattle.host_laws.proofs.Talking.{talks_are_raw}
use Rattle.host_laws.proofs.Written.{are_arguments, registers_fit, loaded}

-- ---- with the host's words

-- a run that the host answers is dropped for a cause, which isn't 0
talk_cause : (number : ℕ) (code : List Instr) (words : List ℕ) (n : ℕ) (s : State) →
    has_cause (host_talk number code words n s).stop ≡ true
unfolding host_talk
talk_cause number code [] n s = run_cause number code n s
talk_cause number code (x ∷ xs) n s =
    by_stop (λ k q. talk_cause number code xs k q) (host_run number code n s).stop refl
  where
    first : Ended
    first = host_run number code n s

    by_stop : ((k : ℕ) (q : State) → has_cause (host_talk number code xs k q).stop ≡ true) → (why : Stop) →
        first.stop ≡ why → has_cause (after_wait (host_talk number code xs) x first why).stop ≡ true
    by_stop rest stop.Returns is = run_cause number code n s
    by_stop rest (stop.Waits id) is = rest first.left (with_word x first)
    by_stop rest (stop.Drops cause detail) is = run_cause number code n s

-- it ends with registers and words that fit 32 bits
talk_fits : (number : ℕ) (code : List Instr) (words : List ℕ) (n : ℕ) (s : State) → FitWords words → Fits s →
    Fits (host_talk number code words n s).state
unfolding host_talk
talk_fits number code [] n s small fits = run_fits number code n s fits
talk_fits number code (x ∷ xs) n s small fits =
    by_stop (λ k q h. talk_fits number code xs k q small.1 h) (host_run number code n s).stop
  where
    first : Ended
    first = host_run number code n s

    ends : Fits first.state
    ends = run_fits number code n s fits

    by_stop : ((k : ℕ) (q : State) → Fits q → Fits (host_talk number code xs k q).state) → (why : Stop) →
        Fits (after_wait (host_talk number code xs) x first why).state
    by_stop rest stop.Returns = ends
    by_stop rest (stop.Drops cause detail) = ends
    by_stop rest (stop.Waits id) =
        rest first.left (with_word x first)
        (record { registers = set_fits 0 x first.state.machine.regs small.0 ends.registers; table = ends.table })

-- words that are given back fit as before
released_fits : (rs : List Record) (table : List Word) → FitTable table → FitTable (released rs table)
released_fits [] table h = h
released_fits (r ∷ rs) table h =
    by_word (released rs table) (released_fits rs table h) (slice_get (released rs table) r.place) refl
  where
    by_word : (t : List Word) → FitTable t → (o : Option Word) → slice_get t r.place ≡ o →
        FitTable (elim o as (λ _. List Word) [ None ↦ t | Some w ↦ slice_set t r.place (given_back r w) ])
    by_word t g None e = g
    by_word t g (Some w) e = word_fits t r.place (given_back r w) (g r.place w e) g

-- ---- what a caller finds of a call that completed

-- the run returned, and this is what is found of it
record IsReturn (e : Ended) (f : Found) : Type 0 where
  returns : e.stop ≡ stop.Returns
  r0 : f.answer.r0 ≡ e.state.machine.regs 0
  r1 : f.answer.r1 ≡ e.state.machine.regs 1
  table : f.table ≡ released e.state.records e.state.table

is_return : (f : Frame) (e : Ended) → has_cause e.stop ≡ true → (found f e).answer.kind ≡ RETURNED →
    IsReturn e (found f e)
is_return f e caused kind = by_stop e.stop refl caused kind
  where
    of_stop : Stop → Found
    of_stop why = found_by f e.left e.state why

    not_zero : (cause : ℕ) → not (cause == 0) ≡ true → cause ≡ 0 → ⊥
    not_zero zero h g = cc
    not_zero (suc k) h g = cc

    by_taken : e.stop ≡ stop.Returns → (t : Bool) →
        (of_stop (cond t stop.Returns (stop.Drops BAD_ANSWER (e.state.machine.regs 0)))).answer.kind ≡ RETURNED →
        IsReturn e (of_stop (cond t stop.Returns (stop.Drops BAD_ANSWER (e.state.machine.regs 0))))
    by_taken is true k = record { returns = is; r0 = refl; r1 = refl; table = refl }
    by_taken is false k = cc

    by_stop : (why : Stop) → e.stop ≡ why → has_cause why ≡ true →
        (of_stop (judged f why (e.state.machine.regs 0))).answer.kind ≡ RETURNED →
        IsReturn e (of_stop (judged f why (e.state.machine.regs 0)))
    by_stop stop.Returns is c k = by_taken is (is_taken f.point f.fed (e.state.machine.regs 0)) k
    by_stop (stop.Waits id) is c k = cc
    by_stop (stop.Drops cause detail) is c k = absurd (not_zero cause c k)

-- ---- the raw code of a plug-in that returned

record RawReturned (raw : CodeRun) (e : Ended) : Type 0 where
  ended : raw.ended ≡ Some AtReturn
  r0 : raw.machine.regs 0 ≡ e.state.machine.regs 0
  r1 : raw.machine.regs 1 ≡ e.state.machine.regs 1

-- where boxed code returned within a limit, so did its raw code, with the same r0 and r1
raw_returned : Sandbox → RewrittenIsBoxed → Rewriting → (code boxed : List Instr) (number limit : ℕ)
    (args segment words : List ℕ) (table : List Word) → rewrite code ≡ Ok boxed → length segment ≡ 4096 →
    let s = first_state args segment table in
    let e = host_talk number boxed words limit s in
    e.stop ≡ stop.Returns →
    RawReturned (raw_run code limit
    (first_run (segment_base 0) (by_place segment) args (talk_answers number boxed words limit s))) e
raw_returned sandbox is_boxed rewriting code boxed number limit args segment words table made size back =
    record {
      ended = sym far.ended ∙ ap (λ (q : CodeRun). q.ended) same ∙ mine_ended;
      r0 = register 0 (λ x. cc);
      r1 = register 1 (λ x. cc);
    }
  where
    s : State
    s = first_state args segment table

    e : Ended
    e = host_talk number boxed words limit s

    first : CodeRun
    first = first_run (segment_base 0) (by_place segment) args (talk_answers number boxed words limit s)

    raw : CodeRun
    raw = raw_run code limit first

    all : ℕ
    all = limit + 2 * raw.accesses

    mine : IsRawRun e (raw_run boxed (limit - e.left) first)
    mine = talks_are_raw number boxed words limit s first refl refl refl

    far : HasComeAsFar code raw (boxed_run boxed all first)
    far = rewriting code boxed 0 limit (by_place segment) args (talk_answers number boxed words limit s) made
        (omega arith)

    alone : raw_run boxed (limit - e.left) first ≡ boxed_run boxed (limit - e.left) first
    alone = same_run sandbox boxed (limit - e.left) first (is_boxed code boxed made)
        (λ _. first_home boxed args segment (is_boxed code boxed made) size)

    mine_ended : (boxed_run boxed (limit - e.left) first).ended ≡ Some AtReturn
    mine_ended = ap (λ (q : CodeRun). q.ended) (sym alone) ∙ mine.ended ∙ ap (λ (w : Stop). halt_of w) back

    same : boxed_run boxed all first ≡ boxed_run boxed (limit - e.left) first
    same =
        let shorter : limit - e.left ≤ limit + 2 * raw.accesses = omega arith in
        no_more segment_place boxed (limit - e.left) all first AtReturn shorter mine_ended

    register : (i : ℕ) → (i ≡ 14 → ⊥) → raw.machine.regs i ≡ e.state.machine.regs i
    register i other =
        sym (far.registers i other) ∙ ap (λ (q : CodeRun). q.machine.regs i) (same ∙ sym alone)
        ∙ ap (λ (m : Machine). m.regs i) (mine.machine back)

-- ---- the program

-- what a caller finds who answered each call with these words
abbrev pub outcome : (plugin : List ℕ) → Request → (fed segment words : List ℕ) → List Word → Found
outcome plugin request fed segment words table =
    answered_with plugin words (call_says plugin request fed segment table)

-- the run whose end that is
abbrev talked : (plugin : List ℕ) → Request → (fed segment words : List ℕ) → List Word → Ended
talked plugin request fed segment words table =
    host_talk request.number (code_of plugin) words request.limit
    (state (begun plugin request fed segment) table [])

returned : (plugin : List ℕ) (request : Request) (fed segment words : List ℕ) (table : List Word) →
    (outcome plugin request fed segment words table).answer.kind ≡ RETURNED →
    IsReturn (talked plugin request fed segment words table) (outcome plugin request fed segment words table)
returned plugin request fed segment words table kind =
    let e = talked plugin request fed segment words table in
    let f = first_frame request fed segment in
    let same = conversed plugin request fed segment words table in
    subst (λ (x : Found). IsReturn e x) (sym same)
    (is_return f e
    (talk_cause request.number (code_of plugin) words request.limit
    (state (begun plugin request fed segment) table []))
    (ap (λ (x : Found). x.answer.kind) (sym same) ∙ kind))

begun_fits : (plugin : List ℕ) (request : Request) (fed segment : List ℕ) (table : List Word) →
    HasWords request → FitTable table → Fits (state (begun plugin request fed segment) table [])
begun_fits plugin request fed segment table has fits =
    record {
      registers = registers_fit (request.r0 ∷ request.r1 ∷ request.r2 ∷ request.r3 ∷ []) (are_arguments request has);
      table = fits;
    }

-- the words that a call which completed left fit 32 bits
pub left_fits : (plugin : List ℕ) (request : Request) (fed segment words : List ℕ) (table : List Word) →
    HasWords request → FitTable table → FitWords words →
    (outcome plugin request fed segment words table).answer.kind ≡ RETURNED →
    FitTable (outcome plugin request fed segment words table).table
left_fits plugin request fed segment words table has fits small kind =
    let e = talked plugin request fed segment words table in
    subst (λ (t : List Word). FitTable t) (sym (returned plugin request fed segment words table kind).table)
    (released_fits e.state.records e.state.table
    (talk_fits request.number (code_of plugin) words request.limit
    (state (begun plugin request fed segment) table []) small
    (begun_fits plugin request fed segment table has fits)).table)

-- where a call of a written plug-in completed, its program ended with the same r0 and r1
pub program_ended : Sandbox → RewrittenIsBoxed → Rewriting → SealedImagesLoad →
    (text : List ℕ) (image : Image) (compiled : IsCompiled text image) (p : grammar.Program)
    (keys : Keys) (keep : Bool) (plugin : List ℕ) (request : Request) (fed segment words : List ℕ)
    (table : List Word) →
    grammar.spelled p ≡ compiled.syntax.tokens → IsBoxedImage (boxed_image keep image) →
    load keys (sealed_under keys (boxed_image keep image)) ≡ Ok (image_of plugin) →
    length (first_segment plugin request fed segment) ≡ 4096 →
    HasWords request → FitTable table → FitWords words →
    let begins = first_segment plugin request fed segment in
    let args = request.r0 ∷ request.r1 ∷ request.r2 ∷ request.r3 ∷ [] in
    let answers = talk_answers request.number (code_of plugin) words request.limit
    (first_state args begins table) in
    let f = outcome plugin request fed segment words table in
    f.answer.kind ≡ RETURNED →
    (said (numbered compiled.syntax.names p) args answers request.limit).ended
    ≡ Some (Answered f.answer.r0 f.answer.r1)
program_ended sandbox is_boxed rewriting sealed text image compiled p keys keep plugin request fed segment words table
    spells boxed loads size has fits small kind =
    let made : rewrite image.code ≡ Ok (code_of plugin) =
    compiled.is_boxed ∙ ap (λ (is : List Instr). Ok is)
    (loaded sealed keys (boxed_image keep image) plugin boxed loads) in
    let begins = first_segment plugin request fed segment in
    let args = request.r0 ∷ request.r1 ∷ request.r2 ∷ request.r3 ∷ [] in
    let first = first_state args begins table in
    let answers = talk_answers request.number (code_of plugin) words request.limit first in
    let raw = raw_run image.code request.limit (first_run (segment_base 0) (by_place begins) args answers) in
    let is = returned plugin request fed segment words table kind in
    let f = outcome plugin request fed segment words table in
    let went = raw_returned sandbox is_boxed rewriting image.code (code_of plugin) request.number request.limit args
    begins words table made size is.returns in
    let ends : end_of raw ≡ Some (Answered f.answer.r0 f.answer.r1) =
    ap (λ (o : Option Halt). end_by raw o) went.ended
    ∙ ap (λ (x : ℕ). Some (Answered x (raw.machine.regs 1))) (went.r0 ∙ sym is.r0)
    ∙ ap (λ (x : ℕ). Some (Answered f.answer.r0 x)) (went.r1 ∙ sym is.r1) in
    let both = (compiled.behaves p spells).back (by_place begins) args answers request.limit
    (Answered f.answer.r0 f.answer.r1) (are_arguments request has)
    (talk_answers_fit request.number (code_of plugin) words request.limit first small
    (begun_fits plugin request fed segment table has fits)) (λ g. cc) ends in
    both.0
