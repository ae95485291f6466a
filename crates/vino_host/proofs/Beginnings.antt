-- How a call begins and goes on, and what follows for a caller.
use Rattle.std.proofs.Common.{◌≡◌, ℕ, true, List, [], ◌∷◌, length, sym, ap, subst, ◌∙◌}
use Rattle.std.proofs.Common.{eq-eqb}
use Rattle.std.proofs.lemmas.Grind.{same_number_lists}
use Rattle.graft_code.specs.Machine as model
use Rattle.graft_code.specs.Machine.{first_machine, segment_base}
use Rattle.vino_host.specs.declared.Answer.{Answer}
use Rattle.vino_host.specs.declared.Call.{Call}
use Rattle.graft_code.specs.declared.Instr.{Instr}
use Rattle.vino_host.specs.declared.Machine.{Machine}
use Rattle.vino_host.specs.declared.Record.{Record}
use Rattle.vino_host.specs.declared.Request.{Request}
use Rattle.vino_host.specs.declared.Word.{Word}
use Rattle.vino_host.specs.Codes.{is_drop}
use Rattle.vino_host.specs.HostMachine.{by_place, machine_of}
use Rattle.vino_host.specs.HostRuns.{State, state, Ended, host_run, with_r0}
use Rattle.vino_host.specs.Tables.{records_of, undone}
use Rattle.vino_host.specs.Plugins.{code_of}
use Rattle.vino_host.specs.Calls.{Frame, Pause, Found, found, found_in}
use Rattle.vino_host.specs.Calls.{first_segment, first_frame, call_says, resumed}
use Rattle.vino_host.proofs.Kept.{run_kept}
use Rattle.vino_host.proofs.Stopping.{dropped, waiting}

-- a call that begins
pub begins : (plugin : List ℕ) (request : Request) (bytes segment new : List ℕ) (table : List Word)
    (f : Frame) (records : List Record) (cpu : Machine) (x : Found) →
    x ≡ found f (host_run f.number (code_of plugin) request.limit
    (state (machine_of cpu new) table records)) →
    f ≡ first_frame request bytes segment → records ≡ [] →
    new ≡ first_segment plugin request bytes segment →
    ((s : List ℕ) → machine_of cpu s ≡ first_machine (segment_base 0)
    (request.r0 ∷ request.r1 ∷ request.r2 ∷ request.r3 ∷ []) (by_place s)) →
    x ≡ call_says plugin request bytes segment table
begins plugin request bytes segment new table f records cpu x all frame none prepared first =
    let g : Frame → model.Machine → List Record → Found = λ f m r.
    found f (host_run f.number (code_of plugin) request.limit (state m table r)) in
    let m0 = machine_of cpu new in
    let args = request.r0 ∷ request.r1 ∷ request.r2 ∷ request.r3 ∷ [] in
    all ∙ ap (λ (h : Frame). g h m0 records) frame
    ∙ ap (λ (m : model.Machine). g (first_frame request bytes segment) m records)
    (first new ∙ ap (λ (s : List ℕ). first_machine (segment_base 0) args (by_place s)) prepared)
    ∙ ap (λ (r : List Record). g (first_frame request bytes segment)
    (first_machine (segment_base 0) args (by_place (first_segment plugin request bytes segment))) r) none

-- a call that goes on with a word
pub resumes : (plugin : List ℕ) (p : Pause) (how x : ℕ) (table : List Word) (f : Found) → how ≡ 0 →
    f ≡ found p.frame (host_run p.frame.number (code_of plugin) p.left
    (state (with_r0 x p.machine) table p.records)) → f ≡ resumed plugin p how x table
resumes plugin p how x table f e all =
    subst (λ (h : ℕ). f ≡ resumed plugin p h x table) (sym e) all

-- the segment after a drop
pub segment_back : (f : Frame) (e : Ended) (r : Answer) (call : Call) (segment old : List ℕ) (table : List Word) →
    found_in r call segment table ≡ found f e → length segment ≡ length old → f.segment ≡ old →
    is_drop r.kind ≡ true → segment ≡ old
segment_back f e r call segment old table h same at d =
    let all = dropped f e r call segment table h d in
    same_number_lists segment old same
    (λ k room. ap (λ (g : ℕ → ℕ). g k) (all.segment_is ∙ ap (λ (s : List ℕ). by_place s) at))

-- the table after a drop
pub table_back : (f : Frame) (number : ℕ) (code : List Instr) (n : ℕ) (s : State) (r : Answer) (call : Call)
    (segment : List ℕ) (table : List Word) →
    found_in r call segment table ≡ found f (host_run number code n s) → is_drop r.kind ≡ true →
    table ≡ undone s.records s.table
table_back f number code n s r call segment table h d =
    (dropped f (host_run number code n s) r call segment table h d).table_is ∙ run_kept number code n s

-- the table of a call that waits
pub table_kept : (f : Frame) (number : ℕ) (code : List Instr) (n : ℕ) (s : State) (r : Answer) (call : Call)
    (segment : List ℕ) (table : List Word) →
    found_in r call segment table ≡ found f (host_run number code n s) → call.state ≡ 1 →
    undone (records_of call.log) table ≡ undone s.records s.table
table_kept f number code n s r call segment table h d =
    let all = waiting f (host_run number code n s) r call segment table h (eq-eqb call.state 1 d) in
    ap (λ (rs : List Record). undone rs table) all.records_are
    ∙ ap (λ (t : List Word). undone (host_run number code n s).state.records t) all.table_is
    ∙ run_kept number code n s

-- the segment that a call which waits keeps
pub segment_kept : (f : Frame) (e : Ended) (r : Answer) (call : Call) (segment : List ℕ) (table : List Word) →
    found_in r call segment table ≡ found f e → call.state ≡ 1 → call.segment ≡ f.segment
segment_kept f e r call segment table h d = (waiting f e r call segment table h (eq-eqb call.state 1 d)).segment_is
