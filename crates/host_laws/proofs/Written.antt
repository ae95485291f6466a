-- A call of a plug-in that was written in the graft language does what its text says.
use Rattle.std.proofs.Common.{◌≡◌, ◌≢◌, ℕ, zero, suc, ◌+◌, ◌*◌, ◌^◌, ◌<◌, ◌≤◌, Bool, true, false, cond, List, [], ◌∷◌}
use Rattle.std.proofs.Common.{length, Option, None, Some, Result, Ok, refl, sym, ap, ◌∙◌, arith}
use Rattle.std.specs.Prelude.{◌==◌, nat_lt, slice_get, slice_index}
use Rattle.kernel_data.specs.World.{Image}
use Rattle.graft_code.specs.declared.Instr.{Instr}
use Rattle.graft_code.specs.Machine.{Done, Places, masked_place, step_by, segment_base}
use Rattle.graft_code.specs.declared.Keys.{Keys}
use Rattle.graft_code.specs.Boxed.{rewrite}
use Rattle.graft_code.specs.Images.{LoadFault, load, sealed_under, key_of, last_key}
use Rattle.graft_loader.specs.Laws.{IsBoxedImage, SealedImagesLoad}
use Rattle.graft_code.specs.Runs as runs
use Rattle.graft_code.specs.Runs.{CodeRun, Halt, Unanswered, AtReturn, AtDivision, AtTrap, Astray, first_run}
use Rattle.graft_code.specs.Runs.{raw_run, run_by, run_step, is_access, counted_access, answered_call}
use Rattle.graft_texts.specs.LanguageImages.{AreArguments, end_by, end_of, fed as run_fed}
use Rattle.graft_texts.specs.LanguageMeaning.{End, Answered, Trapped, DividedByZero, Going}
use Rattle.vino_host.specs.declared.Request.{Request}
use Rattle.vino_host.specs.declared.Word.{Word}
use Rattle.vino_host.specs.Codes.{is_taken}
use Rattle.vino_host.specs.Plugins.{code_of, image_of}
use Rattle.vino_host.specs.HostMachine.{by_place}
use Rattle.vino_host.specs.Calls.{Found, first_segment, call_says}
use Rattle.host_laws.specs.Boxed.{BoxedCallsAreRaw, IsFoundAsRaw, first_state}
use Rattle.host_laws.specs.Talks.{talk_answers, answered_with}
use Rattle.host_laws.specs.Written.{HasWords, FitTable, boxed_image, IsFoundAsSaid, WrittenPluginsDoWhatTheySay}
use Rattle.host_laws.proofs.Fitting.{FitRegisters, Fits, talk_answers_fit}

-- ---- at most one access for each instruction

done_accesses : (d : Done) (r : CodeRun) → (runs.after_done d r).accesses ≡ r.accesses
done_accesses (Done.Went m) r = refl
done_accesses (Done.Called id m) r = by_answers r.answers
  where
    by_answers : (answers : List (ℕ × ℕ)) → (answered_call id m r answers).accesses ≡ r.accesses
    by_answers [] = refl
    by_answers (pair ∷ pairs) = refl
done_accesses Done.Returned r = refl
done_accesses Done.DividedByZero r = refl
done_accesses (Done.Trapped code) r = refl
done_accesses Done.Outside r = refl
done_accesses Done.PastEnd r = refl

one_more : (r : CodeRun) (counts : Bool) → (counted_access counts r).accesses ≤ r.accesses + 1
one_more r true = omega arith
one_more r false = omega arith

most_accesses : (code : List Instr) (n : ℕ) (r : CodeRun) →
    (raw_run code n r).accesses ≤ r.accesses + n
most_accesses code zero r = omega arith
most_accesses code (suc n) r = by_end (most_accesses code n (run_step masked_place code r)) r.ended
  where
    by_end : (raw_run code n (run_step masked_place code r)).accesses
        ≤ (run_step masked_place code r).accesses + n → (o : Option Halt) →
        (elim o as (λ _. CodeRun) [
          | Some halt ↦ r
          | None ↦ run_by masked_place code n (run_step masked_place code r)
        ]).accesses ≤ r.accesses + suc n
    by_end rest (Some halt) = omega arith
    by_end rest None =
        let d = step_by masked_place code r.machine in
        let c = counted_access (is_access (slice_get code r.machine.pc)) r in
        omega (
          arith,
          rest,
          done_accesses d c,
          one_more r (is_access (slice_get code r.machine.pc)),
        )

-- ---- the law

pub are_arguments : (request : Request) → HasWords request →
    AreArguments (request.r0 ∷ request.r1 ∷ request.r2 ∷ request.r3 ∷ [])
are_arguments request h zero = h.r0
are_arguments request h (suc zero) = h.r1
are_arguments request h (suc (suc zero)) = h.r2
are_arguments request h (suc (suc (suc zero))) = h.r3
are_arguments request h (suc (suc (suc (suc i)))) = omega arith

pub registers_fit : (args : List ℕ) → AreArguments args →
    FitRegisters (λ r. cond (r == 15) (segment_base 0) (cond (nat_lt r 4) (slice_index args r) 0))
registers_fit args h i = by_tests (i == 15) (nat_lt i 4)
  where
    by_tests : (a b : Bool) → cond a (segment_base 0) (cond b (slice_index args i) 0) < 2 ^ 32
    by_tests true b = omega arith
    by_tests false true = h i
    by_tests false false = omega arith

-- by how raw code ended
by_halt : (request : Request) (fed : List ℕ) (raw : CodeRun) (f : Found) (end : End) → end ≢ Going →
    ((h : Halt) → raw.ended ≡ Some h → IsFoundAsRaw request fed raw f) → (h : Option Halt) →
    raw.ended ≡ h →
    end_by raw h ≡ Some end →
    IsFoundAsSaid request fed end f
by_halt request fed raw f end goes as_raw None is says = absurd (goes cc)
by_halt request fed raw f end goes as_raw (Some (Unanswered id)) is says =
    record { answered = λ r0 r1 e takes. cc; divided = λ e. cc; trapped = λ code e. cc }
by_halt request fed raw f end goes as_raw (Some AtReturn) is says =
    record {
      answered = λ r0 r1 e takes.
          let first : raw.machine.regs 0 ≡ r0 = cc in
          let second : raw.machine.regs 1 ≡ r1 = cc in
          let back = (as_raw AtReturn is).returned is
          (ap (λ (x : ℕ). is_taken request.point (length fed) x) first ∙ takes) in
          (back.kind, back.r0 ∙ first, back.r1 ∙ second);
      divided = λ e. cc;
      trapped = λ code e. cc;
    }
by_halt request fed raw f end goes as_raw (Some AtDivision) is says =
    record {
      answered = λ r0 r1 e takes. cc;
      divided = λ e. (as_raw AtDivision is).divided is;
      trapped = λ code e. cc;
    }
by_halt request fed raw f end goes as_raw (Some (AtTrap c)) is says =
    record {
      answered = λ r0 r1 e takes. cc;
      divided = λ e. cc;
      trapped = λ code e.
          let same : c ≡ code = cc in
          let back = (as_raw (AtTrap c) is).trapped c is in
          (back.0, back.1 ∙ same);
    }
by_halt request fed raw f end goes as_raw (Some Astray) is says = cc

-- the last key stands under its number
last_is : (keys : Keys) → key_of keys (last_key keys).0 ≡ Some (last_key keys).1
last_is keys = by_second keys.second refl
  where
    by_second : (o : Option (List ℕ)) → keys.second ≡ o →
        (let last = elim o as (λ _. ℕ × List ℕ) [ None ↦ (0, keys.first) | Some key ↦ (1, key) ] in
        key_of keys last.0 ≡ Some last.1)
    by_second None e = refl
    by_second (Some key) e = e

-- what was sealed and loaded is the code that was boxed
pub loaded : SealedImagesLoad → (keys : Keys) (i : Image) (plugin : List ℕ) → IsBoxedImage i →
    load keys (sealed_under keys i) ≡ Ok (image_of plugin) → i.code ≡ code_of plugin
loaded law keys i plugin boxed loads =
    let last = last_key keys in
    let both : ◌≡◌ {A = Result Image LoadFault} (Ok i) (Ok (image_of plugin)) =
    sym (law keys last.0 last.1 i (last_is keys) boxed) ∙ loads in
    let same : i ≡ image_of plugin = cc in
    ap (λ (x : Image). x.code) same

pub written : SealedImagesLoad → BoxedCallsAreRaw → WrittenPluginsDoWhatTheySay
written sealed law text image compiled p keys keep plugin request fed segment words table n end
    spells boxed loads size has fits small ends goes most =
    let made : rewrite image.code ≡ Ok (code_of plugin) =
    compiled.is_boxed ∙ ap (λ (is : List Instr). Ok is)
    (loaded sealed keys (boxed_image keep image) plugin boxed loads) in
    let begins = first_segment plugin request fed segment in
    let args = request.r0 ∷ request.r1 ∷ request.r2 ∷ request.r3 ∷ [] in
    let first = first_state args begins table in
    let answers = talk_answers request.number (code_of plugin) words request.limit first in
    let much = (n + 1) * length image.code in
    let raw = raw_run image.code much (first_run (segment_base 0) (by_place begins) args answers) in
    let are = are_arguments request has in
    let both = (compiled.behaves p spells).forth (by_place begins) args answers n end are
    (talk_answers_fit request.number (code_of plugin) words request.limit first small
    (record { registers = registers_fit args are; table = fits })) goes ends in
    let f = answered_with plugin words (call_says plugin request fed segment table) in
    let as_raw : (h : Halt) → raw.ended ≡ Some h →
    IsFoundAsRaw request fed raw f =
    λ h e. law image.code plugin request fed segment words table much h made size e
    (omega (
      arith,
      most,
      most_accesses image.code much
          (first_run (segment_base 0) (by_place begins) args answers),
    )) in
    by_halt request fed raw f end goes as_raw raw.ended refl both.0
