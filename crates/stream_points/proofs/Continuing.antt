-- Stream calls that go on: a call has its second piece before it, with bytes that fit.
use Rattle.std.proofs.Common.{◌≡◌, ℕ, ◌+◌, ◌-◌, ◌<◌, ◌≤◌, min, List, length, Option, None, Some}
use Rattle.std.proofs.Common.{Result, Ok, true, refl, sym, subst, arith}
use Rattle.std.specs.List.{slice_index}
use Rattle.std.proofs.lemmas.Bool.Decides.{nat_tests}
use Rattle.std.proofs.lemmas.List.FromFn.{length-map-range_with_len}
use Rattle.kernel_model.specs.declared.Refusal.{Refusal}
use Rattle.kernel_model.specs.declared.SysCall.{SysCall}
use Rattle.kernel_model.specs.declared.SysCall.TheVariants.{StreamRead, StreamWrite}
use Rattle.kernel_model.specs.Levels.{base_of}
use Rattle.kernel_model.specs.Runs.{segment_of}
use Rattle.kernel_model.specs.Objects.{Objects}
use Rattle.kernel_model.specs.Meaning.{HasWholeBody}
use Rattle.kernel_model.specs.Laws.{IsRightAnswer}
use Rattle.kernel_model.specs.StreamPoints.{WRITE_POINT, through, stream_point, stream_write_asks}
use Rattle.kernel_model.specs.StreamPoints.{stream_fits, stream_left}
use Rattle.call_pieces.specs.StreamCarried.{through_length}
use Rattle.call_pieces.specs.declared.Work.{Work}
use Rattle.call_pieces.specs.Works.{call_of, stage_of, answer_seen, registers_seen}
use Rattle.stream_points.specs.Streams.{StreamContinues, with_carried}

-- ---- what comes out of a point

-- an answer gives as many bytes as it says
whole_body : (ram : List ℕ) (p : ℕ) (answer : Option (List ℕ)) →
    HasWholeBody (answer_seen ram p answer)
whole_body ram p None = tt
whole_body ram p (Some r) =
    length-map-range_with_len (segment_of (base_of p 0) (λ a. slice_index ram a)) 2048
    (min (slice_index r 0) 512)

-- as many bytes come out of the point of stream writes as went in
pub out_length : (s : Objects) (r : Result ℕ Refusal) (b p i off fd : ℕ) (given ram : List ℕ)
    (answer : Option (List ℕ)) → length given ≤ 512 → Ok b ≡ r →
    IsRightAnswer s (stream_write_asks p fd i off (length given) r) answer →
    length (through (answer_seen ram p answer) given) ≡ length given
out_length s r b p i off fd given ram answer few is right =
    through_length s p WRITE_POINT i off fd given (answer_seen ram p answer) few refl
    (subst (λ (x : Option (List ℕ)).
    IsRightAnswer s (Some (stream_point p WRITE_POINT (length given) i off fd)) x)
    (sym (registers_seen ram p answer))
    (subst (λ (x : Result ℕ Refusal).
    IsRightAnswer s (stream_write_asks p fd i off (length given) x) answer) (sym is) right))
    (whole_body ram p answer)

-- ---- the second piece

-- a stream write goes on with bytes that fit into its block
pub write_continues : (w new : Work) (fd i off : ℕ) (given out : List ℕ) →
    call_of w ≡ StreamWrite fd i off given → w.piece ≡ 0 → off + length out ≤ 512 →
    new ≡ with_carried out w → StreamContinues w new
write_continues w new fd i off given out is first within so =
    subst (λ (x : Work). StreamContinues w x) (sym so)
    (record {
      caller = refl;
      call = refl;
      fits = subst (λ (k : SysCall). stream_fits k (stage_of (with_carried out w)) ≡ true) (sym is)
          (grind (arith, nat_tests));
      some = subst (λ (k : SysCall). 1 ≤ stream_left k 1) (sym is) (omega arith);
      fewer = subst (λ (k : SysCall). stream_left k 1 < stream_left k w.piece) (sym is)
          (subst (λ n. 2 - 1 < 2 - n) (sym first) (omega arith));
    })
