-- What a piece of a call in flight comes to.
use Rattle.std.proofs.Common.{arith, ◌≡◌, ℕ, ◌+◌, ◌≤◌, Bool, true, false, List, [], ◌∷◌, ◌++◌}
use Rattle.std.proofs.Common.{Option, Some, None, length, ap, refl, subst, ◌∙◌}
use Rattle.kernel_model.specs.declared.Note.{Note}
use Rattle.kernel_model.specs.World.{World, ImageTable, Blocks}
use Rattle.kernel_model.specs.Objects.{Objects}
use Rattle.kernel_model.specs.Meaning.{Meaning, After, Piece, Answer, Stage}
use Rattle.kernel_model.specs.declared.Refusal.TheVariants.{DiskFault}
use Rattle.kernel_model.specs.Kernel.{gave_note, after_note}
use Rattle.std.proofs.lemmas.List.Sums.{sum_by-append}
use Rattle.std.specs.Prelude.{cond, option_map}
use Rattle.call_pieces.specs.Disks.{DiskSeen}
use Rattle.call_pieces.specs.Calls.{Knows, Made, failures}
use Rattle.call_pieces.specs.Fetching.{has_failed}
use Rattle.call_pieces.specs.Matching.{is_fault, PieceMatches, PieceMatchesSome, comes_after}
use Rattle.placed_laws.specs.Placed.{PlacedCall}
use Rattle.placed_laws.specs.PlacedSteps.{placed_after}
use Rattle.call_pieces.specs.declared.Next.{Next}
use Rattle.call_pieces.specs.Works.{stage_of}
use Rattle.call_pieces.specs.declared.Work.{Work}
use Rattle.running_kernel.specs.declared.running.InFlight.{InFlight}
use Rattle.kernel_steps.specs.Moments.{kernel_moment}
use Rattle.kernel_steps.specs.Faults.{fault_notes}
use Rattle.kernel_steps.specs.Refines.{first_notes, Adds, PieceDone}
use Rattle.running_kernel.specs.Views.{call_in_place}

-- ---- notes that tell of a failed disk

-- bytes that were given tell of none
gave_no_fault : (number : ℕ) (gave : Option (List ℕ)) → fault_notes (gave_note number gave) ≡ 0
gave_no_fault number None = refl
gave_no_fault number (Some bytes) = refl

-- calls one of which failed have a failure
some_failures : (io : List Bool) → has_failed io ≡ true → 1 ≤ failures io
some_failures [] h = grind (arith, h)
some_failures (true ∷ io) h =
    let parts : failures (true ∷ io) ≡ failures (true ∷ []) + failures io =
    sum_by-append (λ failed. cond failed 1 0) (true ∷ []) io in
    let one : failures (true ∷ []) ≡ 1 = refl in
    omega (arith, parts, one)
some_failures (false ∷ io) h =
    let parts : failures (false ∷ io) ≡ failures (false ∷ []) + failures io =
    sum_by-append (λ failed. cond failed 1 0) (false ∷ []) io in
    let none : failures (false ∷ []) ≡ 0 = refl in
    let more = some_failures io h in
    omega (arith, parts, none, more)

-- a call that was refused because the disk failed has a failed call of it
after_has_failed : (number : ℕ) (n : Next) (t : Stage) (io : List Bool) →
    (is_fault n ≡ true → has_failed io ≡ true) →
    fault_notes (after_note number (comes_after n t)) ≤ failures io
after_has_failed number Next.Goes t io failed = omega arith
after_has_failed number (Next.Ends reply) t io failed = omega arith
after_has_failed number (Next.Fails DiskFault) t io failed =
    let some = some_failures io (failed refl) in
    omega (arith, some)
after_has_failed number (Next.Fails why) t io failed = omega arith

-- ---- a piece

pub piece_done : (m : Meaning) (v : World) (s u : Objects) (p : ℕ) (c : PlacedCall)
    (call : Option PlacedCall) (answer : Option Answer) (kept mid kept_new : List Note)
    (d e : DiskSeen)
    (io : List Bool) (gave : Option (List ℕ)) (after : After) →
    ((images : ImageTable) (blocks : Blocks) (rest : List Bool) → Knows d.known blocks →
    PieceMatches (m.piece v images s blocks p c.stage answer (io ++ rest)) u e.known gave after
    (length io)) →
    ((images : ImageTable) → PieceMatchesSome v
    (λ blocks io. m.piece v images s blocks p c.stage answer io) u gave after io) →
    Made d e io → call ≡ placed_after c after →
    Adds (gave_note c.number gave) kept mid → Adds (after_note c.number after) mid kept_new →
    fault_notes (after_note c.number after) ≤ failures io →
    PieceDone m v p c call answer (kernel_moment s kept d) (kernel_moment u kept_new e)
piece_done m v s u p c call answer kept mid kept_new d e io gave after does some made call_is first second faults =
    record {
      io = io;
      made = made;
      goes = λ images blocks notes rest tells k.
          let q : Piece = m.piece v images s blocks p c.stage answer (io ++ rest) in
          let came = does images blocks rest tells in
          record {
            objects = came.objects;
            call_is = call_is ∙ ap (placed_after c) came.next;
            kept_are = second.first (notes ++ gave_note c.number gave) (first.first notes k)
                ∙ ap (λ g. first_notes (notes ++ gave_note c.number g ++ after_note c.number after)) came.bytes
                ∙ ap (λ a. first_notes (notes ++ gave_note c.number q.gave ++ after_note c.number a)) came.next;
            blocks = came.blocks;
            all_made = came.calls_made;
          };
      faulted =
          let a = first.faults in
          let b = second.faults in
          let none = gave_no_fault c.number gave in
          omega (arith, a, b, none, faults);
      some = λ images.
          let l = some images in
          record {
            blocks = l.blocks;
            whole = l.whole;
            io = io ++ [];
            objects = (l.left []).objects;
            call_is = call_is ∙ ap (placed_after c) (l.left []).next;
          };
    }

-- the same of a call in flight, by what came next
pub flight_done : (m : Meaning) (v : World) (s u : Objects) (call f : InFlight) (new : Work)
    (left : Option InFlight) (answer : Option Answer) (kept mid kept_new : List Note)
    (d e : DiskSeen)
    (io : List Bool) (gave : Option (List ℕ)) (next n : Next) → call ≡ f → next ≡ n →
    ((images : ImageTable) (blocks : Blocks) (rest : List Bool) → Knows d.known blocks →
    PieceMatches (m.piece v images s blocks call.work.caller (stage_of call.work) answer
    (io ++ rest)) u e.known gave (comes_after next (stage_of new)) (length io)) →
    ((images : ImageTable) →
    PieceMatchesSome v (λ blocks io. m.piece v images s blocks call.work.caller
    (stage_of call.work) answer io) u gave (comes_after next (stage_of new)) io) →
    Made d e io → option_map call_in_place left ≡ placed_after (call_in_place call) (comes_after n (stage_of new)) →
    Adds (gave_note call.number gave) kept mid →
    Adds (after_note call.number (comes_after n (stage_of new))) mid kept_new →
    (is_fault next ≡ true → has_failed io ≡ true) →
    PieceDone m v f.work.caller (call_in_place f) (option_map call_in_place left) answer
    (kernel_moment s kept d) (kernel_moment u kept_new e)
flight_done m v s u call f new left answer kept mid kept_new d e io gave next n same is does some
    made left_is first second failed =
    subst (λ (h : InFlight). PieceDone m v h.work.caller (call_in_place h) (option_map call_in_place
    left) answer (kernel_moment s kept d) (kernel_moment u kept_new e)) same
    (piece_done m v s u call.work.caller (call_in_place call) (option_map call_in_place left) answer
    kept mid kept_new d e io gave (comes_after n (stage_of new))
    (subst (λ k. (images : ImageTable) (blocks : Blocks) (rest : List Bool) → Knows d.known blocks →
    PieceMatches (m.piece v images s blocks call.work.caller (stage_of call.work) answer
    (io ++ rest)) u e.known gave (comes_after k (stage_of new)) (length io)) is does)
    (subst (λ k. (images : ImageTable) → PieceMatchesSome v (λ blocks io. m.piece v images s blocks
    call.work.caller (stage_of call.work) answer io) u gave (comes_after k (stage_of new)) io)
    is some)
    made left_is first second (after_has_failed call.number n (stage_of new) io (λ h. failed (ap is_fault is ∙ h))))
