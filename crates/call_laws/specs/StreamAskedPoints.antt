-- The points that pieces of stream calls ask, and the objects that they need before them: the
-- second piece of a read asks the point of stream reads, the first of a write that of stream
-- writes, and the others ask for a frame as the plain table does.
use Rattle.std.specs.Prelude.{◌≡◌, ℕ, zero, suc, ◌+◌, ◌-◌, ◌^◌, ◌<◌, ◌≤◌, Bool, true, false, length}
use Rattle.std.specs.Prelude.{take, slice_index, List, [], ◌∷◌, ◌++◌, Option, Some, None, Result}
use Rattle.std.specs.Prelude.{Ok, Err}
use Rattle.std.proofs.Common.{arith, refl, ap, sym, ◌∙◌}
use Rattle.std.proofs.lemmas.Bool.Decides.{nat_tests}
use Rattle.std.proofs.lemmas.List.{length-replicate}
use Rattle.kernel_model.specs.declared.Need.{Need}
use Rattle.kernel_model.specs.declared.Object.TheVariants.{OpenFile}
use Rattle.kernel_model.specs.declared.Point.{Point}
use Rattle.kernel_model.specs.declared.FileRow.{FileRow}
use Rattle.kernel_model.specs.declared.OpenRow.{OpenRow}
use Rattle.kernel_model.specs.declared.Refusal.{Refusal}
use Rattle.kernel_model.specs.declared.SysCall.{SysCall}
use Rattle.kernel_model.specs.declared.SysCall.TheVariants.{StreamRead, StreamWrite}
use Rattle.kernel_model.specs.World.{World, file_row}
use Rattle.kernel_model.specs.Objects.{Objects}
use Rattle.kernel_model.specs.Meaning.{Stage}
use Rattle.kernel_model.specs.Needs.{shared, fetch_ask, file_block, file_block_in, point_needs}
use Rattle.kernel_model.specs.Sound.{IsSoundWorld}
use Rattle.kernel_model.specs.StreamPoints.{READ_POINT, WRITE_POINT, stream_points, stream_point, stream_write_asks}
use Rattle.kernel_model.specs.Laws.{IsRightPoint, needs_of_point, before_point}
use Rattle.call_laws.specs.StreamPlainStages.{plain_table, at_stage, need_stage}
use Rattle.call_laws.specs.StreamObjects.{first_needs}
use Rattle.call_laws.specs.BeforePoint.{front_of}

-- ---- pieces that ask for a frame

-- the first piece of a read and the second of a write
abbrev pub asks_for_frame : SysCall → ℕ → Bool
asks_for_frame (StreamRead fd i off len) zero = true
asks_for_frame (StreamWrite fd i off given) (suc n) = true
asks_for_frame c n = false

-- they ask what their plain stages ask
pub same_asks : (c : SysCall) (n : ℕ) (t : Stage) (v : World) (s : Objects) (p : ℕ) →
    asks_for_frame c n ≡ true →
    stream_points.asks v s p (at_stage c n t) ≡ plain_table.asks v s p (need_stage c n t)
same_asks (StreamRead fd i off len) zero t v s p frame =
    ap (λ count. fetch_ask v s.things (file_block v (s.things.file p fd) i off count))
    (sym (length-replicate len 0))
same_asks (StreamRead fd i off len) (suc n) t v s p frame = cc
same_asks (StreamWrite fd i off given) zero t v s p frame = cc
same_asks (StreamWrite fd i off given) (suc n) t v s p frame = refl
same_asks c n t v s p frame = cc

-- ---- the points of streams

-- the first piece of a write asks its own point, if any
pub write_point : (p fd i off count : ℕ) (r : Result ℕ Refusal) (a : Point) →
    stream_write_asks p fd i off count r ≡ Some a → stream_point p WRITE_POINT count i off fd ≡ a
write_point p fd i off count (Err why) a e = cc
write_point p fd i off count (Ok b) a e = cc

-- what a piece needs before its point
before_of : (s : Objects) (a : Point) (before ns : List Need) →
    ns ≡ before ++ needs_of_point s a → before_point s a ns ≡ before
before_of s a before ns e =
    ap (λ (xs : List Need). take (length xs - length (needs_of_point s a)) xs) e
    ∙ front_of before (needs_of_point s a)

-- the second piece of a read needs its point's objects alone
pub read_ends : (s : Objects) (p count i off fd : ℕ) (a : Point) →
    stream_point p READ_POINT count i off fd ≡ a →
    point_needs s.accounts p READ_POINT ≡ needs_of_point s a
read_ends s p count i off fd a e = ap (needs_of_point s) e

-- so there are none before
pub read_before : (s : Objects) (p count i off fd : ℕ) (a : Point) →
    stream_point p READ_POINT count i off fd ≡ a →
    before_point s a (point_needs s.accounts p READ_POINT) ≡ []
read_before s p count i off fd a e =
    before_of s a [] (point_needs s.accounts p READ_POINT) (read_ends s p count i off fd a e)

-- the first piece of a write needs its file and its point's objects
pub write_ends : (s : Objects) (p fd i off count : ℕ) (r : Result ℕ Refusal) (a : Point) →
    stream_write_asks p fd i off count r ≡ Some a →
    first_needs s p fd r ≡ shared (OpenFile p fd) ∷ needs_of_point s a
write_ends s p fd i off count (Err why) a e = cc
write_ends s p fd i off count (Ok b) a e =
    ap (λ x. shared (OpenFile p fd) ∷ needs_of_point s x)
    (write_point p fd i off count (Ok b) a e)

-- so the file alone stands before
pub write_before : (s : Objects) (p fd i off count : ℕ) (r : Result ℕ Refusal) (a : Point) →
    stream_write_asks p fd i off count r ≡ Some a →
    before_point s a (first_needs s p fd r) ≡ shared (OpenFile p fd) ∷ []
write_before s p fd i off count r a e =
    before_of s a (shared (OpenFile p fd) ∷ []) (first_needs s p fd r)
    (write_ends s p fd i off count r a e)

-- ---- words

-- four words are words
four_words : (top a b c d : ℕ) → 0 < top → a < top → b < top → c < top → d < top → (i : ℕ) →
    slice_index (a ∷ b ∷ c ∷ d ∷ []) i < top
four_words top a b c d some la lb lc ld zero = la
four_words top a b c d some la lb lc ld (suc zero) = lb
four_words top a b c d some la lb lc ld (suc (suc zero)) = lc
four_words top a b c d some la lb lc ld (suc (suc (suc zero))) = ld
four_words top a b c d some la lb lc ld (suc (suc (suc (suc i)))) = some

-- a point of streams is a right one where its numbers are in their ranges
pub right_point : (p pt count i off fd : ℕ) → p < 16 → pt < 16 → count ≤ 512 → i < 4096 →
    off ≤ 512 → fd < 4 → IsRightPoint (stream_point p pt count i off fd)
right_point p pt count i off fd l m few low within descriptor =
    record {
      graft = (l, m);
      four = refl;
      words = four_words (2 ^ 32) count i off fd (omega arith) (omega (arith, few))
          (omega (arith, low)) (omega (arith, within)) (omega (arith, descriptor));
    }

-- a block that a row of the directory has is one of 4,096
block_in_below : (x : Option FileRow) (i off len b : ℕ) →
    ((r : FileRow) → x ≡ Some r → r.start + r.blocks ≤ 4096) →
    file_block_in x i off len ≡ Ok b → i < 4096
block_in_below None i off len b most e = cc
block_in_below (Some r) i off len b most e = let few = most r refl in grind (arith, nat_tests)

-- so is one that an open file has
pub block_below : (v : World) (row : Option OpenRow) (i off len b : ℕ) → IsSoundWorld v →
    file_block v row i off len ≡ Ok b → i < 4096
block_below v None i off len b sound e = cc
block_below v (Some o) i off len b sound e =
    block_in_below (file_row v o.file) i off len b (λ r h. sound.files o.file r h) e
