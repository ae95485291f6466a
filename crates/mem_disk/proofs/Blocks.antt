-- Blocks that stand one after another in bytes.
use Rattle.std.proofs.Common.{◌≡◌, ℕ, ◌+◌, ◌-◌, ◌*◌, ◌/◌, ◌<◌, ◌≤◌, List, [], ◌∷◌, ◌++◌, Some}
use Rattle.std.proofs.Common.{length, get_or, take, drop, slice_get, refl, arith, sym, ◌∙◌, ap}
use Rattle.std.proofs.Common.{subst, inl, inr, below_more, length-append}
use Rattle.std.proofs.Math.ListN.{set, length-set}
use Rattle.std.specs.List.{between}
use Rattle.std.proofs.lemmas.Bool.{cases_lt}
use Rattle.std.proofs.lemmas.List.{length-take, length-drop, get_or-set_same, get_or-set_other}
use Rattle.std.proofs.lemmas.List.{take-append-le, get_or_append_left, drop_at, get_or_at}
use Rattle.std.proofs.lemmas.List.{take_all}
use Rattle.std.proofs.lemmas.List.Edits.{length-between}
use Rattle.std.proofs.lemmas.List.FromFn.{length-map-range_with_len, get_or-map-range_with_len, fill_by_all}
use Rattle.std.proofs.lemmas.Option.{slice_get-get_or}
use Rattle.std.proofs.lemmas.Slice.{between_is, between-put_mid, take-put_mid_below, drop-put_mid}
use borrow.Rule.Slice.PartMut.{put_mid}
use Rattle.mem_disk.specs.DiskState.{block_in, blocks_in, blocks_of}

-- how many blocks there are
pub length-blocks_in : (bytes : List ℕ) (n : ℕ) → length (blocks_in bytes n) ≡ n
unfolding blocks_in
length-blocks_in bytes n = length-map-range_with_len (block_in bytes) 0 n

-- one of the blocks
pub get_or-blocks_in : (bytes : List ℕ) (n b : ℕ) (d : List ℕ) → b < n →
    get_or (blocks_in bytes n) b d ≡ block_in bytes b
unfolding blocks_in
get_or-blocks_in bytes n b d below = get_or-map-range_with_len (block_in bytes) 0 n b b d below (omega arith)

-- blocks are told by what each of them is
pub blocks_in-by_each : (bytes : List ℕ) (n : ℕ) (xs : List (List ℕ)) → length xs ≡ n →
    ((k : ℕ) → k < n → get_or xs k [] ≡ block_in bytes k) → xs ≡ blocks_in bytes n
unfolding blocks_in
blocks_in-by_each bytes n xs len each = fill_by_all (block_in bytes) xs n [] len each

-- no block
pub blocks_in-none : (bytes : List ℕ) → blocks_in bytes 0 ≡ []
unfolding blocks_in
blocks_in-none bytes = refl

-- a part of a front
part-front : (i j : ℕ) (xs ys : List ℕ) → j ≤ length xs → between i j (xs ++ ys) ≡ between i j xs
part-front i j xs ys inside =
    between_is (xs ++ ys) i j ∙ ap (drop i) (take-append-le j xs ys inside)
    ∙ sym (between_is xs i j)

-- the rest as a part
part-rest : (i j : ℕ) (xs ys : List ℕ) → length xs ≡ i → i + length ys ≡ j → between i j (xs ++ ys) ≡ ys
part-rest i j xs ys start end =
    ap (take (j - i)) (drop_at xs ys i start) ∙ take_all (j - i) ys (omega arith)

-- what stands before a replaced part
part-before : (a i j : ℕ) (xs ys : List ℕ) → j ≤ a → a ≤ length xs → between i j (put_mid a 512 xs ys) ≡ between i j xs
part-before a i j xs ys before inside =
    between_is (put_mid a 512 xs ys) i j
    ∙ ap (drop i) (take-put_mid_below a 512 xs ys j before inside) ∙ sym (between_is xs i j)

-- what stands after a replaced part
part-after : (a i j : ℕ) (xs ys : List ℕ) → a + 512 ≤ i → a ≤ length xs → length ys ≡ 512 →
    between i j (put_mid a 512 xs ys) ≡ between i j xs
part-after a i j xs ys after inside size = ap (take (j - i)) (drop-put_mid a 512 xs ys i after inside size)

-- how many bytes there are after a part was replaced
length-put_mid : (a : ℕ) (xs ys : List ℕ) → a + 512 ≤ length xs → length ys ≡ 512 →
    length (put_mid a 512 xs ys) ≡ length xs
length-put_mid a xs ys inside size = simp (length-append, length-take, length-drop, size) (omega arith)

-- the blocks before the last
push-front : (bytes block : List ℕ) (n k : ℕ) → length bytes ≡ 512 * n → k < n →
    get_or (blocks_in bytes n ++ block ∷ []) k [] ≡ block_in (bytes ++ block) k
push-front bytes block n k len below =
    get_or_append_left (blocks_in bytes n) (block ∷ []) [] k (rw (length-blocks_in bytes n) below)
    ∙ get_or-blocks_in bytes n k [] below ∙ sym (part-front (512 * k) (512 * k + 512) bytes block (omega arith))

-- the last block
push-last : (bytes block : List ℕ) (n : ℕ) → length bytes ≡ 512 * n → length block ≡ 512 →
    get_or (blocks_in bytes n ++ block ∷ []) n [] ≡ block_in (bytes ++ block) n
push-last bytes block n len whole =
    get_or_at (blocks_in bytes n) block [] [] n (length-blocks_in bytes n)
    ∙ sym (part-rest (512 * n) (512 * n + 512) bytes block len (omega arith))

-- one block more at the end
pub blocks_in-push : (bytes block : List ℕ) (n : ℕ) → length bytes ≡ 512 * n → length block ≡ 512 →
    blocks_in (bytes ++ block) (n + 1) ≡ blocks_in bytes n ++ block ∷ []
blocks_in-push bytes block n len whole =
    sym (blocks_in-by_each (bytes ++ block) (n + 1) (blocks_in bytes n ++ block ∷ [])
    (omega (arith, length-append (blocks_in bytes n) (block ∷ []), length-blocks_in bytes n))
    (below_more (λ k. get_or (blocks_in bytes n ++ block ∷ []) k [] ≡ block_in (bytes ++ block) k) n
    (λ k. push-front bytes block n k len) (push-last bytes block n len whole)))

-- each block after one was replaced
put-each : (bytes block : List ℕ) (n b k : ℕ) → b < n → 512 * n ≤ length bytes → length block ≡ 512 → k < n
    → get_or (set (blocks_in bytes n) b block) k [] ≡ block_in (put_mid (512 * b) 512 bytes block) k
put-each bytes block n b k below len whole here =
    elim (cases_lt k b) [
      | inl before ↦
          get_or-set_other (blocks_in bytes n) b k block [] (omega arith) ∙ get_or-blocks_in bytes n k [] here
          ∙ sym (part-before (512 * b) (512 * k) (512 * k + 512) bytes block (omega arith) (omega arith))
      | inr from ↦
          elim (cases_lt b k) [
            | inl after ↦
                get_or-set_other (blocks_in bytes n) b k block [] (omega arith) ∙ get_or-blocks_in bytes n k [] here
                ∙ sym (part-after (512 * b) (512 * k) (512 * k + 512) bytes block (omega arith) (omega arith) whole)
            | inr upto ↦
                let same : b ≡ k = omega arith in
                subst (λ j. get_or (set (blocks_in bytes n) b block) j []
                ≡ block_in (put_mid (512 * b) 512 bytes block) j) same
                (get_or-set_same (blocks_in bytes n) b block [] (rw (length-blocks_in bytes n) below)
                ∙ sym (between-put_mid (512 * b) 512 bytes block (512 * b + 512) (omega arith) (omega arith)))
          ]
    ]

-- one block replaced
pub blocks_in-put : (bytes block : List ℕ) (n b : ℕ) →
    b < n → 512 * n ≤ length bytes → length block ≡ 512 →
    blocks_in (put_mid (512 * b) 512 bytes block) n ≡ set (blocks_in bytes n) b block
blocks_in-put bytes block n b below len whole =
    sym (blocks_in-by_each (put_mid (512 * b) 512 bytes block) n (set (blocks_in bytes n) b block)
    (length-set (blocks_in bytes n) b block ∙ length-blocks_in bytes n)
    (λ k here. put-each bytes block n b k below len whole here))

-- how many whole blocks there are
pub length-blocks_of : (bytes : List ℕ) → length (blocks_of bytes) ≡ length bytes / 512
unfolding blocks_of
length-blocks_of bytes = length-blocks_in bytes (length bytes / 512)

-- the whole blocks where their number is known
pub blocks_of-counted : (bytes : List ℕ) (n : ℕ) → length bytes ≡ 512 * n → blocks_of bytes ≡ blocks_in bytes n
unfolding blocks_of
blocks_of-counted bytes n len = let same : length bytes / 512 ≡ n = omega arith in ap (blocks_in bytes) same

-- one of the whole blocks
pub get_or-blocks_of : (bytes : List ℕ) (b : ℕ) (d : List ℕ) → b < length (blocks_of bytes) →
    get_or (blocks_of bytes) b d ≡ block_in bytes b
unfolding blocks_of
get_or-blocks_of bytes b d below =
    get_or-blocks_in bytes (length bytes / 512) b d
    (omega (arith, length-blocks_in bytes (length bytes / 512)))

-- a whole block replaced
pub blocks_of-put : (bytes block : List ℕ) (b : ℕ) → b < length (blocks_of bytes) → length block ≡ 512
    → blocks_of (put_mid (512 * b) 512 bytes block) ≡ set (blocks_of bytes) b block
unfolding blocks_of
blocks_of-put bytes block b below whole =
    let inside : b < length bytes / 512 = omega (arith, length-blocks_in bytes (length bytes / 512)) in
    ap (λ n. blocks_in (put_mid (512 * b) 512 bytes block) (n / 512))
    (length-put_mid (512 * b) bytes block (omega arith) whole)
    ∙ blocks_in-put bytes block (length bytes / 512) b inside (omega arith) whole

-- a block has 512 bytes
length-block_in : (bytes : List ℕ) (b : ℕ) → b < length bytes / 512 → length (block_in bytes b) ≡ 512
length-block_in bytes b below = length-between bytes (512 * b) (512 * b + 512) (omega (arith, below)) ∙ omega arith

-- each block has 512 bytes
pub length-each_block : (bytes : List ℕ) (b : ℕ) → b < length (blocks_of bytes) →
    length (get_or (blocks_of bytes) b []) ≡ 512
length-each_block bytes b below =
    let few : b < length bytes / 512 = subst (λ n. b < n) (length-blocks_of bytes) below in
    ap length (get_or-blocks_of bytes b [] below) ∙ length-block_in bytes b few
