-- The blocks of the sample disk.
use Rattle.std.proofs.Common.{◌≡◌, ℕ, ◌+◌, ◌*◌, ◌<◌, ◌==◌, Bool, true, false, List, [], ◌∷◌, ◌++◌}
use Rattle.std.proofs.Common.{length, map, get_or, refl, arith, sym, ◌∙◌, ap, length-append}
use Rattle.std.specs.List.{range_with_len}
use Rattle.std.proofs.lemmas.Bool.Decides.{nat_tests}
use Rattle.std.proofs.lemmas.List.FromFn.{fill_by_all, length-map-range_with_len, map-range_with_len_more}
use Rattle.kernel_data.specs.Directory.{sample_directory, sample_block, sample_byte}
use Rattle.mem_disk.specs.DiskState.{blocks_in}
use Rattle.mem_disk.proofs.Blocks.{blocks_in-push, blocks_in-none}

-- the second of two, by a test that fails
second : (t : Bool) (xs ys : List ℕ) → t ≡ false → elim t [ true ↦ xs | false ↦ ys ] ≡ ys
second true xs ys fails = absurd (cc)
second false xs ys fails = refl

-- a block but the first
pub sample_block-later : (b n : ℕ) → 0 < b → n ≡ 512 → map (sample_byte b) (range_with_len 0 n) ≡ sample_block b
unfolding sample_block
sample_block-later b n later size =
    let fails : (b == 0) ≡ false = grind (arith, nat_tests) in
    ap (λ k. map (sample_byte b) (range_with_len 0 k)) size
    ∙ sym (second (b == 0) sample_directory (map (sample_byte b) (range_with_len 0 512)) fails)

-- the first block
pub sample_block-first : sample_block 0 ≡ sample_directory
unfolding sample_block
sample_block-first = refl

-- how many bytes the directory has
pub length-sample_directory : length sample_directory ≡ 512
unfolding sample_directory
length-sample_directory = refl

-- a block but the first is told by its bytes
pub sample_block-by_each : (b : ℕ) (block : List ℕ) → 0 < b → length block ≡ 512 →
    ((k : ℕ) → k < 512 → get_or block k 0 ≡ sample_byte b k) → block ≡ sample_block b
sample_block-by_each b block later size each =
    fill_by_all (sample_byte b) block 512 0 size each ∙ sample_block-later b 512 later refl

-- the directory alone
pub first-block : (bytes : List ℕ) → bytes ≡ sample_directory → blocks_in bytes 1 ≡ sample_block 0 ∷ []
first-block bytes is =
    ap (λ xs. blocks_in xs 1) is ∙ blocks_in-push [] sample_directory 0 refl length-sample_directory
    ∙ ap (λ xs. xs ++ sample_directory ∷ []) (blocks_in-none []) ∙ ap (λ x. x ∷ []) (sym sample_block-first)

-- how many bytes a block but the first has
pub length-sample_block : (b : ℕ) → 0 < b → length (sample_block b) ≡ 512
length-sample_block b later =
    ap length (sym (sample_block-later b 512 later refl))
    ∙ length-map-range_with_len (sample_byte b) 0 512

-- one block more
pub more-blocks : (bytes now : List ℕ) (b : ℕ) → 0 < b → length bytes ≡ 512 * b → now ≡ bytes ++ sample_block b
    → blocks_in bytes b ≡ map sample_block (range_with_len 0 b) →
    blocks_in now (b + 1) ≡ map sample_block (range_with_len 0 (b + 1))
more-blocks bytes now b later len after before =
    ap (λ xs. blocks_in xs (b + 1)) after ∙ blocks_in-push bytes (sample_block b) b len (length-sample_block b later)
    ∙ ap (λ xs. xs ++ sample_block b ∷ []) before ∙ sym (map-range_with_len_more sample_block 0 b b (omega arith))

-- how many bytes there are with one block more
pub more-bytes : (bytes now : List ℕ) (b : ℕ) → 0 < b → length bytes ≡ 512 * b →
    now ≡ bytes ++ sample_block b → length now ≡ 512 * (b + 1)
more-bytes bytes now b later len after =
    omega
    (arith, ap length after, length-append bytes (sample_block b), length-sample_block b later)
