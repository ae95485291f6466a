-- The blocks of the sample disk.
use Rattle.std.proofs.Common.{◌≡◌, ℕ, ◌+◌, ◌==◌, Bool, true, false, List, [], ◌∷◌, ◌++◌, map, refl, sym, ap, ◌∙◌, arith}
use Rattle.std.specs.List.{range_with_len}
use Rattle.std.proofs.lemmas.List.FromFn.{map-range_with_len_more}
use Rattle.kernel_model.specs.Directory.{sample_byte, sample_block, sample_directory}

-- one byte more
pub byte_more : (b i x : ℕ) (xs ys : List ℕ) → xs ≡ map (sample_byte b) (range_with_len 0 i) →
    ys ≡ xs ++ x ∷ [] → x ≡ sample_byte b i → ys ≡ map (sample_byte b) (range_with_len 0 (i + 1))
byte_more b i x xs ys so_far added is =
    let from_zero : 0 + i ≡ i = omega arith in
    added ∙ ap (λ (zs : List ℕ). zs ++ x ∷ []) so_far
    ∙ ap (λ (n : ℕ). map (sample_byte b) (range_with_len 0 i) ++ n ∷ []) is
    ∙ sym (map-range_with_len_more (sample_byte b) 0 i i from_zero)

-- the second of two, by a test that fails
second : (t : Bool) (xs ys : List ℕ) → t ≡ false → elim t [ true ↦ xs | false ↦ ys ] ≡ ys
second true xs ys fails = absurd (cc)
second false xs ys fails = refl

-- a block but the first
pub block_later : (b n : ℕ) → (b == 0) ≡ false → n ≡ 512 →
    map (sample_byte b) (range_with_len 0 n) ≡ sample_block b
unfolding sample_block
block_later b n later size =
    ap (λ (k : ℕ). map (sample_byte b) (range_with_len 0 k)) size
    ∙ sym (second (b == 0) sample_directory (map (sample_byte b) (range_with_len 0 512)) later)

-- the first block
pub block_first : (b : ℕ) → b ≡ 0 → sample_directory ≡ sample_block b
unfolding sample_block
block_first b first = rw first refl
