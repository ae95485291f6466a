-- A memory in pages. Each has a place among the pages that were written; at place 0 stands a page of zeros,
-- for all that weren't.
use Rattle.std.specs.Prelude.{◌≡◌, ℕ, zero, suc, ◌+◌, ◌-◌, ◌*◌, ◌%◌, ◌<◌, ◌≤◌, ◌⊎◌, List, [], ◌∷◌}
use Rattle.std.specs.Prelude.{◌++◌, length, take, drop, replicate, slice_index, slice_range}

-- these bytes in place of those from a on
abbrev pub put : ℕ → List ℕ → List ℕ → List ℕ
put a from xs = take a xs ++ from ++ drop (a + length from) xs

-- zeros in place of the bytes from one address to another
abbrev pub cleared : ℕ → ℕ → List ℕ → List ℕ
cleared from to xs = take from xs ++ replicate (to - from) 0 ++ drop to xs

-- Bytes from an address on, so many, lie in one page.
pub record IsPiece (a count : ℕ) : Type 0 where
  pub inside : a < 524288
  pub page : a % 4096 + count ≤ 4096

-- The bytes from one address to another lie in one page.
pub record IsPart (from to : ℕ) : Type 0 where
  pub order : from ≤ to
  pub piece : IsPiece from (to - from)

-- A memory changes so, and has all its bytes.
pub record Becomes (change : List ℕ → List ℕ) (old new : List ℕ) : Type 0 where
  pub value : new ≡ change old
  pub size : length new ≡ 524288

-- the page at a place
abbrev pub page_at : List ℕ → ℕ → List ℕ
page_at bytes k = slice_range bytes (4096 * k) (4096 * k + 4096)

-- the memory that the pages at these places make, one behind the other
abbrev pub memory_of : List ℕ → List ℕ → List ℕ
memory_of [] bytes = []
memory_of (k ∷ ks) bytes = page_at bytes k ++ memory_of ks bytes

-- how many of these places aren't place 0
abbrev pub given : List ℕ → ℕ
given [] = 0
given (zero ∷ ks) = given ks
given (suc k ∷ ks) = suc (given ks)

-- The places of the 128 pages: no page but that of zeros stands for two, and there are as many as were given places.
pub record ArePages (places bytes : List ℕ) : Type 0 where
  pub many : length places ≡ 128
  pub size : length bytes ≡ 4096 * suc (given places)
  pub zeros : page_at bytes 0 ≡ replicate 4096 0
  pub inside : (i : ℕ) → 4096 * slice_index places i + 4096 ≤ length bytes
  pub apart : (i j : ℕ) → slice_index places i ≡ slice_index places j →
      (slice_index places i ≡ 0) ⊎ (i ≡ j)

-- The pages, and how many bytes there is memory for: those of all pages, and the page of zeros.
pub record IsSpace (places bytes : List ℕ) (room : ℕ) : Type 0 where
  pub sound : ArePages places bytes
  pub taken : room ≡ 528384
