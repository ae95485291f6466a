-- A range compared with bytes from a place on.
use Rattle.std.proofs.Common.{◌≡◌, ℕ, ◌+◌, ◌-◌, ◌*◌, ◌≤◌, Bool, List, ◌++◌, length, take, drop, arith, ◌∙◌, ap, sym}
use Rattle.std.proofs.Math.Seq.{take-add}
use Rattle.std.proofs.lemmas.List.{length-take-le, length-drop, take_all}
use Rattle.std.specs.Prelude.{slice_range}
use Rattle.script_model.specs.World.{same_bytes}
use Rattle.lab_levels.specs.Outside.{same_between}

-- where a range ends
range_end : (xs : List ℕ) (a b : ℕ) → a ≤ b → b ≤ length xs → a + length (slice_range xs a b) ≡ b
range_end xs a b order inside =
    let long = length-take-le (b - a) (drop a xs) (let e = length-drop a xs in omega (arith, e, order, inside)) in
    omega (arith, long, order)

pub has_range : (before after : List ℕ) (a b : ℕ) (found : Bool) → a ≤ b → b ≤ length before →
    found ≡ same_bytes (slice_range after a (a + length (slice_range before a b)))
    (slice_range before a b) → found ≡ same_between a b before after
has_range before after a b found order inside is =
    is ∙ ap (λ n. same_bytes (slice_range after a n) (slice_range before a b)) (range_end before a b order inside)

-- a page more of a memory
pub page_more : (kept memory : List ℕ) (page : ℕ) → kept ≡ take (4096 * page) memory →
    kept ++ slice_range memory (4096 * page) (4096 * page + 4096) ≡ take (4096 * (page + 1)) memory
page_more kept memory page is =
    let size : (4096 * page + 4096) - 4096 * page ≡ 4096 = omega arith in
    let next : 4096 * page + 4096 ≡ 4096 * (page + 1) = omega arith in
    ap (λ k. k ++ slice_range memory (4096 * page) (4096 * page + 4096)) is
    ∙ ap (λ n. take (4096 * page) memory ++ take n (drop (4096 * page) memory)) size
    ∙ sym (take-add (4096 * page) 4096 memory)
    ∙ ap (λ n. take n memory) next

-- all pages
pub all_pages : (kept memory : List ℕ) (n : ℕ) → length memory ≤ n → kept ≡ take n memory → kept ≡ memory
all_pages kept memory n few is = is ∙ take_all n memory few
