-- Finding a frame.
use Rattle.std.proofs.Common.{◌≡◌, ℕ, ◌<◌, ◌≤◌, Bool, true, false, List, length, get_or, take}
use Rattle.std.proofs.Common.{Option, Some, None, refl, arith, sym, ◌∙◌, ap, subst}
use Rattle.std.specs.List.{count_by, position, position_or_len}
use Rattle.std.specs.Option.{is_some, is_none}
use Rattle.std.proofs.lemmas.Bool.Decides.{nat_tests}
use Rattle.std.proofs.lemmas.Grind.{common_steps}
use Rattle.std.proofs.lemmas.List.Sums.{position_or_len_is}
use Rattle.kernel_data.specs.declared.FrameRow.{FrameRow}
use Rattle.buffer_cache.specs.Frames.{Frames, IsFrames, row_at, holds}
use Rattle.buffer_cache.specs.BlockIndex.{IsIndex}
use Rattle.buffer_cache.proofs.Rows.{all-used}

-- how many slots lead to a frame
abbrev filled : List (Option ℕ) → ℕ
filled index = count_by (λ (s : Option ℕ). is_some s) index

-- the first place that passes
pub position-found : (test : Option FrameRow → Bool) (rows : List (Option FrameRow)) (f : ℕ) →
    f < length rows → test (row_at rows f) ≡ true
    → ((k : ℕ) → k < f → test (row_at rows k) ≡ false) → position test rows ≡ Some f
position-found test rows f inside passes before =
    let place : position_or_len test rows ≡ f =
    position_or_len_is test rows f None (omega arith) before (λ _. passes) in
    rw place (grind (arith, nat_tests))

-- no place passes
pub position-missing : (test : Option FrameRow → Bool) (rows : List (Option FrameRow)) →
    ((k : ℕ) → k < length rows → test (row_at rows k) ≡ false) → position test rows ≡ None
position-missing test rows fails =
    let place : position_or_len test rows ≡ length rows = position_or_len_is test rows (length rows)
    None (omega arith) fails (λ past. absurd (omega arith)) in
    rw place (grind (arith, nat_tests))

-- a row in use is not free
used-not-free : (a : Option FrameRow) → is_some a ≡ true → is_none a ≡ false
used-not-free None some = absurd (cc)
used-not-free (Some x) some = refl

-- where the order of use is as long as there are frames, none of them is free
pub none-free : (c : Frames) → IsFrames c → length c.order ≡ c.count →
    position (λ (r : Option FrameRow). is_none r) (take c.count c.rows) ≡ None
none-free c h whole =
    position-missing (λ (r : Option FrameRow). is_none r) (take c.count c.rows) (λ k below.
    let short : length (take c.count c.rows) ≤ c.count = grind (arith, common_steps) in
    let inside : k < c.count = omega (arith, below, short) in
    let same : row_at (take c.count c.rows) k ≡ row_at c.rows k = grind (arith, common_steps) in
    ap (λ (o : Option FrameRow). is_none o) same ∙ used-not-free (row_at c.rows k) (all-used c h whole k inside))

-- a frame holds a block where its row says so
pub holds-row : (b : ℕ) (a : Option FrameRow) → holds b a ≡ true → (x : FrameRow) × (a ≡ Some x) × (x.block ≡ b)
holds-row b None does = absurd (cc)
holds-row b (Some x) does = (x, refl, grind (arith, nat_tests))

-- a frame that holds a block is the only one
pub found : (rows : List (Option FrameRow)) (b f : ℕ) → ((f g : ℕ) (x y : FrameRow) →
    row_at rows f ≡ Some x → row_at rows g ≡ Some y → x.block ≡ y.block → f ≡ g)
    → f < length rows → holds b (row_at rows f) ≡ true → position (holds b) rows ≡ Some f
found rows b f one inside does =
    let here = holds-row b (row_at rows f) does in
    position-found (holds b) rows f inside does (λ k below.
    elim (holds b (row_at rows k)) as (λ t. holds b (row_at rows k) ≡ t → t ≡ false) [
      | true ↦ λ other. let there = holds-row b (row_at rows k) other in
          let same : k ≡ f = one k f there.0 here.0 there.1 here.1 (there.2 ∙ sym here.2) in absurd (omega arith)
      | false ↦ λ _. refl
    ] refl)

-- where the entry of a block doesn't lead to a frame that holds it, none does
pub missing-each : (index : List ℕ) (rows : List (Option FrameRow)) (b : ℕ) → IsIndex index rows →
    (b < 4096 → holds b (row_at rows (get_or index b 0)) ≡ false)
    → (f : ℕ) → holds b (row_at rows f) ≡ false
missing-each index rows b h vain f =
    elim (holds b (row_at rows f)) as (λ t. holds b (row_at rows f) ≡ t → t ≡ false) [
      | true ↦ λ does. let there = holds-row b (row_at rows f) does in
          let below : b < 4096 = subst (λ c. c < 4096) there.2 (h.below f there.0 there.1) in
          let leads : get_or index b 0 ≡ f = subst (λ c. get_or index c 0 ≡ f) there.2 (h.leads f there.0 there.1) in
          sym does ∙ subst (λ g. holds b (row_at rows g) ≡ false) leads (vain below)
      | false ↦ λ _. refl
    ] refl

-- then there is no first frame that holds it
pub missing : (index : List ℕ) (rows : List (Option FrameRow)) (b : ℕ) → IsIndex index rows →
    (b < 4096 → holds b (row_at rows (get_or index b 0)) ≡ false)
    → position (holds b) rows ≡ None
missing index rows b h vain = position-missing (holds b) rows (λ f _. missing-each index rows b h vain f)
