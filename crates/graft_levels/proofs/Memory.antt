-- Bytes of memory that stay, and what is seen of them.
use Rattle.std.proofs.Common.{◌≡◌, ℕ, zero, suc, ◌+◌, ◌-◌, ◌*◌, ◌<◌, ◌≤◌, ◌&&◌, Bool, true, false}
use Rattle.std.proofs.Common.{cond, nat_le, nat_lt, List, [], ◌∷◌, ◌++◌, length, replicate, take}
use Rattle.std.proofs.Common.{drop, slice_index, Option, Some, None, arith, refl, sym, ◌∙◌, ap}
use Rattle.std.proofs.Common.{inl, inr, ◌⊎◌, length-append, length-drop}
use Rattle.std.proofs.Math.Path.{fun_ext}
use Rattle.std.proofs.lemmas.Bool.Decides.{nat_tests}
use Rattle.std.proofs.lemmas.List.{get_or-drop, get_or_append_left, get_or-append_right}
use Rattle.std.proofs.lemmas.List.{get_or-replicate, length-replicate, length-take-le, get_or_past}
use Rattle.kernel_model.specs.Machine.{Machine}
use Rattle.kernel_model.specs.Levels.{base_of}
use Rattle.kernel_model.specs.Runs.{on_segment}
use Rattle.kernel_model.specs.declared.FrameRow.{FrameRow}
use Rattle.kernel_model.specs.Objects.{CacheValue, FrameValue}
use Rattle.kernel_state.specs.Frames.{Frames, IsFrames, row_at}
use Rattle.kernel_state.specs.CacheViews.{frame_bytes, frame_value, cache_value}
use Rattle.graft_machine.specs.Cpu.{Cpu, machine_of, by_place}
use Rattle.graft_machine.specs.Contained.{IsOutside}

-- ---- bytes copied in

-- what stands where bytes were put
pub copied_within : (ram from : List ℕ) (at i : ℕ) → at ≤ length ram → i < length from →
    slice_index (take at ram ++ from ++ drop (at + length from) ram) (at + i) ≡ slice_index from i
copied_within ram from at i le lt =
    let front : length (take at ram) ≡ at = length-take-le at ram le in
    let both : length (take at ram ++ from) ≡ at + length from = length-append (take at ram) from
    ∙ ap (λ n. n + length from) front in
    get_or_append_left (take at ram ++ from) (drop (at + length from) ram) 0 (at + i) (omega (arith, both, lt))
    ∙ get_or-append_right (take at ram) from at (at + i) 0 front (omega arith)
    ∙ ap (λ n. slice_index from n) (omega arith)

-- and elsewhere
pub copied_apart : (ram from : List ℕ) (at a : ℕ) →
    at + length from ≤ length ram → (a < at) ⊎ (at + length from ≤ a) →
    slice_index (take at ram ++ from ++ drop (at + length from) ram) a ≡ slice_index ram a
copied_apart ram from at a le (inl below) =
    let front : length (take at ram) ≡ at = length-take-le at ram (omega (arith, le)) in
    let both : length (take at ram ++ from) ≡ at + length from = length-append (take at ram) from
    ∙ ap (λ n. n + length from) front in
    get_or_append_left (take at ram ++ from) (drop (at + length from) ram) 0 a (omega (arith, both, below))
    ∙ get_or_append_left (take at ram) from 0 a (omega (arith, front, below)) ∙ taken at ram a below
  where
    taken : (n : ℕ) (xs : List ℕ) (k : ℕ) → k < n → slice_index (take n xs) k ≡ slice_index xs k
    taken zero xs k lt = absurd (omega arith)
    taken (suc n) [] k lt = refl
    taken (suc n) (x ∷ xs) zero lt = refl
    taken (suc n) (x ∷ xs) (suc k) lt = taken n xs k (omega arith)
copied_apart ram from at a le (inr above) =
    let front : length (take at ram) ≡ at = length-take-le at ram (omega (arith, le)) in
    let both : length (take at ram ++ from) ≡ at + length from = length-append (take at ram) from
    ∙ ap (λ n. n + length from) front in
    get_or-append_right (take at ram ++ from) (drop (at + length from) ram) (at + length from) a 0 both above
    ∙ get_or-drop (at + length from) ram (a - (at + length from)) 0 ∙ ap (λ n. slice_index ram n) (omega (arith, above))

-- ---- zeros

-- so many bytes in place of others
put_over : (before bytes : List ℕ) (from to : ℕ) → from ≤ to → to ≤ length before →
    length bytes ≡ to - from → ((i : ℕ) → i < to - from → slice_index bytes i ≡ 0) →
    (a : ℕ) → slice_index (take from before ++ bytes ++ drop (from + length bytes) before) a
    ≡ cond (nat_le from a && nat_lt a to) 0 (slice_index before a)
put_over before bytes from to order le many zero_at a = by_place (nat_lt a from) (nat_lt a to) refl refl
  where
    by_place : (low high : Bool) → nat_lt a from ≡ low → nat_lt a to ≡ high →
        slice_index (take from before ++ bytes ++ drop (from + length bytes) before) a
        ≡ cond (nat_le from a && nat_lt a to) 0 (slice_index before a)
    by_place true high l h =
        let below : a < from = grind (arith, nat_tests, l) in
        let apart : (nat_le from a && nat_lt a to) ≡ false = grind (arith, nat_tests, below) in
        copied_apart before bytes from a (omega (arith, many, order, le)) (inl below)
        ∙ ap (λ b. cond b 0 (slice_index before a)) (sym apart)
    by_place false true l h =
        let above : from ≤ a = grind (arith, nat_tests, l) in
        let less : a < to = grind (arith, nat_tests, h) in
        let among : (nat_le from a && nat_lt a to) ≡ true = grind (arith, nat_tests, above, less) in
        let back : a ≡ from + (a - from) = omega (arith, above) in
        let small : a - from < to - from = omega (arith, above, less) in
        ap (λ n. slice_index (take from before ++ bytes ++ drop (from + length bytes) before) n) back
        ∙ copied_within before bytes from (a - from) (omega (arith, order, le)) (omega (arith, small, many))
        ∙ zero_at (a - from) small ∙ ap (λ b. cond b 0 (slice_index before a)) (sym among)
    by_place false false l h =
        let past : to ≤ a = grind (arith, nat_tests, h) in
        let apart : (nat_le from a && nat_lt a to) ≡ false = grind (arith, nat_tests, past) in
        copied_apart before bytes from a
        (omega (arith, many, order, le)) (inr (omega (arith, many, order, past)))
        ∙ ap (λ b. cond b 0 (slice_index before a)) (sym apart)

-- zeros from an address to another
pub cleared : (before next zeros : List ℕ) (from to : ℕ) → from ≤ to → to ≤ length before →
    zeros ≡ replicate (to - from) 0 → next ≡ take from before ++ zeros ++ drop to before →
    (a : ℕ) → slice_index next a ≡ cond (nat_le from a && nat_lt a to) 0 (slice_index before a)
cleared before next zeros from to order le zeros_are is a =
    let many : length zeros ≡ to - from = ap length zeros_are ∙ length-replicate (to - from) 0 in
    let end : to ≡ from + length zeros = omega (arith, many, order) in
    ap (λ xs. slice_index xs a) is ∙ ap (λ n. slice_index (take from before ++ zeros ++ drop n before) a) end
    ∙ put_over before zeros from to order le many (λ i small. ap (λ xs. slice_index xs i) zeros_are
    ∙ get_or-replicate (to - from) i 0 0 small) a

-- ---- frames

same_take : (n : ℕ) (xs ys : List ℕ) → n ≤ length xs → n ≤ length ys →
    ((i : ℕ) → i < n → slice_index xs i ≡ slice_index ys i) → take n xs ≡ take n ys
same_take zero xs ys a b same = refl
same_take (suc n) [] ys a b same = absurd (omega arith)
same_take (suc n) (x ∷ xs) [] a b same = absurd (omega arith)
same_take (suc n) (x ∷ xs) (y ∷ ys) a b same =
    let head : x ≡ y = same 0 (omega arith) in
    ap (λ z. z ∷ take n xs) head ∙ ap (λ zs. y ∷ zs) (same_take n xs ys
    (omega (arith, a)) (omega (arith, b)) (λ i lt. same (suc i) (omega (arith, lt))))

same_frame : (ram mem : List ℕ) (f : ℕ) → length ram ≡ 524288 → length mem ≡ 524288 →
    f < 64 → ((a : ℕ) → a < 262144 → slice_index mem a ≡ slice_index ram a) →
    frame_bytes mem f ≡ frame_bytes ram f
same_frame ram mem f size mem_size less same =
    let gap : 512 * f + 512 - 512 * f ≡ 512 = omega arith in
    same_take (512 * f + 512 - 512 * f) (drop (512 * f) mem) (drop (512 * f) ram)
    (omega (arith, gap, length-drop (512 * f) mem, mem_size, less))
    (omega (arith, gap, length-drop (512 * f) ram, size, less))
    (λ i lt. get_or-drop (512 * f) mem i 0 ∙ same (512 * f + i) (omega (arith, gap, lt, less))
    ∙ sym (get_or-drop (512 * f) ram i 0))

-- where the bytes of the frames are the same, the cache is
pub same_cache : (c : Frames) (ram mem : List ℕ) → IsFrames c → length ram ≡ 524288 →
    length mem ≡ 524288 → ((a : ℕ) → a < 262144 → slice_index mem a ≡ slice_index ram a) →
    cache_value c mem ≡ cache_value c ram
same_cache c ram mem h size mem_size same =
    ap (λ (f : ℕ → Option FrameValue). let v : CacheValue = record { frame = f; lru = c.order } in
    v) (fun_ext (λ f. by_row f (row_at c.rows f) refl))
  where
    by_row : (f : ℕ) (r : Option FrameRow) → row_at c.rows f ≡ r → frame_value mem f r ≡ frame_value ram f r
    by_row f None is = refl
    by_row f (Some r) is =
        let less : f < 64 = by_test (nat_lt f 64) refl in
        ap (λ bs. Some (record {
          owner = r.owner;
          block = r.block;
          dirty = r.dirty;
          mark = r.mark;
          bytes = bs;
        })) (same_frame ram mem f size mem_size less same)
      where
        by_test : (b : Bool) → nat_lt f 64 ≡ b → f < 64
        by_test true e = grind (arith, nat_tests, e)
        by_test false e =
            let ge : 64 ≤ f = grind (arith, nat_tests, e) in
            let past = get_or_past c.rows f None (omega (arith, h.rows, ge)) in
            absurd (grind (arith, past, is))

-- ---- segments

-- where one segment alone changed, another is the same
pub same_segment : (p d e : ℕ) (ram mem : List ℕ) (cpu : Cpu) →
    ((a : ℕ) → IsOutside (4 * p + d) a → slice_index mem a ≡ slice_index ram a) → e < d →
    on_segment (base_of p e) (machine_of cpu mem) ≡ on_segment (base_of p e) (machine_of cpu ram)
same_segment p d e ram mem cpu same lt =
    ap (λ (f : ℕ → ℕ). let m : Machine = record {
      regs = by_place cpu.regs;
      pc = cpu.pc;
      memory = f;
    } in m) (fun_ext (λ i. at_place i (nat_lt i 4096) refl))
  where
    at_place : (i : ℕ) (b : Bool) → nat_lt i 4096 ≡ b →
        cond b (slice_index mem (base_of p e + i)) 0 ≡ cond b (slice_index ram (base_of p e + i)) 0
    at_place i true below =
        let less : i < 4096 = grind (arith, nat_tests, below) in
        same (base_of p e + i) (inl (omega (arith, lt, less)))
    at_place i false below = refl

-- data bytes, and zeros behind them
pub filled_within : (before ram next body : List ℕ) (base i : ℕ) → base + 4096 ≤ length before →
    length body ≤ 4096 → i < 4096 →
    ram ≡ take base before ++ body ++ drop (base + length body) before →
    ((a : ℕ) → slice_index next a ≡ cond (nat_le (base + length body) a && nat_lt a (base + 4096)) 0
    (slice_index ram a)) → slice_index next (base + i) ≡ slice_index body i
filled_within before ram next body base i le few lt is cleared =
    cleared (base + i) ∙ by_place (nat_lt i (length body)) refl
  where
    by_place : (b : Bool) → nat_lt i (length body) ≡ b →
        cond (nat_le (base + length body) (base + i) && nat_lt (base + i) (base + 4096)) 0
        (slice_index ram (base + i)) ≡ slice_index body i
    by_place true e =
        let below : i < length body = grind (arith, nat_tests, e) in
        let apart : (nat_le (base + length body) (base + i) && nat_lt (base + i) (base + 4096)) ≡ false =
        grind (arith, nat_tests, below) in
        ap (λ b. cond b 0 (slice_index ram (base + i))) apart ∙ ap (λ xs. slice_index xs (base + i)) is
        ∙ copied_within before body base i (omega (arith, le)) below
    by_place false e =
        let past : length body ≤ i = grind (arith, nat_tests, e) in
        let among : (nat_le (base + length body) (base + i) && nat_lt (base + i) (base + 4096)) ≡ true =
        grind (arith, nat_tests, past, lt) in
        ap (λ b. cond b 0 (slice_index ram (base + i))) among ∙ sym (get_or_past body i 0 past)

pub filled_apart : (before ram next body : List ℕ) (base a : ℕ) → base + 4096 ≤ length before →
    length body ≤ 4096 → (a < base) ⊎ (base + 4096 ≤ a) →
    ram ≡ take base before ++ body ++ drop (base + length body) before →
    ((b : ℕ) → slice_index next b ≡ cond (nat_le (base + length body) b && nat_lt b (base + 4096)) 0
    (slice_index ram b)) → slice_index next a ≡ slice_index before a
filled_apart before ram next body base a le few (inl below) is cleared =
    let apart : (nat_le (base + length body) a && nat_lt a (base + 4096)) ≡ false = grind (arith, nat_tests, below) in
    cleared a ∙ ap (λ b. cond b 0 (slice_index ram a)) apart ∙ ap (λ xs. slice_index xs a) is
    ∙ copied_apart before body base a (omega (arith, le, few)) (inl below)
filled_apart before ram next body base a le few (inr above) is cleared =
    let apart : (nat_le (base + length body) a && nat_lt a (base + 4096)) ≡ false = grind (arith, nat_tests, above) in
    cleared a ∙ ap (λ b. cond b 0 (slice_index ram a)) apart ∙ ap (λ xs. slice_index xs a) is
    ∙ copied_apart before body base a (omega (arith, le, few)) (inr (omega (arith, few, above)))
