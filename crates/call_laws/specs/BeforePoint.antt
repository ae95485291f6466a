-- Where a piece asks a point, its objects end with the point's, and those before are the same in
-- every state.
use Rattle.std.specs.Prelude.{◌≡◌, ℕ, zero, suc, ◌-◌, List, [], ◌∷◌, ◌++◌, length, take, Option}
use Rattle.std.specs.Prelude.{Some, None, Result, Ok, Err}
use Rattle.std.proofs.Common.{arith, ap, ◌∙◌}
use Rattle.std.proofs.Math.Seq.{take-append_seam}
use Rattle.std.proofs.lemmas.List.{length-append}
use Rattle.kernel_model.specs.declared.Need.{Need}
use Rattle.kernel_model.specs.declared.Point.{Point}
use Rattle.kernel_model.specs.declared.Object.TheVariants.{OpenFile, Queue, Cache, Pol}
use Rattle.kernel_model.specs.declared.Refusal.{Refusal}
use Rattle.kernel_model.specs.declared.SysCall.{SysCall}
use Rattle.kernel_model.specs.declared.SysCall.TheVariants.{Yield, Read, Write}
use Rattle.kernel_model.specs.World.{World}
use Rattle.kernel_model.specs.Objects.{Objects, CacheValue}
use Rattle.kernel_model.specs.Policies.{next_process}
use Rattle.kernel_model.specs.Needs.{shared, exclusive, victim_needs, victim_ask, fetch_needs}
use Rattle.kernel_model.specs.Needs.{fetch_ask, candidate_for, file_block, ahead_block, slice_needs}
use Rattle.kernel_model.specs.Needs.{slice_ask, yield_needs, yield_ask, read_needs, read_ask}
use Rattle.kernel_model.specs.Needs.{piece_needs, piece_ask}
use Rattle.kernel_model.specs.Laws.{needs_of_point, before_point}

-- the objects of a read before those of the point that it asks
abbrev pub read_before : ℕ → (p fd : ℕ) → List Need
read_before zero p fd = exclusive (OpenFile p fd) ∷ exclusive Cache ∷ shared (Pol 1) ∷ []
read_before (suc zero) p fd = exclusive (OpenFile p fd) ∷ shared (Pol 0) ∷ []
read_before (suc (suc n)) p fd = exclusive (OpenFile p fd) ∷ exclusive Cache ∷ shared (Pol 1) ∷ []

-- the objects of a piece that asks a point before those of that point
abbrev pub piece_before : SysCall → (n p : ℕ) → List Need
piece_before Yield n p = exclusive Queue ∷ shared (Pol 2) ∷ []
piece_before (Read fd i off len) n p = read_before n p fd
piece_before (Write fd i off bytes) n p =
    shared (OpenFile p fd) ∷ exclusive Cache ∷ shared (Pol 1) ∷ []
piece_before c n p = []

-- the value, or another
abbrev or_else : Point → Option Point → Point
or_else a None = a
or_else a (Some b) = b

-- the objects of a fetch that asks
victim_ends : (s : Objects) (c : CacheValue) (b : ℕ) (x : Option ℕ) (a : Point) →
    victim_ask c b x ≡ Some a →
    victim_needs s.accounts c x ≡ shared (Pol 1) ∷ needs_of_point s a
victim_ends s c b None a e = cc
victim_ends s c b (Some f) a e =
    ap (λ o. shared (Pol 1) ∷ needs_of_point s (or_else a o)) e

-- the objects of a fetch that asks: the cache, the policy and the point's
fetch_ends : (v : World) (s : Objects) (r : Result ℕ Refusal) (a : Point) →
    fetch_ask v s.things r ≡ Some a →
    fetch_needs v s r ≡ exclusive Cache ∷ shared (Pol 1) ∷ needs_of_point s a
fetch_ends v s (Err why) a e = cc
fetch_ends v s (Ok b) a e =
    ap (λ ns. exclusive Cache ∷ ns)
    (victim_ends s s.things.cache b (candidate_for v (s.things.pol 1) s.things.cache b) a e)

-- the objects of a candidate for the processor are those of the point
slice_ends : (v : World) (s : Objects) (x : Option ℕ) (a : Point) →
    slice_ask v s.things x ≡ Some a → slice_needs s.accounts x ≡ needs_of_point s a
slice_ends v s None a e = cc
slice_ends v s (Some c) a e = ap (λ o. needs_of_point s (or_else a o)) e

-- the objects of a yield that asks
yield_ends : (n : ℕ) (v : World) (s : Objects) (p : ℕ) (a : Point) →
    yield_ask n v s.things ≡ Some a →
    yield_needs n s ≡ exclusive Queue ∷ shared (Pol 2) ∷ needs_of_point s a
yield_ends zero v s p a e = cc
yield_ends (suc n) v s p a e =
    ap (λ ns. exclusive Queue ∷ shared (Pol 2) ∷ ns)
    (slice_ends v s (next_process (s.things.pol 2) s.things.queue) a e)

-- the objects of a read that asks
read_ends : (n : ℕ) (v : World) (s : Objects) (p fd i off len : ℕ) (a : Point) →
    read_ask n v s.things p fd i off len ≡ Some a →
    read_needs n v s p fd i off len ≡ read_before n p fd ++ needs_of_point s a
read_ends zero v s p fd i off len a e =
    ap (λ ns. exclusive (OpenFile p fd) ∷ ns)
    (fetch_ends v s (file_block v (s.things.file p fd) i off len) a e)
read_ends (suc zero) v s p fd i off len a e =
    ap (λ o. exclusive (OpenFile p fd) ∷ shared (Pol 0) ∷ needs_of_point s (or_else a o)) e
read_ends (suc (suc n)) v s p fd i off len a e =
    ap (λ ns. exclusive (OpenFile p fd) ∷ ns)
    (fetch_ends v s (ahead_block v (s.things.file p fd)) a e)

-- a piece's objects end with those of its point
pub piece_ends : (c : SysCall) (n : ℕ) (v : World) (s : Objects) (p : ℕ) (a : Point) →
    piece_ask c n v s.things p ≡ Some a →
    piece_needs c n v s p ≡ piece_before c n p ++ needs_of_point s a
piece_ends Yield n v s p a e = yield_ends n v s p a e
piece_ends (Read fd i off len) n v s p a e = read_ends n v s p fd i off len a e
piece_ends (Write fd i off bytes) n v s p a e =
    ap (λ ns. shared (OpenFile p fd) ∷ ns)
    (fetch_ends v s (file_block v (s.things.file p fd) i off (length bytes)) a e)
piece_ends c n v s p a e = cc

-- what stands before the end of a list
pub front_of : (xs ys : List Need) → take (length (xs ++ ys) - length ys) (xs ++ ys) ≡ xs
front_of xs ys =
    let same : length (xs ++ ys) - length ys ≡ length xs = omega (arith, length-append xs ys) in
    ap (λ n. take n (xs ++ ys)) same ∙ take-append_seam xs ys

-- the objects before the point
pub piece_before_point : (c : SysCall) (n : ℕ) (v : World) (s : Objects) (p : ℕ) (a : Point) →
    piece_ask c n v s.things p ≡ Some a →
    before_point s a (piece_needs c n v s p) ≡ piece_before c n p
piece_before_point c n v s p a e =
    ap (λ ns. take (length ns - length (needs_of_point s a)) ns) (piece_ends c n v s p a e)
    ∙ front_of (piece_before c n p) (needs_of_point s a)
