-- How many readings of a word records stand for.
use Rattle.std.proofs.Common.{◌≡◌, ℕ, zero, suc, ◌+◌, ◌<◌, ◌≤◌, Bool, true, false, cond, List, []}
use Rattle.std.proofs.Common.{◌∷◌, ◌++◌, length, Some, refl, sym, ap, ◌⊎◌, inl, inr, arith}
use Rattle.std.specs.Prelude.{◌==◌, slice_get, slice_set}
use Rattle.std.proofs.lemmas.Bool.{eqb-true, eq-eqb, ne_eqb, or_parts}
use Rattle.vino_host.specs.declared.Record.{Record}
use Rattle.vino_host.specs.declared.Word.{Word}
use Rattle.vino_host.specs.Tables.{reading_of, readings, record_of}
use Rattle.host_laws.specs.Alone.{HasRecord}
use Rattle.host_laws.specs.Histories.{touches}

pub get_same : (xs : List Word) (i : ℕ) (w v : Word) → slice_get xs i ≡ Some w → slice_get (slice_set xs i v) i ≡ Some v
get_same [] i w v h = cc
get_same (x ∷ xs) zero w v h = refl
get_same (x ∷ xs) (suc i) w v h = get_same xs i w v h

one_most : (a b : Bool) → cond a (cond b 0 1) 0 ≤ 1
one_most true true = omega arith
one_most true false = omega arith
one_most false b = omega arith

pub readings_most : (k : ℕ) (rs : List Record) → readings k rs ≤ length rs
readings_most k [] = omega arith
readings_most k (r ∷ rs) =
    let one = one_most (r.place == k) (r.id == 1) in
    let rest = readings_most k rs in omega (arith, one, rest)

pub readings_has : (k : ℕ) (rs : List Record) → 0 < readings k rs → HasRecord k rs
readings_has k [] h = absurd (omega (arith, h))
readings_has k (r ∷ rs) h = by_place (r.place == k) refl (λ g. readings_has k rs g) h
  where
    by_place : (b : Bool) → (r.place == k) ≡ b → (0 < readings k rs → HasRecord k rs) →
        0 < cond b (reading_of r) 0 + readings k rs → (r.place ≡ k) ⊎ HasRecord k rs
    by_place true e rest h = inl (eqb-true r.place k e)
    by_place false e rest h = let more : 0 < readings k rs = omega (arith, h) in inr (rest more)

readings_more : (k : ℕ) (rs more : List Record) → readings k (rs ++ more) ≡ readings k rs + readings k more
readings_more k [] more = omega arith
readings_more k (r ∷ rs) more = let rest = readings_more k rs more in omega (arith, rest)

pub readings_last : (id k : ℕ) (w : Word) (rs : List Record) →
    readings k (rs ++ record_of id k w ∷ []) ≡ readings k rs + cond (id == 1) 0 1
readings_last id k w rs =
    let more = readings_more k rs (record_of id k w ∷ []) in
    let one : readings k (record_of id k w ∷ []) ≡ cond (id == 1) 0 1 + 0 =
    ap (λ (b : Bool). cond b (cond (id == 1) 0 1) 0 + 0) (eq-eqb k k refl) in omega (arith, more, one)

pub readings_beside : (id k : ℕ) (w : Word) (rs : List Record) (j : ℕ) → (j ≡ k → ⊥) →
    readings j (rs ++ record_of id k w ∷ []) ≡ readings j rs
readings_beside id k w rs j other =
    let more = readings_more j rs (record_of id k w ∷ []) in
    let one : readings j (record_of id k w ∷ []) ≡ 0 + 0 =
    ap (λ (b : Bool). cond b (cond (id == 1) 0 1) 0 + 0) (ne_eqb k j (λ e. other (sym e))) in omega (arith, more, one)

-- words without a record aren't read
pub readings_none : (k : ℕ) (rs : List Record) → touches rs k ≡ false → readings k rs ≡ 0
readings_none k [] h = refl
readings_none k (r ∷ rs) h =
    let parts = or_parts (r.place == k) (touches rs k) h in
    let one : cond (r.place == k) (reading_of r) 0 ≡ 0 = ap (λ (b : Bool). cond b (reading_of r) 0) parts.0 in
    let rest = readings_none k rs parts.1 in omega (arith, one, rest)
