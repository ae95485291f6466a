-- What one level holds goes to another.
use Rattle.std.proofs.Common.{◌≡◌, ◌<◌, ◌+◌, ℕ, length, drop, get_or, add-one, drop-cons, Bool}
use Rattle.std.proofs.Common.{true, false, cond, List, [], ◌∷◌, refl, sym, ap, ◌∙◌}
use Rattle.std.specs.Prelude.{find, Some}
use Rattle.std.proofs.Math.Path.{fun_ext}
use Rattle.kernel_model.specs.declared.Object.{Object}
use Rattle.kernel_model.specs.declared.Held.{Held}
use Rattle.kernel_model.specs.declared.Held.TheVariants.{Free, Shared, Exclusive}
use Rattle.kernel_model.specs.Objects.{same_object}
use Rattle.kernel_model.specs.SameObject.{same_object_is}
use Rattle.kernel_model.specs.Locks.{Touched, stronger, joined}
use Rattle.audit_levels.specs.declared.Touch.{Touch}
use Rattle.audit_levels.specs.Levels.{held_in, touched_of, held_at, joined_rows}

-- the stronger of a way and of the stronger of it and another is that
stronger_twice : (h g : Held) → stronger h (stronger h g) ≡ stronger h g
stronger_twice Free g = refl
stronger_twice Shared Free = refl
stronger_twice Shared Shared = refl
stronger_twice Shared Exclusive = refl
stronger_twice Exclusive g = refl

-- a row of these is of the object
abbrev pub is_among : Object → List Touch → Bool
is_among a [] = false
is_among a (r ∷ rs) = cond (same_object a r.object) true (is_among a rs)

-- the stronger way where the object is among the rows
abbrev pub joined_if : Bool → Held → Held → Held
joined_if b h g = cond b (stronger h g) g

-- an object is joined by the rows that it is among
joined_at : (t : Touched) (rs : List Touch) (u : Touched) (a : Object) →
    joined_rows t rs u a ≡ joined_if (is_among a rs) (t a) (u a)
joined_at t [] u a = refl
joined_at t (r ∷ rs) u a =
    by (same_object a r.object) refl
    (joined_at t rs (held_at r.object (stronger (t r.object) (u r.object)) u) a)
  where
    by : (b : Bool) → same_object a r.object ≡ b →
        joined_rows t rs (held_at r.object (stronger (t r.object) (u r.object)) u) a
        ≡ joined_if (is_among a rs) (t a)
        (cond (same_object a r.object) (stronger (t r.object) (u r.object)) (u a)) →
        joined_rows t rs (held_at r.object (stronger (t r.object) (u r.object)) u) a
        ≡ joined_if (cond (same_object a r.object) true (is_among a rs)) (t a) (u a)
    by true is rest =
        rest
        ∙ ap (λ (c : Bool). joined_if (is_among a rs) (t a)
        (cond c (stronger (t r.object) (u r.object)) (u a))) is
        ∙ sym (ap (λ (o : Object). joined_if (is_among a rs) (t a) (stronger (t o) (u o)))
        (same_object_is a r.object is))
        ∙ again (is_among a rs)
        ∙ sym (ap (λ (c : Bool). joined_if (cond c true (is_among a rs)) (t a) (u a)) is)
      where
        again : (c : Bool) → joined_if c (t a) (stronger (t a) (u a)) ≡ stronger (t a) (u a)
        again true = stronger_twice (t a) (u a)
        again false = refl
    by false is rest =
        rest
        ∙ ap (λ (c : Bool). joined_if (is_among a rs) (t a)
        (cond c (stronger (t r.object) (u r.object)) (u a))) is
        ∙ sym (ap (λ (c : Bool). joined_if (cond c true (is_among a rs)) (t a) (u a)) is)

-- an object that is among no row is free
free_elsewhere : (rs : List Touch) (a : Object) → is_among a rs ≡ false → touched_of rs a ≡ Free
free_elsewhere [] a none = refl
free_elsewhere (r ∷ rs) a none = by (same_object a r.object) none (free_elsewhere rs a)
  where
    by : (b : Bool) → cond b true (is_among a rs) ≡ false →
        (is_among a rs ≡ false → touched_of rs a ≡ Free) →
        held_in (cond b (Some r) (find (λ (x : Touch). same_object a x.object) rs)) ≡ Free
    by true off rest = cc
    by false off rest = rest off

-- one more row is joined
pub one_joined : (t : Touched) (rs : List Touch) (i : ℕ) (d : Touch) (u v x : Touched) → i < length rs →
    v ≡ held_at (get_or rs i d).object (stronger (t (get_or rs i d).object) (u (get_or rs i d).object)) u →
    joined_rows t (drop i rs) u ≡ x → joined_rows t (drop (i + 1) rs) v ≡ x
one_joined t rs i d u v x lt e rest =
    let more : drop i rs ≡ get_or rs i d ∷ drop (i + 1) rs = rw (add-one, drop-cons rs i d) in
    ap (joined_rows t (drop (i + 1) rs)) e
    ∙ sym (ap (λ (ss : List Touch). joined_rows t ss u) more)
    ∙ rest

-- all rows of a level join what it holds
pub joined_all : (rs : List Touch) (u : Touched) → joined_rows (touched_of rs) rs u ≡ joined (touched_of rs) u
joined_all rs u = fun_ext (λ a. joined_at (touched_of rs) rs u a ∙ by a (is_among a rs) refl)
  where
    by : (a : Object) (b : Bool) → is_among a rs ≡ b →
        joined_if b (touched_of rs a) (u a) ≡ stronger (touched_of rs a) (u a)
    by a true is = refl
    by a false is = sym (ap (λ (h : Held). stronger h (u a)) (free_elsewhere rs a is))
