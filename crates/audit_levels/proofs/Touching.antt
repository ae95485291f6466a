-- Rows of objects found, changed and added.
use Rattle.std.proofs.Common.{◌≡◌, ◌<◌, ◌≤◌, suc, Bool, true, false, cond, List, [], ◌∷◌, ◌++◌}
use Rattle.std.proofs.Common.{length, Some, arith, refl, sym, ap, ◌∙◌, subst}
use Rattle.std.specs.Prelude.{find, slice_set, slice_index_or}
use Rattle.std.proofs.Math.Path.{fun_ext}
use Rattle.std.proofs.lemmas.Bool.{true≢false}
use Rattle.kernel_model.specs.declared.Object.{Object}
use Rattle.kernel_model.specs.declared.Held.{Held}
use Rattle.kernel_model.specs.declared.Held.TheVariants.{Free}
use Rattle.kernel_model.specs.Objects.{same_object}
use Rattle.kernel_model.specs.SameObject.{same_object_is}
use Rattle.audit_levels.specs.declared.Touch.{Touch}
use Rattle.audit_levels.specs.Levels.{held_in, touched_of, touches_before, held_at}

-- a row of an object
abbrev pub row : Object → Held → Touch
row o h = record { object = o; held = h }

-- how the first row holds, or those behind it
abbrev pub ahead : (b : Bool) → Touch → List Touch → Object → Held
ahead b t ts o = held_in (cond b (Some t) (find (λ (x : Touch). same_object o x.object) ts))

-- ---- how an object is held

pub held_there : (e : Touch) (ts : List Touch) (o : Object) → touches_before o ts < length ts →
    (slice_index_or ts (touches_before o ts) e).held ≡ touched_of ts o
held_there e [] o h = absurd (omega (arith, h))
held_there e (t ∷ ts) o h = by (same_object o t.object) refl (λ less. held_there e ts o less)
  where
    by : (b : Bool) → same_object o t.object ≡ b → (touches_before o ts < length ts →
        (slice_index_or ts (touches_before o ts) e).held ≡ touched_of ts o) →
        (slice_index_or (t ∷ ts) (touches_before o (t ∷ ts)) e).held ≡ touched_of (t ∷ ts) o
    by true is rest =
        ap (λ (b : Bool). (slice_index_or (t ∷ ts) (cond b 0 (suc (touches_before o ts))) e).held)
        is ∙ sym (ap (λ (b : Bool). ahead b t ts o) is)
    by false is rest =
        ap (λ (b : Bool). (slice_index_or (t ∷ ts) (cond b 0 (suc (touches_before o ts))) e).held) is
        ∙ rest (let less : suc (touches_before o ts) < suc (length ts) =
        subst (λ (b : Bool). cond b 0 (suc (touches_before o ts)) < suc (length ts)) is h in
        omega (arith, less))
        ∙ sym (ap (λ (b : Bool). ahead b t ts o) is)

pub held_nowhere : (ts : List Touch) (o : Object) → length ts ≤ touches_before o ts → Free ≡ touched_of ts o
held_nowhere [] o h = refl
held_nowhere (t ∷ ts) o h = by (same_object o t.object) refl (λ less. held_nowhere ts o less)
  where
    by : (b : Bool) → same_object o t.object ≡ b → (length ts ≤ touches_before o ts →
        Free ≡ touched_of ts o) → Free ≡ touched_of (t ∷ ts) o
    by true is rest =
        let none : suc (length ts) ≤ 0 =
        subst (λ (b : Bool). suc (length ts) ≤ cond b 0 (suc (touches_before o ts))) is h in
        absurd (omega (arith, none))
    by false is rest =
        let less : suc (length ts) ≤ suc (touches_before o ts) =
        subst (λ (b : Bool). suc (length ts) ≤ cond b 0 (suc (touches_before o ts))) is h in
        rest (omega (arith, less)) ∙ sym (ap (λ (b : Bool). ahead b t ts o) is)

-- ---- an object is held so

-- an object of two is one
one_object : (a o r : Object) → same_object o r ≡ false → same_object a r ≡ true → same_object a o ≡ false
one_object a o r other at = by (same_object a o) refl
  where
    by : (b : Bool) → same_object a o ≡ b → b ≡ false
    by false e = refl
    by true e =
        let same : same_object o r ≡ true = subst (λ (x : Object). same_object x r ≡ true)
        (same_object_is a o e) at in
        absurd (true≢false (sym same ∙ other))

-- the new row decides of its object alone
new_first : (o : Object) (h : Held) (ts : List Touch) (a : Object) →
    ahead (same_object a o) (row o h) ts a ≡ cond (same_object a o) h (touched_of ts a)
new_first o h ts a = by (same_object a o)
  where
    by : (b : Bool) → ahead b (row o h) ts a ≡ cond b h (touched_of ts a)
    by true = refl
    by false = refl

-- a row of this object told nothing of others
replaced : (o : Object) (h : Held) (t : Touch) (ts : List Touch) (a : Object) →
    same_object o t.object ≡ true →
    cond (same_object a o) h (touched_of ts a) ≡ cond (same_object a o) h (touched_of (t ∷ ts) a)
replaced o h t ts a is = by (same_object a o) refl
  where
    by : (b : Bool) → same_object a o ≡ b → cond b h (touched_of ts a) ≡ cond b h (touched_of (t ∷ ts) a)
    by true e = refl
    by false e = sym (ap (λ (b : Bool). ahead b t ts a)
        (sym (ap (λ (x : Object). same_object a x) (same_object_is o t.object is)) ∙ e))

-- a row of another object stays
kept : (o : Object) (h : Held) (t : Touch) (ts ss : List Touch) (a : Object) →
    same_object o t.object ≡ false →
    touched_of ss a ≡ cond (same_object a o) h (touched_of ts a) → touched_of (t ∷ ss) a
    ≡ cond (same_object a o) h (touched_of (t ∷ ts) a)
kept o h t ts ss a is rest = by (same_object a t.object) refl
  where
    by : (b : Bool) → same_object a t.object ≡ b → touched_of (t ∷ ss) a ≡ cond (same_object a o) h
        (touched_of (t ∷ ts) a)
    by true at =
        ap (λ (b : Bool). ahead b t ss a) at
        ∙ sym (ap (λ (b : Bool). cond b h t.held) (one_object a o t.object is at))
        ∙ sym (ap (λ (b : Bool). cond (same_object a o) h (ahead b t ts a)) at)
    by false at =
        ap (λ (b : Bool). ahead b t ss a) at ∙ rest
        ∙ sym (ap (λ (b : Bool). cond (same_object a o) h (ahead b t ts a)) at)

there_at : (o : Object) (h : Held) (ts : List Touch) (a : Object) → touches_before o ts < length ts →
    touched_of (slice_set ts (touches_before o ts) (row o h)) a ≡ held_at o h (touched_of ts) a
there_at o h [] a less = absurd (omega (arith, less))
there_at o h (t ∷ ts) a less = by (same_object o t.object) refl (λ l. there_at o h ts a l)
  where
    by : (b : Bool) → same_object o t.object ≡ b →
        (touches_before o ts < length ts → touched_of (slice_set ts (touches_before o ts) (row o h))
        a ≡ held_at o h (touched_of ts) a) →
        touched_of (slice_set (t ∷ ts) (touches_before o (t ∷ ts)) (row o h)) a
        ≡ held_at o h (touched_of (t ∷ ts)) a
    by true is rest =
        ap (λ (b : Bool). touched_of (slice_set (t ∷ ts) (cond b 0 (suc (touches_before o ts)))
        (row o h)) a) is
        ∙ new_first o h ts a ∙ replaced o h t ts a is
    by false is rest =
        let l : suc (touches_before o ts) < suc (length ts) =
        subst (λ (b : Bool). cond b 0 (suc (touches_before o ts)) < suc (length ts)) is less in
        ap (λ (b : Bool). touched_of (slice_set (t ∷ ts) (cond b 0 (suc (touches_before o ts)))
        (row o h)) a) is
        ∙ kept o h t ts (slice_set ts (touches_before o ts) (row o h)) a is (rest (omega (arith, l)))

new_at : (o : Object) (h : Held) (ts : List Touch) (a : Object) → length ts ≤ touches_before o ts →
    touched_of (ts ++ row o h ∷ []) a ≡ held_at o h (touched_of ts) a
new_at o h [] a less = new_first o h [] a
new_at o h (t ∷ ts) a less = by (same_object o t.object) refl (λ l. new_at o h ts a l)
  where
    by : (b : Bool) → same_object o t.object ≡ b →
        (length ts ≤ touches_before o ts → touched_of (ts ++ row o h ∷ []) a
        ≡ held_at o h (touched_of ts) a) →
        touched_of ((t ∷ ts) ++ row o h ∷ []) a ≡ held_at o h (touched_of (t ∷ ts)) a
    by true is rest =
        let none : suc (length ts) ≤ 0 =
        subst (λ (b : Bool). suc (length ts) ≤ cond b 0 (suc (touches_before o ts))) is less in
        absurd (omega (arith, none))
    by false is rest =
        let l : suc (length ts) ≤ suc (touches_before o ts) =
        subst (λ (b : Bool). suc (length ts) ≤ cond b 0 (suc (touches_before o ts))) is less in
        kept o h t ts (ts ++ row o h ∷ []) a is (rest (omega (arith, l)))

pub hold_there : (o : Object) (h : Held) (ts : List Touch) → touches_before o ts < length ts →
    touched_of (slice_set ts (touches_before o ts) (row o h)) ≡ held_at o h (touched_of ts)
hold_there o h ts less = fun_ext (λ a. there_at o h ts a less)

pub hold_new : (o : Object) (h : Held) (ts : List Touch) → length ts ≤ touches_before o ts →
    touched_of (ts ++ row o h ∷ []) ≡ held_at o h (touched_of ts)
hold_new o h ts less = fun_ext (λ a. new_at o h ts a less)

-- touching an object holds it in the stronger way
pub touch_is : (o : Object) (h : Held) (t : Object → Held) (stronger : Held → Held) → h ≡ stronger (t o) →
    held_at o h t ≡ (λ (a : Object). cond (same_object a o) (stronger (t a)) (t a))
touch_is o h t stronger e = fun_ext (λ a. by a (same_object a o) refl)
  where
    by : (a : Object) (b : Bool) → same_object a o ≡ b → cond (same_object a o) h (t a)
        ≡ cond (same_object a o) (stronger (t a)) (t a)
    by a true is =
        ap (λ (b : Bool). cond b h (t a)) is ∙ e ∙ ap (λ (x : Object). stronger (t x))
        (sym (same_object_is a o is))
        ∙ sym (ap (λ (b : Bool). cond b (stronger (t a)) (t a)) is)
    by a false is = ap (λ (b : Bool). cond b h (t a)) is
        ∙ sym (ap (λ (b : Bool). cond b (stronger (t a)) (t a)) is)
