-- What levels hold exclusively after an instruction that goes on, and what each found.
use Rattle.std.specs.Prelude.{◌≡◌, ◌≢◌, ℕ, suc, ◌<◌, ◌==◌, ◌||◌, Bool, true, false, List, [], ◌∷◌}
use Rattle.std.specs.Prelude.{length, Option, Some, ⊤}
use Rattle.std.proofs.Common.{arith, refl, subst, sym, ap, ◌∙◌, inl, inr}
use Rattle.std.proofs.lemmas.Bool.{cases_Bool}
use Rattle.std.proofs.lemmas.Bool.Decides.{nat_tests}
use Rattle.kernel_model.specs.declared.Held.{Held}
use Rattle.kernel_model.specs.declared.Object.{Object}
use Rattle.kernel_model.specs.Objects.{Things, SameThing}
use Rattle.kernel_model.specs.Locks.{is_held, is_held_exclusively}
use Rattle.kernel_model.specs.Levels.{Level, level_at, outermost_touched}
use Rattle.kernel_model.specs.InPlace.{is_changed_in}
use Rattle.kernel_model.specs.Alike.{is_held_in}
use Rattle.graft_laws.specs.Histories.{outside_of}
use Rattle.graft_laws.proofs.PointLemmas.{or_left, or_right}
use Rattle.graft_laws.proofs.HoldLemmas.{outermost_inside}
use Rattle.graft_laws.proofs.GrownLemmas.{GrowsFrom, AreGrown, grown_self, grown_held}
use Rattle.graft_laws.proofs.GrownLemmas.{grown_changed, grown_outermost, grown_unchanged}
use Rattle.graft_laws.proofs.TurnParts.{Shape, Goes, Begins, Joins, Ends, Falls, not_going}
use Rattle.kernel_laws.proofs.LevelLemmas.{held_so}
use Rattle.call_laws.specs.NeedGrafts.{or_cases}
use Rattle.kernel_laws.proofs.SoundConfigLemmas.{at_top, at_inner, at_below, at_more}

-- a test doesn't pass and fail
pub contrary : {A : Type 0} → true ≡ false → A
contrary h = absurd (bad h)
  where
    bad : true ≡ false → ⊥
    bad h = cc

-- ---- what is held exclusively

-- it stays so
pub shape_changed : (l : Level) (ls : List Level) (w : Things) (went : Bool) (after : List Level)
    (o : Object) → Shape l l.touched ls w went after → went ≡ true →
    is_changed_in (l ∷ ls) o ≡ true → is_changed_in after o ≡ true
shape_changed l ls w went after o (Goes g h) e c = grown_changed after (l ∷ ls) o h c
shape_changed l ls w went after o (Begins n ks g f h new held) e c =
    subst (λ xs. is_changed_in xs o ≡ true) (sym f) (or_right (is_held_exclusively (n.touched o))
    (is_changed_in ks o) (grown_changed ks (l ∷ ls) o h c))
shape_changed l ls w went after o (Joins a b rest g f k h more) e c =
    subst (λ xs. is_changed_in xs o ≡ true) (sym k)
    (elim (or_cases (is_held_exclusively (l.touched o)) (is_changed_in ls o) c) [
      | inl own ↦ or_left (is_held_exclusively (b.touched o)) (is_changed_in rest o)
          (ap is_held_exclusively (more.exclusive o (held_so (l.touched o) own)))
      | inr outer ↦ grown_changed (b ∷ rest) (a ∷ rest) o (h, grown_self rest)
          (subst (λ xs. is_changed_in xs o ≡ true) f outer)
    ])
shape_changed l ls w went after o (Ends g f) e c = not_going (sym g ∙ e)
shape_changed l ls w went after o (Falls g h) e c = not_going (sym g ∙ e)

-- and what is held stays held
pub shape_held : (l : Level) (ls : List Level) (w : Things) (went : Bool) (after : List Level)
    (o : Object) → Shape l l.touched ls w went after → went ≡ true →
    is_held_in (l ∷ ls) o ≡ true → is_held_in after o ≡ true
shape_held l ls w went after o (Goes g h) e c = grown_held after (l ∷ ls) o h c
shape_held l ls w went after o (Begins n ks g f h new held) e c =
    subst (λ xs. is_held_in xs o ≡ true) (sym f)
    (or_right (is_held (n.touched o)) (is_held_in ks o) (grown_held ks (l ∷ ls) o h c))
shape_held l ls w went after o (Joins a b rest g f k h more) e c =
    subst (λ xs. is_held_in xs o ≡ true) (sym k) (elim (or_cases (is_held (l.touched o)) (is_held_in ls o) c) [
      | inl own ↦ or_left (is_held (b.touched o)) (is_held_in rest o) (more.held o own)
      | inr outer ↦ grown_held (b ∷ rest) (a ∷ rest) o (h, grown_self rest)
          (subst (λ xs. is_held_in xs o ≡ true) f outer)
    ])
shape_held l ls w went after o (Ends g f) e c = not_going (sym g ∙ e)
shape_held l ls w went after o (Falls g h) e c = not_going (sym g ∙ e)

pub shape_unchanged : (l : Level) (ls : List Level) (w : Things) (went : Bool) (after : List Level)
    (o : Object) → Shape l l.touched ls w went after → went ≡ true →
    is_changed_in after o ≡ false → is_changed_in (l ∷ ls) o ≡ false
shape_unchanged l ls w went after o shape e none = elim (cases_Bool (is_changed_in (l ∷ ls) o)) [
  | inl some ↦ contrary (sym (shape_changed l ls w went after o shape e some) ∙ none)
  | inr same ↦ same
]

-- also by level 0
pub shape_outer : (l : Level) (ls : List Level) (w : Things) (went : Bool) (after : List Level)
    (o : Object) → Shape l l.touched ls w went after → went ≡ true →
    outermost_touched (l ∷ ls) o ≡ Held.Exclusive → outermost_touched after o ≡ Held.Exclusive
shape_outer l ls w went after o (Goes g h) e c = grown_outermost after (l ∷ ls) o h c
shape_outer l ls w went after o (Begins n ks g f h new held) e c =
    subst (λ xs. outermost_touched xs o ≡ Held.Exclusive) (sym f)
    (outermost_inside n ks o (grown_outermost ks (l ∷ ls) o h c))
shape_outer l ls w went after o (Joins a b rest g f k h more) e c =
    subst (λ xs. outermost_touched xs o ≡ Held.Exclusive) (sym k)
    (grown_outermost (b ∷ rest) (a ∷ rest) o (h, grown_self rest)
    (outside l a rest (subst (λ xs. outermost_touched (l ∷ xs) o ≡ Held.Exclusive) f c)))
  where
    outside : (l a : Level) (rest : List Level) →
        outermost_touched (l ∷ a ∷ rest) o ≡ Held.Exclusive →
        outermost_touched (a ∷ rest) o ≡ Held.Exclusive
    outside l a rest h = h
shape_outer l ls w went after o (Ends g f) e c = not_going (sym g ∙ e)
shape_outer l ls w went after o (Falls g h) e c = not_going (sym g ∙ e)

-- a call that goes on has a level
pub shape_some : (l : Level) (ls : List Level) (w : Things) (went : Bool) (after : List Level) →
    Shape l l.touched ls w went after → went ≡ true → after ≢ []
shape_some l ls w went after (Goes g h) e none = subst (λ xs. AreGrown xs (l ∷ ls)) none h
shape_some l ls w went after (Begins n ks g f h new held) e none = some_not_none n ks (sym f ∙ none)
  where
    some_not_none : (n : Level) (ks : List Level) → n ∷ ks ≡ [] → ⊥
    some_not_none n ks h = cc
shape_some l ls w went after (Joins a b rest g f k h more) e none = some_not_none b rest (sym k ∙ none)
  where
    some_not_none : (n : Level) (ks : List Level) → n ∷ ks ≡ [] → ⊥
    some_not_none n ks h = cc
shape_some l ls w went after (Ends g f) e none = not_going (sym g ∙ e)
shape_some l ls w went after (Falls g h) e none = not_going (sym g ∙ e)

-- ---- what levels found

-- a level found as in a state what no level outside it holds exclusively
abbrev pub FoundAsIn : Things → List Level → Type 0
FoundAsIn s [] = ⊤
FoundAsIn s (l ∷ ls) = ((o : Object) → is_changed_in ls o ≡ false → SameThing o l.kept s) × FoundAsIn s ls

pub found_grown : (s : Things) (ns ls : List Level) → AreGrown ns ls → FoundAsIn s ls → FoundAsIn s ns
found_grown s [] [] h found = tt
found_grown s (n ∷ ns) (l ∷ ls) h found = (
  λ o e. subst (λ x. SameThing o x s) (sym h.0.kept) (found.0 o (grown_unchanged ns ls o h.1 e)),
  found_grown s ns ls h.1 found.1,
)
found_grown s [] (l ∷ ls) h found = absurd h
found_grown s (n ∷ ns) [] h found = absurd h

-- a level that has just begun holds nothing
pub new_unchanged : (n : Level) (ks : List Level) (w : Things) (o : Object) →
    n.touched o ≡ Held.Free → is_changed_in ks o ≡ false → is_changed_in (n ∷ ks) o ≡ false
new_unchanged n ks w o h e = ap (λ x. is_held_exclusively x || is_changed_in ks o) h ∙ e

-- after an instruction, where the things are as in the state but for what is held exclusively then
pub shape_found : (s : Things) (l : Level) (ls : List Level) (w : Things) (went : Bool)
    (after : List Level) → Shape l l.touched ls w went after → went ≡ true →
    ((o : Object) → is_changed_in after o ≡ false → SameThing o w s) → FoundAsIn s (l ∷ ls) → FoundAsIn s after
shape_found s l ls w went after (Goes g h) e now found = found_grown s after (l ∷ ls) h found
shape_found s l ls w went after (Begins n ks g f h new held) e now found =
    subst (FoundAsIn s) (sym f) (
      λ o c. subst (λ x. SameThing o x s) (sym new.kept)
          (now o (subst (λ xs. is_changed_in xs o ≡ false) (sym f)
          (new_unchanged n ks w o (ap (λ t. t o) new.touched) c))),
      found_grown s ks (l ∷ ls) h found,
    )
shape_found s l ls w went after (Joins a b rest g f k h more) e now found =
    subst (FoundAsIn s) (sym k)
    (found_grown s (b ∷ rest) (a ∷ rest) (h, grown_self rest) (subst (FoundAsIn s) f found.1))
shape_found s l ls w went after (Ends g f) e now found = not_going (sym g ∙ e)
shape_found s l ls w went after (Falls g h) e now found = not_going (sym g ∙ e)

-- ---- levels by number

-- levels that go on, by number
pub grown_at : (d : ℕ) (ns ls : List Level) (n : Level) → AreGrown ns ls → level_at d ns ≡ Some n →
    (l : Level) × (level_at d ls ≡ Some l) × GrowsFrom n l
grown_at d [] [] n h e = absurd cc
grown_at d (x ∷ ns) (y ∷ ls) n h e = elim (cases_Bool (length ls == d)) [
  | inl top ↦ (
    y,
    at_top d y ls top,
    subst (λ (z : Level). GrowsFrom z y)
        (is_it x n (sym (at_top d x ns (same_length top)) ∙ e)) h.0,
  )
  | inr inner ↦ let k = grown_at d ns ls n h.1 (sym (at_inner d x ns (same_length inner)) ∙ e) in
      (k.0, at_inner d y ls inner ∙ k.1, k.2)
]
  where
    is_it : (a b : Level) → Some a ≡ Some b → a ≡ b
    is_it a b e = cc

    lengths : (ns ls : List Level) → AreGrown ns ls → length ns ≡ length ls
    lengths [] [] h = refl
    lengths (a ∷ ns) (b ∷ ls) h = ap suc (lengths ns ls h.1)
    lengths [] (b ∷ ls) h = absurd h
    lengths (a ∷ ns) [] h = absurd h

    same_length : {b : Bool} → (length ls == d) ≡ b → (length ns == d) ≡ b
    same_length e = ap (λ k. k == d) (lengths ns ls h.1) ∙ e
grown_at d [] (y ∷ ls) n h e = absurd h
grown_at d (x ∷ ns) [] n h e = absurd h

-- what level d found, by number
pub found_at_level : (s : Things) (ls : List Level) (d : ℕ) (l : Level) (o : Object) →
    FoundAsIn s ls → level_at d ls ≡ Some l → is_changed_in (outside_of d ls) o ≡ false →
    SameThing o l.kept s
found_at_level s [] d l o found e none = absurd cc
found_at_level s (x ∷ ls) d l o found e none = found_by (length ls == d) e none (found_at_level s ls d l o found.1)
  where
    is_it : (a b : Level) → Some a ≡ Some b → a ≡ b
    is_it a b e = cc

    found_by : (b : Bool) → elim b as (λ _. Option Level) [ true ↦ Some x | false ↦ level_at d ls ] ≡ Some l →
        is_changed_in (elim b as (λ _. List Level) [ true ↦ ls | false ↦ outside_of d ls ]) o ≡ false →
        (level_at d ls ≡ Some l → is_changed_in (outside_of d ls) o ≡ false →
        SameThing o l.kept s) → SameThing o l.kept s
    found_by true e none further = subst (λ (y : Level). SameThing o y.kept s) (is_it x l e) (found.0 o none)
    found_by false e none further = further e none

pub level_found : (s : Things) (ls : List Level) → ((d : ℕ) (l : Level) (o : Object) →
    level_at d ls ≡ Some l → is_changed_in (outside_of d ls) o ≡ false → SameThing o l.kept s) →
    FoundAsIn s ls
level_found s [] h = tt
level_found s (x ∷ ls) h = (
  λ o none. h (length ls) x o (at_top (length ls) x ls (is_itself (length ls)))
      (subst (λ xs. is_changed_in xs o ≡ false)
      (sym (outside_top (length ls) (is_itself (length ls)))) none),
  level_found s ls (λ d l o e none. h d l o (at_more d x l ls e) (subst (λ xs. is_changed_in xs o
      ≡ false) (sym (outside_more d (below_differs (length ls) d (at_below d ls l e)))) none)),
)
  where
    is_itself : (n : ℕ) → (n == n) ≡ true
    is_itself n = grind (arith, nat_tests)

    below_differs : (n d : ℕ) → d < n → (n == d) ≡ false
    below_differs n d h = grind (arith, nat_tests)

    outside_top : (d : ℕ) → (length ls == d) ≡ true → outside_of d (x ∷ ls) ≡ ls
    outside_top d e = ap (λ b. elim b as (λ _. List Level) [ true ↦ ls | false ↦ outside_of d ls ]) e

    outside_more : (d : ℕ) → (length ls == d) ≡ false → outside_of d (x ∷ ls) ≡ outside_of d ls
    outside_more d e = ap (λ b. elim b as (λ _. List Level) [ true ↦ ls | false ↦ outside_of d ls ]) e
