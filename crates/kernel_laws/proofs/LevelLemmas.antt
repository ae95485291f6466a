-- What the levels of a sound graft call keep: their grafts, payers, records and what each found.
use Rattle.std.specs.Prelude.{◌≡◌, ℕ, suc, ◌+◌, ◌<◌, ◌≤◌, ◌==◌, ◌&&◌, ◌||◌, Bool, true, false}
use Rattle.std.specs.Prelude.{cond, List, [], ◌∷◌, length, is_some, Contains, ⊤}
use Rattle.std.specs.List.{AllByRecursion}
use Rattle.std.proofs.Common.{arith, refl, subst, sym, ap, ◌∙◌, inl, inr}
use Rattle.std.proofs.lemmas.List.Elements.{Contains-append_right, All-contains, All-from_recursion}
use Rattle.kernel_model.specs.declared.Held.{Held}
use Rattle.kernel_model.specs.Access.{Found}
use Rattle.kernel_model.specs.declared.Mode.{Mode}
use Rattle.kernel_model.specs.declared.Object.{Object}
use Rattle.kernel_model.specs.declared.Object.TheVariants.{Graft, Acct}
use Rattle.kernel_model.specs.declared.Need.{Need}
use Rattle.kernel_model.specs.Objects.{Objects, Accounts, same_object}
use Rattle.kernel_model.specs.SameObject.{same_object_self}
use Rattle.kernel_model.specs.Access.{changed_by}
use Rattle.kernel_model.specs.UndoLog.{undo_log, kept_by_log}
use Rattle.kernel_model.specs.Locks.{Touched, touch, touch_all, held_as, stronger, is_held_exclusively}
use Rattle.kernel_model.specs.Levels.{Level, touch_outermost, outermost_touched, answer_innermost}
use Rattle.kernel_model.specs.GraftStep.{record_count, is_running}
use Rattle.kernel_model.specs.InPlace.{is_changed_in}
use Rattle.kernel_model.specs.Sound.{AreRecorded}
use Rattle.kernel_laws.specs.Soundness.{found_by}
use Rattle.call_laws.specs.NeedGrafts.{or_cases}

-- ---- lists

-- what holds of each that a list contains
pub each_from : {A : Type 0} (P : A → Type 0) (xs : List A) → ((x : A) → Contains xs x → P x) → AllByRecursion P xs
each_from P [] h = tt
each_from P (x ∷ xs) h = (
  h x (0, below_suc (length xs), refl),
  each_from P xs (λ y c. h y (Contains-append_right (x ∷ []) xs y c)),
)
  where
    below_suc : (n : ℕ) → 0 < suc n
    below_suc n = omega arith

pub each_contains : {A : Type 0} (P : A → Type 0) (xs : List A) (x : A) → AllByRecursion P xs → Contains xs x → P x
each_contains P xs x each c = All-contains P xs x (All-from_recursion P xs each) c

-- ---- holds

-- who holds an object exclusively still does
abbrev pub HoldsOn : Touched → Touched → Type 0
HoldsOn t u = (o : Object) → u o ≡ Held.Exclusive → t o ≡ Held.Exclusive

-- the stronger way is exclusive where one is
pub stronger_left : (h k : Held) → h ≡ Held.Exclusive → stronger h k ≡ Held.Exclusive
stronger_left h k e = ap (λ x. stronger x k) e

pub stronger_right : (h k : Held) → k ≡ Held.Exclusive → stronger h k ≡ Held.Exclusive
stronger_right Held.Free k e = e
stronger_right Held.Shared k e = ap (stronger Held.Shared) e
stronger_right Held.Exclusive k e = refl

-- a touch keeps what is held
touch_by : (b : Bool) (h k : Held) → h ≡ Held.Exclusive → cond b (stronger h k) h ≡ Held.Exclusive
touch_by true h k e = stronger_left h k e
touch_by false h k e = e

pub touch_holds : (o : Object) (mode : Mode) (t : Touched) → HoldsOn (touch o mode t) t
touch_holds o mode t a e = touch_by (same_object a o) (t a) (held_as mode) e

-- and so do several
pub touch_all_holds : (ns : List Need) (t : Touched) → HoldsOn (touch_all ns t) t
touch_all_holds [] t a e = e
touch_all_holds (n ∷ ns) t a e = touch_all_holds ns (touch n.object n.mode t) a (touch_holds n.object n.mode t a e)

-- what was touched exclusively is held so
pub touch_here : (o : Object) (t : Touched) → touch o Mode.Exclusive t o ≡ Held.Exclusive
touch_here o t =
    ap (λ b. cond b (stronger (t o) Held.Exclusive) (t o)) (same_object_self o)
    ∙ stronger_right (t o) Held.Exclusive refl

-- ---- what levels hold

pub or_true : (b : Bool) → (b || true) ≡ true
or_true true = refl
or_true false = refl

-- what is held so
pub held_so : (h : Held) → is_held_exclusively h ≡ true → h ≡ Held.Exclusive
held_so Held.Free e = absurd cc
held_so Held.Shared e = absurd cc
held_so Held.Exclusive e = refl

-- what the innermost level, one outside it, or level 0 holds exclusively is changed
pub inner_changed : (l : Level) (ls : List Level) (o : Object) → l.touched o ≡ Held.Exclusive →
    is_changed_in (l ∷ ls) o ≡ true
inner_changed l ls o h = ap (λ x. is_held_exclusively x || is_changed_in ls o) h

pub outside_changed : (l : Level) (ls : List Level) (o : Object) → is_changed_in ls o ≡ true →
    is_changed_in (l ∷ ls) o ≡ true
outside_changed l ls o h =
    ap (λ b. is_held_exclusively (l.touched o) || b) h ∙ or_true (is_held_exclusively (l.touched o))

pub outer_changed : (ls : List Level) (o : Object) → outermost_touched ls o ≡ Held.Exclusive → is_changed_in ls o ≡ true
outer_changed [] o h = absurd (free_not h)
  where
    free_not : Held.Free ≡ Held.Exclusive → ⊥
    free_not h = cc
outer_changed (l ∷ []) o h = inner_changed l [] o h
outer_changed (l ∷ k ∷ ls) o h = outside_changed l (k ∷ ls) o (outer_changed (k ∷ ls) o h)

-- ---- levels that keep what they have

-- a level has the same graft, records and what it found, and holds what it held exclusively
pub record KeepsOn (l k : Level) : Type 0 where
  pub owner : l.owner ≡ k.owner
  pub point : l.point ≡ k.point
  pub records : l.records ≡ k.records
  pub kept : l.kept ≡ k.kept
  pub touched : HoldsOn l.touched k.touched

-- the same level by level
abbrev pub KeepOn : List Level → List Level → Type 0
KeepOn [] [] = ⊤
KeepOn (l ∷ ls) (k ∷ ks) = KeepsOn l k × KeepOn ls ks
KeepOn _ _ = ⊥

pub keeps_self : (l : Level) → KeepsOn l l
keeps_self l = record { owner = refl; point = refl; records = refl; kept = refl; touched = λ o e. e }

pub keep_self : (ls : List Level) → KeepOn ls ls
keep_self [] = tt
keep_self (l ∷ ls) = (keeps_self l, keep_self ls)

pub keep_touch : (o : Object) (ls : List Level) → KeepOn (touch_outermost o ls) ls
keep_touch o [] = tt
keep_touch o (l ∷ []) = (
  record {
    owner = refl;
    point = refl;
    records = refl;
    kept = refl;
    touched = touch_holds o Mode.Exclusive l.touched;
  },
  tt,
)
keep_touch o (l ∷ k ∷ ls) = (keeps_self l, keep_touch o (k ∷ ls))

pub keep_answer : (pt r0 r1 : ℕ) (ls : List Level) → KeepOn (answer_innermost pt r0 r1 ls) ls
keep_answer pt r0 r1 [] = tt
keep_answer pt r0 r1 (l ∷ ls) = (
  record {
    owner = refl;
    point = refl;
    records = refl;
    kept = refl;
    touched = λ o e. e;
  },
  keep_self ls,
)

pub keep_then : (xs ys zs : List Level) → KeepOn xs ys → KeepOn ys zs → KeepOn xs zs
keep_then [] [] [] h k = tt
keep_then (x ∷ xs) (y ∷ ys) (z ∷ zs) h k = (
  record {
    owner = h.0.owner ∙ k.0.owner;
    point = h.0.point ∙ k.0.point;
    records = h.0.records ∙ k.0.records;
    kept = h.0.kept ∙ k.0.kept;
    touched = λ o e. h.0.touched o (k.0.touched o e);
  },
  keep_then xs ys zs h.1 k.1,
)
keep_then [] [] (z ∷ zs) h k = absurd k
keep_then [] (y ∷ ys) zs h k = absurd h
keep_then (x ∷ xs) [] zs h k = absurd h
keep_then (x ∷ xs) (y ∷ ys) [] h k = absurd k

-- level 0 holds what it held
pub keep_outermost : (ls ks : List Level) → KeepOn ls ks → HoldsOn (outermost_touched ls) (outermost_touched ks)
keep_outermost [] [] h o e = e
keep_outermost (l ∷ []) (k ∷ []) h o e = h.0.touched o e
keep_outermost (l ∷ m ∷ ls) (k ∷ n ∷ ks) h o e = keep_outermost (m ∷ ls) (n ∷ ks) h.1 o e
keep_outermost [] (k ∷ ks) h o e = absurd h
keep_outermost (l ∷ ls) [] h o e = absurd h
keep_outermost (l ∷ []) (k ∷ n ∷ ks) h o e = absurd h.1
keep_outermost (l ∷ m ∷ ls) (k ∷ []) h o e = absurd h.1

-- ---- what levels have

-- a level's graft stands, and level 0 holds it and its installer's account
pub record IsHeld (t : Touched) (a : Accounts) (l : Level) : Type 0 where
  pub stands : is_some (a.graft l.owner l.point) ≡ true
  pub graft : t (Graft l.owner l.point) ≡ Held.Exclusive
  pub acct : t (Acct l.owner) ≡ Held.Exclusive

-- the grafts of levels are different ones
abbrev pub AreApart : List Level → Type 0
AreApart [] = ⊤
AreApart (l ∷ ls) = (is_running ls l.owner l.point ≡ false) × AreApart ls

-- the levels of a call that is sound
pub record AreHeld (w : Objects) (ls : List Level) : Type 0 where
  pub each : AllByRecursion (IsHeld (outermost_touched ls) w.accounts) ls
  pub apart : AreApart ls
  pub recorded : AreRecorded ls
  pub few : record_count ls ≤ 64
  pub most : length ls ≤ 4
  pub kept : found_by ls ≡ kept_by_log w.things (undo_log ls)

-- ---- levels that keep on are held on

-- each of them
pub each_on : (t u : Touched) (a : Accounts) (ls ks : List Level) → HoldsOn t u → KeepOn ls ks →
    AllByRecursion (IsHeld u a) ks → AllByRecursion (IsHeld t a) ls
each_on t u a [] [] more h each = tt
each_on t u a (l ∷ ls) (k ∷ ks) more h each =
    let x = each.0 in
    let y = h.0 in (
      record {
        stands =
            ap (λ q. is_some (a.graft q l.point)) y.owner
            ∙ ap (λ pt. is_some (a.graft k.owner pt)) y.point ∙ x.stands;
        graft =
            ap (λ q. t (Graft q l.point)) y.owner ∙ ap (λ pt. t (Graft k.owner pt)) y.point
            ∙ more (Graft k.owner k.point) x.graft;
        acct = ap (λ q. t (Acct q)) y.owner ∙ more (Acct k.owner) x.acct;
      },
      each_on t u a ls ks more h.1 each.1,
    )
each_on t u a [] (k ∷ ks) more h each = absurd h
each_on t u a (l ∷ ls) [] more h each = absurd h

-- the same grafts run
pub running_on : (ls ks : List Level) (q pt : ℕ) → KeepOn ls ks → is_running ls q pt ≡ is_running ks q pt
running_on [] [] q pt h = refl
running_on (l ∷ ls) (k ∷ ks) q pt h =
    ap (λ x. x == q && l.point == pt || is_running ls q pt) h.0.owner
    ∙ ap (λ x. k.owner == q && x == pt || is_running ls q pt) h.0.point
    ∙ ap (λ b. k.owner == q && k.point == pt || b) (running_on ls ks q pt h.1)
running_on [] (k ∷ ks) q pt h = absurd h
running_on (l ∷ ls) [] q pt h = absurd h

apart_on : (ls ks : List Level) → KeepOn ls ks → AreApart ks → AreApart ls
apart_on [] [] h apart = tt
apart_on (l ∷ ls) (k ∷ ks) h apart = (
  ap (λ q. is_running ls q l.point) h.0.owner ∙ ap (λ pt. is_running ls k.owner pt) h.0.point
      ∙ running_on ls ks k.owner k.point h.1 ∙ apart.0,
  apart_on ls ks h.1 apart.1,
)
apart_on [] (k ∷ ks) h apart = absurd h
apart_on (l ∷ ls) [] h apart = absurd h

-- as many records and levels, with the same logs
pub count_on : (ls ks : List Level) → KeepOn ls ks → record_count ls ≡ record_count ks
count_on [] [] h = refl
count_on (l ∷ ls) (k ∷ ks) h =
    ap (λ (is : List Found). length is + record_count ls) h.0.records
    ∙ ap (λ n. length k.records + n) (count_on ls ks h.1)
count_on [] (k ∷ ks) h = absurd h
count_on (l ∷ ls) [] h = absurd h

pub length_on : (ls ks : List Level) → KeepOn ls ks → length ls ≡ length ks
length_on [] [] h = refl
length_on (l ∷ ls) (k ∷ ks) h = ap suc (length_on ls ks h.1)
length_on [] (k ∷ ks) h = absurd h
length_on (l ∷ ls) [] h = absurd h

pub found_on : (ls ks : List Level) → KeepOn ls ks → found_by ls ≡ found_by ks
found_on [] [] h = refl
found_on (l ∷ ls) (k ∷ ks) h = ap (λ w. w ∷ found_by ls) h.0.kept ∙ ap (λ ws. k.kept ∷ ws) (found_on ls ks h.1)
found_on [] (k ∷ ks) h = absurd h
found_on (l ∷ ls) [] h = absurd h

log_on : (ls ks : List Level) → KeepOn ls ks → undo_log ls ≡ undo_log ks
log_on [] [] h = refl
log_on (l ∷ ls) (k ∷ ks) h = ap (λ is. is ∷ undo_log ls) h.0.records ∙ ap (λ log. k.records ∷ log) (log_on ls ks h.1)
log_on [] (k ∷ ks) h = absurd h
log_on (l ∷ ls) [] h = absurd h

-- what is changed is so still
pub changed_on : (ls ks : List Level) (o : Object) → KeepOn ls ks → is_changed_in ks o ≡ true →
    is_changed_in ls o ≡ true
changed_on [] [] o h e = e
changed_on (l ∷ ls) (k ∷ ks) o h e = elim (or_cases (is_held_exclusively (k.touched o)) (is_changed_in ks o) e) [
  | inl own ↦ inner_changed l ls o (h.0.touched o (held_so (k.touched o) own))
  | inr outside ↦ outside_changed l ls o (changed_on ls ks o h.1 outside)
]
changed_on [] (k ∷ ks) o h e = absurd h
changed_on (l ∷ ls) [] o h e = absurd h

-- so are the objects of the records
pub recorded_on : (ls ks : List Level) → KeepOn ls ks → AreRecorded ks → AreRecorded ls
recorded_on [] [] h recorded = tt
recorded_on (l ∷ ls) (k ∷ ks) h recorded = (
  λ i c. changed_on (l ∷ ls) (k ∷ ks) (changed_by i) h (recorded.0 i
      (subst (λ is. Contains is i) h.0.records c)),
  recorded_on ls ks h.1 recorded.1,
)
recorded_on [] (k ∷ ks) h recorded = absurd h
recorded_on (l ∷ ls) [] h recorded = absurd h

-- so they are held on
pub held_on : (w : Objects) (ls ks : List Level) → KeepOn ls ks → AreHeld w ks → AreHeld w ls
held_on w ls ks keep h =
    record {
      each =
          each_on (outermost_touched ls) (outermost_touched ks) w.accounts ls ks
          (keep_outermost ls ks keep) keep h.each;
      apart = apart_on ls ks keep h.apart;
      recorded = recorded_on ls ks keep h.recorded;
      few = subst (λ n. n ≤ 64) (sym (count_on ls ks keep)) h.few;
      most = subst (λ n. n ≤ 4) (sym (length_on ls ks keep)) h.most;
      kept = found_on ls ks keep ∙ h.kept ∙ ap (kept_by_log w.things) (sym (log_on ls ks keep));
    }
