-- Levels that go on: the same grafts, and all that they held.
use Rattle.std.specs.Prelude.{◌≡◌, ℕ, suc, Bool, true, false, List, [], ◌∷◌, length, ⊤}
use Rattle.std.proofs.Common.{refl, subst, sym, ap, ◌∙◌, inl, inr}
use Rattle.kernel_model.specs.declared.Held.{Held}
use Rattle.kernel_model.specs.declared.Mode.{Mode}
use Rattle.kernel_model.specs.declared.Object.{Object}
use Rattle.kernel_model.specs.Policies.{kind_of}
use Rattle.kernel_model.specs.Locks.{Touched, is_held, is_held_exclusively}
use Rattle.kernel_model.specs.Levels.{Level, touch_outermost, outermost_touched, answer_innermost}
use Rattle.kernel_model.specs.InPlace.{is_changed_in}
use Rattle.kernel_model.specs.Alike.{is_held_in}
use Rattle.kernel_model.specs.Laws.{answer_objects}
use Rattle.graft_laws.specs.Alike.{point_objects, AreHeldBy, AsksAreHeld, AnswerIsHeld}
use Rattle.kernel_laws.proofs.LevelLemmas.{touch_holds, held_so}
use Rattle.graft_laws.proofs.PointLemmas.{or_left, or_right}
use Rattle.graft_laws.proofs.HoldLemmas.{touch_held}
use Rattle.call_laws.specs.NeedGrafts.{or_cases}

-- what is held so is held so in another way too
pub record HoldsMore (t u : Touched) : Type 0 where
  pub held : (o : Object) → is_held (u o) ≡ true → is_held (t o) ≡ true
  pub exclusive : (o : Object) → u o ≡ Held.Exclusive → t o ≡ Held.Exclusive

-- a level of the same graft, with the same arguments and what it found, holds what the other holds
pub record GrowsFrom (n l : Level) : Type 0 where
  pub owner : n.owner ≡ l.owner
  pub point : n.point ≡ l.point
  pub args : n.args ≡ l.args
  pub kept : n.kept ≡ l.kept
  pub holds : HoldsMore n.touched l.touched

-- level by level
abbrev pub AreGrown : List Level → List Level → Type 0
AreGrown [] [] = ⊤
AreGrown (n ∷ ns) (l ∷ ls) = GrowsFrom n l × AreGrown ns ls
AreGrown _ _ = ⊥

pub holds_self : (t : Touched) → HoldsMore t t
holds_self t = record { held = λ o h. h; exclusive = λ o h. h }

pub grows_self : (l : Level) → GrowsFrom l l
grows_self l = record { owner = refl; point = refl; args = refl; kept = refl; holds = holds_self l.touched }

pub grown_self : (ls : List Level) → AreGrown ls ls
grown_self [] = tt
grown_self (l ∷ ls) = (grows_self l, grown_self ls)

pub grows_then : (x y z : Level) → GrowsFrom x y → GrowsFrom y z → GrowsFrom x z
grows_then x y z h k =
    record {
      owner = h.owner ∙ k.owner;
      point = h.point ∙ k.point;
      args = h.args ∙ k.args;
      kept = h.kept ∙ k.kept;
      holds =
          record {
            held = λ o e. h.holds.held o (k.holds.held o e);
            exclusive = λ o e. h.holds.exclusive o (k.holds.exclusive o e);
          };
    }

pub grown_then : (xs ys zs : List Level) → AreGrown xs ys → AreGrown ys zs → AreGrown xs zs
grown_then [] [] [] h k = tt
grown_then (x ∷ xs) (y ∷ ys) (z ∷ zs) h k = (grows_then x y z h.0 k.0, grown_then xs ys zs h.1 k.1)
grown_then [] [] (z ∷ zs) h k = absurd k
grown_then [] (y ∷ ys) zs h k = absurd h
grown_then (x ∷ xs) [] zs h k = absurd h
grown_then (x ∷ xs) (y ∷ ys) [] h k = absurd k

pub grown_answer : (pt r0 r1 : ℕ) (ls : List Level) → AreGrown (answer_innermost pt r0 r1 ls) ls
grown_answer pt r0 r1 [] = tt
grown_answer pt r0 r1 (l ∷ ls) = (
  record {
    owner = refl;
    point = refl;
    args = refl;
    kept = refl;
    holds = holds_self l.touched;
  },
  grown_self ls,
)

pub grown_touch : (o : Object) (ls : List Level) → AreGrown (touch_outermost o ls) ls
grown_touch o [] = tt
grown_touch o (l ∷ []) = (
  record {
    owner = refl;
    point = refl;
    args = refl;
    kept = refl;
    holds = record {
      held = λ a h. touch_held o Mode.Exclusive l.touched a h;
      exclusive = λ a h. touch_holds o Mode.Exclusive l.touched a h;
    };
  },
  tt,
)
grown_touch o (l ∷ k ∷ ls) = (grows_self l, grown_touch o (k ∷ ls))

pub grown_length : (ns ls : List Level) → AreGrown ns ls → length ns ≡ length ls
grown_length [] [] h = refl
grown_length (n ∷ ns) (l ∷ ls) h = ap suc (grown_length ns ls h.1)
grown_length [] (l ∷ ls) h = absurd h
grown_length (n ∷ ns) [] h = absurd h

-- ---- what stays held

pub grown_held : (ns ls : List Level) (o : Object) → AreGrown ns ls → is_held_in ls o ≡ true → is_held_in ns o ≡ true
grown_held [] [] o h e = e
grown_held (n ∷ ns) (l ∷ ls) o h e = elim (or_cases (is_held (l.touched o)) (is_held_in ls o) e) [
  | inl here ↦ or_left (is_held (n.touched o)) (is_held_in ns o) (h.0.holds.held o here)
  | inr outer ↦ or_right (is_held (n.touched o)) (is_held_in ns o) (grown_held ns ls o h.1 outer)
]
grown_held [] (l ∷ ls) o h e = absurd h
grown_held (n ∷ ns) [] o h e = absurd h

-- each of several objects
pub all_held : (ns ls : List Level) (os : List Object) →
    ((o : Object) → is_held_in ls o ≡ true → is_held_in ns o ≡ true) → AreHeldBy ls os →
    AreHeldBy ns os
all_held ns ls [] h held = tt
all_held ns ls (o ∷ os) h held = (h o held.0, all_held ns ls os h held.1)

pub grown_asks : (ns ls : List Level) → AreGrown ns ls → AsksAreHeld ls → AsksAreHeld ns
grown_asks [] [] h asks = tt
grown_asks (n ∷ []) (l ∷ []) h asks = tt
grown_asks (n ∷ m ∷ ns) (l ∷ k ∷ ls) h asks = (
  subst (λ q. AreHeldBy (m ∷ ns) (point_objects (kind_of n.point) q n.point)) (sym h.0.owner)
      (subst (λ pt. AreHeldBy (m ∷ ns) (point_objects (kind_of pt) l.owner pt)) (sym h.0.point)
      (all_held (m ∷ ns) (k ∷ ls) (point_objects (kind_of l.point) l.owner l.point)
      (λ o e. grown_held (m ∷ ns) (k ∷ ls) o h.1 e) asks.0)),
  grown_asks (m ∷ ns) (k ∷ ls) h.1 asks.1,
)
grown_asks [] (l ∷ ls) h asks = absurd h
grown_asks (n ∷ ns) [] h asks = absurd h
grown_asks (n ∷ []) (l ∷ k ∷ ls) h asks = absurd h.1
grown_asks (n ∷ m ∷ ns) (l ∷ []) h asks = absurd h.1

pub grown_answer_held : (ns ls : List Level) → AreGrown ns ls → AnswerIsHeld ls → AnswerIsHeld ns
grown_answer_held [] [] h held = tt
grown_answer_held (n ∷ []) (l ∷ []) h held =
    subst (λ pt. AreHeldBy (n ∷ []) (answer_objects (kind_of pt))) (sym h.0.point)
    (all_held (n ∷ []) (l ∷ []) (answer_objects (kind_of l.point)) (λ o e. grown_held (n ∷ []) (l ∷ []) o h e) held)
grown_answer_held (n ∷ m ∷ ns) (l ∷ k ∷ ls) h held = grown_answer_held (m ∷ ns) (k ∷ ls) h.1 held
grown_answer_held [] (l ∷ ls) h held = absurd h
grown_answer_held (n ∷ ns) [] h held = absurd h
grown_answer_held (n ∷ []) (l ∷ k ∷ ls) h held = absurd h.1
grown_answer_held (n ∷ m ∷ ns) (l ∷ []) h held = absurd h.1

-- ---- what stays held exclusively

pub grown_changed : (ns ls : List Level) (o : Object) → AreGrown ns ls → is_changed_in ls o ≡ true →
    is_changed_in ns o ≡ true
grown_changed [] [] o h e = e
grown_changed (n ∷ ns) (l ∷ ls) o h e = elim (or_cases (is_held_exclusively (l.touched o)) (is_changed_in ls o) e) [
  | inl here ↦ or_left (is_held_exclusively (n.touched o)) (is_changed_in ns o)
      (ap is_held_exclusively (h.0.holds.exclusive o (held_so (l.touched o) here)))
  | inr outer ↦ or_right (is_held_exclusively (n.touched o)) (is_changed_in ns o) (grown_changed ns ls o h.1 outer)
]
grown_changed [] (l ∷ ls) o h e = absurd h
grown_changed (n ∷ ns) [] o h e = absurd h

pub grown_outermost : (ns ls : List Level) (o : Object) → AreGrown ns ls →
    outermost_touched ls o ≡ Held.Exclusive → outermost_touched ns o ≡ Held.Exclusive
grown_outermost [] [] o h e = e
grown_outermost (n ∷ []) (l ∷ []) o h e = h.0.holds.exclusive o e
grown_outermost (n ∷ m ∷ ns) (l ∷ k ∷ ls) o h e = grown_outermost (m ∷ ns) (k ∷ ls) o h.1 e
grown_outermost [] (l ∷ ls) o h e = absurd h
grown_outermost (n ∷ ns) [] o h e = absurd h
grown_outermost (n ∷ []) (l ∷ k ∷ ls) o h e = absurd h.1
grown_outermost (n ∷ m ∷ ns) (l ∷ []) o h e = absurd h.1

-- what isn't held exclusively wasn't before
pub grown_unchanged : (ns ls : List Level) (o : Object) → AreGrown ns ls →
    is_changed_in ns o ≡ false → is_changed_in ls o ≡ false
grown_unchanged ns ls o h e = unchanged_by (is_changed_in ls o) refl
  where
    contrary : true ≡ false → ⊥
    contrary h = cc

    unchanged_by : (b : Bool) → is_changed_in ls o ≡ b → b ≡ false
    unchanged_by true f = absurd (contrary (sym (grown_changed ns ls o h f) ∙ e))
    unchanged_by false f = refl
