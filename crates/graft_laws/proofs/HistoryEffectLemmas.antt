-- What effects do, and when they can be made again.
use Rattle.std.specs.Prelude.{◌≡◌, ℕ, ◌==◌, ◌&&◌, Bool, true, false, cond, not, List, [], ◌∷◌}
use Rattle.std.specs.Prelude.{◌++◌, length, Option, Some, None, is_some, ⊤}
use Rattle.std.proofs.Common.{refl, subst, sym, ap, ◌∙◌}
use Rattle.kernel_model.specs.declared.Held.{Held}
use Rattle.kernel_model.specs.declared.Mode.{Mode}
use Rattle.kernel_model.specs.declared.Object.{Object}
use Rattle.kernel_model.specs.declared.Object.TheVariants.{Graft}
use Rattle.kernel_model.specs.Objects.{Accounts, Things}
use Rattle.kernel_model.specs.SameObject.{same_object_self}
use Rattle.kernel_model.specs.Charges.{funds, charge, removed}
use Rattle.kernel_model.specs.Locks.{Touched, touch, stronger, is_held}
use Rattle.kernel_model.specs.Levels.{Level, Config, Effect, Asked, Charged, Removed}
use Rattle.kernel_model.specs.Levels.{touch_outermost, outermost_touched}
use Rattle.kernel_model.specs.History.{config_if, effects_on}
use Rattle.graft_laws.proofs.HoldLemmas.{touch_held}
use Rattle.kernel_laws.proofs.InstructionLemmas.{touched_length}
use Rattle.graft_laws.proofs.PastLemmas.{outermost_after}

-- ---- what effects do

-- the levels after effects of grafts of q: level 0 touches the grafts that were asked
abbrev pub levels_by : ℕ → List Effect → List Level → List Level
levels_by q [] ls = ls
levels_by q (Asked pt ∷ es) ls = levels_by q es (touch_outermost (Graft q pt) ls)
levels_by q (Charged pt k ∷ es) ls = levels_by q es ls
levels_by q (Removed pt ∷ es) ls = levels_by q es ls

-- how level 0 holds objects after them
abbrev pub touched_by : ℕ → List Effect → Touched → Touched
touched_by q [] t = t
touched_by q (Asked pt ∷ es) t = touched_by q es (touch (Graft q pt) Mode.Exclusive t)
touched_by q (Charged pt k ∷ es) t = touched_by q es t
touched_by q (Removed pt ∷ es) t = touched_by q es t

-- accounts and grafts after them
abbrev pub accounts_by : ℕ → List Effect → Accounts → Accounts
accounts_by q [] a = a
accounts_by q (Asked pt ∷ es) a = accounts_by q es a
accounts_by q (Charged pt k ∷ es) a = accounts_by q es (charge k q pt a)
accounts_by q (Removed pt ∷ es) a = accounts_by q es (removed q pt a)

-- a graft of q stands that level 0 holds
abbrev pub is_standing : (q pt : ℕ) → Accounts → Touched → Bool
is_standing q pt a t = is_some (a.graft q pt) && is_held (t (Graft q pt))

-- each effect finds what it needs
abbrev pub CanBeMade : ℕ → List Effect → Accounts → Touched → Type 0
CanBeMade q [] a t = ⊤
CanBeMade q (Asked pt ∷ es) a t = CanBeMade q es a (touch (Graft q pt) Mode.Exclusive t)
CanBeMade q (Charged pt k ∷ es) a t =
    ((is_standing q pt a t && not (funds a q pt k == 0)) ≡ true)
    × CanBeMade q es (charge k q pt a) t
CanBeMade q (Removed pt ∷ es) a t = (is_standing q pt a t ≡ true) × CanBeMade q es (removed q pt a) t

-- ---- effects one after another

pub accounts_more : (q : ℕ) (es fs : List Effect) (a : Accounts) →
    accounts_by q (es ++ fs) a ≡ accounts_by q fs (accounts_by q es a)
accounts_more q [] fs a = refl
accounts_more q (Asked pt ∷ es) fs a = accounts_more q es fs a
accounts_more q (Charged pt k ∷ es) fs a = accounts_more q es fs (charge k q pt a)
accounts_more q (Removed pt ∷ es) fs a = accounts_more q es fs (removed q pt a)

pub levels_more : (q : ℕ) (es fs : List Effect) (ls : List Level) →
    levels_by q (es ++ fs) ls ≡ levels_by q fs (levels_by q es ls)
levels_more q [] fs ls = refl
levels_more q (Asked pt ∷ es) fs ls = levels_more q es fs (touch_outermost (Graft q pt) ls)
levels_more q (Charged pt k ∷ es) fs ls = levels_more q es fs ls
levels_more q (Removed pt ∷ es) fs ls = levels_more q es fs ls

pub made_more : (q : ℕ) (es fs : List Effect) (a : Accounts) (t : Touched) → CanBeMade q es a t →
    CanBeMade q fs (accounts_by q es a) (touched_by q es t) →
    CanBeMade q (es ++ fs) a t
made_more q [] fs a t h k = k
made_more q (Asked pt ∷ es) fs a t h k = made_more q es fs a (touch (Graft q pt) Mode.Exclusive t) h k
made_more q (Charged pt kind ∷ es) fs a t h k = (h.0, made_more q es fs (charge kind q pt a) t h.1 k)
made_more q (Removed pt ∷ es) fs a t h k = (h.0, made_more q es fs (removed q pt a) t h.1 k)

-- ---- levels

-- a level has the graft of another, and found what that found
pub record IsOf (l k : Level) : Type 0 where
  pub owner : l.owner ≡ k.owner
  pub point : l.point ≡ k.point
  pub found : l.kept ≡ k.kept

pub of_self : (l : Level) → IsOf l l
of_self l = record { owner = refl; point = refl; found = refl }

pub of_then : (l k n : Level) → IsOf l k → IsOf k n → IsOf l n
of_then l k n h i = record { owner = h.owner ∙ i.owner; point = h.point ∙ i.point; found = h.found ∙ i.found }

-- the innermost level among levels of which level 0 touches an object
pub touch_inside : (o : Object) (l : Level) (ls : List Level) →
    (n : Level) × (touch_outermost o (l ∷ ls) ≡ n ∷ touch_outermost o ls) × IsOf n l
touch_inside o l [] = (
  record l { touched = touch o Mode.Exclusive l.touched },
  refl,
  record { owner = refl; point = refl; found = refl },
)
touch_inside o l (k ∷ ls) = (l, refl, of_self l)

-- the same after effects
pub levels_inside : (q : ℕ) (es : List Effect) (l : Level) (ls : List Level) →
    (n : Level) × (levels_by q es (l ∷ ls) ≡ n ∷ levels_by q es ls) × IsOf n l
levels_inside q [] l ls = (l, refl, of_self l)
levels_inside q (Asked pt ∷ es) l ls =
    let one = touch_inside (Graft q pt) l ls in
    let more = levels_inside q es one.0 (touch_outermost (Graft q pt) ls) in
    (more.0, ap (levels_by q es) one.1 ∙ more.1, of_then more.0 one.0 l more.2 one.2)
levels_inside q (Charged pt k ∷ es) l ls = levels_inside q es l ls
levels_inside q (Removed pt ∷ es) l ls = levels_inside q es l ls

-- a level above the outermost is as it was
pub levels_above : (q : ℕ) (es : List Effect) (l k : Level) (ls : List Level) →
    levels_by q es (l ∷ k ∷ ls) ≡ l ∷ levels_by q es (k ∷ ls)
levels_above q [] l k ls = refl
levels_above q (Asked pt ∷ es) l k [] =
    levels_above q es l (record k { touched = touch (Graft q pt) Mode.Exclusive k.touched }) []
levels_above q (Asked pt ∷ es) l k (n ∷ ls) = levels_above q es l k (touch_outermost (Graft q pt) (n ∷ ls))
levels_above q (Charged pt kind ∷ es) l k ls = levels_above q es l k ls
levels_above q (Removed pt ∷ es) l k ls = levels_above q es l k ls

-- where there is no level there is none after effects
pub levels_none : (q : ℕ) (es : List Effect) → levels_by q es [] ≡ []
levels_none q [] = refl
levels_none q (Asked pt ∷ es) = levels_none q es
levels_none q (Charged pt k ∷ es) = levels_none q es
levels_none q (Removed pt ∷ es) = levels_none q es

pub levels_length : (q : ℕ) (es : List Effect) (ls : List Level) → length (levels_by q es ls) ≡ length ls
levels_length q [] ls = refl
levels_length q (Asked pt ∷ es) ls =
    levels_length q es (touch_outermost (Graft q pt) ls) ∙ touched_length (Graft q pt) ls
levels_length q (Charged pt k ∷ es) ls = levels_length q es ls
levels_length q (Removed pt ∷ es) ls = levels_length q es ls

-- ---- holds

-- how level 0 holds objects after effects
pub levels_touched : (q : ℕ) (es : List Effect) (l : Level) (ls : List Level) →
    outermost_touched (levels_by q es (l ∷ ls)) ≡ touched_by q es (outermost_touched (l ∷ ls))
levels_touched q [] l ls = refl
levels_touched q (Asked pt ∷ es) l ls =
    let o = Graft q pt in
    let one = touch_inside o l ls in
    ap (λ xs. outermost_touched (levels_by q es xs)) one.1 ∙ levels_touched q es one.0 (touch_outermost o ls)
    ∙ ap (λ xs. touched_by q es (outermost_touched xs)) (sym one.1) ∙ ap (touched_by q es) (outermost_after o l ls)
levels_touched q (Charged pt k ∷ es) l ls = levels_touched q es l ls
levels_touched q (Removed pt ∷ es) l ls = levels_touched q es l ls

stronger_exclusive : (h : Held) → is_held (stronger h Held.Exclusive) ≡ true
stronger_exclusive Held.Free = refl
stronger_exclusive Held.Shared = refl
stronger_exclusive Held.Exclusive = refl

-- what was touched is held
pub touch_here : (o : Object) (t : Touched) → is_held (touch o Mode.Exclusive t o) ≡ true
touch_here o t =
    ap (λ b. is_held (cond b (stronger (t o) Held.Exclusive) (t o))) (same_object_self o)
    ∙ stronger_exclusive (t o)

pub held_on : (q : ℕ) (es : List Effect) (t : Touched) (x : Object) → is_held (t x) ≡ true →
    is_held (touched_by q es t x) ≡ true
held_on q [] t x h = h
held_on q (Asked pt ∷ es) t x h =
    held_on q es (touch (Graft q pt) Mode.Exclusive t) x
    (touch_held (Graft q pt) Mode.Exclusive t x h)
held_on q (Charged pt k ∷ es) t x h = held_on q es t x h
held_on q (Removed pt ∷ es) t x h = held_on q es t x h

-- the first of levels of which level 0 touches an object holds what it held
pub first_held : (o : Object) (l : Level) (ls : List Level) (n : Level) →
    touch_outermost o (l ∷ ls) ≡ n ∷ touch_outermost o ls → (x : Object) →
    is_held (l.touched x) ≡ true → is_held (n.touched x) ≡ true
first_held o l [] n e x h =
    ap (λ (ks : List Level). is_held (first_touched l ks x)) (sym e)
    ∙ touch_held o Mode.Exclusive l.touched x h
  where
    first_touched : Level → List Level → Touched
    first_touched l [] = l.touched
    first_touched l (k ∷ ks) = k.touched
first_held o l (k ∷ ls) n e x h = ap (λ (ks : List Level). is_held (first_touched l ks x)) (sym e) ∙ h
  where
    first_touched : Level → List Level → Touched
    first_touched l [] = l.touched
    first_touched l (k ∷ ks) = k.touched

-- ---- effects that are made again

-- a config with these parts
abbrev pub config_with : Accounts → Things → List Level → Config
config_with a w ls = record { now = record { accounts = a; things = w }; levels = ls }

-- effects that can be made again lead where they led
pub made_again : (q : ℕ) (es : List Effect) (a : Accounts) (w : Things) (l : Level)
    (ls : List Level) → CanBeMade q es a (outermost_touched (l ∷ ls)) →
    effects_on q es (config_with a w (l ∷ ls)) ≡ Some (config_with (accounts_by q es a) w (levels_by q es (l ∷ ls)))
made_again q [] a w l ls h = refl
made_again q (Asked pt ∷ es) a w l ls h =
    let o = Graft q pt in
    let one = touch_inside o l ls in
    let made = subst (CanBeMade q es a) (sym (outermost_after o l ls) ∙ ap outermost_touched one.1) h in
    ap (λ xs. effects_on q es (config_with a w xs)) one.1 ∙ made_again q es a w one.0 (touch_outermost o ls) made
    ∙ ap (λ xs. Some (config_with (accounts_by q es a) w (levels_by q es xs))) (sym one.1)
made_again q (Charged pt k ∷ es) a w l ls h =
    ap (λ b. elim (config_if b (config_with (charge k q pt a) w (l ∷ ls))) as (λ _. Option Config)
    [ None ↦ None | Some u ↦ effects_on q es u ]) h.0
    ∙ made_again q es (charge k q pt a) w l ls h.1
made_again q (Removed pt ∷ es) a w l ls h =
    ap (λ b. elim (config_if b (config_with (removed q pt a) w (l ∷ ls))) as (λ _. Option Config)
    [ None ↦ None | Some u ↦ effects_on q es u ]) h.0
    ∙ made_again q es (removed q pt a) w l ls h.1

-- effects that led somewhere could be made
pub record HaveBeenMade (q : ℕ) (es : List Effect) (a : Accounts) (w : Things) (l : Level)
    (ls : List Level) (c : Config) : Type 0 where
  pub made : CanBeMade q es a (outermost_touched (l ∷ ls))
  pub leads : c ≡ config_with (accounts_by q es a) w (levels_by q es (l ∷ ls))

-- nothing is something
pub none_some : (c : Config) → None ≡ Some c → ⊥
none_some c h = cc

pub have_been_made : (q : ℕ) (es : List Effect) (a : Accounts) (w : Things) (l : Level) (ls : List Level) (c : Config) →
    effects_on q es (config_with a w (l ∷ ls)) ≡ Some c → HaveBeenMade q es a w l ls c
have_been_made q [] a w l ls c e = record { made = tt; leads = sym (same_some (config_with a w (l ∷ ls)) c e) }
  where
    same_some : (x y : Config) → Some x ≡ Some y → x ≡ y
    same_some x y e = cc
have_been_made q (Asked pt ∷ es) a w l ls c e =
    let o = Graft q pt in
    let one = touch_inside o l ls in
    let rest = have_been_made q es a w one.0 (touch_outermost o ls) c
    (ap (λ xs. effects_on q es (config_with a w xs)) (sym one.1) ∙ e) in
    record {
      made = subst (CanBeMade q es a) (ap outermost_touched (sym one.1) ∙ outermost_after o l ls) rest.made;
      leads = rest.leads ∙ ap (λ xs. config_with (accounts_by q es a) w (levels_by q es xs)) (sym one.1);
    }
have_been_made q (Charged pt k ∷ es) a w l ls c e =
    charged_by (is_standing q pt a (outermost_touched (l ∷ ls)) && not (funds a q pt k == 0)) refl
    (have_been_made q es (charge k q pt a) w l ls c) e
  where
    charged_by : (b : Bool) → (is_standing q pt a (outermost_touched (l ∷ ls)) && not (funds a q pt k == 0)) ≡ b →
        (effects_on q es (config_with (charge k q pt a) w (l ∷ ls)) ≡ Some c →
        HaveBeenMade q es (charge k q pt a) w l ls c) →
        elim (config_if b (config_with (charge k q pt a) w (l ∷ ls))) as (λ _. Option
        Config) [ None ↦ None | Some u ↦ effects_on q es u ] ≡ Some c →
        HaveBeenMade q (Charged pt k ∷ es) a w l ls c
    charged_by true is more e = let rest = more e in record { made = (is, rest.made); leads = rest.leads }
    charged_by false is more e = absurd (none_some c e)
have_been_made q (Removed pt ∷ es) a w l ls c e =
    removed_by (is_standing q pt a (outermost_touched (l ∷ ls))) refl (have_been_made q es (removed q pt a) w l ls c) e
  where
    removed_by : (b : Bool) → is_standing q pt a (outermost_touched (l ∷ ls)) ≡ b →
        (effects_on q es (config_with (removed q pt a) w (l ∷ ls)) ≡ Some c →
        HaveBeenMade q es (removed q pt a) w l ls c) →
        elim (config_if b (config_with (removed q pt a) w (l ∷ ls))) as (λ _. Option
        Config) [ None ↦ None | Some u ↦ effects_on q es u ] ≡ Some c →
        HaveBeenMade q (Removed pt ∷ es) a w l ls c
    removed_by true is more e = let rest = more e in record { made = (is, rest.made); leads = rest.leads }
    removed_by false is more e = absurd (none_some c e)
