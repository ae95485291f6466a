-- What two states that agree on an object still agree on, after the same charge, removal or inverse on both.
use Rattle.std.specs.Prelude.{◌≡◌, ℕ, ◌==◌, ◌&&◌, Bool, true, false, cond, List, [], ◌∷◌, Option, Some, None}
use Rattle.std.proofs.Common.{arith, refl, ap, ◌∙◌}
use Rattle.std.proofs.lemmas.Bool.Decides.{nat_tests}
use Rattle.kernel_model.specs.declared.Inverse.{Inverse}
use Rattle.kernel_model.specs.declared.Inverse.TheVariants.{Nice, Window, Mark, Tune, Segment}
use Rattle.kernel_model.specs.declared.Kind.{Kind}
use Rattle.kernel_model.specs.declared.OpenRow.{OpenRow}
use Rattle.kernel_model.specs.declared.Object.{Object}
use Rattle.kernel_model.specs.declared.Object.TheVariants.{Graft, Acct, Cell, OpenFile, Queue, Cache, Lock, Pol}
use Rattle.kernel_model.specs.Objects.{Objects, Accounts, Things, GraftValue, CacheValue, PolValue}
use Rattle.kernel_model.specs.Objects.{SameAt, SameThing, with_accounts, at, at2}
use Rattle.kernel_model.specs.Access.{Found, undo_by, undo, set_segment, with_nice, with_window, with_mark, with_param}
use Rattle.kernel_model.specs.Charges.{pay, spend, taken_from, returned, charge, charge_by}
use Rattle.kernel_model.specs.Charges.{charge_account, charge_graft, removed, removed_by}
use Rattle.kernel_model.specs.UndoLog.{undo_all}

-- ---- one changed place

-- the same value at the same place of both
pub at_both : {A : Type 0} (i j : ℕ) (x y : A) (f g : ℕ → A) → x ≡ y → f j ≡ g j → at i x f j ≡ at i y g j
at_both i j x y f g e h = ap (λ v. cond (j == i) v (f j)) e ∙ ap (λ v. cond (j == i) y v) h

pub at2_both : {A : Type 0} (i k j l : ℕ) (x y : A) (f g : ℕ → ℕ → A) → x ≡ y → f j l ≡ g j l →
    at2 i k x f j l ≡ at2 i k y g j l
at2_both i k j l x y f g e h = ap (λ v. cond (j == i && l == k) v (f j l)) e ∙ ap (λ v. cond (j == i && l == k) y v) h

-- ---- accounts and grafts

-- a charge
graft_charged : (k : Kind) (q pt r pu : ℕ) (a b : Accounts) → a.graft q pt ≡ b.graft q pt →
    a.graft r pu ≡ b.graft r pu →
    (charge k q pt a).graft r pu ≡ (charge k q pt b).graft r pu
graft_charged k q pt r pu a b e h = ap (λ g. (charge_by k q pt g a).graft r pu) e ∙ by_graft (b.graft q pt)
  where
    by_payer : (billed : Bool) (g : GraftValue) →
        (elim billed as (λ _. Accounts) [ true ↦ charge_account k q a | false ↦ charge_graft k q pt g a ]).graft r pu
        ≡ (elim billed as (λ _. Accounts) [ true ↦ charge_account k q b | false ↦ charge_graft k q pt g b ]).graft r pu
    by_payer true g = h
    by_payer false g = at2_both q pt r pu (Some (taken_from k g)) (Some (taken_from k g)) a.graft b.graft refl h

    by_graft : (g : Option GraftValue) → (charge_by k q pt g a).graft r pu ≡ (charge_by k q pt g b).graft r pu
    by_graft None = h
    by_graft (Some g) = by_payer g.billed g

acct_charged : (k : Kind) (q pt r : ℕ) (a b : Accounts) → a.graft q pt ≡ b.graft q pt →
    a.acct q ≡ b.acct q → a.acct r ≡ b.acct r →
    (charge k q pt a).acct r ≡ (charge k q pt b).acct r
acct_charged k q pt r a b e payer h = ap (λ g. (charge_by k q pt g a).acct r) e ∙ by_graft (b.graft q pt)
  where
    by_payer : (billed : Bool) (g : GraftValue) →
        (elim billed as (λ _. Accounts) [ true ↦ charge_account k q a | false ↦ charge_graft k q pt g a ]).acct r
        ≡ (elim billed as (λ _. Accounts) [ true ↦ charge_account k q b | false ↦ charge_graft k q pt g b ]).acct r
    by_payer true g = at_both q r (pay k (a.acct q)) (pay k (b.acct q)) a.acct b.acct (ap (pay k) payer) h
    by_payer false g = at_both q r (spend k (a.acct q)) (spend k (b.acct q)) a.acct b.acct (ap (spend k) payer) h

    by_graft : (g : Option GraftValue) → (charge_by k q pt g a).acct r ≡ (charge_by k q pt g b).acct r
    by_graft None = h
    by_graft (Some g) = by_payer g.billed g

-- states that agree on a graft and its installer's account agree after a charge of it where they did before
pub charge_keeps : (k : Kind) (q pt : ℕ) (w u : Objects) (o : Object) →
    w.accounts.graft q pt ≡ u.accounts.graft q pt → w.accounts.acct q ≡ u.accounts.acct q →
    SameAt o w u → SameAt o (with_accounts (charge k q pt w.accounts) w) (with_accounts (charge k q pt u.accounts) u)
charge_keeps k q pt w u (Graft r pu) graft payer h = (graft_charged k q pt r pu w.accounts u.accounts graft h.0, h.1)
charge_keeps k q pt w u (Acct r) graft payer h = acct_charged k q pt r w.accounts u.accounts graft payer h
charge_keeps k q pt w u (Cell r i) graft payer h = h
charge_keeps k q pt w u (OpenFile r fd) graft payer h = h
charge_keeps k q pt w u Queue graft payer h = h
charge_keeps k q pt w u Cache graft payer h = h
charge_keeps k q pt w u (Lock i) graft payer h = h
charge_keeps k q pt w u (Pol i) graft payer h = h

-- a graft taken out
graft_removed : (q pt r pu : ℕ) (a b : Accounts) → a.graft q pt ≡ b.graft q pt →
    a.graft r pu ≡ b.graft r pu → (removed q pt a).graft r pu ≡ (removed q pt b).graft r pu
graft_removed q pt r pu a b e h = ap (λ g. (removed_by q pt g a).graft r pu) e ∙ by_graft (b.graft q pt)
  where
    by_graft : (g : Option GraftValue) → (removed_by q pt g a).graft r pu ≡ (removed_by q pt g b).graft r pu
    by_graft None = h
    by_graft (Some g) = at2_both q pt r pu None None a.graft b.graft refl h

acct_removed : (q pt r : ℕ) (a b : Accounts) → a.graft q pt ≡ b.graft q pt → a.acct q ≡ b.acct q →
    a.acct r ≡ b.acct r → (removed q pt a).acct r ≡ (removed q pt b).acct r
acct_removed q pt r a b e payer h = ap (λ g. (removed_by q pt g a).acct r) e ∙ by_graft (b.graft q pt)
  where
    by_graft : (g : Option GraftValue) → (removed_by q pt g a).acct r ≡ (removed_by q pt g b).acct r
    by_graft None = h
    by_graft (Some g) =
        at_both q r (returned g (a.acct q)) (returned g (b.acct q)) a.acct b.acct
        (ap (returned g) payer) h

-- the same for a graft that is taken out, with things that agree
pub remove_keeps : (q pt : ℕ) (a b : Accounts) (w u x y : Things) (o : Object) →
    a.graft q pt ≡ b.graft q pt → a.acct q ≡ b.acct q →
    SameAt o (record { accounts = a; things = w }) (record { accounts = b; things = u }) → SameThing o x y →
    SameAt o (record { accounts = removed q pt a; things = x }) (record { accounts = removed q pt b; things = y })
remove_keeps q pt a b w u x y (Graft r pu) graft payer h k = (graft_removed q pt r pu a b graft h.0, k)
remove_keeps q pt a b w u x y (Acct r) graft payer h k = acct_removed q pt r a b graft payer h
remove_keeps q pt a b w u x y (Cell r i) graft payer h k = k
remove_keeps q pt a b w u x y (OpenFile r fd) graft payer h k = k
remove_keeps q pt a b w u x y Queue graft payer h k = k
remove_keeps q pt a b w u x y Cache graft payer h k = k
remove_keeps q pt a b w u x y (Lock i) graft payer h k = k
remove_keeps q pt a b w u x y (Pol i) graft payer h k = k

-- ---- things

-- the same value of an object, accounts and grafts left out
pub same_thing : (o : Object) (w u : Objects) → SameAt o w u → SameThing o w.things u.things
same_thing (Graft q pt) w u h = h.1
same_thing (Acct q) w u h = tt
same_thing (Cell q i) w u h = h
same_thing (OpenFile q fd) w u h = h
same_thing Queue w u h = h
same_thing Cache w u h = h
same_thing (Lock i) w u h = h
same_thing (Pol i) w u h = h

-- of accounts one part, of things the other
pub same_parts : (o : Object) (a b : Accounts) (w u x y : Things) →
    SameAt o (record { accounts = a; things = w }) (record { accounts = b; things = u }) →
    SameThing o x y →
    SameAt o (record { accounts = a; things = x }) (record { accounts = b; things = y })
same_parts (Graft q pt) a b w u x y h k = (h.0, k)
same_parts (Acct q) a b w u x y h k = h
same_parts (Cell q i) a b w u x y h k = k
same_parts (OpenFile q fd) a b w u x y h k = k
same_parts Queue a b w u x y h k = k
same_parts Cache a b w u x y h k = k
same_parts (Lock i) a b w u x y h k = k
same_parts (Pol i) a b w u x y h k = k

-- a window changed on both sides
window_both : (q fd v r l : ℕ) (f g : ℕ → ℕ → Option OpenRow) → f r l ≡ g r l →
    at2 q fd (with_window v (f q fd)) f r l ≡ at2 q fd (with_window v (g q fd)) g r l
window_both q fd v r l f g h = grind (arith, nat_tests)

param_both : (q v r : ℕ) (f g : ℕ → PolValue) → f r ≡ g r →
    at q (with_param v (f q)) f r ≡ at q (with_param v (g q)) g r
param_both q v r f g h = grind (arith, nat_tests)

-- things that agree on an object do so after an inverse on both
keeps_by : (i : Inverse) (b : Option (ℕ → ℕ)) (o : Object) (w u : Things) → SameThing o w u →
    SameThing o (undo_by i b w) (undo_by i b u)
keeps_by (Segment q pt) b (Graft r pu) w u h = at2_both q pt r pu b b w.segment u.segment refl h
keeps_by i b (Graft q pt) w u h = grind arith
keeps_by i b (Acct q) w u h = tt
keeps_by (Inverse.Cell q k v) b (Cell r l) w u h = at2_both q k r l v v w.cell u.cell refl h
keeps_by (Nice q v) b Queue w u h = (ap (with_nice q v) h.0, h.1)
keeps_by (Window q fd v) b (OpenFile r l) w u h = window_both q fd v r l w.file u.file h
keeps_by (Mark f v) b Cache w u h =
    ap (λ (c : CacheValue). record c { frame = at f (with_mark v (c.frame f)) c.frame }) h
keeps_by (Tune kind k v) b (Pol l) w u h = param_both kind v l w.pol u.pol h
keeps_by (Inverse.Cell q k v) b (Lock j) w u h = h
keeps_by (Nice q v) b (Lock j) w u h = h
keeps_by (Window q fd v) b (Lock j) w u h = h
keeps_by (Mark f v) b (Lock j) w u h = h
keeps_by (Tune kind k v) b (Lock j) w u h = h
keeps_by (Segment q pt) b (Lock j) w u h = h
keeps_by _ b _ w u h = h

pub undo_keeps : (i : Found) (o : Object) (w u : Things) → SameThing o w u → SameThing o (undo i w) (undo i u)
undo_keeps i o w u h = keeps_by i.inverse i.bytes o w u h

-- and after the same bytes were kept on both sides
pub segment_keeps : (q pt : ℕ) (b : Option (ℕ → ℕ)) (o : Object) (w u : Things) → SameThing o w u →
    SameThing o (set_segment q pt b w) (set_segment q pt b u)
segment_keeps q pt b o w u h = keeps_by (Segment q pt) b o w u h

-- and after several
pub undo_all_keeps : (is : List Found) (o : Object) (w u : Things) → SameThing o w u →
    SameThing o (undo_all is w) (undo_all is u)
undo_all_keeps [] o w u h = h
undo_all_keeps (i ∷ is) o w u h = undo_all_keeps is o (undo i w) (undo i u) (undo_keeps i o w u h)
