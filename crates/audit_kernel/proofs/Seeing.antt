-- What the store in place has of an object.
use Rattle.std.proofs.Common.{◌≡◌, ◌<◌, ◌+◌, ℕ, drop, Bool, true, false, cond, List, [], ◌∷◌, Option, Some, None, refl, sym, ap, subst, ◌∙◌}
use Rattle.kernel_data.specs.declared.Object.{Object}
use Rattle.kernel_data.specs.declared.Object.TheVariants.{Graft, Acct, Cell, OpenFile, Queue, Cache, Lock, Pol}
use Rattle.kernel_data.specs.Objects.{Objects, SameThing, mix}
use Rattle.kernel_data.specs.World.{processes}
use Rattle.kernel_model.specs.AllCalls.{all_calls}
use Rattle.kernel_model.specs.Blocking.{config_of}
use Rattle.kernel_model.specs.InPlace.{is_changed_in, over, in_place}
use Rattle.kernel_model.specs.Kernel.{Kernel}
use Rattle.kernel_model.specs.Levels.{Config}
use Rattle.audit_kernel.proofs.Holding.{from_one}
use Rattle.audit_kernel.specs.Sights.{changing, either, first_changing, sight, SameAmounts}

-- the first of two values, or the second, by a test
abbrev first : {A : Type 0} → A → A → Bool → A
first x y b = cond b x y

-- an object of a mixed state, where the test says the first
pub mixed : (test : Object → Bool) (w s : Objects) (o : Object) → test o ≡ true →
    SameThing o (mix test w s).things w.things
mixed test w s (Graft q pt) h = ap (first (w.things.segment q pt) (s.things.segment q pt)) h
mixed test w s (Acct q) h = tt
mixed test w s (Cell q k) h = ap (first (w.things.cell q k) (s.things.cell q k)) h
mixed test w s (OpenFile q k) h = ap (first (w.things.file q k) (s.things.file q k)) h
mixed test w s Queue h = (
  ap (first w.things.queue s.things.queue) h,
  ap (first w.things.handlers s.things.handlers) h,
)
mixed test w s Cache h = ap (first w.things.cache s.things.cache) h
mixed test w s (Lock u) h = ap (first (w.things.lock u) (s.things.lock u)) h
mixed test w s (Pol k) h = ap (first (w.things.pol k) (s.things.pol k)) h

-- the same where it says the other, which has it from a third
pub unmixed : (test : Object → Bool) (w s t : Objects) (o : Object) → test o ≡ false →
    SameThing o s.things t.things → SameThing o (mix test w s).things t.things
unmixed test w s t (Graft q pt) h is = ap (first (w.things.segment q pt) (s.things.segment q pt)) h ∙ is
unmixed test w s t (Acct q) h is = tt
unmixed test w s t (Cell q k) h is = ap (first (w.things.cell q k) (s.things.cell q k)) h ∙ is
unmixed test w s t (OpenFile q k) h is = ap (first (w.things.file q k) (s.things.file q k)) h ∙ is
unmixed test w s t Queue h is = (
  ap (first w.things.queue s.things.queue) h ∙ is.0,
  ap (first w.things.handlers s.things.handlers) h ∙ is.1,
)
unmixed test w s t Cache h is = ap (first w.things.cache s.things.cache) h ∙ is
unmixed test w s t (Lock u) h is = ap (first (w.things.lock u) (s.things.lock u)) h ∙ is
unmixed test w s t (Pol k) h is = ap (first (w.things.pol k) (s.things.pol k)) h ∙ is

-- the states below, of these processes
abbrev pub stacked : (ℕ → Option Config) → List ℕ → Objects → Objects
stacked f [] s = s
stacked f (p ∷ ps) s = over (f p) None (stacked f ps s)

-- a state has of each thing what it has
pub same_thing : (s : Objects) (o : Object) → SameThing o s.things s.things
same_thing s (Graft q pt) = refl
same_thing s (Acct q) = tt
same_thing s (Cell q k) = refl
same_thing s (OpenFile q k) = refl
same_thing s Queue = (refl, refl)
same_thing s Cache = refl
same_thing s (Lock u) = refl
same_thing s (Pol k) = refl

-- a graft call, or none
abbrev taken : Config → Bool → Option Config
taken c b = elim b [ true ↦ Some c | false ↦ None ]

-- one call is looked at
pub one_seen : (o : Object) (c : Option Config) (x : Option Config) (s t : Objects) →
    SameThing o s.things (sight x t).things →
    SameThing o (over c None s).things (sight (either (changing o c) x) t).things
one_seen o None x s t is = is
one_seen o (Some c) x s t is = go (is_changed_in c.levels o) refl
  where
    go : (b : Bool) → is_changed_in c.levels o ≡ b →
        SameThing o (over (Some c) None s).things (sight (either (changing o (Some c)) x) t).things
    go true h =
        subst (λ (b : Bool). SameThing o (over (Some c) None s).things (sight (either (taken c b) x) t).things)
        (sym h) (mixed (is_changed_in c.levels) c.now s o h)
    go false h =
        subst (λ (b : Bool). SameThing o (over (Some c) None s).things (sight (either (taken c b) x) t).things)
        (sym h) (unmixed (is_changed_in c.levels) c.now s (sight x t) o h is)

-- all calls are looked at
pub all_seen : (o : Object) (f : ℕ → Option Config) (ps : List ℕ) (s : Objects) →
    SameThing o (stacked f ps s).things (sight (first_changing o f ps) s).things
all_seen o f [] s = same_thing s o
all_seen o f (p ∷ ps) s = one_seen o (f p) (first_changing o f ps) (stacked f ps s) s (all_seen o f ps s)

-- the same of accounts and grafts
pub mixed_amounts : (test : Object → Bool) (w s : Objects) (o : Object) → test o ≡ true →
    SameAmounts o (mix test w s).accounts w.accounts
mixed_amounts test w s (Graft q pt) h = ap (first (w.accounts.graft q pt) (s.accounts.graft q pt)) h
mixed_amounts test w s (Acct q) h = ap (first (w.accounts.acct q) (s.accounts.acct q)) h
mixed_amounts test w s (Cell q k) h = tt
mixed_amounts test w s (OpenFile q k) h = tt
mixed_amounts test w s Queue h = tt
mixed_amounts test w s Cache h = tt
mixed_amounts test w s (Lock u) h = tt
mixed_amounts test w s (Pol k) h = tt

pub unmixed_amounts : (test : Object → Bool) (w s t : Objects) (o : Object) → test o ≡ false →
    SameAmounts o s.accounts t.accounts → SameAmounts o (mix test w s).accounts t.accounts
unmixed_amounts test w s t (Graft q pt) h is = ap (first (w.accounts.graft q pt) (s.accounts.graft q pt)) h ∙ is
unmixed_amounts test w s t (Acct q) h is = ap (first (w.accounts.acct q) (s.accounts.acct q)) h ∙ is
unmixed_amounts test w s t (Cell q k) h is = tt
unmixed_amounts test w s t (OpenFile q k) h is = tt
unmixed_amounts test w s t Queue h is = tt
unmixed_amounts test w s t Cache h is = tt
unmixed_amounts test w s t (Lock u) h is = tt
unmixed_amounts test w s t (Pol k) h is = tt

pub same_amounts : (s : Objects) (o : Object) → SameAmounts o s.accounts s.accounts
same_amounts s (Graft q pt) = refl
same_amounts s (Acct q) = refl
same_amounts s (Cell q k) = tt
same_amounts s (OpenFile q k) = tt
same_amounts s Queue = tt
same_amounts s Cache = tt
same_amounts s (Lock u) = tt
same_amounts s (Pol k) = tt

pub one_seen_amounts : (o : Object) (c : Option Config) (x : Option Config) (s t : Objects) →
    SameAmounts o s.accounts (sight x t).accounts →
    SameAmounts o (over c None s).accounts (sight (either (changing o c) x) t).accounts
one_seen_amounts o None x s t is = is
one_seen_amounts o (Some c) x s t is = go (is_changed_in c.levels o) refl
  where
    go : (b : Bool) → is_changed_in c.levels o ≡ b →
        SameAmounts o (over (Some c) None s).accounts (sight (either (changing o (Some c)) x) t).accounts
    go true h =
        subst (λ (b : Bool). SameAmounts o (over (Some c) None s).accounts (sight (either (taken c b) x) t).accounts)
        (sym h) (mixed_amounts (is_changed_in c.levels) c.now s o h)
    go false h =
        subst (λ (b : Bool). SameAmounts o (over (Some c) None s).accounts (sight (either (taken c b) x) t).accounts)
        (sym h) (unmixed_amounts (is_changed_in c.levels) c.now s (sight x t) o h is)

pub all_seen_amounts : (o : Object) (f : ℕ → Option Config) (ps : List ℕ) (s : Objects) →
    SameAmounts o (stacked f ps s).accounts (sight (first_changing o f ps) s).accounts
all_seen_amounts o f [] s = same_amounts s o
all_seen_amounts o f (p ∷ ps) s =
    one_seen_amounts o (f p) (first_changing o f ps) (stacked f ps s) s (all_seen_amounts o f ps s)

-- the store in place has of a thing what the first call has that changes it
pub thing_in_place : (o : Object) (k : Kernel) (x : Option Config) →
    x ≡ first_changing o (config_of all_calls k) processes →
    SameThing o (in_place all_calls k).things (sight x k.objects).things
thing_in_place o k x is =
    subst (λ (y : Option Config). SameThing o (in_place all_calls k).things (sight y k.objects).things)
    (sym is) (all_seen o (config_of all_calls k) processes k.objects)

-- the same of accounts and grafts
pub amounts_in_place : (o : Object) (k : Kernel) (x : Option Config) →
    x ≡ first_changing o (config_of all_calls k) processes →
    SameAmounts o (in_place all_calls k).accounts (sight x k.objects).accounts
amounts_in_place o k x is =
    subst (λ (y : Option Config). SameAmounts o (in_place all_calls k).accounts (sight y k.objects).accounts)
    (sym is) (all_seen_amounts o (config_of all_calls k) processes k.objects)

-- the first call that changes an object is this one
pub seen_here : (o : Object) (f : ℕ → Option Config) (p : ℕ) (c : Config) → p < 16 →
    Some c ≡ changing o (f p) → first_changing o f (drop p processes) ≡ first_changing o f processes →
    Some c ≡ first_changing o f processes
seen_here o f p c lt is rest =
    ap (λ (x : Option Config). either x (first_changing o f (drop (p + 1) processes))) is
    ∙ sym (ap (first_changing o f) (from_one p lt)) ∙ rest

-- or it is one behind
pub seen_behind : (o : Object) (f : ℕ → Option Config) (p : ℕ) → p < 16 →
    None ≡ changing o (f p) → first_changing o f (drop p processes) ≡ first_changing o f processes →
    first_changing o f (drop (p + 1) processes) ≡ first_changing o f processes
seen_behind o f p lt is rest =
    ap (λ (x : Option Config). either x (first_changing o f (drop (p + 1) processes))) is
    ∙ sym (ap (first_changing o f) (from_one p lt)) ∙ rest
