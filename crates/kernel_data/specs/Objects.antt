-- The objects of the kernel's state, and what it means to change one. A state has one value for
-- each object. Its type has two parts: *accounts* (accounts and grafts), which a drop leaves as
-- they are, and *things* (all other objects), which a drop restores. Values that are indexed by
-- numbers are functions of the number, so a change is a change at one place.
use Rattle.std.specs.Prelude.{◌≡◌, ℕ, Bool, true, false, cond, ◌&&◌, ◌==◌, List, Option, ⊤}
use Rattle.kernel_data.specs.declared.Object.{Object}
use Rattle.kernel_data.specs.declared.Object.TheVariants.{Graft, Acct, Cell, OpenFile, Queue, Cache, Lock, Pol}
use Rattle.kernel_data.specs.declared.Kind.{Kind}
use Rattle.kernel_data.specs.declared.Kind.TheVariants.{Steps, Records, Locks}
use Rattle.kernel_data.specs.declared.QueueRow.{QueueRow}
use Rattle.kernel_data.specs.declared.OpenRow.{OpenRow}

-- ---- the values of objects

-- an installed graft
pub record GraftValue : Type 0 where
  pub image : ℕ
  pub limit : ℕ
  pub billed : Bool
  pub balance : Kind → ℕ

-- the account of a process
pub record AcctValue : Type 0 where
  pub balance : Kind → ℕ
  pub spent : Kind → ℕ

-- a frame in use
pub record FrameValue : Type 0 where
  pub owner : ℕ
  pub block : ℕ
  pub dirty : Bool
  pub mark : ℕ
  pub bytes : List ℕ

-- the frames by number, and the order of use, oldest first
pub record CacheValue : Type 0 where
  pub frame : ℕ → Option FrameValue
  pub lru : List ℕ

-- the chosen policy of a kind, and the parameter of each policy
pub record PolValue : Type 0 where
  pub chosen : ℕ
  pub param : ℕ → ℕ

-- ---- states

-- the grafts and the accounts: what a drop leaves as it is
pub record Accounts : Type 0 where
  pub graft : ℕ → ℕ → Option GraftValue
  pub acct : ℕ → AcctValue

-- all other objects: what a drop restores
pub record Things : Type 0 where
  pub cell : ℕ → ℕ → ℕ
  pub file : ℕ → ℕ → Option OpenRow
  pub queue : List QueueRow
  pub cache : CacheValue
  pub lock : ℕ → Option ℕ
  pub pol : ℕ → PolValue
  -- for each point, the bytes by place that were kept for its graft since it was installed, if any
  -- were; they count if its image keeps segments
  pub segment : ℕ → ℕ → Option (ℕ → ℕ)
  -- the handlers of the event points, each a process and a point, in the order in which they were
  -- last installed
  pub handlers : List (ℕ × ℕ)

-- a state: one value for each object
pub record Objects : Type 0 where
  pub accounts : Accounts
  pub things : Things

-- a state with these accounts and grafts
abbrev pub with_accounts : Accounts → Objects → Objects
with_accounts a s = record s { accounts = a }

-- a state with these things
abbrev pub with_things : Things → Objects → Objects
with_things w s = record s { things = w }

-- ---- one changed place

-- `at i v f` is the function f with the value v at i.
abbrev pub at : {A : Type 0} → ℕ → A → (ℕ → A) → ℕ → A
at i v f j = cond (j == i) v (f j)

-- `at2 i k v f` is f with the value v at the pair i, k.
abbrev pub at2 : {A : Type 0} → ℕ → ℕ → A → (ℕ → ℕ → A) → ℕ → ℕ → A
at2 i k v f j l = cond (j == i && l == k) v (f j l)

-- two kinds of amount are the same
abbrev pub same_kind : Kind → Kind → Bool
same_kind Steps Steps = true
same_kind Records Records = true
same_kind Locks Locks = true
same_kind _ _ = false

-- a function changed at one kind of amount
abbrev pub at_kind : Kind → ℕ → (Kind → ℕ) → Kind → ℕ
at_kind k v f j = cond (same_kind j k) v (f j)

-- two objects are the same
unfoldable pub same_object : Object → Object → Bool
same_object (Graft q pt) (Graft r pu) = q == r && pt == pu
same_object (Acct q) (Acct r) = q == r
same_object (Cell q k) (Cell r l) = q == r && k == l
same_object (OpenFile q k) (OpenFile r l) = q == r && k == l
same_object Queue Queue = true
same_object Cache Cache = true
same_object (Lock u) (Lock v) = u == v
same_object (Pol k) (Pol l) = k == l
same_object _ _ = false

-- ---- states compared and mixed

-- two states have the same value of an object
abbrev pub SameAt : Object → Objects → Objects → Type 0
SameAt (Graft q pt) s t = (s.accounts.graft q pt ≡ t.accounts.graft q pt)
    × (s.things.segment q pt ≡ t.things.segment q pt)
SameAt (Acct q) s t = s.accounts.acct q ≡ t.accounts.acct q
SameAt (Cell q k) s t = s.things.cell q k ≡ t.things.cell q k
SameAt (OpenFile q fd) s t = s.things.file q fd ≡ t.things.file q fd
SameAt Queue s t = (s.things.queue ≡ t.things.queue) × (s.things.handlers ≡ t.things.handlers)
SameAt Cache s t = s.things.cache ≡ t.things.cache
SameAt (Lock u) s t = s.things.lock u ≡ t.things.lock u
SameAt (Pol k) s t = s.things.pol k ≡ t.things.pol k

-- the same for things, which have no accounts and of a graft only its kept segment
abbrev pub SameThing : Object → Things → Things → Type 0
SameThing (Graft q pt) s t = s.segment q pt ≡ t.segment q pt
SameThing (Acct q) s t = ⊤
SameThing (Cell q k) s t = s.cell q k ≡ t.cell q k
SameThing (OpenFile q fd) s t = s.file q fd ≡ t.file q fd
SameThing Queue s t = (s.queue ≡ t.queue) × (s.handlers ≡ t.handlers)
SameThing Cache s t = s.cache ≡ t.cache
SameThing (Lock u) s t = s.lock u ≡ t.lock u
SameThing (Pol k) s t = s.pol k ≡ t.pol k

-- the accounts and grafts of w that pass the test, and otherwise those of s
abbrev pub mix_accounts : (Object → Bool) → Accounts → Accounts → Accounts
mix_accounts test w s =
    record {
      graft = λ q pt. cond (test (Graft q pt)) (w.graft q pt) (s.graft q pt);
      acct = λ q. cond (test (Acct q)) (w.acct q) (s.acct q);
    }

-- the other objects of w that pass the test, and otherwise those of s
abbrev pub mix_things : (Object → Bool) → Things → Things → Things
mix_things test w s =
    record {
      cell = λ q k. cond (test (Cell q k)) (w.cell q k) (s.cell q k);
      file = λ q fd. cond (test (OpenFile q fd)) (w.file q fd) (s.file q fd);
      queue = cond (test Queue) w.queue s.queue;
      cache = cond (test Cache) w.cache s.cache;
      lock = λ u. cond (test (Lock u)) (w.lock u) (s.lock u);
      pol = λ k. cond (test (Pol k)) (w.pol k) (s.pol k);
      segment = λ q pt. cond (test (Graft q pt)) (w.segment q pt) (s.segment q pt);
      handlers = cond (test Queue) w.handlers s.handlers;
    }

-- `mix test w s` has the value of w for each object that passes the test, and that of s for all
-- others.
abbrev pub mix : (Object → Bool) → Objects → Objects → Objects
mix test w s = record {
  accounts = mix_accounts test w.accounts s.accounts;
  things = mix_things test w.things s.things;
}
