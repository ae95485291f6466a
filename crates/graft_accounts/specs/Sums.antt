-- The amounts of one kind: who has how much, who has spent how much, and what the grafts have.
use Rattle.std.specs.Prelude.{◌≡◌, ℕ, ◌+◌, ◌-◌, ◌<◌, List, length, replicate, sum, slice_index}
use Rattle.std.specs.Prelude.{slice_index_or, slice_set, Option, None}
use Rattle.graft_accounts.specs.declared.rows.Standing.{Standing}

-- the arrays of a kind: by process, and by place of a graft; in all the grant
pub record Sums : Type 0 where
  pub grant : ℕ
  pub balances : List ℕ
  pub spent : List ℕ
  pub funds : List ℕ

-- these arrays
abbrev pub sums_with : ℕ → (balances spent funds : List ℕ) → Sums
sums_with grant balances spent funds =
    record { grant = grant; balances = balances; spent = spent; funds = funds }

-- nothing is made or lost
pub record IsSums (s : Sums) : Type 0 where
  pub balances : length s.balances ≡ 16
  pub spent : length s.spent ≡ 16
  pub funds : length s.funds ≡ 256
  pub total : sum s.balances + sum s.spent + sum s.funds ≡ s.grant
  pub bound : s.grant < 4294967296

-- what a call makes of a value that is sound before and after
pub record Becomes {A : Type 0} (IsSound : A → Type 0) (old new next : A) : Type 0 where
  pub was : IsSound old
  pub value : new ≡ next
  pub sound : IsSound new

-- where no graft stands there is nothing
pub record IsKept (grafts : List (Option Standing)) (s : Sums) : Type 0 where
  pub sums : IsSums s
  pub none : (i : ℕ) → slice_index_or grafts i None ≡ None → slice_index s.funds i ≡ 0

-- so much less at a place
abbrev pub less_at : (i n : ℕ) → List ℕ → List ℕ
less_at i n xs = slice_set xs i (slice_index xs i - n)

-- so much more at a place
abbrev pub more_at : (i n : ℕ) → List ℕ → List ℕ
more_at i n xs = slice_set xs i (slice_index xs i + n)

-- process 0 has it all
abbrev pub opening : (grant : ℕ) → Sums
opening grant =
    record {
      grant = grant;
      balances = more_at 0 grant (replicate 16 0);
      spent = replicate 16 0;
      funds = replicate 256 0;
    }

-- ---- what is moved

-- from one process to another
abbrev pub given : (p q n : ℕ) → Sums → Sums
given p q n s = record s { balances = more_at q n (less_at p n s.balances) }

-- from a process to a graft
abbrev pub funded_at : (p i n : ℕ) → Sums → Sums
funded_at p i n s = record s { balances = less_at p n s.balances; funds = more_at i n s.funds }

-- from a process to what it has spent
abbrev pub paid : (p n : ℕ) → Sums → Sums
paid p n s = record s { balances = less_at p n s.balances; spent = more_at p n s.spent }

-- from a graft to what a process has spent
abbrev pub paid_at : (p i n : ℕ) → Sums → Sums
paid_at p i n s = record s { funds = less_at i n s.funds; spent = more_at p n s.spent }

-- all that a graft has, to a process
abbrev pub given_back : (p i : ℕ) → Sums → Sums
given_back p i s =
    let n = slice_index s.funds i in
    record s { balances = more_at p n s.balances; funds = less_at i n s.funds }

-- all that a process has and has spent, to process 0
abbrev pub closed : (p : ℕ) → Sums → Sums
closed p s =
    let n = slice_index s.balances p in
    let m = slice_index s.spent p in
    record s {
      balances = more_at 0 n (less_at p n s.balances);
      spent = more_at 0 m (less_at p m s.spent);
    }
