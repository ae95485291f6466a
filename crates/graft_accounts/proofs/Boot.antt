-- The accounts at boot.
use Rattle.std.proofs.Common.{◌≡◌, ℕ, zero, suc, ◌+◌, ◌*◌, ◌==◌, nat_lt, cond}
use Rattle.std.proofs.Common.{length, replicate, slice_index, slice_index_or, Option, None, refl}
use Rattle.std.proofs.Common.{sym, subst, ◌∙◌, ap, arith}
use Rattle.std.proofs.Math.Path.{fun_ext}
use Rattle.std.proofs.lemmas.List.{length-replicate}
use Rattle.kernel_model.specs.declared.Kind.{Kind}
use Rattle.kernel_model.specs.declared.Kind.TheVariants.{Steps, Records, Locks}
use Rattle.kernel_model.specs.Objects.{AcctValue}
use Rattle.kernel_model.specs.Opening.{opening_account, opening_accounts}
use Rattle.graft_accounts.specs.declared.rows.Standing.{Standing}
use Rattle.graft_accounts.specs.Sums.{Sums, IsSums, IsKept, opening, more_at}
use Rattle.graft_accounts.specs.Table.{Table, IsTable, sums_of, standing_at, account_at, graft_at, accounts_of, total}
use Rattle.graft_accounts.proofs.Places.{set_here, set_other, at_by}
use Rattle.graft_accounts.proofs.Seen.{accounts_by}
use Rattle.graft_accounts.proofs.Totals.{total_of}
use Rattle.graft_accounts.proofs.Empty.{either_none}

all_alike : {A : Type 0} (d : A) (n i : ℕ) → slice_index_or (replicate n d) i d ≡ d
all_alike d zero i = refl
all_alike d (suc n) zero = refl
all_alike d (suc n) (suc i) = all_alike d n i

-- the arrays at boot
pub record IsBoot (t : Table) (grant : ℕ) : Type 0 where
  pub grafts : t.grafts ≡ replicate 256 None
  pub steps : t.steps ≡ opening grant
  pub records : t.records ≡ opening grant
  pub locks : t.locks ≡ opening grant
  pub sound : IsSums (opening grant)

sums_at_boot : (t : Table) (grant : ℕ) (k : Kind) → IsBoot t grant → sums_of t k ≡ opening grant
sums_at_boot t grant Steps b = b.steps
sums_at_boot t grant Records b = b.records
sums_at_boot t grant Locks b = b.locks

kept_at_boot : (t : Table) (grant : ℕ) (a : Sums) → IsBoot t grant → a ≡ opening grant → IsKept t.grafts a
kept_at_boot t grant a b e =
    record {
      sums = subst IsSums (sym e) b.sound;
      none = λ i _. ap (λ (s : Sums). slice_index s.funds i) e ∙ all_alike 0 256 i;
    }

pub boot_table : (t : Table) (grant : ℕ) → IsBoot t grant → IsTable t
boot_table t grant b =
    record {
      grafts = ap length b.grafts ∙ length-replicate {A = Option Standing} 256 None;
      steps = kept_at_boot t grant t.steps b b.steps;
      records = kept_at_boot t grant t.records b b.records;
      locks = kept_at_boot t grant t.locks b b.locks;
    }

first_balance : (grant r : ℕ) → slice_index (more_at 0 grant (replicate 16 0)) r ≡ cond (r == 0) grant 0
first_balance grant r = ap (λ f. f r) (at_by (slice_index (more_at 0 grant (replicate 16 0))) (λ j. 0) 0 grant
    (set_here (replicate 16 0) 0 (0 + grant) (omega arith) ∙ omega arith)
    (λ j apart. set_other (replicate 16 0) 0 j (0 + grant) apart ∙ all_alike 0 16 j))

account_at_boot : (t : Table) (grant r : ℕ) → IsBoot t grant → account_at t r ≡ opening_account grant r
account_at_boot t grant r b =
    let value : (Kind → ℕ) → (Kind → ℕ) → AcctValue = λ x y. record { balance = x; spent = y } in
    ap (λ x. value x (account_at t r).spent)
    (fun_ext (λ k. ap (λ (s : Sums). slice_index s.balances r) (sums_at_boot t grant k b) ∙ first_balance grant r))
    ∙ ap (value (λ k. cond (r == 0) grant 0))
    (fun_ext (λ k. ap (λ (s : Sums). slice_index s.spent r) (sums_at_boot t grant k b) ∙ all_alike 0 16 r))

graft_at_boot : (t : Table) (grant q pt : ℕ) → IsBoot t grant → (accounts_of t).graft q pt ≡ None
graft_at_boot t grant q pt b =
    let i = 16 * q + pt in
    let none : standing_at t i ≡ None = ap (λ gs. slice_index_or gs i None) b.grafts ∙ all_alike None 256 i in
    ap (λ g. cond (nat_lt pt 16) (graft_at t i g) None) none ∙ either_none (nat_lt pt 16)

pub boot_seen : (t : Table) (grant : ℕ) → IsBoot t grant → accounts_of t ≡ opening_accounts grant
boot_seen t grant b =
    accounts_by t (λ q pt. None) (opening_account grant)
    (fun_ext (λ q. fun_ext (λ pt. graft_at_boot t grant q pt b)))
    (fun_ext (λ r. account_at_boot t grant r b))

pub boot_totals : (t : Table) (grant : ℕ) → IsBoot t grant → (j : Kind) → total (accounts_of t) j ≡ grant
boot_totals t grant b j = total_of t j (boot_table t grant b) ∙ ap (λ (a : Sums). a.grant) (sums_at_boot t grant j b)
