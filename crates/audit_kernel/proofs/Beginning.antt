-- What a run begins with.
use Rattle.std.proofs.Common.{◌≡◌, ℕ, ◌==◌, ◌&&◌, Bool, true, false, cond, List, []}
use Rattle.std.proofs.Common.{Option, None, map, option_map, slice_index_or, refl, ap, ◌∙◌}
use Rattle.std.proofs.Math.Path.{fun_ext}
use Rattle.kernel_model.specs.declared.Kind.{Kind}
use Rattle.kernel_model.specs.declared.Kind.TheVariants.{Steps, Records, Locks}
use Rattle.kernel_model.specs.Objects as model
use Rattle.kernel_model.specs.Kernel as model_kernel
use Rattle.kernel_model.specs.Kernel.{Kernel, Call}
use Rattle.kernel_model.specs.World.{World, ImageTable}
use Rattle.kernel_model.specs.Opening.{opening_account, opening_accounts, opening_policy, opening_things, opening_objects, opening_kernel}
use Rattle.audit_table.specs.Tables.{table_of, column_of}
use Rattle.audit_state.specs.declared.Account.{Account}
use Rattle.audit_state.specs.declared.Accounts.{Accounts}
use Rattle.audit_state.specs.declared.Things.{Things}
use Rattle.audit_state.specs.Accounts.{no_account, account_of, accounts_of}
use Rattle.audit_state.specs.Things.{policy_of, things_of}
use Rattle.audit_kernel.specs.declared.Flight.{Flight}
use Rattle.audit_kernel.specs.declared.Waiter.{Waiter}
use Rattle.audit_kernel.specs.Runs.{call_of, call_at, waiter_of}

-- the account of root
abbrev pub root : ℕ → Account
root g =
    record {
      balance = record { steps = g; records = g; locks = g };
      spent = record { steps = 0; records = 0; locks = 0 };
    }

-- what root has, or another
account_is : (g q : ℕ) → account_of (cond (q == 0) (root g) no_account) ≡ opening_account g q
account_is g q = go (q == 0)
  where
    all : (x : ℕ) (k : Kind) → (let f : Kind → ℕ = λ k. (elim k [ Steps ↦ x | Records ↦ x | Locks ↦ x ]) in f k) ≡ x
    all x Steps = refl
    all x Records = refl
    all x Locks = refl

    made : (Kind → ℕ) → (Kind → ℕ) → model.AcctValue
    made b s = record { balance = b; spent = s }

    go : (b : Bool) → account_of (cond b (root g) no_account)
        ≡ (let a : model.AcctValue = record { balance = λ k. cond b g 0; spent = λ k. 0 } in a)
    go true =
        ap (λ (f : Kind → ℕ). made f (λ k. (elim k [ Steps ↦ 0 | Records ↦ 0 | Locks ↦ 0 ]))) (fun_ext (all g))
        ∙ ap (made (λ k. g)) (fun_ext (all 0))
    go false =
        ap (λ (f : Kind → ℕ). made f (λ k. (elim k [ Steps ↦ 0 | Records ↦ 0 | Locks ↦ 0 ]))) (fun_ext (all 0))
        ∙ ap (made (λ k. 0)) (fun_ext (all 0))

-- the accounts after boot
pub accounts_are : (g : ℕ) (a : Accounts) → a.grafts.items ≡ [] →
    ((q : ℕ) → column_of no_account a.accounts.items q ≡ cond (q == 0) (root g) no_account) →
    accounts_of a ≡ opening_accounts g
accounts_are g a none is =
    let accts : (λ (q : ℕ). account_of (column_of no_account a.accounts.items q)) ≡ opening_account g =
    fun_ext (λ q. ap account_of (is q) ∙ account_is g q) in
    rw none (rw accts refl)

-- the policies after boot
pub policies_are : (w : Things) → ((i : ℕ) → column_of 0 w.chosen.items i ≡ cond (i == 0) 1 0) →
    ((i k : ℕ) → table_of 0 w.params.items i k ≡ cond (i == 0 && k == 1) 2 (cond (i == 0 && k == 2) 1 0)) →
    (λ (i : ℕ). policy_of (column_of 0 w.chosen.items i) (table_of 0 w.params.items i)) ≡ opening_policy
policies_are w chosen params = fun_ext (λ i.
    ap (λ (n : ℕ). policy_of n (table_of 0 w.params.items i)) (chosen i)
    ∙ ap (policy_of (cond (i == 0) 1 0)) (fun_ext (λ k. params i k ∙ by (i == 0) k)))
  where
    by : (b : Bool) (k : ℕ) → ◌≡◌ {A = ℕ} (cond (b && k == 1) 2 (cond (b && k == 2) 1 0))
        (cond b (cond (k == 1) 2 (cond (k == 2) 1 0)) 0)
    by true k = refl
    by false k = refl

-- the other objects after boot
pub things_are : (bytes : ℕ → List ℕ) (w : Things) → w.cells.items ≡ [] → w.files.items ≡ [] →
    w.queue.items ≡ opening_things.queue → w.frames.items ≡ [] → w.lru.items ≡ [] →
    w.locks.items ≡ [] →
    (λ (i : ℕ). policy_of (column_of 0 w.chosen.items i) (table_of 0 w.params.items i)) ≡ opening_policy →
    w.segments.items ≡ [] → w.handlers.items ≡ [] → things_of bytes w ≡ opening_things
things_are bytes w cells files queue frames lru locks policies segments handlers =
    rw cells (rw files (rw queue (rw frames (rw lru (rw locks (rw policies (rw segments (rw handlers refl))))))))

-- the kernel after boot
pub kernel_is : (v : World) (images : ImageTable) (w : model.Objects) (grant : ℕ) (flights : List (Option Flight))
    (order : List Waiter) → images ≡ (λ slot. None) → w ≡ opening_objects grant → grant ≡ v.grant →
    ((q : ℕ) → slice_index_or flights q None ≡ None) → order ≡ [] →
    (let k : Kernel = record {
      world = v;
      images = images;
      objects = w;
      clock = 0;
      call = call_at flights;
      order = map waiter_of order;
    } in k) ≡ opening_kernel v
kernel_is v images w grant flights order images_are objects grant_is none order_is =
    let made : ImageTable → model.Objects → (ℕ → Option Call) → List model_kernel.Waiter → Kernel = λ t s f es. record {
      world = v;
      images = t;
      objects = s;
      clock = 0;
      call = f;
      order = es;
    } in
    let calls : call_at flights ≡ (λ q. None) =
    fun_ext (λ q. ap (λ (f : Option Flight). option_map call_of f) (none q)) in
    ap (λ (t : ImageTable). made t w (call_at flights) (map waiter_of order)) images_are
    ∙ ap (λ (s : model.Objects). made (λ slot. None) s (call_at flights) (map waiter_of order)) (objects ∙ ap opening_objects grant_is)
    ∙ ap (λ (f : ℕ → Option Call). made (λ slot. None) (opening_objects v.grant) f (map waiter_of order)) calls
    ∙ ap (λ (es : List Waiter). made (λ slot. None) (opening_objects v.grant) (λ q. None) (map waiter_of es)) order_is
