-- What charges, removals and accessors keep sound.
use Rattle.std.specs.Prelude.{◌≡◌, ◌≢◌, ℕ, ◌<◌, ◌≤◌, ◌==◌, ◌&&◌, nat_lt, Bool, true, false, List}
use Rattle.std.specs.Prelude.{[], ◌∷◌, Option, Some, None}
use Rattle.std.proofs.Common.{◌⊎◌, arith, refl, subst, sym, ap, ◌∙◌, inl, inr}
use Rattle.std.proofs.lemmas.Bool.{cases_Bool, cond-true, cond-false, and_parts, eqb-true}
use Rattle.std.proofs.lemmas.Bool.Decides.{nat_tests}
use Rattle.kernel_model.specs.declared.Kind.{Kind}
use Rattle.kernel_model.specs.World.{World}
use Rattle.kernel_model.specs.Objects.{Objects, Accounts, Things, GraftValue, at2}
use Rattle.kernel_model.specs.Policies.{lives}
use Rattle.kernel_model.specs.Access.{set_segment}
use Rattle.kernel_model.specs.Charges.{payer_balance, funds, pay, spend, taken_from}
use Rattle.kernel_model.specs.Charges.{charge_account, charge_graft, charge_by, charge, removed}
use Rattle.kernel_model.specs.Charges.{removed_by}
use Rattle.kernel_model.specs.Sound.{IsSoundStore}
use Rattle.call_laws.specs.SoundStores.{not_gone, store_with_accounts}
use Rattle.call_laws.specs.SoundAccounts.{remove_store}
use Rattle.call_laws.specs.Ledgers.{at_other}
use Rattle.kernel_laws.proofs.AmountLemmas.{charge_total}
use Rattle.kernel_laws.specs.Soundness.{AreGraftsWork}

-- ---- charges

-- what stands at a pair after another value came to one: that value, or what was there
pub found_at : {A : Type 0} (p k q l : ℕ) (x : A) (f : ℕ → ℕ → A) →
    ((q ≡ p) × (l ≡ k) × (at2 p k x f q l ≡ x)) ⊎ (at2 p k x f q l ≡ f q l)
found_at p k q l x f = elim (cases_Bool (q == p && l == k)) [
  | inl e ↦ let b = and_parts (q == p) (l == k) e in
      inl (eqb-true q p b.0, eqb-true l k b.1, cond-true (q == p && l == k) x (f q l) e)
  | inr e ↦ inr (cond-false (q == p && l == k) x (f q l) e)
]

-- grafts that stand after a charge
charged_grafts : (v : World) (s : Objects) (q pt : ℕ) (k : Kind) (g : GraftValue) (billed : Bool) →
    IsSoundStore v s → s.accounts.graft q pt ≡ Some g →
    (r pu : ℕ) (x : GraftValue) →
    (elim billed as (λ _. Accounts) [
      | true ↦ charge_account k q s.accounts
      | false ↦ charge_graft k q pt g s.accounts
    ]).graft r pu ≡ Some x →
    (pu < 16) × (lives s.things.queue r ≡ true)
charged_grafts v s q pt k g true h e r pu x stands = h.grafts r pu x stands
charged_grafts v s q pt k g false h e r pu x stands =
    elim (found_at q pt r pu (Some (taken_from k g)) s.accounts.graft) [
      | inl a ↦ let here = h.grafts q pt g e in
          (subst (λ i. i < 16) (sym a.1) here.0, ap (lives s.things.queue) a.0 ∙ here.1)
      | inr a ↦ h.grafts r pu x (sym a ∙ stands)
    ]

-- accounts of others
charged_others : (v : World) (s : Objects) (q pt : ℕ) (k : Kind) (g : GraftValue) (billed : Bool) → (r : ℕ) → r ≢ q →
    (elim billed as (λ _. Accounts) [
      | true ↦ charge_account k q s.accounts
      | false ↦ charge_graft k q pt g s.accounts
    ]).acct r ≡ s.accounts.acct r
charged_others v s q pt k g true r ne = at_other q r (pay k (s.accounts.acct q)) s.accounts.acct ne
charged_others v s q pt k g false r ne = at_other q r (spend k (s.accounts.acct q)) s.accounts.acct ne

-- a charge that can be paid
charge_store_by : (v : World) (s : Objects) (q pt : ℕ) (k : Kind) (g : Option GraftValue) →
    s.accounts.graft q pt ≡ g → IsSoundStore v s →
    1 ≤ payer_balance k (s.accounts.acct q) g →
    IsSoundStore v (record { accounts = charge_by k q pt g s.accounts; things = s.things })
charge_store_by v s q pt k None e h enough = h
charge_store_by v s q pt k (Some g) e h enough =
    store_with_accounts v s (charge_by k q pt (Some g) s.accounts) h (record {
      grafts = charged_grafts v s q pt k g g.billed h e;
      gone = λ r gone. charged_others v s q pt k g g.billed r (not_gone s.things.queue q r (h.grafts q pt g e).1 gone);
      ledgers = λ j. charge_total v s q pt k j (Some g) e h enough;
    })

-- a charge that can be paid keeps a store sound
pub charge_store : (v : World) (s : Objects) (q pt : ℕ) (k : Kind) → IsSoundStore v s → 1 ≤ funds s.accounts q pt k →
    IsSoundStore v (record { accounts = charge k q pt s.accounts; things = s.things })
charge_store v s q pt k h enough = charge_store_by v s q pt k (s.accounts.graft q pt) refl h enough

-- a graft taken out, if one stands
remove_store_by : (v : World) (s : Objects) (q pt : ℕ) (g : Option GraftValue) →
    s.accounts.graft q pt ≡ g → IsSoundStore v s →
    IsSoundStore v (record { accounts = removed q pt s.accounts; things = s.things })
remove_store_by v s q pt None e h =
    subst (λ g. IsSoundStore v
    (record { accounts = removed_by q pt g s.accounts; things = s.things })) (sym e) h
remove_store_by v s q pt (Some g) e h =
    let here = h.grafts q pt g e in
    remove_store v s q pt (Some g) (λ b. []) h here.1 here.0

-- a graft taken out keeps a store sound
pub removed_store : (v : World) (s : Objects) (q pt : ℕ) → IsSoundStore v s →
    IsSoundStore v (record { accounts = removed q pt s.accounts; things = s.things })
removed_store v s q pt h = remove_store_by v s q pt (s.accounts.graft q pt) refl h

-- ---- kept segments

-- another segment is kept at a point that there is
pub segment_store : (v : World) (s : Objects) (q pt : ℕ) (bytes : Option (ℕ → ℕ)) →
    IsSoundStore v s → q < 16 → pt < 16 →
    IsSoundStore v (record { accounts = s.accounts; things = set_segment q pt bytes s.things })
segment_store v s q pt bytes h process point =
    record {
      world = h.world;
      root = h.root;
      once = h.once;
      numbers = h.numbers;
      nices = h.nices;
      in_use = h.in_use;
      frame_numbers = h.frame_numbers;
      one_frame = h.one_frame;
      frames = h.frames;
      holders = h.holders;
      grafts = h.grafts;
      gone =
          λ p e. record {
            cells = (h.gone p e).cells;
            files = (h.gone p e).files;
            balances = (h.gone p e).balances;
            spent = (h.gone p e).spent;
          };
      files = h.files;
      policies = h.policies;
      handlers = h.handlers;
      handlers_live = h.handlers_live;
      segments = λ r pu out. elim (found_at q pt r pu bytes s.things.segment) [
        | inl here ↦ absurd (within r pu q pt here.0 here.1 process point out)
        | inr other ↦ other ∙ h.segments r pu out
      ];
      ledgers = h.ledgers;
    }
  where
    within : (r pu q pt : ℕ) → r ≡ q → pu ≡ pt → q < 16 → pt < 16 → (nat_lt r 16 && nat_lt pu 16) ≡ false → ⊥
    within r pu q pt a b c d out = grind (arith, nat_tests)

-- ---- what grafts work on

-- other accounts with which sound things stay sound
each_kept : (v : World) (s : Objects) (a b : Accounts) (ws : List Things) →
    ((w : Things) → IsSoundStore v (record { accounts = a; things = w }) →
    IsSoundStore v (record { accounts = b; things = w })) →
    AreGraftsWork v s a ws → AreGraftsWork v s b ws
each_kept v s a b [] h work = tt
each_kept v s a b (w ∷ ws) h work =
    let k = work.0.alike in (
      record {
        store = h w work.0.store;
        alike =
            record {
              files = k.files;
              queue = k.queue;
              handlers = k.handlers;
              lru = k.lru;
              frames = k.frames;
              locks = k.locks;
              policies = k.policies;
            };
      },
      each_kept v s a b ws h work.1,
    )

-- a charge that can be paid
pub charge_work : (v : World) (s : Objects) (a : Accounts) (q pt : ℕ) (k : Kind)
    (ws : List Things) → 1 ≤ funds a q pt k →
    AreGraftsWork v s a ws → AreGraftsWork v s (charge k q pt a) ws
charge_work v s a q pt k ws enough work =
    each_kept v s a (charge k q pt a) ws
    (λ w h. charge_store v (record { accounts = a; things = w }) q pt k h enough) work

-- a graft taken out
pub remove_work : (v : World) (s : Objects) (a : Accounts) (q pt : ℕ) (ws : List Things) →
    AreGraftsWork v s a ws → AreGraftsWork v s (removed q pt a) ws
remove_work v s a q pt ws work =
    each_kept v s a (removed q pt a) ws (λ w h. removed_store v (record { accounts = a; things = w }) q pt h) work
