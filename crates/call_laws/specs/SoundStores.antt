-- The changes of one part of a store that keep it sound: the queue, the cache, an open file, a
-- cell, a lock, a policy, a kept segment, accounts and grafts.
use Rattle.std.specs.Prelude.{◌≡◌, ◌≢◌, ℕ, ◌<◌, ◌==◌, ◌&&◌, true, false, List, Option, None, Some}
use Rattle.std.proofs.Common.{◌⊎◌, arith, subst, sym, ap, ◌∙◌, inl, inr}
use Rattle.std.proofs.lemmas.Bool.{cases_Bool, cases_eq, cond-true, cond-false, eqb-true, eq-eqb}
use Rattle.std.proofs.lemmas.Bool.{ne_eqb, true≢false, and_parts}
use Rattle.std.proofs.lemmas.Bool.Decides.{nat_tests}
use Rattle.kernel_model.specs.declared.Kind.{Kind}
use Rattle.kernel_model.specs.declared.QueueRow.{QueueRow}
use Rattle.kernel_model.specs.declared.OpenRow.{OpenRow}
use Rattle.kernel_model.specs.World.{World}
use Rattle.kernel_model.specs.Objects.{Objects, Accounts, GraftValue, AcctValue, CacheValue}
use Rattle.kernel_model.specs.Objects.{PolValue, at, at2, with_accounts, with_things}
use Rattle.kernel_model.specs.Access.{set_cell, set_segment}
use Rattle.kernel_model.specs.Policies.{lives}
use Rattle.kernel_model.specs.FilePieces.{with_cache, with_file}
use Rattle.kernel_model.specs.Pieces.{with_queue, with_holder}
use Rattle.kernel_model.specs.Sound.{IsSoundStore, IsSoundFile, IsSoundPolicy, count_of, once_if}
use Rattle.kernel_model.specs.Sound.{in_queue, sum_below, ledger}
use Rattle.call_laws.specs.SoundCaches.{IsSoundCache}
use Rattle.call_laws.specs.Rows.{NicesFit}

-- who lives isn't one who doesn't
pub not_gone : (queue : List QueueRow) (p q : ℕ) → lives queue p ≡ true → lives queue q ≡ false →
    q ≢ p
not_gone queue p q h k e = true≢false (sym h ∙ ap (lives queue) (sym e) ∙ k)

-- ---- the cache

-- another sound cache
pub store_with_cache : (v : World) (s : Objects) (c : CacheValue) → IsSoundStore v s →
    IsSoundCache v s.things.queue c → IsSoundStore v (with_cache c s)
store_with_cache v s c h k = record {
  world = h.world;
  root = h.root;
  once = h.once;
  numbers = h.numbers;
  nices = h.nices;
  in_use = k.in_use;
  frame_numbers = k.frame_numbers;
  one_frame = k.one_frame;
  frames = k.frames;
  holders = h.holders;
  grafts = h.grafts;
  gone = λ p e. record {
    cells = (h.gone p e).cells;
    files = (h.gone p e).files;
    balances = (h.gone p e).balances;
    spent = (h.gone p e).spent;
  };
  files = h.files;
  policies = h.policies;
  handlers = h.handlers;
  handlers_live = h.handlers_live;
  segments = h.segments;
  ledgers = h.ledgers;
}

-- ---- an open file

-- an open file at a changed place: the new one, or the one that was there
file_found : (p fd q l : ℕ) (row : Option OpenRow) (file : ℕ → ℕ → Option OpenRow) →
    ((q ≡ p) × (l ≡ fd) × (at2 p fd row file q l ≡ row)) ⊎ (at2 p fd row file q l ≡ file q l)
file_found p fd q l row file = elim (cases_Bool (q == p && l == fd)) [
  | inl e ↦ let k = and_parts (q == p) (l == fd) e in
      inl (eqb-true q p k.0, eqb-true l fd k.1, cond-true (q == p && l == fd) row (file q l) e)
  | inr e ↦ inr (cond-false (q == p && l == fd) row (file q l) e)
]

-- a living process has another open file
pub store_with_file : (v : World) (s : Objects) (p fd : ℕ) (row : Option OpenRow) →
    IsSoundStore v s → lives s.things.queue p ≡ true → fd < 4 →
    ((o : OpenRow) → row ≡ Some o → IsSoundFile v o) → IsSoundStore v (with_file p fd row s)
store_with_file v s p fd row h alive low sound = record {
  world = h.world;
  root = h.root;
  once = h.once;
  numbers = h.numbers;
  nices = h.nices;
  in_use = h.in_use;
  frame_numbers = h.frame_numbers;
  one_frame = h.one_frame;
  frames = h.frames;
  holders = h.holders;
  grafts = h.grafts;
  gone = λ q e. record {
    cells = (h.gone q e).cells;
    files = λ l. elim (file_found p fd q l row s.things.file) [
      | inl a ↦ absurd (not_gone s.things.queue p q alive e a.0)
      | inr a ↦ a ∙ (h.gone q e).files l
    ];
    balances = (h.gone q e).balances;
    spent = (h.gone q e).spent;
  };
  files = λ q l o e. elim (file_found p fd q l row s.things.file) [
    | inl a ↦ (subst (λ i. i < 4) (sym a.1) low, sound o (sym a.2 ∙ e))
    | inr a ↦ h.files q l o (sym a ∙ e)
  ];
  policies = h.policies;
  handlers = h.handlers;
  handlers_live = h.handlers_live;
  segments = h.segments;
  ledgers = h.ledgers;
}

-- ---- a cell

-- a living process has another value in a cell
pub store_with_cell : (v : World) (s : Objects) (p k x : ℕ) → IsSoundStore v s →
    lives s.things.queue p ≡ true → IsSoundStore v (with_things (set_cell p k x s.things) s)
store_with_cell v s p k x h alive = record {
  world = h.world;
  root = h.root;
  once = h.once;
  numbers = h.numbers;
  nices = h.nices;
  in_use = h.in_use;
  frame_numbers = h.frame_numbers;
  one_frame = h.one_frame;
  frames = h.frames;
  holders = h.holders;
  grafts = h.grafts;
  gone = λ q e. record {
    cells = λ l. other_cell p k q l x s.things.cell (not_gone s.things.queue p q alive e)
        ∙ (h.gone q e).cells l;
    files = (h.gone q e).files;
    balances = (h.gone q e).balances;
    spent = (h.gone q e).spent;
  };
  files = h.files;
  policies = h.policies;
  handlers = h.handlers;
  handlers_live = h.handlers_live;
  segments = h.segments;
  ledgers = h.ledgers;
}
  where
    -- the cells of another process
    other_cell : (p k q l x : ℕ) (cell : ℕ → ℕ → ℕ) → q ≢ p → at2 p k x cell q l ≡ cell q l
    other_cell p k q l x cell ne = grind (arith, nat_tests)

-- ---- a user lock

-- a user lock has another holder
pub store_with_holder : (v : World) (s : Objects) (u : ℕ) (holder : Option ℕ) → IsSoundStore v s →
    u < 16 → ((p : ℕ) → holder ≡ Some p → lives s.things.queue p ≡ true) →
    IsSoundStore v (with_holder u holder s)
store_with_holder v s u holder h low alive = record {
  world = h.world;
  root = h.root;
  once = h.once;
  numbers = h.numbers;
  nices = h.nices;
  in_use = h.in_use;
  frame_numbers = h.frame_numbers;
  one_frame = h.one_frame;
  frames = h.frames;
  holders = λ l p e. elim (cases_eq l u) [
    | inl same ↦ (
      subst (λ i. i < 16) (sym same) low,
      alive p (sym (cond-true (l == u) holder (s.things.lock l) (eq-eqb l u same)) ∙ e),
    )
    | inr ne ↦ h.holders l p (sym (cond-false (l == u) holder (s.things.lock l) (ne_eqb l u ne))
        ∙ e)
  ];
  grafts = h.grafts;
  gone = λ p e. record {
    cells = (h.gone p e).cells;
    files = (h.gone p e).files;
    balances = (h.gone p e).balances;
    spent = (h.gone p e).spent;
  };
  files = h.files;
  policies = h.policies;
  handlers = h.handlers;
  handlers_live = h.handlers_live;
  segments = h.segments;
  ledgers = h.ledgers;
}

-- ---- a policy

-- another sound policy
pub store_with_policy : (v : World) (s : Objects) (kind : ℕ) (pol : PolValue) → IsSoundStore v s →
    IsSoundPolicy kind pol →
    IsSoundStore v (with_things (record (s.things) { pol = at kind pol s.things.pol }) s)
store_with_policy v s kind pol h sound = record {
  world = h.world;
  root = h.root;
  once = h.once;
  numbers = h.numbers;
  nices = h.nices;
  in_use = h.in_use;
  frame_numbers = h.frame_numbers;
  one_frame = h.one_frame;
  frames = h.frames;
  holders = h.holders;
  grafts = h.grafts;
  gone = λ p e. record {
    cells = (h.gone p e).cells;
    files = (h.gone p e).files;
    balances = (h.gone p e).balances;
    spent = (h.gone p e).spent;
  };
  files = h.files;
  policies = λ k low. elim (cases_eq k kind) [
    | inl same ↦ subst (λ q. IsSoundPolicy k q)
        (sym (cond-true (k == kind) pol (s.things.pol k) (eq-eqb k kind same)))
        (subst (λ i. IsSoundPolicy i pol) (sym same) sound)
    | inr ne ↦ subst (λ q. IsSoundPolicy k q)
        (sym (cond-false (k == kind) pol (s.things.pol k) (ne_eqb k kind ne))) (h.policies k low)
  ];
  handlers = h.handlers;
  handlers_live = h.handlers_live;
  segments = h.segments;
  ledgers = h.ledgers;
}

-- ---- a kept segment

-- nothing is kept for a graft any more
pub store_without_segment : (v : World) (s : Objects) (p pt : ℕ) → IsSoundStore v s →
    IsSoundStore v (with_things (set_segment p pt None s.things) s)
store_without_segment v s p pt h = record {
  world = h.world;
  root = h.root;
  once = h.once;
  numbers = h.numbers;
  nices = h.nices;
  in_use = h.in_use;
  frame_numbers = h.frame_numbers;
  one_frame = h.one_frame;
  frames = h.frames;
  holders = h.holders;
  grafts = h.grafts;
  gone = λ q e. record {
    cells = (h.gone q e).cells;
    files = (h.gone q e).files;
    balances = (h.gone q e).balances;
    spent = (h.gone q e).spent;
  };
  files = h.files;
  policies = h.policies;
  handlers = h.handlers;
  handlers_live = h.handlers_live;
  segments = λ q pu e. elim (cases_Bool (q == p && pu == pt)) [
    | inl same ↦ cond-true (q == p && pu == pt) None (s.things.segment q pu) same
    | inr ne ↦ cond-false (q == p && pu == pt) None (s.things.segment q pu) ne ∙ h.segments q pu e
  ];
  ledgers = h.ledgers;
}

-- ---- the queue

-- a queue of other rows, in which the same processes stand
pub record IsSameQueue (old new : List QueueRow) : Type 0 where
  pub living : (q : ℕ) → lives new q ≡ lives old q
  pub count : (q : ℕ) → count_of q (in_queue new) ≡ count_of q (in_queue old)
  pub nices : NicesFit new

-- the queue has other rows
pub store_with_queue : (v : World) (s : Objects) (queue : List QueueRow) → IsSoundStore v s →
    IsSameQueue s.things.queue queue → IsSoundStore v (with_queue queue s)
store_with_queue v s queue h k = record {
  world = h.world;
  root = k.living 0 ∙ h.root;
  once = λ p. k.count p ∙ h.once p ∙ ap once_if (sym (k.living p));
  numbers = λ p e. h.numbers p (sym (k.living p) ∙ e);
  nices = k.nices;
  in_use = h.in_use;
  frame_numbers = h.frame_numbers;
  one_frame = h.one_frame;
  frames = λ f x e. let q = h.frames f x e in
      record {
        owner = k.living x.owner ∙ q.owner;
        block = q.block;
        mark = q.mark;
        bytes = q.bytes;
      };
  holders = λ u p e. let q = h.holders u p e in (q.0, k.living p ∙ q.1);
  grafts = λ q pt g e. let a = h.grafts q pt g e in (a.0, k.living q ∙ a.1);
  gone = λ p e. let g = h.gone p (sym (k.living p) ∙ e) in
      record { cells = g.cells; files = g.files; balances = g.balances; spent = g.spent };
  files = h.files;
  policies = h.policies;
  handlers = h.handlers;
  handlers_live = λ q pt e. k.living q ∙ h.handlers_live q pt e;
  segments = h.segments;
  ledgers = h.ledgers;
}

-- ---- accounts and grafts

-- other accounts and grafts are sound beside the queue, and hold the same amounts
pub record AreSoundAccounts (s : Objects) (a : Accounts) : Type 0 where
  pub grafts : (q pt : ℕ) (g : GraftValue) → a.graft q pt ≡ Some g → (pt < 16)
      × (lives s.things.queue q ≡ true)
  pub gone : (q : ℕ) → lives s.things.queue q ≡ false → a.acct q ≡ s.accounts.acct q
  pub ledgers : (k : Kind) → sum_below 16 (ledger a k) ≡ sum_below 16 (ledger s.accounts k)

-- other accounts and grafts
pub store_with_accounts : (v : World) (s : Objects) (a : Accounts) → IsSoundStore v s →
    AreSoundAccounts s a → IsSoundStore v (with_accounts a s)
store_with_accounts v s a h k = record {
  world = h.world;
  root = h.root;
  once = h.once;
  numbers = h.numbers;
  nices = h.nices;
  in_use = h.in_use;
  frame_numbers = h.frame_numbers;
  one_frame = h.one_frame;
  frames = h.frames;
  holders = h.holders;
  grafts = k.grafts;
  gone = λ p e. record {
    cells = (h.gone p e).cells;
    files = (h.gone p e).files;
    balances = λ j. ap (λ (x : AcctValue). x.balance j) (k.gone p e) ∙ (h.gone p e).balances j;
    spent = λ j. ap (λ (x : AcctValue). x.spent j) (k.gone p e) ∙ (h.gone p e).spent j;
  };
  files = h.files;
  policies = h.policies;
  handlers = h.handlers;
  handlers_live = h.handlers_live;
  segments = h.segments;
  ledgers = λ j. k.ledgers j ∙ h.ledgers j;
}
