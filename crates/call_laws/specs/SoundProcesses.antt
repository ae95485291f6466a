-- A store stays sound when a process comes, leaves or yields.
use Rattle.std.specs.Prelude.{◌≡◌, ◌≢◌, ℕ, zero, suc, ◌<◌, ◌==◌, true, false, cond, not, List, []}
use Rattle.std.specs.Prelude.{◌∷◌, ◌++◌, Option, None, Some}
use Rattle.std.specs.List.{list_any}
use Rattle.std.proofs.Common.{◌⊎◌, arith, refl, subst, sym, ap, ◌∙◌, inl, inr}
use Rattle.std.proofs.lemmas.Bool.{cases_Bool, cases_eq, cases_lt, cond-true, cond-false, eqb-false}
use Rattle.std.proofs.lemmas.Bool.{eq-eqb, ne_eqb, true≢false, false≢true, or_left, or_parts}
use Rattle.std.proofs.lemmas.Bool.{and_parts}
use Rattle.std.proofs.lemmas.Map.Views.{any-filter_same}
use Rattle.std.proofs.lemmas.Bool.Decides.{nat_tests}
use Rattle.kernel_model.specs.declared.QueueRow.{QueueRow}
use Rattle.kernel_model.specs.World.{World, Blocks}
use Rattle.kernel_model.specs.Objects.{Objects, GraftValue, AcctValue, FrameValue}
use Rattle.kernel_model.specs.Handlers.{is_handler, handlers_without_process, handlers_pass}
use Rattle.kernel_model.specs.Policies.{lives, next_process, or_zero}
use Rattle.kernel_model.specs.Needs.{free_process}
use Rattle.kernel_model.specs.Fetch.{chosen_by}
use Rattle.kernel_model.specs.Pieces.{with_queue, spawn_piece, exit_piece, yield_piece, handed_over}
use Rattle.kernel_model.specs.Pieces.{freed_by, without_grafts, account_closed, empty_account}
use Rattle.kernel_model.specs.Pieces.{to_back, add_slice}
use Rattle.kernel_model.specs.Sound.{IsSoundStore, IsSoundFrame, IsGone, count_of, once_if, in_queue}
use Rattle.call_laws.specs.FreeNumbers.{IsFreeProcess, free_process_is}
use Rattle.call_laws.specs.Exits.{graft_of_another, account_of_another, graft_above, graft_taken}
use Rattle.call_laws.specs.Changes.{closed_account}
use Rattle.call_laws.specs.Rows.{lives_append, lives_others, lives_to_back}
use Rattle.call_laws.specs.Rows.{lives_add_slice, count_append, count_others, count_to_back}
use Rattle.call_laws.specs.Rows.{count_add_slice, nices_push, nices_others, nices_to_back}
use Rattle.call_laws.specs.Rows.{nices_add_slice}
use Rattle.call_laws.specs.SoundCaches.{cache_of_store, sound_reframed, block_at}
use Rattle.call_laws.specs.SoundStores.{store_with_queue}
use Rattle.call_laws.specs.Ledgers.{exit_ledger}
use Rattle.kernel_model.specs.Queue.{queue_without}

-- ---- a new process

-- the row of a new process
abbrev new_row : ℕ → QueueRow
new_row c = record { process = c; nice = 20; slices = 0 }

-- who lived lives
still_lives : (queue : List QueueRow) (c q : ℕ) → lives queue q ≡ true →
    lives (queue ++ new_row c ∷ []) q ≡ true
still_lives queue c q h = lives_append queue (new_row c ∷ []) q ∙ or_left _ _ h

-- who lives lived, or is the new one
lived_or_new : (queue : List QueueRow) (c q : ℕ) → lives (queue ++ new_row c ∷ []) q ≡ true →
    (lives queue q ≡ true) ⊎ (q ≡ c)
lived_or_new queue c q h = let k = sym (lives_append queue (new_row c ∷ []) q) ∙ h in
    grind (arith, nat_tests)

-- who doesn't live didn't
not_before : (queue : List QueueRow) (c q : ℕ) → lives (queue ++ new_row c ∷ []) q ≡ false →
    lives queue q ≡ false
not_before queue c q h =
    (or_parts (lives queue q) (lives (new_row c ∷ []) q)
    (sym (lives_append queue (new_row c ∷ []) q) ∙ h)).0

-- each process stands there once
once_more : (queue : List QueueRow) (c q : ℕ) → lives queue c ≡ false →
    count_of q (in_queue queue) ≡ once_if (lives queue q) →
    count_of q (in_queue (queue ++ new_row c ∷ [])) ≡ once_if (lives (queue ++ new_row c ∷ []) q)
once_more queue c q free h = elim (cases_eq q c) [
  | inl e ↦ subst (λ i. count_of i (in_queue queue) ≡ once_if (lives queue i) →
      count_of i (in_queue (queue ++ new_row c ∷ []))
      ≡ once_if (lives (queue ++ new_row c ∷ []) i)) (sym e)
      (new_once queue c free) h
  | inr ne ↦ old_once queue c q ne h
]
  where
    -- the new process
    new_once : (queue : List QueueRow) (c : ℕ) → lives queue c ≡ false →
        count_of c (in_queue queue) ≡ once_if (lives queue c) →
        count_of c (in_queue (queue ++ new_row c ∷ []))
        ≡ once_if (lives (queue ++ new_row c ∷ []) c)
    new_once queue c free h = let a = count_append queue (new_row c ∷ []) c in let b =
        lives_append queue (new_row c ∷ []) c in grind (arith, nat_tests)

    -- any other
    old_once : (queue : List QueueRow) (c q : ℕ) → q ≢ c →
        count_of q (in_queue queue) ≡ once_if (lives queue q) →
        count_of q (in_queue (queue ++ new_row c ∷ []))
        ≡ once_if (lives (queue ++ new_row c ∷ []) q)
    old_once queue c q ne h = let a = count_append queue (new_row c ∷ []) q in let b =
        lives_append queue (new_row c ∷ []) q in grind (arith, nat_tests)

-- a store with a new process
store_with_new : (v : World) (s : Objects) (c : ℕ) → IsSoundStore v s →
    IsFreeProcess s.things.queue 16 0 c →
    IsSoundStore v (with_queue (s.things.queue ++ new_row c ∷ []) s)
store_with_new v s c h free = record {
  world = h.world;
  root = still_lives s.things.queue c 0 h.root;
  once = λ p. once_more s.things.queue c p free.free (h.once p);
  numbers = λ p e. elim (lived_or_new s.things.queue c p e) [
    | inl k ↦ h.numbers p k
    | inr same ↦ subst (λ i. i < 16) (sym same) free.high
  ];
  nices = nices_push s.things.queue (new_row c) h.nices (omega arith);
  in_use = h.in_use;
  frame_numbers = h.frame_numbers;
  one_frame = h.one_frame;
  frames = λ f x e. let q = h.frames f x e in
      record {
        owner = still_lives s.things.queue c x.owner q.owner;
        block = q.block;
        mark = q.mark;
        bytes = q.bytes;
      };
  holders = λ u p e. let q = h.holders u p e in (q.0, still_lives s.things.queue c p q.1);
  grafts = λ q pt g e. let a = h.grafts q pt g e in (a.0, still_lives s.things.queue c q a.1);
  gone = λ p e. let g = h.gone p (not_before s.things.queue c p e) in
      record { cells = g.cells; files = g.files; balances = g.balances; spent = g.spent };
  files = h.files;
  policies = h.policies;
  handlers = h.handlers;
  handlers_live = λ q pt e. still_lives s.things.queue c q (h.handlers_live q pt e);
  segments = h.segments;
  ledgers = h.ledgers;
}

-- a spawn
pub spawn_store : (v : World) (s : Objects) (c : Option ℕ) (blocks : Blocks) → IsSoundStore v s →
    free_process s.things.queue 16 0 ≡ c →
    IsSoundStore v (spawn_piece s c blocks).objects
spawn_store v s None blocks h e = h
spawn_store v s (Some c) blocks h e =
    store_with_new v s c h (free_process_is s.things.queue 16 0 c e)

-- ---- a yield

-- a yield
pub yield_store : (n : ℕ) (v : World) (s : Objects) (p : ℕ) (answer : Option (List ℕ))
    (blocks : Blocks) → IsSoundStore v s →
    IsSoundStore v (yield_piece n s p answer blocks).objects
yield_store zero v s p answer blocks h =
    store_with_queue v s (to_back p s.things.queue) h
    (record {
      living = lives_to_back p s.things.queue;
      count = count_to_back p s.things.queue;
      nices = nices_to_back p s.things.queue h.nices;
    })
yield_store (suc n) v s p answer blocks h =
    let c = chosen_by answer (or_zero (next_process (s.things.pol 2) s.things.queue)) in
    store_with_queue v s (add_slice c s.things.queue) h
    (record {
      living = lives_add_slice c s.things.queue;
      count = count_add_slice c s.things.queue;
      nices = nices_add_slice c s.things.queue h.nices;
    })

-- ---- an exit

-- another process lives on
lives_on : (p : ℕ) (queue : List QueueRow) (q : ℕ) → q ≢ p → lives queue q ≡ true →
    lives (queue_without p queue) q ≡ true
lives_on p queue q ne h = lives_others p queue q
    ∙ cond-false (q == p) false (lives queue q) (ne_eqb q p ne) ∙ h

-- who lives after an exit lived, and is another
lived_before : (p : ℕ) (queue : List QueueRow) (q : ℕ) → lives (queue_without p queue) q ≡ true →
    (lives queue q ≡ true) × (q ≢ p)
lived_before p queue q h = elim (cases_eq q p) [
  | inl e ↦ absurd
      (false≢true (sym (lives_others p queue q
      ∙ cond-true (q == p) false (lives queue q) (eq-eqb q p e)) ∙ h))
  | inr ne ↦ (
    sym (lives_others p queue q
        ∙ cond-false (q == p) false (lives queue q) (ne_eqb q p ne)) ∙ h,
    ne,
  )
]

-- who doesn't live after an exit is the one that left, or didn't live
left_or_gone : (p : ℕ) (queue : List QueueRow) (q : ℕ) → lives (queue_without p queue) q ≡ false →
    (q ≡ p) ⊎ ((q ≢ p) × (lives queue q ≡ false))
left_or_gone p queue q h = elim (cases_eq q p) [
  | inl e ↦ inl e
  | inr ne ↦ inr (
    ne,
    sym (lives_others p queue q
        ∙ cond-false (q == p) false (lives queue q) (ne_eqb q p ne)) ∙ h,
  )
]

-- each process stands there once
once_others : (p : ℕ) (queue : List QueueRow) (q : ℕ) →
    count_of q (in_queue queue) ≡ once_if (lives queue q) →
    count_of q (in_queue (queue_without p queue)) ≡ once_if (lives (queue_without p queue) q)
once_others p queue q h = let a = count_others p queue q in let b = lives_others p queue q in
    grind (arith, nat_tests)

-- the frames that went to process 0 have their blocks
handed_block : (p : ℕ) (x : Option FrameValue) → block_at (handed_over p 0 x) ≡ block_at x
handed_block p None = refl
handed_block p (Some x) = refl

-- and an owner that lives
handed_owner : (p : ℕ) (queue : List QueueRow) (owner : ℕ) → p ≢ 0 → lives queue 0 ≡ true →
    lives queue owner ≡ true → lives (queue_without p queue) (cond (owner == p) 0 owner) ≡ true
handed_owner p queue owner ne root alive = elim (cases_Bool (owner == p)) [
  | inl e ↦ ap (lives (queue_without p queue)) (cond-true (owner == p) 0 owner e)
      ∙ lives_on p queue 0 (λ z. ne (sym z)) root
  | inr e ↦ ap (lives (queue_without p queue)) (cond-false (owner == p) 0 owner e)
      ∙ lives_on p queue owner (eqb-false owner p e) alive
]

-- so each is sound
handed_sound : (p : ℕ) (queue : List QueueRow) (x : Option FrameValue) (y : FrameValue) → p ≢ 0 →
    lives queue 0 ≡ true → ((z : FrameValue) → x ≡ Some z → IsSoundFrame queue z) →
    handed_over p 0 x ≡ Some y → IsSoundFrame (queue_without p queue) y
handed_sound p queue None y ne root h e = cc
handed_sound p queue (Some x) y ne root h e =
    let k = h x refl in
    let same : record x { owner = cond (x.owner == p) 0 x.owner } ≡ y = cc in
    subst (λ q. IsSoundFrame (queue_without p queue) q) same
    (record {
      owner = handed_owner p queue x.owner ne root k.owner;
      block = k.block;
      mark = k.mark;
      bytes = k.bytes;
    })

-- a lock that is held is held by another
freed_holder : (p : ℕ) (x : Option ℕ) (q : ℕ) → freed_by p x ≡ Some q → (x ≡ Some q) × (q ≢ p)
freed_holder p None q h = cc
freed_holder p (Some y) q h = grind (arith, nat_tests)

-- a graft that stands is another process's
graft_left : (s : Objects) (p q pt : ℕ) (g : GraftValue) →
    ((i pu : ℕ) (x : GraftValue) → s.accounts.graft i pu ≡ Some x → (pu < 16)
    × (lives s.things.queue i ≡ true)) →
    (without_grafts p 16 s.accounts).graft q pt ≡ Some g → (pt < 16)
    × (lives (queue_without p s.things.queue) q ≡ true)
graft_left s p q pt g h e = elim (cases_eq q p) [
  | inl same ↦
      absurd (none_own s p pt g h
      (subst (λ i. (without_grafts p 16 s.accounts).graft i pt ≡ Some g) same e))
  | inr ne ↦
      let k = h q pt g (sym (graft_of_another p 16 q pt s.accounts (ne_eqb q p ne)) ∙ e) in
      (k.0, lives_on p s.things.queue q ne k.1)
]
  where
    -- its own are taken out
    none_own : (s : Objects) (p pt : ℕ) (g : GraftValue) →
        ((i pu : ℕ) (x : GraftValue) → s.accounts.graft i pu ≡ Some x → (pu < 16)
        × (lives s.things.queue i ≡ true)) →
        (without_grafts p 16 s.accounts).graft p pt ≡ Some g → ⊥
    none_own s p pt g h e = elim (cases_lt pt 16) [
      | inl low ↦ let none : None ≡ Some g = sym (graft_taken p 16 pt s.accounts low) ∙ e in cc
      | inr high ↦ let k = (h p pt g (sym (graft_above p 16 p pt s.accounts high) ∙ e)).0 in
          omega arith
    ]

-- the account of a process that doesn't live
account_gone : (s : Objects) (p q : ℕ) → q ≢ p → q ≢ 0 →
    (account_closed p (without_grafts p 16 s.accounts)).acct q ≡ s.accounts.acct q
account_gone s p q ne other =
    closed_account p q (without_grafts p 16 s.accounts) (ne_eqb q p ne) (ne_eqb q 0 other)
    ∙ account_of_another p 16 q s.accounts (ne_eqb q p ne)

-- nothing is left of a process that left
nothing_left : (s : Objects) (p : ℕ) (blocks : Blocks) → IsGone (exit_piece s p blocks).objects p
nothing_left s p blocks = record {
  cells = λ k. cond-true (p == p) 0 (s.things.cell p k) (eq-eqb p p refl);
  files = λ fd. cond-true (p == p) None (s.things.file p fd) (eq-eqb p p refl);
  balances = λ k. ap (λ (x : AcctValue). x.balance k) (own_account s p);
  spent = λ k. ap (λ (x : AcctValue). x.spent k) (own_account s p);
}
  where
    -- its account is empty
    own_account : (s : Objects) (p : ℕ) →
        (account_closed p (without_grafts p 16 s.accounts)).acct p ≡ empty_account
    own_account s p = cond-true (p == p) empty_account _ (eq-eqb p p refl)

-- nothing is left of one that didn't live either
others_gone : (s : Objects) (p q : ℕ) (blocks : Blocks) → q ≢ p → q ≢ 0 → IsGone s q →
    IsGone (exit_piece s p blocks).objects q
others_gone s p q blocks ne other h = record {
  cells = λ k. cond-false (q == p) 0 (s.things.cell q k) (ne_eqb q p ne) ∙ h.cells k;
  files = λ fd. cond-false (q == p) None (s.things.file q fd) (ne_eqb q p ne) ∙ h.files fd;
  balances = λ k. ap (λ (x : AcctValue). x.balance k) (account_gone s p q ne other) ∙ h.balances k;
  spent = λ k. ap (λ (x : AcctValue). x.spent k) (account_gone s p q ne other) ∙ h.spent k;
}

-- a handler that is left is one from before, and of another process
handler_left : (p q pt : ℕ) (hs : List (ℕ × ℕ)) →
    list_any (is_handler q pt) (handlers_without_process p hs) ≡ true →
    (list_any (is_handler q pt) hs ≡ true) × (q ≢ p)
handler_left p q pt hs h =
    let both = and_parts (not (q == p)) (list_any (is_handler q pt) hs)
    (sym (any-filter_same (is_handler q pt) (λ (x : ℕ × ℕ). not (x.0 == p)) (not (q == p))
    (of_one p q pt) hs) ∙ h) in
    (both.1, let own = both.0 in grind (arith, nat_tests))
  where
    of_one : (p q pt : ℕ) (x : ℕ × ℕ) → is_handler q pt x ≡ true → not (x.0 == p) ≡ not (q == p)
    of_one p q pt x e = grind (arith, nat_tests)

-- an exit of another process than 0
pub exit_store : (v : World) (s : Objects) (p : ℕ) (blocks : Blocks) → IsSoundStore v s →
    lives s.things.queue p ≡ true → p ≢ 0 → IsSoundStore v (exit_piece s p blocks).objects
exit_store v s p blocks h alive ne =
    let cache = sound_reframed v s.things.queue (queue_without p s.things.queue) s.things.cache
    (λ f. handed_over p 0 (s.things.cache.frame f)) (cache_of_store v s h)
    (λ f. handed_block p (s.things.cache.frame f))
    (λ f x e. handed_sound p s.things.queue (s.things.cache.frame f) x ne h.root
    (λ z k. h.frames f z k) e) in
    record {
      world = h.world;
      root = lives_on p s.things.queue 0 (λ z. ne (sym z)) h.root;
      once = λ q. once_others p s.things.queue q (h.once q);
      numbers = λ q e. h.numbers q (lived_before p s.things.queue q e).0;
      nices = nices_others p s.things.queue h.nices;
      in_use = cache.in_use;
      frame_numbers = cache.frame_numbers;
      one_frame = cache.one_frame;
      frames = cache.frames;
      holders = λ u q e. let k = freed_holder p (s.things.lock u) q e in let a =
          h.holders u q k.0 in (a.0, lives_on p s.things.queue q k.1 a.1);
      grafts = λ q pt g e. graft_left s p q pt g h.grafts e;
      gone = λ q e. elim (left_or_gone p s.things.queue q e) [
        | inl same ↦ subst (λ i. IsGone (exit_piece s p blocks).objects i) (sym same)
            (nothing_left s p blocks)
        | inr a ↦ others_gone s p q blocks a.0
            (λ z. true≢false (sym h.root ∙ ap (lives s.things.queue) (sym z) ∙ a.1)) (h.gone q a.1)
      ];
      files = λ q fd o e. elim (cases_Bool (q == p)) [
        | inl same ↦ let none : None ≡ Some o =
            sym (cond-true (q == p) None (s.things.file q fd) same) ∙ e in cc
        | inr other ↦ h.files q fd o (sym (cond-false (q == p) None (s.things.file q fd) other) ∙ e)
      ];
      policies = h.policies;
      handlers = handlers_pass (λ (x : ℕ × ℕ). not (x.0 == p)) s.things.handlers h.handlers;
      handlers_live = λ q pt e. let k = handler_left p q pt s.things.handlers e in
          lives_on p s.things.queue q k.1 (h.handlers_live q pt k.0);
      segments = h.segments;
      ledgers = λ k. exit_ledger p s.accounts k (h.numbers p alive) ne ∙ h.ledgers k;
    }
