-- A sound kernel stays sound where one call changes, others stay as they are, and the order of waiting follows.
use Rattle.std.specs.Prelude.{◌≡◌, ◌≢◌, ℕ, suc, ◌+◌, ◌<◌, ◌≤◌, ◌==◌, nat_lt, Bool, true, false}
use Rattle.std.specs.Prelude.{cond, List, [], ◌∷◌, ◌++◌, length, Contains, Option, Some, None}
use Rattle.std.specs.Prelude.{is_some}
use Rattle.std.specs.List.{AllByRecursion}
use Rattle.std.specs.Result.{is_ok}
use Rattle.std.proofs.Common.{◌⊎◌, arith, refl, subst, sym, ap, ◌∙◌, inl, inr}
use Rattle.std.proofs.lemmas.Bool.{cases_Bool, cases_eq}
use Rattle.std.proofs.lemmas.Bool.Decides.{nat_tests}
use Rattle.kernel_model.specs.declared.Held.{Held}
use Rattle.kernel_model.specs.declared.Need.{Need}
use Rattle.kernel_model.specs.declared.Object.{Object}
use Rattle.kernel_model.specs.Objects.{Objects}
use Rattle.kernel_model.specs.Policies.{lives}
use Rattle.kernel_model.specs.Meaning.{Meaning}
use Rattle.kernel_model.specs.Locks.{Touched, is_held, is_held_exclusively}
use Rattle.kernel_model.specs.Levels.{Level, Config, touched_at}
use Rattle.kernel_model.specs.History.{Mark, Trace, replay}
use Rattle.kernel_model.specs.Kernel.{Call, Waiter, Kernel, new_entry, less_entry, is_at_piece}
use Rattle.kernel_model.specs.Blocking.{config_in, config_of, levels_in, levels_of, trace_of}
use Rattle.kernel_model.specs.Blocking.{holds, needs_at, needs_in, needs}
use Rattle.kernel_model.specs.InPlace.{is_changed_in}
use Rattle.kernel_model.specs.Sound.{IsSoundState, IsSoundKernel, clash, count_of, in_the_order}
use Rattle.kernel_model.specs.Alike.{LevelsAlike, SameFiles, is_held_in, is_needed, is_needed_exclusively}
use Rattle.kernel_model.specs.Laws.{Laws, NeedsGraftsExclusively}
use Rattle.kernel_model.specs.Claims.{IsStable}
use Rattle.kernel_laws.proofs.LevelLemmas.{each_from, each_contains}
use Rattle.graft_laws.specs.Histories.{IsReplayed}
use Rattle.graft_laws.proofs.LevelsAlikeLemmas.{length_alike}
use Rattle.graft_laws.proofs.ShapeLemmas.{contrary}
use Rattle.graft_laws.proofs.StandLemmas.{AllStand}
use Rattle.graft_laws.proofs.AlikeMarkLemmas.{stand_other}
use Rattle.graft_laws.proofs.StabilityLemmas.{has_graft}
use Rattle.graft_laws.proofs.HolderLemmas.{holds_of, held_somewhere, changed_somewhere}
use Rattle.graft_laws.proofs.KernelLemmas.{needs_alike, touched_alike, held_at, changed_at}
use Rattle.graft_laws.proofs.KernelLemmas.{holds_beyond, clash_back, clash_free, clash_unheld}
use Rattle.graft_laws.proofs.KernelLemmas.{clash_unchanged, processes_in, count_both}
use Rattle.graft_laws.proofs.KernelLemmas.{count_less_own, count_less_other, each_less, each_both}

-- What the call of q is in a kernel l, after a step or a drop in k that needed these objects.
pub record OwnCall (m : Meaning) (q : ℕ) (ns : List Need) (k l : Kernel) : Type 0 where
  pub callers : (c : Call) → l.call q ≡ Some c → lives l.objects.things.queue q ≡ true
  pub granted : (c : Call) → l.call q ≡ Some c → is_ok (m.early l.world l.images q c.stage.call) ≡ true
  pub fit : (c : Call) → l.call q ≡ Some c → m.fits l.world l.objects q c.stage ≡ true
  pub runs : (c : Call) (ks : List Mark) → l.call q ≡ Some c → c.marks ≡ Some ks →
      is_some (trace_of m l q (Some c)) ≡ true
  pub grafts : (f : Config) (l0 : Level) → config_of m l q ≡ Some f → Contains f.levels l0 →
      is_some (f.now.accounts.graft l0.owner l0.point) ≡ true
  -- what it holds it held, or needed
  pub held : (o : Object) → is_held_in (levels_of m l q) o ≡ true →
      (is_held_in (levels_of m k q) o ≡ true) ⊎ (is_needed o ns ≡ true)
  pub changed : (o : Object) → is_changed_in (levels_of m l q) o ≡ true →
      (is_changed_in (levels_of m k q) o ≡ true) ⊎ (is_needed_exclusively o ns ≡ true)

-- what was needed other calls don't hold in a conflicting mode
pub record AreFree (m : Meaning) (q : ℕ) (ns : List Need) (k : Kernel) : Type 0 where
  pub shared : (p d : ℕ) (o : Object) → p ≢ q → p < 16 → is_needed o ns ≡ true →
      is_held_exclusively (holds m k p d o) ≡ false
  pub exclusive : (p d : ℕ) (o : Object) → p ≢ q → p < 16 → is_needed_exclusively o ns ≡ true →
      is_held (holds m k p d o) ≡ false

-- the levels of a call that is stable are alike, and what its next step needs is the same
pub record SameCall (m : Meaning) (k l : Kernel) (p : ℕ) : Type 0 where
  pub levels : LevelsAlike (levels_of m k p) (levels_of m l p)
  pub needs : is_at_piece (k.call p) ≡ false → needs m k p ≡ needs m l p

module _ (m : Meaning) (q : ℕ) (k : Kernel) (s : Objects) (call : ℕ → Option Call) (clock : ℕ) where
  -- the kernel afterwards, with an order of waiting
  abbrev pub after_in : List Waiter → Kernel
  after_in es = record k { objects = s; clock = clock; call = call; order = es }

  -- the order of waiting afterwards
  abbrev pub order_after : List Waiter
  order_after = less_entry q k.order ++ cond (is_at_piece (call q)) (new_entry q ∷ []) []

  abbrev after : Kernel
  after = after_in order_after

  module _ (laws : Laws m) (owns : NeedsGraftsExclusively m) (sound : IsSoundKernel m k)
      (others : (p : ℕ) → p ≢ q → call p ≡ k.call p) (state : IsSoundState k.world k.images s)
      (live : (p : ℕ) → p ≢ q → lives k.objects.things.queue p ≡ true →
      lives s.things.queue p ≡ true) (files : (p : ℕ) → p ≢ q → SameFiles p k.objects s)
      (replayed : (p : ℕ) (c : Config) → config_of m k p ≡ Some c → IsReplayed k.world k.objects c)
      (stable : (p : ℕ) → p ≢ q → IsStable m k after p)
      (ns : List Need) (own : OwnCall m q ns k after) (low : q < 16) (free : AreFree m q ns k) where
    -- ---- other calls

    call_config : (x : Kernel) (p : ℕ) (c : Call) (ks : List Mark) → x.call p ≡ Some c →
        c.marks ≡ Some ks → is_some (trace_of m x p (Some c)) ≡ true →
        (f : Config) × (config_of m x p ≡ Some f)
    call_config x p c ks e marked some = by_trace (trace_of m x p (Some c)) refl some
      where
        by_trace : (t : Option Trace) → trace_of m x p (Some c) ≡ t → is_some t ≡ true →
            (f : Config) × (config_of m x p ≡ Some f)
        by_trace None h some = contrary (sym some)
        by_trace (Some t) h some = (t.config, ap (λ y. config_in (trace_of m x p y)) e ∙ ap config_in h)

    same_call : (p : ℕ) → p ≢ q → SameCall m k after p
    same_call p ne = by_call (k.call p) refl
      where
        none_alike : (ls ks : List Level) → ls ≡ [] → ks ≡ [] → LevelsAlike ls ks
        none_alike ls ks e f = subst (λ xs. LevelsAlike xs ks) (sym e) (subst (LevelsAlike []) (sym f) tt)

        by_marks : (c : Call) → k.call p ≡ Some c → (x : Option (List Mark)) → c.marks ≡ x → SameCall m k after p
        by_marks c e None f =
            let no_trace : (x : Kernel) → x.call p ≡ Some c → levels_of m x p ≡ [] =
            λ x g. ap (λ y. levels_in (config_in (trace_of m x p y))) g
            ∙ ap (λ (y : Option (List Mark)). levels_in (config_in (elim y as (λ _. Option Trace)
            [ None ↦ None | Some ks ↦ replay m x.world x.images x.objects p c.stage ks ]))) f in
            record {
              levels =
                  none_alike (levels_of m k p) (levels_of m after p) (no_trace k e)
                  (no_trace after (others p ne ∙ e));
              needs =
                  λ away. contrary (sym (ap is_at_piece e ∙ ap (λ (y : Option (List Mark)).
                  elim y as (λ _. Bool) [ None ↦ true | Some ks ↦ false ]) f) ∙ away);
            }
        by_marks c e (Some ks) f =
            let config = call_config k p c ks e f (sound.runs p c ks e f) in
            let then = stable p ne config.0 config.1 in
            record {
              levels =
                  subst (λ xs. LevelsAlike xs (levels_of m after p)) (sym (ap levels_in config.1))
                  (subst (LevelsAlike config.0.levels) (sym (ap levels_in then.1)) then.2.levels);
              needs = λ away.
                  ap (needs_in m k p) e
                  ∙ ap (λ (y : Option (List Mark)). elim y as (λ _. List Need) [
                    | None ↦ m.need k.world k.objects p c.stage
                    | Some xs ↦ needs_at m k (config_of m k p)
                  ]) f
                  ∙ ap (needs_at m k) config.1 ∙ needs_alike k.world k.images
                  k.objects config.0 then.0 (replayed p config.0 config.1) then.2
                  ∙ ap (needs_at m after) (sym then.1)
                  ∙ sym (ap (λ (y : Option (List Mark)). elim y as (λ _. List Need) [
                    | None ↦ m.need k.world s p c.stage
                    | Some xs ↦ needs_at m after (config_of m after p)
                  ]) f)
                  ∙ sym (ap (needs_in m after p) (others p ne ∙ e));
            }

        by_call : (x : Option Call) → k.call p ≡ x → SameCall m k after p
        by_call None e =
            record {
              levels =
                  none_alike (levels_of m k p) (levels_of m after p)
                  (ap (λ y. levels_in (config_in (trace_of m k p y))) e)
                  (ap (λ y. levels_in (config_in (trace_of m after p y))) (others p ne ∙ e));
              needs = λ away. ap (needs_in m k p) e ∙ sym (ap (needs_in m after p) (others p ne ∙ e));
            }
        by_call (Some c) e = by_marks c e c.marks refl

    -- another call holds the same
    holds_same : (p d : ℕ) → p ≢ q → holds m k p d ≡ holds m after p d
    holds_same p d ne = elim (cases_Bool (nat_lt p 16)) [
      | inl within ↦ holds_of m k p d (below p within)
          ∙ touched_alike (levels_of m k p) (levels_of m after p) d (same_call p ne).levels
          ∙ sym (holds_of m after p d (below p within))
      | inr out ↦ holds_beyond m k p d (beyond p out) ∙ sym (holds_beyond m after p d (beyond p out))
    ]
      where
        below : (p : ℕ) → nat_lt p 16 ≡ true → p < 16
        below p h = grind (arith, nat_tests)

        beyond : (p : ℕ) → nat_lt p 16 ≡ false → 16 ≤ p
        beyond p h = grind (arith, nat_tests)

    -- beside q's call no other call holds in a conflicting mode
    apart_own : (p d e : ℕ) (o : Object) → p ≢ q → clash (holds m k p d o) (holds m after q e o) ≡ false
    apart_own p d e o ne = elim (cases_Bool (nat_lt p 16)) [
      | inr out ↦ ap (λ (t : Touched). clash (t o) (holds m after q e o)) (holds_beyond m k p d (beyond p out))
      | inl within ↦ clash_free (holds m k p d o) (holds m after q e o) (exclusive (below p within))
          (shared (below p within))
    ]
      where
        below : (p : ℕ) → nat_lt p 16 ≡ true → p < 16
        below p h = grind (arith, nat_tests)

        beyond : (p : ℕ) → nat_lt p 16 ≡ false → 16 ≤ p
        beyond p h = grind (arith, nat_tests)

        in_table : holds m after q e ≡ touched_at (levels_of m after q) e
        in_table = holds_of m after q e low

        exclusive : p < 16 → is_held_exclusively (holds m after q e o) ≡ true → is_held (holds m k p d o) ≡ false
        exclusive within some =
            elim (own.changed o (changed_at (levels_of m after q) e o
            (ap (λ (t : Touched). is_held_exclusively (t o)) (sym in_table) ∙ some))) [
              | inl before ↦
                  let x = changed_somewhere (levels_of m k q) o before in
                  let own_hold : holds m k q x.0 o ≡ Held.Exclusive =
                  ap (λ (t : Touched). t o) (holds_of m k q x.0 low) ∙ x.2 in
                  clash_unheld (holds m k p d o) (holds m k q x.0 o) (sound.apart p q d x.0 o ne)
                  (ap is_held_exclusively own_hold)
              | inr needs ↦ free.exclusive p d o ne within needs
            ]

        shared : p < 16 → is_held (holds m after q e o) ≡ true → is_held_exclusively (holds m k p d o) ≡ false
        shared within some =
            elim (own.held o (held_at (levels_of m after q) e o
            (ap (λ (t : Touched). is_held (t o)) (sym in_table) ∙ some))) [
              | inl before ↦
                  let x = held_somewhere (levels_of m k q) o before in
                  clash_unchanged (holds m k p d o) (holds m k q x.0 o) (sound.apart p q d x.0 o ne)
                  (ap (λ (t : Touched). is_held (t o)) (holds_of m k q x.0 low) ∙ x.2)
              | inr needs ↦ free.shared p d o ne within needs
            ]

    all_apart : (a b d e : ℕ) (o : Object) → a ≢ b → clash (holds m after a d o) (holds m after b e o) ≡ false
    all_apart a b d e o ne = elim (cases_eq a q) [
      | inl same ↦
          let other : b ≢ q = λ g. ne (same ∙ sym g) in
          ap (λ i. clash (holds m after i d o) (holds m after b e o)) same
          ∙ clash_back (holds m after q d o) (holds m after b e o)
          ∙ ap (λ (t : Touched). clash (t o) (holds m after q d o)) (sym (holds_same b e other))
          ∙ apart_own b e d o other
      | inr aother ↦ ap (λ (t : Touched). clash (t o) (holds m after b e o))
          (sym (holds_same a d aother)) ∙ elim (cases_eq b q) [
            | inl same ↦ ap (λ i. clash (holds m k a d o) (holds m after i e o)) same ∙ apart_own a d e o aother
            | inr bother ↦ ap (λ (t : Touched). clash (holds m k a d o) (t o))
                (sym (holds_same b e bother)) ∙ sound.apart a b d e o ne
          ]
    ]

    -- ---- the order

    new_count : (p : ℕ) (b : Bool) → p ≢ q → count_of p (processes_in (cond b (new_entry q ∷ []) [])) ≡ 0
    new_count p false ne = refl
    new_count p true ne = ap (λ b. cond b (suc 0) 0) (differs q p ne)
      where
        differs : (q p : ℕ) → p ≢ q → (q == p) ≡ false
        differs q p ne = elim (cases_Bool (q == p)) [ inl e ↦ absurd (ne (same q p e)) | inr e ↦ e ]
          where
            same : (q p : ℕ) → (q == p) ≡ true → p ≡ q
            same q p e = grind (arith, nat_tests)

    count_other : (p : ℕ) → p ≢ q → count_of p (processes_in order_after) ≡ count_of p (in_the_order k)
    count_other p ne =
        count_both p (less_entry q k.order) (cond (is_at_piece (call q)) (new_entry q ∷ []) [])
        ∙ ap (λ n. n + count_of p (processes_in
        (cond (is_at_piece (call q)) (new_entry q ∷ []) []))) (count_less_other p q k.order ne)
        ∙ ap (λ n. count_of p (processes_in k.order) + n) (new_count p (is_at_piece (call q)) ne)
        ∙ plus_zero (count_of p (processes_in k.order))
      where
        plus_zero : (n : ℕ) → n + 0 ≡ n
        plus_zero n = omega arith

    count_own : is_at_piece (call q) ≡ true → count_of q (processes_in order_after) ≡ 1
    count_own e =
        count_both q (less_entry q k.order) (cond (is_at_piece (call q)) (new_entry q ∷ []) [])
        ∙ ap (λ n. n + count_of q (processes_in
        (cond (is_at_piece (call q)) (new_entry q ∷ []) []))) (count_less_own q k.order)
        ∙ ap (λ b. 0 + count_of q (processes_in (cond b (new_entry q ∷ []) []))) e
        ∙ ap (λ b. 0 + cond b (suc 0) 0) (is_itself q) ∙ one_is
      where
        is_itself : (n : ℕ) → (n == n) ≡ true
        is_itself n = grind (arith, nat_tests)

        one_is : 0 + 1 ≡ 1
        one_is = omega arith

    -- an entry that isn't at a piece
    abbrev StandsThere : Kernel → List Waiter → Waiter → Type 0
    StandsThere x es e =
        is_at_piece (x.call e.process) ≡ false →
        (count_of e.process (processes_in es) ≡ 1) × (1 ≤ length (levels_of m x e.process))
        × (1 ≤ length (needs m x e.process))

    entry_kept : (e : Waiter) → e.process ≢ q → StandsThere k k.order e → StandsThere after order_after e
    entry_kept e ne h away =
        let before = ap is_at_piece (sym (others e.process ne)) ∙ away in
        let x = h before in
        let same = same_call e.process ne in (
          count_other e.process ne ∙ x.0,
          subst (λ n. 1 ≤ n) (length_alike (levels_of m k e.process) (levels_of m after e.process) same.levels) x.1,
          subst (λ ns. 1 ≤ length ns) (same.needs before) x.2,
        )

    new_kept : (b : Bool) → is_at_piece (call q) ≡ b →
        AllByRecursion (StandsThere after order_after) (cond b (new_entry q ∷ []) [])
    new_kept true e = (λ away. contrary (sym e ∙ away), tt)
    new_kept false e = tt

    pub kept_kernel : IsSoundKernel m after
    kept_kernel =
        record {
          state = state;
          runs = λ p c ks e marked. elim (cases_eq p q) [
            | inl same ↦
                subst (λ i. is_some (trace_of m after i (Some c)) ≡ true) (sym same)
                (own.runs c ks (ap call (sym same) ∙ e) marked)
            | inr ne ↦
                let config = call_config k p c ks (sym (others p ne) ∙ e) marked
                (sound.runs p c ks (sym (others p ne) ∙ e) marked) in
                let then = stable p ne config.0 config.1 in
                some_trace (trace_of m after p (Some c)) then.0
                (sym (ap (λ y. config_in (trace_of m after p y)) e) ∙ then.1)
          ];
          grafts = λ p f l e c. elim (cases_eq p q) [
            | inl same ↦ own.grafts f l (ap (config_of m after) (sym same) ∙ e) c
            | inr ne ↦ others_stand p ne f l e c
          ];
          apart = λ a b d e o ne. all_apart a b d e o ne;
          callers = λ p c e. elim (cases_eq p q) [
            | inl same ↦ ap (lives s.things.queue) same ∙ own.callers c (ap call (sym same) ∙ e)
            | inr ne ↦ live p ne (sound.callers p c (sym (others p ne) ∙ e))
          ];
          granted = λ p c e. elim (cases_eq p q) [
            | inl same ↦ ap (λ i. is_ok (m.early k.world k.images i c.stage.call)) same
                ∙ own.granted c (ap call (sym same) ∙ e)
            | inr ne ↦ sound.granted p c (sym (others p ne) ∙ e)
          ];
          fit = λ p c e. elim (cases_eq p q) [
            | inl same ↦ ap (λ i. m.fits k.world s i c.stage) same ∙ own.fit c (ap call (sym same) ∙ e)
            | inr ne ↦ sym (laws.stages.fits_same k.world k.objects s p c.stage (files p ne))
                ∙ sound.fit p c (sym (others p ne) ∙ e)
          ];
          pieces = λ p e. elim (cases_eq p q) [
            | inl same ↦ ap (λ i. count_of i (processes_in order_after)) same
                ∙ count_own (ap (λ i. is_at_piece (call i)) (sym same) ∙ e)
            | inr ne ↦ count_other p ne ∙ sound.pieces p (ap is_at_piece (sym (others p ne)) ∙ e)
          ];
          others = λ e c away. each_contains (StandsThere after order_after) order_after e
              (each_both (StandsThere after order_after) (less_entry q k.order)
              (cond (is_at_piece (call q)) (new_entry q ∷ []) [])
              (each_less (StandsThere k k.order) (StandsThere after order_after) q k.order
              entry_kept (each_from (StandsThere k k.order) k.order (λ x i. sound.others x i)))
              (new_kept (is_at_piece (call q)) refl))
              c away;
        }
      where
        some_trace : (t : Option Trace) (f : Config) → config_in t ≡ Some f → is_some t ≡ true
        some_trace None f e = absurd cc
        some_trace (Some t) f e = refl

        is_it : (x y : Config) → Some x ≡ Some y → x ≡ y
        is_it x y e = cc

        others_stand : (p : ℕ) → p ≢ q → (f : Config) (l : Level) → config_of m after p ≡ Some f →
            Contains f.levels l → is_some (f.now.accounts.graft l.owner l.point) ≡ true
        others_stand p ne f l e c =
            let g = has_graft m after p f e in
            let here = sym (others p ne) ∙ g.is in
            let config = call_config k p g.call g.marks here g.marked (sound.runs p g.call g.marks here g.marked) in
            let then = stable p ne config.0 config.1 in
            let stands = stand_other k.world k.objects s config.0 then.0
            (replayed p config.0 config.1) then.2.levels then.2.now in
            each_contains (λ (x : Level). is_some (f.now.accounts.graft x.owner x.point) ≡ true) f.levels l
            (subst (λ (y : Config). AllStand y.now.accounts y.levels) (is_it then.0 f (sym then.1 ∙ e)) stands) c
