-- A tick's 288 actions are enough: each takes a piece or a level from what all calls can lose.
use Rattle.std.specs.Prelude.{◌≡◌, ℕ, zero, suc, ◌+◌, ◌*◌, ◌<◌, ◌≤◌, Bool, true, false, cond, List}
use Rattle.std.specs.Prelude.{[], ◌∷◌, length, is_some, option_map, Option, Some, None, Contains}
use Rattle.std.specs.List.{AllByRecursion}
use Rattle.std.proofs.Common.{arith, refl, subst, sym, ap, ◌∙◌, inl, inr}
use Rattle.kernel_model.specs.declared.Cause.{Cause}
use Rattle.kernel_model.specs.declared.Cause.TheVariants.{TimeOut}
use Rattle.kernel_model.specs.declared.Need.{Need}
use Rattle.kernel_model.specs.Locks.{Hindrance, outermost_holding, lowest_holder, first_hindrance}
use Rattle.kernel_model.specs.Meaning.{Meaning}
use Rattle.kernel_model.specs.Levels.{Level, Config}
use Rattle.kernel_model.specs.GraftStep.{lock_user}
use Rattle.kernel_model.specs.History.{Mark}
use Rattle.kernel_model.specs.Kernel.{Call, Blocker, Waiter, Kernel, Run, is_at_piece}
use Rattle.kernel_model.specs.Blocking.{config_in, levels_in, trace_of, config_of, levels_of}
use Rattle.kernel_model.specs.Blocking.{holds, needs_at, needs_in, needs, number_of_call}
use Rattle.kernel_model.specs.Blocking.{blocker_from, blocker}
use Rattle.kernel_model.specs.Settle.{settled}
use Rattle.kernel_model.specs.Events.{in_order, innermost, is_over, expired, counted, ticked}
use Rattle.kernel_model.specs.Events.{wanted, drop_call, times_out, waiter_action, action}
use Rattle.kernel_model.specs.Events.{entry_action, actions, tick_event}
use Rattle.kernel_model.specs.Sound.{IsSoundKernel, IsAtRest, HasWholeBlocks, sum_below}
use Rattle.kernel_model.specs.Claims.{Stability}
use Rattle.kernel_model.specs.Laws.{NeedsHaveOneMode}
use Rattle.kernel_laws.specs.Rest.{SettlesToRest}
use Rattle.graft_laws.specs.Ticks.{TicksEnd}
use Rattle.graft_laws.proofs.MoveLemmas.{StandsAt}
use Rattle.graft_laws.proofs.GoLemmas.{goes_self, settled_goes, entry_goes}
use Rattle.graft_laws.proofs.NoteLemmas.{sound_stands}
use Rattle.graft_laws.proofs.SoundCallLemmas.{contains_first, contains_later}
use Rattle.graft_laws.proofs.BesideLemmas.{few_levels}
use Rattle.graft_laws.proofs.HistoryKernelStepLemmas.{Known}
use Rattle.graft_laws.proofs.ShareLemmas.{depth_left, share}
use Rattle.graft_laws.proofs.SoundRunLemmas.{order_sound, counted_waiting, entry_call}
use Rattle.graft_laws.proofs.SoundRunLemmas.{settle_sound, drop_sound, ends_sound}
use Rattle.graft_laws.proofs.TotalLemmas.{total, settle_total, drop_total, ends_total}
use Rattle.graft_laws.proofs.HinderLemmas.{IsHindered, hindered_is, holder_holds, instruction_modes}
use Rattle.call_laws.specs.NeedModes.{OneMode}
use Rattle.kernel_laws.proofs.SettleLemmas.{left_of}
use Rattle.kernel_laws.proofs.LevelLemmas.{each_contains, each_from}

-- ---- who has waited too long

-- an entry whose count has reached the patience stands in the order
pub expired_is : (k : Kernel) (es : List Waiter) (e : Waiter) → expired k es ≡ Some e → Contains es e
expired_is k [] e h = absurd cc
expired_is k (x ∷ es) e h = by_test (is_over k x x.blocker) (expired_is k es e) h
  where
    same_entry : (a b : Waiter) → Some a ≡ Some b → a ≡ b
    same_entry a b h = cc

    by_test : (b : Bool) → (expired k es ≡ Some e → Contains es e) →
        elim b as (λ _. Option Waiter) [ true ↦ Some x | false ↦ expired k es ] ≡ Some e →
        Contains (x ∷ es) e
    by_test true more h = subst (Contains (x ∷ es)) (same_entry x e h) (contains_first x es)
    by_test false more h = contains_later x e es (more h)

-- levels that are some have an innermost one
innermost_is : (ls : List Level) → 1 ≤ length ls → (d : ℕ) × (innermost ls ≡ Some d) × (d < length ls)
innermost_is [] h = absurd (none_some h)
  where
    none_some : 1 ≤ 0 → ⊥
    none_some h = omega arith
innermost_is (l ∷ ls) h = (length ls, refl, below_next (length ls))
  where
    below_next : (n : ℕ) → n < suc n
    below_next n = omega arith

-- a sound kernel with another clock is sound
pub clock_sound : (m : Meaning) (k : Kernel) (n : ℕ) → IsSoundKernel m k → IsSoundKernel m (record k { clock = n })
clock_sound m k n h =
    record {
      state = h.state;
      runs = h.runs;
      grafts = h.grafts;
      apart = h.apart;
      callers = h.callers;
      granted = h.granted;
      fit = h.fit;
      pieces = h.pieces;
      others = h.others;
    }

-- a sum of numbers up to 18
sum_eighteen : (n : ℕ) (f : ℕ → ℕ) → ((i : ℕ) → f i ≤ 18) → sum_below n f ≤ 18 * n
unfolding sum_below
sum_eighteen zero f h = omega arith
sum_eighteen (suc n) f h = let k = sum_eighteen n f h in let e = h n in omega arith

module _ (m : Meaning) (know : Known m) (stability : Stability m) (one : NeedsHaveOneMode m) where
  -- ---- one action

  -- an action leaves a sound kernel, and less to lose
  pub record Falls (r u : Run) : Type 0 where
    pub sound : IsSoundKernel m u.kernel
    pub less : suc (total m u.kernel) ≤ total m r.kernel

  -- a need's mode is that of the first need of its object
  one_mode : (k : Kernel) (p : ℕ) (c : Call) (n : Need) → IsSoundKernel m k → k.call p ≡ Some c →
      Contains (needs m k p) n → wanted n.object (needs m k p) ≡ n.mode
  one_mode k p c n sound is contained = by_marks c.marks refl
    where
      at_piece : c.marks ≡ None → needs m k p ≡ m.need k.world k.objects p c.stage
      at_piece marked =
          ap (needs_in m k p) is ∙ ap (λ (x : Option (List Mark)). elim x as (λ _. List Need) [
            | None ↦ m.need k.world k.objects p c.stage
            | Some y ↦ needs_at m k (config_of m k p)
          ]) marked

      in_level : (ks : List Mark) → c.marks ≡ Some ks → needs m k p ≡ needs_at m k (config_of m k p)
      in_level ks marked =
          ap (needs_in m k p) is ∙ ap (λ (x : Option (List Mark)). elim x as (λ _. List Need) [
            | None ↦ m.need k.world k.objects p c.stage
            | Some y ↦ needs_at m k (config_of m k p)
          ]) marked

      config_modes : (x : Option Config) → OneMode (needs_at m k x)
      config_modes None = tt
      config_modes (Some f) = instruction_modes k.world k.images f.now.accounts f.levels

      by_marks : (x : Option (List Mark)) → c.marks ≡ x → wanted n.object (needs m k p) ≡ n.mode
      by_marks None marked =
          let same = at_piece marked in
          subst (λ ns. wanted n.object ns ≡ n.mode) (sym same) (one k.world k.objects p c.stage n
          (sound.fit p c is) (subst (λ ns. Contains ns n) same contained))
      by_marks (Some ks) marked =
          let same = in_level ks marked in
          subst (λ ns. wanted n.object ns ≡ n.mode) (sym same)
          (each_contains (λ (x : Need). wanted x.object (needs_at m k (config_of m k p)) ≡ x.mode)
          (needs_at m k (config_of m k p)) n (config_modes (config_of m k p))
          (subst (λ ns. Contains ns n) same contained))

  -- a level is dropped
  drop_falls : (r : Run) (p : ℕ) (d : Option ℕ) (n : ℕ) (cause : Cause) → IsSoundKernel m r.kernel →
      HasWholeBlocks r.kernel.world r.blocks → d ≡ Some n →
      n < length (levels_of m r.kernel p) → Falls r (drop_call m p (r.kernel.call p) d cause r)
  drop_falls r p d n cause sound whole is low =
      record {
        sound =
            drop_sound m know stability r p d cause sound whole (λ i e. subst
            (λ j. j < length (levels_of m r.kernel p)) (same_number n i (sym is ∙ e)) low);
        less =
            subst (λ x. suc (total m (drop_call m p (r.kernel.call p) x cause r).kernel)
            ≤ total m r.kernel) (sym is) (drop_total m know stability r p n cause sound whole low);
      }
    where
      same_number : (a b : ℕ) → Some a ≡ Some b → a ≡ b
      same_number a b h = cc

  -- a waiter for a user lock loses its innermost level, or ends
  waiter_falls : (r : Run) (e : Waiter) (b : Blocker) → IsSoundKernel m r.kernel →
      HasWholeBlocks r.kernel.world r.blocks → Contains r.kernel.order e →
      Falls r (waiter_action m e.process b (r.kernel.call e.process) r)
  waiter_falls r e b sound whole contained =
      let c = entry_call m r.kernel sound e contained in
      subst (λ x. Falls r (waiter_action m e.process b x r)) (sym c.1) (by_marks c.0 c.0.marks c.1 refl)
    where
      away : (c : Call) (ks : List Mark) → r.kernel.call e.process ≡ Some c → c.marks ≡ Some ks →
          is_at_piece (r.kernel.call e.process) ≡ false
      away c ks is marked =
          ap is_at_piece is ∙ ap (λ (x : Option (List Mark)).
          elim x as (λ _. Bool) [ None ↦ true | Some y ↦ false ]) marked

      by_marks : (c : Call) (x : Option (List Mark)) → r.kernel.call e.process ≡ Some c → c.marks ≡ x →
          Falls r (elim x as (λ _. Run) [
            | None ↦ times_out m e.process b c r
            | Some ks ↦ drop_call m e.process (Some c) (innermost (levels_of m r.kernel e.process))
                (TimeOut b.object b.holder) r
          ])
      by_marks c None is marked =
          record {
            sound = ends_sound m know stability r e.process b c sound whole is;
            less = ends_total m know stability r e.process b c sound whole is;
          }
      by_marks c (Some ks) is marked =
          let f = innermost_is (levels_of m r.kernel e.process) (sound.others e contained (away c ks is marked)).1 in
          subst (λ x. Falls r (drop_call m e.process x (innermost (levels_of m r.kernel e.process))
          (TimeOut b.object b.holder) r)) is
          (drop_falls r e.process (innermost (levels_of m r.kernel e.process)) f.0
          (TimeOut b.object b.holder) sound whole f.1 f.2)

  -- a call that blocks loses the level that holds what is needed
  holder_falls : (r : Run) (e : Waiter) (b : Blocker) (h : Hindrance) (i : IsHindered
      (holds m r.kernel) e.process (needs m r.kernel e.process) h) → IsSoundKernel m r.kernel →
      HasWholeBlocks r.kernel.world r.blocks → Contains r.kernel.order e →
      b ≡ blocker_from r.kernel h → h.by_user ≡ false →
      lowest_holder (holds m r.kernel) e.process i.need.object i.need.mode ≡ Some h.holder →
      Falls r (action m e.process b b.call r)
  holder_falls r e b h i sound whole contained is by_call holder =
      let k = r.kernel in
      let against = holder_holds m k e.process i.need.object i.need.mode h.holder holder in
      let c = entry_call m k sound e contained in
      let holder_call = call_of against.level (k.call h.holder) refl against.below in
      let call : b.call ≡ Some holder_call.0.number =
      ap (λ (x : Blocker). x.call) is
      ∙ ap (λ x. cond x None (number_of_call (k.call h.holder))) by_call
      ∙ ap number_of_call holder_call.1 in
      let object : b.object ≡ i.need.object = ap (λ (x : Blocker). x.object) is ∙ i.object in
      let at_holder : b.holder ≡ h.holder = ap (λ (x : Blocker). x.holder) is in
      let mode : wanted b.object (needs m k e.process) ≡ i.need.mode =
      ap (λ o. wanted o (needs m k e.process)) object
      ∙ one_mode k e.process c.0 i.need sound c.1 i.among in
      let level : outermost_holding b.object (wanted b.object (needs m k e.process))
      (holds m k b.holder) ≡ Some against.level =
      ap (λ o. outermost_holding o (wanted b.object (needs m k e.process)) (holds m k b.holder))
      object ∙ ap (λ x. outermost_holding i.need.object x (holds m k b.holder)) mode
      ∙ ap (λ x. outermost_holding i.need.object i.need.mode (holds m k x)) at_holder ∙ against.outermost in
      subst (λ x. Falls r (action m e.process b x r)) (sym call)
      (drop_falls r b.holder (outermost_holding b.object (wanted b.object (needs m k e.process))
      (holds m k b.holder)) against.level (TimeOut b.object e.process) sound whole level
      (subst (λ x. against.level < length (levels_of m k x)) (sym at_holder) against.below))
    where
      none_lower : (d : ℕ) → d < 0 → ⊥
      none_lower d h = omega arith

      call_of : (d : ℕ) (x : Option Call) → r.kernel.call h.holder ≡ x →
          d < length (levels_of m r.kernel h.holder) →
          (c : Call) × (r.kernel.call h.holder ≡ Some c)
      call_of d None e low =
          absurd (none_lower d
          (subst (λ x. d < length (levels_in (config_in (trace_of m r.kernel h.holder x)))) e low))
      call_of d (Some c) e low = (c, e)

  -- the action for an entry that is blocked by what it keeps as its blocker
  pub entry_falls : (r : Run) (e : Waiter) → IsSoundKernel m r.kernel →
      HasWholeBlocks r.kernel.world r.blocks → Contains r.kernel.order e →
      is_some e.blocker ≡ true →
      blocker m r.kernel e.process ≡ e.blocker → Falls r (entry_action m e e.blocker r)
  entry_falls r e sound whole contained some rests = by_blocker e.blocker some rests
    where
      same_blocker : (x y : Blocker) → Some x ≡ Some y → x ≡ y
      same_blocker x y h = cc

      by_hindrance : (b : Blocker) (x : Option Hindrance) →
          first_hindrance (holds m r.kernel) r.kernel.objects.things.lock e.process (lock_user
          e.process (levels_of m r.kernel e.process)) (needs m r.kernel e.process) ≡ x →
          option_map (blocker_from r.kernel) x ≡ Some b → Falls r (action m e.process b b.call r)
      by_hindrance b None is h = absurd cc
      by_hindrance b (Some h) is same =
          let i = hindered_is (holds m r.kernel) r.kernel.objects.things.lock
          e.process (lock_user e.process (levels_of m r.kernel e.process))
          (needs m r.kernel e.process) h is in
          let from = sym (same_blocker (blocker_from r.kernel h) b same) in
          elim i.by [
            | inl by_user ↦ subst (λ x. Falls r (action m e.process b x r))
                (sym (ap (λ (x : Blocker). x.call) from
                ∙ ap (λ x. cond x None (number_of_call (r.kernel.call h.holder))) by_user))
                (waiter_falls r e b sound whole contained)
            | inr by_call ↦ holder_falls r e b h i sound whole contained from by_call.0 by_call.1
          ]

      by_blocker : (x : Option Blocker) → is_some x ≡ true → blocker m r.kernel e.process ≡ x →
          Falls r (entry_action m e x r)
      by_blocker None some rests = absurd cc
      by_blocker (Some b) some rests =
          by_hindrance b (first_hindrance (holds m r.kernel) r.kernel.objects.things.lock e.process
          (lock_user e.process (levels_of m r.kernel e.process)) (needs m r.kernel e.process))
          refl rests

  -- ---- actions

  module _ (settles : SettlesToRest m) where
    -- as many actions as there is to lose are enough
    actions_end : (n : ℕ) (r : Run) → IsSoundKernel m r.kernel →
        HasWholeBlocks r.kernel.world r.blocks → IsAtRest m r.kernel → total m r.kernel ≤ n →
        expired (actions m n r).kernel (actions m n r).kernel.order ≡ None
    actions_end zero r sound whole rests most = none_by (expired r.kernel r.kernel.order) refl
      where
        no_less : (a b : ℕ) → suc a ≤ b → b ≤ 0 → ⊥
        no_less a b h k = omega arith

        none_by : (x : Option Waiter) → expired r.kernel r.kernel.order ≡ x → x ≡ None
        none_by None e = refl
        none_by (Some x) e =
            let contained = expired_is r.kernel r.kernel.order x e in
            let rest = rests x contained in
            let falls = entry_falls r x sound whole contained rest.0 rest.1 in
            absurd (no_less (total m (entry_action m x x.blocker r).kernel) (total m r.kernel) falls.less most)
    actions_end (suc n) r sound whole rests most = end_by (expired r.kernel r.kernel.order) refl (λ u. actions_end n u)
      where
        one_less : (a b c n : ℕ) → a ≤ b → suc b ≤ c → c ≤ suc n → a ≤ n
        one_less a b c n h k l = omega arith

        end_by : (x : Option Waiter) → expired r.kernel r.kernel.order ≡ x →
            ((u : Run) → IsSoundKernel m u.kernel → HasWholeBlocks u.kernel.world u.blocks →
            IsAtRest m u.kernel → total m u.kernel ≤ n →
            expired (actions m n u).kernel (actions m n u).kernel.order ≡ None) →
            let z : Run = elim x as (λ _. Run) [
              | None ↦ r
              | Some e ↦ actions m n (settled m (entry_action m e e.blocker r))
            ] in
            expired z.kernel z.kernel.order ≡ None
        end_by None e more = e
        end_by (Some x) e more =
            let contained = expired_is r.kernel r.kernel.order x e in
            let rest = rests x contained in
            let falls = entry_falls r x sound whole contained rest.0 rest.1 in
            let u = entry_action m x x.blocker r in
            let goes = entry_goes m know.laws know.instructions know.histories know.effects x
            x.blocker r (sound_stands m r.kernel r.blocks sound whole) in
            let after = settled_goes m know.laws know.instructions know.histories u u (goes_self m u goes.stands) in
            more (settled m u) (settle_sound m know stability 256 u falls.sound goes.stands.whole)
            after.stands.whole (settles u falls.sound goes.stands.whole)
            (one_less (total m (settled m u).kernel) (total m u.kernel) (total m r.kernel) n
            (settle_total m know stability 256 u falls.sound goes.stands.whole) falls.less most)

    -- ---- a tick

    -- all calls can lose at most 288
    pub total_most : (r : Run) → IsSoundKernel m r.kernel → HasWholeBlocks r.kernel.world r.blocks →
        total m r.kernel ≤ 288
    total_most r sound whole =
        sum_eighteen 16 (λ p. share m r.kernel (in_order p r.kernel.order) p)
        (λ p. share_most p (in_order p r.kernel.order))
      where
        here : StandsAt m r
        here = sound_stands m r.kernel r.blocks sound whole

        depth_most : (b : Bool) (n : ℕ) → n ≤ 4 → depth_left b n ≤ 3
        depth_most true n h = omega arith
        depth_most false zero h = omega arith
        depth_most false (suc n) h = omega arith

        left_most : (p : ℕ) (x : Option Call) → r.kernel.call p ≡ x → left_of m r.kernel.world r.kernel.objects p x ≤ 15
        left_most p None e = omega arith
        left_most p (Some c) e =
            (know.laws.stages.some_left r.kernel.world r.kernel.images r.kernel.objects p c.stage
            (record {
              store = here.store;
              caller = here.callers p c e;
              granted = here.granted p c e;
              fits = here.fit p c e;
            })).1

        both_most : (a b : ℕ) → a ≤ 15 → b ≤ 3 → a + b ≤ 18
        both_most a b h k = omega arith

        share_most : (p : ℕ) (b : Bool) → share m r.kernel b p ≤ 18
        share_most p b =
            both_most (left_of m r.kernel.world r.kernel.objects p (r.kernel.call p)) (depth_left b
            (length (levels_of m r.kernel p))) (left_most p (r.kernel.call p) refl)
            (depth_most b (length (levels_of m r.kernel p)) (few_levels m know.laws know.histories r.kernel sound p))

    -- each entry keeps its blocker as it is counted
    pub counted_rests : (r : Run) (number : ℕ) → IsAtRest m r.kernel → IsAtRest m (ticked number r).kernel
    counted_rests r number rests e contained =
        each_contains (λ (e : Waiter). (is_some e.blocker ≡ true)
        × (blocker m r.kernel e.process ≡ e.blocker)) (counted r.kernel.order) e
        (counted_each r.kernel.order (each_from (λ (e : Waiter). (is_some e.blocker ≡ true)
        × (blocker m r.kernel e.process ≡ e.blocker)) r.kernel.order rests)) contained
      where
        counted_each : (es : List Waiter) → AllByRecursion (λ (e : Waiter). (is_some e.blocker ≡ true)
            × (blocker m r.kernel e.process ≡ e.blocker)) es →
            AllByRecursion (λ (e : Waiter). (is_some e.blocker ≡ true)
            × (blocker m r.kernel e.process ≡ e.blocker)) (counted es)
        counted_each [] h = tt
        counted_each (e ∷ es) h = (h.0, counted_each es h.1)

    pub tick_ends : (r : Run) (number : ℕ) → IsSoundKernel m r.kernel →
        HasWholeBlocks r.kernel.world r.blocks → IsAtRest m r.kernel →
        expired (tick_event m number r).kernel (tick_event m number r).kernel.order ≡ None
    tick_ends r number sound whole rests =
        let u = ticked number r in
        let after = clock_sound m (record (r.kernel) { order = counted r.kernel.order })
        (suc r.kernel.clock) (order_sound m r.kernel (counted r.kernel.order)
        (counted_waiting r.kernel.order) sound) in
        actions_end 288 u after whole (counted_rests r number rests) (total_most u after whole)

-- a tick ends
pub ticks_end : (m : Meaning) → Known m → SettlesToRest m → Stability m → TicksEnd m
ticks_end m know settles stable r number laws sound whole rests =
    tick_ends m know stable laws.need.modes settles r number sound whole rests
