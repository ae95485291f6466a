-- Ticks alone end all waiting: each uses up something of what all calls can lose, or of how long the first may wait.
use Rattle.std.specs.Prelude.{◌≡◌, ℕ, zero, suc, ◌+◌, ◌-◌, ◌*◌, ◌⊎◌, ◌<◌, ◌≤◌, nat_le, Bool, true, false, List, []}
use Rattle.std.specs.Prelude.{◌∷◌, is_some, Option, Some, None, Contains}
use Rattle.std.proofs.Common.{arith, refl, subst, sym, ap, ◌∙◌, inl, inr}
use Rattle.std.proofs.lemmas.Bool.Decides.{nat_tests}
use Rattle.std.proofs.lemmas.Nat.{row_fits}
use Rattle.script_model.specs.Events.{object_kind, is_over, expired, counted, ticked, entry_action, actions, tick_event}
use Rattle.script_model.specs.Kernel.{Blocker, Waiter, Kernel, Run}
use Rattle.script_model.specs.Laws.{Laws, NeedsHaveOneMode}
use Rattle.script_model.specs.Meaning.{Meaning}
use Rattle.script_model.specs.Settle.{settled}
use Rattle.script_model.specs.Sound.{IsSoundKernel, IsAtRest, HasWholeBlocks}
use Rattle.kernel_model.specs.Claims.{Stability}
use Rattle.kernel_laws.specs.Rest.{SettlesToRest}
use Rattle.kernel_laws.proofs.Laws.{settles_to_rest}
use Rattle.graft_laws.proofs.GoLemmas.{goes_self, settled_goes, entry_goes}
use Rattle.graft_laws.proofs.HistoryKernelStepLemmas.{Known}
use Rattle.graft_laws.proofs.HistoryLaws.{known}
use Rattle.graft_laws.proofs.Laws.{calls_are_stable}
use Rattle.graft_laws.proofs.NoteLemmas.{sound_stands}
use Rattle.graft_laws.proofs.SoundCallLemmas.{contains_first}
use Rattle.graft_laws.proofs.SoundRunLemmas.{order_sound, counted_waiting, settle_sound}
use Rattle.graft_laws.proofs.TickLemmas.{expired_is, clock_sound, entry_falls, total_most, counted_rests}
use Rattle.graft_laws.proofs.TotalLemmas.{total, total_order, settle_total}
use Rattle.session_laws.proofs.RunAnswerLemmas.{runs_rest}
use Rattle.session_laws.proofs.SessionLemmas.{runs_are_sound}
use Rattle.run_laws.specs.Waits.{ticks_on, HasPatience, WaitsEnd, RunsEndWaits}
use Rattle.run_laws.proofs.WorldLemmas.{tick_world}

module _ (m : Meaning) (laws : Laws m) (know : Known m) (stability : Stability m) (one : NeedsHaveOneMode m)
    (settles : SettlesToRest m) where
  -- what actions leave of a run: it is sound and rests, and no more can be lost
  record Leaves (r u : Run) : Type 0 where
    sound : IsSoundKernel m u.kernel
    whole : HasWholeBlocks u.kernel.world u.blocks
    rests : IsAtRest m u.kernel
    most : total m u.kernel ≤ total m r.kernel

  no_more : (n : ℕ) → n ≤ n
  no_more n = omega arith

  at_most : (a b c d : ℕ) → a ≤ b → b ≤ c → suc c ≤ d → a ≤ d
  at_most a b c d h k l = omega arith

  -- what the first action leads to, before more
  record After (r u : Run) : Type 0 where
    sound : IsSoundKernel m u.kernel
    whole : HasWholeBlocks u.kernel.world u.blocks
    rests : IsAtRest m u.kernel
    less : suc (total m u.kernel) ≤ total m r.kernel

  one_action : (r : Run) (x : Waiter) → IsSoundKernel m r.kernel → HasWholeBlocks r.kernel.world r.blocks →
      IsAtRest m r.kernel → expired r.kernel r.kernel.order ≡ Some x → After r (settled m (entry_action m x x.blocker r))
  one_action r x sound whole rests e =
      let contained = expired_is r.kernel r.kernel.order x e in
      let rest = rests x contained in
      let falls = entry_falls m know stability one r x sound whole contained rest.0 rest.1 in
      let u = entry_action m x x.blocker r in
      let goes = entry_goes m know.laws know.instructions know.histories know.effects x x.blocker r
      (sound_stands m r.kernel r.blocks sound whole) in
      let after = settled_goes m know.laws know.instructions know.histories u u (goes_self m u goes.stands) in
      record {
        sound = settle_sound m know stability 256 u falls.sound goes.stands.whole;
        whole = after.stands.whole;
        rests = settles u falls.sound goes.stands.whole;
        less = less_then (total m (settled m u).kernel) (total m u.kernel) (total m r.kernel)
            (settle_total m know stability 256 u falls.sound goes.stands.whole) falls.less;
      }
    where
      less_then : (a b c : ℕ) → a ≤ b → suc b ≤ c → suc a ≤ c
      less_then a b c h k = omega arith

  actions_leave : (n : ℕ) (r : Run) → IsSoundKernel m r.kernel → HasWholeBlocks r.kernel.world r.blocks →
      IsAtRest m r.kernel → Leaves r (actions m n r)
  actions_leave zero r sound whole rests =
      record { sound = sound; whole = whole; rests = rests; most = no_more (total m r.kernel) }
  actions_leave (suc n) r sound whole rests =
      leave_by (expired r.kernel r.kernel.order) refl (λ u. actions_leave n u)
    where
      leave_by : (x : Option Waiter) → expired r.kernel r.kernel.order ≡ x →
          ((u : Run) → IsSoundKernel m u.kernel → HasWholeBlocks u.kernel.world u.blocks → IsAtRest m u.kernel →
          Leaves u (actions m n u)) →
          Leaves r (elim x as (λ _. Run) [
            | None ↦ r
            | Some e ↦ actions m n (settled m (entry_action m e e.blocker r))
          ])
      leave_by None e more =
          record { sound = sound; whole = whole; rests = rests; most = no_more (total m r.kernel) }
      leave_by (Some x) e more =
          let first = one_action r x sound whole rests e in
          let u = settled m (entry_action m x x.blocker r) in
          let last = more u first.sound first.whole first.rests in
          record {
            sound = last.sound;
            whole = last.whole;
            rests = last.rests;
            most = fewer (total m (actions m n u).kernel) (total m u.kernel) (total m r.kernel) last.most first.less;
          }
        where
          fewer : (a b c : ℕ) → a ≤ b → suc b ≤ c → a ≤ c
          fewer a b c h k = omega arith

  -- an action that is due takes something away
  actions_take : (n : ℕ) (r : Run) (x : Waiter) → IsSoundKernel m r.kernel → HasWholeBlocks r.kernel.world r.blocks →
      IsAtRest m r.kernel → expired r.kernel r.kernel.order ≡ Some x →
      suc (total m (actions m (suc n) r).kernel) ≤ total m r.kernel
  actions_take n r x sound whole rests e =
      let first = one_action r x sound whole rests e in
      let u = settled m (entry_action m x x.blocker r) in
      let last = actions_leave n u first.sound first.whole first.rests in
      subst (λ y. suc (total m (elim y as (λ _. Run) [
        | None ↦ r
        | Some z ↦ actions m n (settled m (entry_action m z z.blocker r))
      ]).kernel) ≤ total m r.kernel) (sym e)
      (less_then (total m (actions m n u).kernel) (total m u.kernel) (total m r.kernel) last.most first.less)
    where
      less_then : (a b c : ℕ) → a ≤ b → suc b ≤ c → suc a ≤ c
      less_then a b c h k = omega arith

  -- how long the first entry may still wait
  abbrev waited : (most : ℕ) → List Waiter → ℕ
  waited most [] = 0
  waited most (e ∷ es) = most - e.count

  -- what ticks use up: all that can be lost, and how long the first entry may wait
  abbrev uses : (most : ℕ) → Run → ℕ
  uses most r = total m r.kernel * suc most + waited most r.kernel.order

  waited_most : (most : ℕ) (es : List Waiter) → waited most es ≤ most
  waited_most most [] = omega arith
  waited_most most (e ∷ es) = omega arith

  -- the run after the clock and the counts rose
  counted_run : (r : Run) (number : ℕ) → IsSoundKernel m r.kernel → HasWholeBlocks r.kernel.world r.blocks →
      IsAtRest m r.kernel → Leaves r (ticked number r) × (total m (ticked number r).kernel ≡ total m r.kernel)
  counted_run r number sound whole rests =
      let after = clock_sound m (record (r.kernel) { order = counted r.kernel.order }) (suc r.kernel.clock)
      (order_sound m r.kernel (counted r.kernel.order) (counted_waiting r.kernel.order) sound) in
      let same = total_order m r.kernel (counted r.kernel.order) (counted_waiting r.kernel.order) in (
        record {
          sound = after;
          whole = whole;
          rests = counted_rests m know stability one settles r number rests;
          most = as_much (total m (ticked number r).kernel) (total m r.kernel) same;
        },
        same,
      )
    where
      as_much : (a b : ℕ) → a ≡ b → a ≤ b
      as_much a b e = omega (arith, e)

  -- an entry that doesn't time out, with those behind it, hasn't waited too long
  first_waits : (k : Kernel) (e : Waiter) (es : List Waiter) → expired k (e ∷ es) ≡ None → is_over k e e.blocker ≡ false
  first_waits k e es h = by_test (is_over k e e.blocker) h
    where
      by_test : (b : Bool) →
          elim b as (λ _. Option Waiter) [ true ↦ Some e | false ↦ expired k es ] ≡ None → b ≡ false
      by_test true h = absurd cc
      by_test false h = refl

  -- its count is below the longest patience then
  under : (k : Kernel) (e : Waiter) (most : ℕ) → ((kind : ℕ) → k.world.patience kind ≤ most) →
      is_some e.blocker ≡ true → is_over k e e.blocker ≡ false → suc e.count ≤ most
  under k e most patient some waits = by_blocker e.blocker some waits
    where
      below : (a b n : ℕ) → a ≤ n → nat_le a b ≡ false → suc b ≤ n
      below a b n h t = grind (arith, nat_tests, h, t)

      by_blocker : (x : Option Blocker) → is_some x ≡ true → is_over k e x ≡ false → suc e.count ≤ most
      by_blocker None some waits = absurd cc
      by_blocker (Some b) some waits =
          below (k.world.patience (object_kind b.object)) e.count most (patient (object_kind b.object)) waits

  -- it has less to wait
  waits_less : (x : Waiter) (es : List Waiter) (most a b : ℕ) → a ≡ b → suc (suc x.count) ≤ most →
      suc (a * suc most + waited most (counted (x ∷ es))) ≤ b * suc most + waited most (x ∷ es)
  waits_less x es most a b same low = less (a * suc most) (b * suc most) x.count (ap (λ n. n * suc most) same) low
    where
      less : (c d n : ℕ) → c ≡ d → suc (suc n) ≤ most → suc (c + (most - suc n)) ≤ d + (most - n)
      less c d n e h = omega (arith, e, h)

  -- a tick uses up something, as long as somebody waits
  tick_uses : (most : ℕ) (r : Run) (number : ℕ) → IsSoundKernel m r.kernel → HasWholeBlocks r.kernel.world r.blocks →
      IsAtRest m r.kernel → HasPatience r.kernel most →
      (r.kernel.order ≡ []) ⊎ (suc (uses most (tick_event m number r)) ≤ uses most r)
  tick_uses most r number sound whole rests patient = by_order r.kernel.order refl
    where
      u : Run
      u = ticked number r

      after : Leaves r u × (total m u.kernel ≡ total m r.kernel)
      after = counted_run r number sound whole rests

      falls_by : (a b w v : ℕ) → suc a ≤ b → w ≤ most → suc (a * suc most + w) ≤ b * suc most + v
      falls_by a b w v h k =
          let row = row_fits a (suc most) b (suc most) h (no_more (suc most)) in omega (arith, k, row)

      stays : expired u.kernel u.kernel.order ≡ None → actions m 288 u ≡ u
      stays none =
          ap (λ y. elim y as (λ _. Run) [
            | None ↦ u
            | Some z ↦ actions m 287 (settled m (entry_action m z z.blocker u))
          ]) none

      has_blocker : (x : Waiter) (es : List Waiter) → r.kernel.order ≡ x ∷ es → is_some x.blocker ≡ true
      has_blocker x es e = (rests x (subst (λ o. Contains o x) (sym e) (contains_first x es))).0

      by_expired : (x : Waiter) (es : List Waiter) → r.kernel.order ≡ x ∷ es → (y : Option Waiter) →
          expired u.kernel u.kernel.order ≡ y → suc (uses most (tick_event m number r)) ≤ uses most r
      by_expired x es e (Some z) due =
          falls_by (total m (actions m 288 u).kernel) (total m r.kernel) (waited most (actions m 288 u).kernel.order)
          (waited most r.kernel.order)
          (subst (λ n. suc (total m (actions m 288 u).kernel) ≤ n) after.1
          (actions_take 287 u z after.0.sound after.0.whole after.0.rests due))
          (waited_most most (actions m 288 u).kernel.order)
      by_expired x es e None none =
          subst (λ (v : Run). suc (uses most v) ≤ uses most r) (sym (stays none))
          (subst (λ (o : List Waiter). suc (total m u.kernel * suc most + waited most (counted o))
          ≤ total m r.kernel * suc most + waited most o) (sym e)
          (waits_less x es most (total m u.kernel) (total m r.kernel) after.1
          (under u.kernel (record x { count = suc x.count }) most patient (has_blocker x es e)
          (first_waits u.kernel (record x { count = suc x.count }) (counted es)
          (subst (λ (o : List Waiter). expired u.kernel (counted o) ≡ None) e none)))))

      by_order : (es : List Waiter) → r.kernel.order ≡ es →
          (r.kernel.order ≡ []) ⊎ (suc (uses most (tick_event m number r)) ≤ uses most r)
      by_order [] e = inl e
      by_order (x ∷ es) e = inr (by_expired x es e (expired u.kernel u.kernel.order) refl)

  -- where nobody waits, nobody waits after a tick, nor after many
  quiet_tick : (number : ℕ) (r : Run) → r.kernel.order ≡ [] → (tick_event m number r).kernel.order ≡ []
  quiet_tick number r none =
      let u = ticked number r in
      let empty : u.kernel.order ≡ [] = ap counted none in
      ap (λ y. (elim y as (λ _. Run) [
        | None ↦ u
        | Some z ↦ actions m 287 (settled m (entry_action m z z.blocker u))
      ]).kernel.order) (ap (expired u.kernel) empty) ∙ empty

  quiet : (n number : ℕ) (r : Run) → r.kernel.order ≡ [] → (ticks_on m n number r).kernel.order ≡ []
  quiet zero number r none = none
  quiet (suc n) number r none = quiet n (suc number) (tick_event m number r) (quiet_tick number r none)

  -- ticks, one after another
  ticks_end_waiting : (most n number : ℕ) (r : Run) → IsSoundKernel m r.kernel →
      HasWholeBlocks r.kernel.world r.blocks → IsAtRest m r.kernel → HasPatience r.kernel most → uses most r ≤ n →
      (ticks_on m n number r).kernel.order ≡ []
  ticks_end_waiting most zero number r sound whole rests patient few =
      used_by (tick_uses most r number sound whole rests patient)
    where
      nothing : (a b : ℕ) → suc a ≤ b → b ≤ 0 → ⊥
      nothing a b h k = omega (arith, h, k)

      used_by : (r.kernel.order ≡ []) ⊎ (suc (uses most (tick_event m number r)) ≤ uses most r) → r.kernel.order ≡ []
      used_by (inl none) = none
      used_by (inr less) = absurd (nothing (uses most (tick_event m number r)) (uses most r) less few)
  ticks_end_waiting most (suc n) number r sound whole rests patient few =
      let u = tick_event m number r in
      let first = (counted_run r number sound whole rests).0 in
      let left = actions_leave 288 (ticked number r) first.sound first.whole first.rests in
      used_by (tick_uses most r number sound whole rests patient)
      (λ less. ticks_end_waiting most n (suc number) u left.sound left.whole left.rests
      (λ kind. subst (λ v. v.patience kind ≤ most) (sym (tick_world m laws number r (record {
        kernel = sound;
        blocks = whole;
      }))) (patient kind)) (at_last (uses most u) (uses most r) n less few))
    where
      at_last : (a b n : ℕ) → suc a ≤ b → b ≤ suc n → a ≤ n
      at_last a b n h k = omega (arith, h, k)

      used_by : (r.kernel.order ≡ []) ⊎ (suc (uses most (tick_event m number r)) ≤ uses most r) →
          (suc (uses most (tick_event m number r)) ≤ uses most r →
          (ticks_on m n (suc number) (tick_event m number r)).kernel.order ≡ []) →
          (ticks_on m n (suc number) (tick_event m number r)).kernel.order ≡ []
      used_by (inl none) more = quiet n (suc number) (tick_event m number r) (quiet_tick number r none)
      used_by (inr less) more = more less

  -- where all calls can lose at most so much, one more than that times the longest wait is enough
  pub waits_end_within : (r : Run) (n most number : ℕ) → IsSoundKernel m r.kernel →
      HasWholeBlocks r.kernel.world r.blocks → IsAtRest m r.kernel → HasPatience r.kernel most →
      total m r.kernel ≤ n → (ticks_on m (suc n * suc most) number r).kernel.order ≡ []
  waits_end_within r n most number sound whole rests patient few =
      ticks_end_waiting most (suc n * suc most) number r sound whole rests patient
      (within (total m r.kernel) (waited most r.kernel.order) few
      (waited_most most r.kernel.order))
    where
      below : (a : ℕ) → a ≤ n → a < suc n
      below a h = omega (arith, h)

      within : (a w : ℕ) → a ≤ n → w ≤ most → a * suc most + w ≤ suc n * suc most
      within a w h k =
          let row = row_fits a (suc most) (suc n) (suc most) (below a h) (no_more (suc most)) in
          omega (arith, k, row)

  waits_end_by : (r : Run) (most number : ℕ) → IsSoundKernel m r.kernel → HasWholeBlocks r.kernel.world r.blocks →
      IsAtRest m r.kernel → HasPatience r.kernel most → (ticks_on m (289 * suc most) number r).kernel.order ≡ []
  waits_end_by r most number sound whole rests patient =
      ticks_end_waiting most (289 * suc most) number r sound whole rests patient
      (within (total m r.kernel) (waited most r.kernel.order)
      (total_most m know stability one settles r sound whole) (waited_most most r.kernel.order))
    where
      below : (a : ℕ) → a ≤ 288 → a < 289
      below a h = omega (arith, h)

      within : (a w : ℕ) → a ≤ 288 → w ≤ most → a * suc most + w ≤ 289 * suc most
      within a w h k =
          let row = row_fits a (suc most) 289 (suc most) (below a h) (no_more (suc most)) in omega (arith, k, row)

pub waits_end : (m : Meaning) → WaitsEnd m
waits_end m r most number laws sound whole rests patient =
    waits_end_by m laws (known m laws) (calls_are_stable m) laws.need.modes (settles_to_rest m laws) r most number sound
    whole rests patient

pub runs_end_waits : RunsEndWaits
runs_end_waits b keys d texts ios k most number io h is patient =
    let sound = runs_are_sound b keys d texts ios k h is in
    waits_end b.meaning _ most number h.laws sound.0 sound.1 (runs_rest b keys d texts ios k h is) patient
