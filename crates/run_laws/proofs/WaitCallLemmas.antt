-- Waiting ends the sooner, the fewer calls are in flight.
use Rattle.std.specs.Prelude.{◌≡◌, ℕ, zero, suc, ◌+◌, ◌*◌, ◌≤◌, Bool, true, false, length, is_some}
use Rattle.std.specs.Prelude.{List, Option, Some, None}
use Rattle.std.proofs.Common.{arith, refl, subst, sym, ap}
use Rattle.script_model.specs.Blocking.{levels_of}
use Rattle.script_model.specs.Events.{in_order}
use Rattle.script_model.specs.Kernel.{Call, Run, has_level}
use Rattle.script_model.specs.Laws.{Laws}
use Rattle.script_model.specs.Levels.{Level}
use Rattle.script_model.specs.Meaning.{Meaning}
use Rattle.script_model.specs.Sound.{IsSoundKernel, HasWholeBlocks, sum_below, once_if}
use Rattle.kernel_laws.proofs.Laws.{settles_to_rest}
use Rattle.kernel_laws.proofs.SettleLemmas.{left_of}
use Rattle.graft_laws.proofs.BesideLemmas.{few_levels}
use Rattle.graft_laws.proofs.HistoryLaws.{known}
use Rattle.graft_laws.proofs.Laws.{calls_are_stable}
use Rattle.graft_laws.proofs.NoteLemmas.{sound_stands}
use Rattle.graft_laws.proofs.ShareLemmas.{depth_left, share, no_levels}
use Rattle.graft_laws.proofs.TotalLemmas.{total}
use Rattle.session_laws.specs.Slices.{calls_in_flight}
use Rattle.session_laws.proofs.RunAnswerLemmas.{runs_rest}
use Rattle.session_laws.proofs.SessionLemmas.{runs_are_sound}
use Rattle.run_laws.specs.Waits.{WaitsEndByCalls, RunsEndWaitsByCalls}
use Rattle.run_laws.proofs.WaitLemmas.{waits_end_within}

-- a sum of numbers of which each is at most 18 times another
sum_scaled : (n : ℕ) (f g : ℕ → ℕ) → ((i : ℕ) → f i ≤ 18 * g i) →
    sum_below n f ≤ 18 * sum_below n g
unfolding sum_below
sum_scaled zero f g h = omega arith
sum_scaled (suc n) f g h = let k = sum_scaled n f g h in let e = h n in omega (arith, k, e)

-- at most three levels can go
depth_most : (b : Bool) (n : ℕ) → n ≤ 4 → depth_left b n ≤ 3
depth_most true n h = omega arith
depth_most false zero h = omega arith
depth_most false (suc n) h = omega arith

-- and none where there is none
depth_none : (b : Bool) (n : ℕ) → n ≡ 0 → depth_left b n ≡ 0
depth_none true n h = omega (arith, h)
depth_none false zero h = refl
depth_none false (suc n) h = absurd (omega (arith, h))

module _ (m : Meaning) (laws : Laws m) (r : Run) (sound : IsSoundKernel m r.kernel)
    (whole : HasWholeBlocks r.kernel.world r.blocks) where
  -- a call can lose 15 pieces and three levels, at most
  call_share : (p : ℕ) (c : Call) → r.kernel.call p ≡ Some c →
      share m r.kernel (in_order p r.kernel.order) p ≤ 18
  call_share p c e =
      both (left_of m r.kernel.world r.kernel.objects p (r.kernel.call p))
      (depth_left (in_order p r.kernel.order) (length (levels_of m r.kernel p)))
      (subst (λ (x : Option Call). left_of m r.kernel.world r.kernel.objects p x ≤ 15) (sym e) left)
      (depth_most (in_order p r.kernel.order) (length (levels_of m r.kernel p))
      (few_levels m laws (known m laws).histories r.kernel sound p))
    where
      both : (a b : ℕ) → a ≤ 15 → b ≤ 3 → a + b ≤ 18
      both a b h k = omega (arith, h, k)

      left : m.left r.kernel.world r.kernel.objects p c.stage ≤ 15
      left =
          let here = sound_stands m r.kernel r.blocks sound whole in
          (laws.stages.some_left r.kernel.world r.kernel.images r.kernel.objects p c.stage
          (record {
            store = here.store;
            caller = here.callers p c e;
            granted = here.granted p c e;
            fits = here.fit p c e;
          })).1

  -- who has no call in flight can lose nothing
  no_share : (p : ℕ) → r.kernel.call p ≡ None →
      share m r.kernel (in_order p r.kernel.order) p ≤ 0
  no_share p e =
      both (left_of m r.kernel.world r.kernel.objects p (r.kernel.call p))
      (depth_left (in_order p r.kernel.order) (length (levels_of m r.kernel p)))
      (ap (left_of m r.kernel.world r.kernel.objects p) e)
      (depth_none (in_order p r.kernel.order) (length (levels_of m r.kernel p))
      (ap (λ (ls : List Level). length ls) (no_levels m r.kernel p (ap has_level e))))
    where
      both : (a b : ℕ) → a ≡ 0 → b ≡ 0 → a + b ≤ 0
      both a b h k = omega (arith, h, k)

  share_by : (p : ℕ) (x : Option Call) → r.kernel.call p ≡ x →
      share m r.kernel (in_order p r.kernel.order) p ≤ 18 * once_if (is_some x)
  share_by p None e = no_share p e
  share_by p (Some c) e = call_share p c e

  -- all calls together can lose 18 for each
  total_by_calls : total m r.kernel ≤ 18 * calls_in_flight r.kernel
  total_by_calls =
      sum_scaled 16 (λ p. share m r.kernel (in_order p r.kernel.order) p)
      (λ p. once_if (is_some (r.kernel.call p))) (λ p. share_by p (r.kernel.call p) refl)

pub waits_end_by_calls : (m : Meaning) → WaitsEndByCalls m
waits_end_by_calls m r most number laws sound whole rests patient =
    waits_end_within m laws (known m laws) (calls_are_stable m) laws.need.modes
    (settles_to_rest m laws) r (18 * calls_in_flight r.kernel) most number sound whole rests patient
    (total_by_calls m laws r sound whole)

pub runs_end_waits_by_calls : RunsEndWaitsByCalls
runs_end_waits_by_calls b keys d texts ios k most number io h is patient =
    let sound = runs_are_sound b keys d texts ios k h is in
    waits_end_by_calls b.meaning _ most number h.laws sound.0 sound.1
    (runs_rest b keys d texts ios k h is) patient
