-- A sound kernel stays sound as it settles, and over time-outs, where replays of other calls stay alike.
use Rattle.std.specs.Prelude.{◌≡◌, ◌≢◌, ℕ, zero, suc, ◌+◌, ◌<◌, ◌≤◌, ◌==◌, ◌||◌, Bool, true, false}
use Rattle.std.specs.Prelude.{cond, List, [], ◌∷◌, ◌++◌, length, Option, Some, None, Contains}
use Rattle.std.specs.List.{AllByRecursion}
use Rattle.std.proofs.Common.{arith, refl, subst, sym, ap, ◌∙◌}
use Rattle.std.proofs.lemmas.Bool.Decides.{nat_tests}
use Rattle.kernel_model.specs.declared.Cause.{Cause}
use Rattle.kernel_model.specs.Objects.{SameThing}
use Rattle.kernel_model.specs.Meaning.{Meaning}
use Rattle.kernel_model.specs.Locks.{LockTable}
use Rattle.kernel_model.specs.Levels.{Level, Config}
use Rattle.kernel_model.specs.Kernel.{Call, Blocker, Waiter, Kernel, Run, new_entry, is_at_piece}
use Rattle.kernel_model.specs.Kernel.{has_level, with_call, joins}
use Rattle.kernel_model.specs.Blocking.{config_in, levels_in, trace_of, levels_of, holds, needs, blocker, blocker_in}
use Rattle.kernel_model.specs.Settle.{step, order_in, rested_order, rested, first_free_in, first_free, settle}
use Rattle.kernel_model.specs.Events.{in_order, counted, drop_call, times_out}
use Rattle.kernel_model.specs.Sound.{IsSoundKernel, HasWholeBlocks, count_of}
use Rattle.kernel_model.specs.Alike.{LevelsAlike, ConfigsAlike}
use Rattle.kernel_model.specs.Claims.{IsStable, Stability}
use Rattle.call_laws.specs.Ledgers.{at_here, at_other}
use Rattle.graft_laws.proofs.SoundCallLemmas.{contains_first, contains_later}
use Rattle.graft_laws.proofs.SteadyLemmas.{moved}
use Rattle.graft_laws.proofs.MoveLemmas.{StandsAt}
use Rattle.graft_laws.proofs.GoLemmas.{step_goes, call_drop_goes, ends_goes}
use Rattle.graft_laws.proofs.NoteLemmas.{sound_stands}
use Rattle.graft_laws.proofs.HistoryKernelLemmas.{count_new_own, changed_sound}
use Rattle.graft_laws.proofs.HistoryKernelStepLemmas.{Known, own_none}
use Rattle.graft_laws.proofs.SoundStepLemmas.{call_sound, marked_drop_sound}
use Rattle.graft_laws.proofs.KernelLemmas.{processes_in, count_both}
use Rattle.kernel_laws.proofs.FrameLemmas.{thing_self}
use Rattle.call_laws.specs.FileChanges.{same_self}
use Rattle.kernel_laws.proofs.SettleLemmas.{order_after}
use Rattle.kernel_laws.proofs.LevelLemmas.{each_contains, each_from}
use Rattle.graft_laws.proofs.OrderLemmas.{each_number, each_entry}

-- ---- another order

-- a kernel whose order lists the same processes is sound
pub order_sound : (m : Meaning) (k : Kernel) (es : List Waiter) →
    processes_in es ≡ processes_in k.order → IsSoundKernel m k →
    IsSoundKernel m (record k { order = es })
order_sound m k es same sound =
    record {
      state = sound.state;
      runs = sound.runs;
      grafts = sound.grafts;
      apart = sound.apart;
      callers = sound.callers;
      granted = sound.granted;
      fit = sound.fit;
      pieces = λ p piece. ap (count_of p) same ∙ sound.pieces p piece;
      others = λ e contained. each_contains (λ (e : Waiter). Waits (processes_in es) e.process) es e
          (each_entry (Waits (processes_in es)) es (subst (AllByRecursion (Waits (processes_in es))) (sym same)
          (each_number (Waits (processes_in es)) k.order
          (each_from (λ (e : Waiter). Waits (processes_in es) e.process) k.order
          (λ e c away. let h = sound.others e c away in (ap (count_of e.process) same ∙ h.0, h.1, h.2)))))) contained;
    }
  where
    Waits : List ℕ → ℕ → Type 0
    Waits ps q =
        is_at_piece (k.call q) ≡ false →
        (count_of q ps ≡ 1) × (1 ≤ length (levels_of m k q)) × (1 ≤ length (needs m k q))

-- a number that isn't in the order isn't counted
not_waiting : (p : ℕ) (es : List Waiter) → in_order p es ≡ false → count_of p (processes_in es) ≡ 0
not_waiting p [] h = refl
not_waiting p (e ∷ es) h = not_by (e.process == p) h (not_waiting p es)
  where
    not_by : (b : Bool) → (b || in_order p es) ≡ false → (in_order p es ≡ false → count_of p (processes_in es) ≡ 0) →
        cond b (suc (count_of p (processes_in es))) (count_of p (processes_in es)) ≡ 0
    not_by true h more = absurd cc
    not_by false h more = more h

-- the orders with blockers and counts list the same
pub rested_waiting : (m : Meaning) (k : Kernel) (es : List Waiter) →
    processes_in (rested_order m k es) ≡ processes_in es
rested_waiting m k [] = refl
rested_waiting m k (e ∷ es) = in_waiting (holds m k) (e ∷ es)
  where
    entry_same : (b : Bool) (e : Waiter) (x : Option Blocker) → (elim b as (λ _. Waiter) [
      | true ↦ e
      | false ↦ record { process = e.process; blocker = x; count = 0 }
    ]).process ≡ e.process
    entry_same true e x = refl
    entry_same false e x = refl

    in_waiting : (locks : LockTable) (es : List Waiter) → processes_in (order_in m k locks es) ≡ processes_in es
    in_waiting locks [] = refl
    in_waiting locks (e ∷ es) =
        ap (λ q. q ∷ processes_in (order_in m k locks es)) (entry_same _ e
        (blocker_in m k locks e.process)) ∙ ap (λ ps. e.process ∷ ps) (in_waiting locks es)

pub counted_waiting : (es : List Waiter) → processes_in (counted es) ≡ processes_in es
counted_waiting [] = refl
counted_waiting (e ∷ es) = ap (λ ps. e.process ∷ ps) (counted_waiting es)

-- ---- who stands in the order

-- the first that is free isn't blocked, and has an entry
first_is : (m : Meaning) (k : Kernel) (locks : LockTable) (es : List Waiter) (p : ℕ) →
    first_free_in m k locks es ≡ Some p →
    (blocker_in m k locks p ≡ None) × ((e : Waiter) × Contains es e × (e.process ≡ p))
first_is m k locks [] p h = absurd cc
first_is m k locks (e ∷ es) p h = first_by (blocker_in m k locks e.process) refl (first_is m k locks es p) h
  where
    same_number : (x y : ℕ) → Some x ≡ Some y → x ≡ y
    same_number x y h = cc

    first_by : (b : Option Blocker) → blocker_in m k locks e.process ≡ b →
        (first_free_in m k locks es ≡ Some p →
        (blocker_in m k locks p ≡ None) × ((e : Waiter) × Contains es e × (e.process ≡ p))) →
        elim b as (λ _. Option ℕ) [ None ↦ Some e.process | Some x ↦ first_free_in m k locks es ] ≡ Some p →
        (blocker_in m k locks p ≡ None) × ((x : Waiter) × Contains (e ∷ es) x × (x.process ≡ p))
    first_by None is rest found =
        let same = same_number e.process p found in
        (subst (λ q. blocker_in m k locks q ≡ None) same is, (e, contains_first e es, same))
    first_by (Some b) is rest found = let f = rest found in (f.0, (f.1.0, contains_later e f.1.0 es f.1.1, f.1.2))

pub free_is : (m : Meaning) (k : Kernel) (es : List Waiter) (p : ℕ) → first_free m k es ≡ Some p →
    (blocker m k p ≡ None) × ((e : Waiter) × Contains es e × (e.process ≡ p))
free_is m k [] p h = absurd cc
free_is m k (e ∷ es) p h = first_is m k (holds m k) (e ∷ es) p h

-- who stands in the order of a sound kernel has a call
pub entry_call : (m : Meaning) (k : Kernel) → IsSoundKernel m k → (e : Waiter) → Contains k.order e →
    (c : Call) × (k.call e.process ≡ Some c)
entry_call m k sound e contained = call_by (k.call e.process) refl
  where
    none_some : 1 ≤ 0 → ⊥
    none_some h = omega arith

    call_by : (x : Option Call) → k.call e.process ≡ x → (c : Call) × (k.call e.process ≡ Some c)
    call_by (Some c) is = (c, is)
    call_by None is =
        absurd
        (none_some (subst (λ x. 1 ≤ length (levels_in (config_in (trace_of m k e.process x))))
        is (sound.others e contained (ap is_at_piece is)).1))

module _ (m : Meaning) (know : Known m) (stability : Stability m) where
  -- ---- steps

  -- a step of a call that isn't blocked
  pub step_sound : (r : Run) (p : ℕ) (c : Call) → IsSoundKernel m r.kernel →
      HasWholeBlocks r.kernel.world r.blocks → r.kernel.call p ≡ Some c →
      blocker m r.kernel p ≡ None →
      IsSoundKernel m (step m p r).kernel
  step_sound r p c sound whole is free =
      call_sound m know r sound whole p c is free
      (step_goes m know.laws know.instructions know.histories p r (sound_stands m r.kernel r.blocks sound whole)).stands
      (λ q ne. stability.steps r q p c know.laws sound whole ne is free)

  -- settling
  pub settle_sound : (n : ℕ) (r : Run) → IsSoundKernel m r.kernel →
      HasWholeBlocks r.kernel.world r.blocks → IsSoundKernel m (settle m n r).kernel
  settle_sound zero r sound whole =
      order_sound m r.kernel (rested m r).kernel.order
      (rested_waiting m r.kernel r.kernel.order) sound
  settle_sound (suc n) r sound whole =
      settle_by (first_free m r.kernel r.kernel.order) refl (λ p. settle_sound n (step m p r))
    where
      settle_by : (x : Option ℕ) → first_free m r.kernel r.kernel.order ≡ x →
          ((p : ℕ) → IsSoundKernel m (step m p r).kernel → HasWholeBlocks (step m p r).kernel.world
          (step m p r).blocks → IsSoundKernel m (settle m n (step m p r)).kernel) →
          IsSoundKernel m (elim x as (λ _. Run) [ None ↦ rested m r | Some p ↦ settle m n (step m p r) ]).kernel
      settle_by None e more =
          order_sound m r.kernel (rested m r).kernel.order
          (rested_waiting m r.kernel r.kernel.order) sound
      settle_by (Some p) e more =
          let f = free_is m r.kernel r.kernel.order p e in
          let c = entry_call m r.kernel sound f.1.0 f.1.1 in
          more p (step_sound r p c.0 sound whole (ap r.kernel.call (sym f.1.2) ∙ c.1) f.0)
          (step_goes m know.laws know.instructions know.histories p r
          (sound_stands m r.kernel r.blocks sound whole)).stands.whole

  -- ---- a call that is blocked joins the order

  pub joins_sound : (r : Run) (p : ℕ) → IsSoundKernel m r.kernel →
      is_at_piece (r.kernel.call p) ≡ false → in_order p r.kernel.order ≡ false →
      1 ≤ length (levels_of m r.kernel p) → 1 ≤ length (needs m r.kernel p) → IsSoundKernel m (joins p r).kernel
  joins_sound r p sound away out levels some =
      record {
        state = sound.state;
        runs = sound.runs;
        grafts = sound.grafts;
        apart = sound.apart;
        callers = sound.callers;
        granted = sound.granted;
        fit = sound.fit;
        pieces =
            λ q piece. count_other q (λ e. contrary
            (sym piece ∙ ap (λ i. is_at_piece (r.kernel.call i)) e ∙ away)) ∙ sound.pieces q piece;
        others = λ e contained. each_contains Waits (r.kernel.order ++ new_entry p ∷ []) e (each_both r.kernel.order
            (λ e c gone. let h = sound.others e c gone in
            (count_other e.process (not_p e h.0) ∙ h.0, h.1, h.2))) contained;
      }
    where
      Waits : Waiter → Type 0
      Waits e =
          is_at_piece (r.kernel.call e.process) ≡ false →
          (count_of e.process (processes_in (r.kernel.order ++ new_entry p ∷ [])) ≡ 1) × (1
          ≤ length (levels_of m r.kernel e.process)) × (1 ≤ length (needs m r.kernel e.process))

      contrary : true ≡ false → ⊥
      contrary h = cc

      differs : (q p : ℕ) → q ≢ p → (p == q) ≡ false
      differs q p ne = grind (arith, nat_tests)

      sum_is : (a b n : ℕ) → a ≡ n → b ≡ 0 → a + b ≡ n
      sum_is a b n e f = omega arith

      sum_one_is : (a b : ℕ) → a ≡ 0 → b ≡ 1 → a + b ≡ 1
      sum_one_is a b e f = omega arith

      zero_one : (n : ℕ) → n ≡ 0 → n ≡ 1 → ⊥
      zero_one n e f = omega arith

      count_other : (q : ℕ) → q ≢ p → count_of q (processes_in (r.kernel.order ++ new_entry p ∷ []))
          ≡ count_of q (processes_in r.kernel.order)
      count_other q ne =
          count_both q r.kernel.order (new_entry p ∷ [])
          ∙ sum_is (count_of q (processes_in r.kernel.order))
          (count_of q (processes_in (new_entry p ∷ []))) (count_of q (processes_in r.kernel.order))
          refl (ap (λ b. cond b 1 0) (differs q p ne))

      not_p : (e : Waiter) → count_of e.process (processes_in r.kernel.order) ≡ 1 → e.process ≢ p
      not_p e h same =
          zero_one (count_of e.process (processes_in r.kernel.order))
          (ap (λ i. count_of i (processes_in r.kernel.order)) same ∙ not_waiting p r.kernel.order out)
          h

      each_both : (es : List Waiter) → ((e : Waiter) → Contains es e → Waits e) →
          AllByRecursion Waits (es ++ new_entry p ∷ [])
      each_both [] h = (
        (λ gone. (
          count_both p r.kernel.order (new_entry p ∷ [])
              ∙ sum_one_is (count_of p (processes_in r.kernel.order)) (count_of p (processes_in
              (new_entry p ∷ []))) (not_waiting p r.kernel.order out) (count_new_own p),
          levels,
          some,
        )),
        tt,
      )
      each_both (e ∷ es) h = (h e (contains_first e es), each_both es (λ x c. h x (contains_later e x es c)))

  -- ---- drops and time-outs

  pub drop_sound : (r : Run) (p : ℕ) (d : Option ℕ) (cause : Cause) → IsSoundKernel m r.kernel →
      HasWholeBlocks r.kernel.world r.blocks →
      ((n : ℕ) → d ≡ Some n → n < length (levels_of m r.kernel p)) →
      IsSoundKernel m (drop_call m p (r.kernel.call p) d cause r).kernel
  drop_sound r p d cause sound whole low =
      drop_by (r.kernel.call p) refl
      (call_drop_goes m know.laws know.instructions know.histories know.effects p (r.kernel.call p)
      d cause r (sound_stands m r.kernel r.blocks sound whole) refl).stands
      (λ q ne. stability.drops r q p d cause know.laws sound whole ne)
    where
      drop_by : (x : Option Call) → r.kernel.call p ≡ x → StandsAt m (drop_call m p x d cause r) →
          ((q : ℕ) → q ≢ p → IsStable m r.kernel (drop_call m p x d cause r).kernel q) →
          IsSoundKernel m (drop_call m p x d cause r).kernel
      drop_by None is stands steady = sound
      drop_by (Some c) is stands steady =
          marked_drop_sound m know r sound whole p c is c.marks (trace_of m r.kernel p (Some c)) d
          cause refl refl low stands steady

  -- levels are alike to themselves
  levels_self : (ls : List Level) → LevelsAlike ls ls
  levels_self [] = tt
  levels_self (l ∷ ls) = (refl, levels_self ls)

  pub config_self : (c : Config) → ConfigsAlike c c
  config_self c =
      record {
        levels = levels_self c.levels;
        now = λ o h. same_self o c.now;
        kept =
            λ n l k o at_l at_k h. subst (λ (x : Level). SameThing o l.kept x.kept)
            (same_level l k (sym at_l ∙ at_k)) (thing_self o l.kept);
      }
    where
      same_level : (x y : Level) → Some x ≡ Some y → x ≡ y
      same_level x y h = cc

  -- a waiter without a level ends
  pub ends_sound : (r : Run) (p : ℕ) (b : Blocker) (c : Call) → IsSoundKernel m r.kernel →
      HasWholeBlocks r.kernel.world r.blocks → r.kernel.call p ≡ Some c →
      IsSoundKernel m (times_out m p b c r).kernel
  ends_sound r p b c sound whole is =
      let call = λ (i : ℕ). (with_call p None r).kernel.call i in
      let l = moved r.kernel r.kernel.objects call (order_after p (is_at_piece (call p)) r.kernel.order) in
      let here = at_here p None r.kernel.call in
      changed_sound m know.laws know.histories r.kernel sound p r.kernel.objects call r.blocks
      (ends_goes m know.laws know.instructions know.histories know.effects p b c r
      (sound_stands m r.kernel r.blocks sound whole) is).stands
      sound.state.images_loaded (λ i ne. at_other p i None r.kernel.call ne)
      (λ i ne f at_i. (
        f,
        ap (λ x. config_in (trace_of m l i x))
            (at_other p i None r.kernel.call ne) ∙ at_i,
        config_self f,
      ))
      (own_none m know r sound p l (ap has_level here))
