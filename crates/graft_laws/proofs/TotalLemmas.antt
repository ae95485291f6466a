-- What all processes can lose together falls with each drop, and rises with no step.
use Rattle.std.specs.Prelude.{◌≡◌, ◌≢◌, ℕ, zero, suc, ◌+◌, ◌<◌, ◌≤◌, ◌==◌, ◌||◌, min, Bool, true}
use Rattle.std.specs.Prelude.{false, List, [], ◌∷◌, length, is_some, Option, Some, None}
use Rattle.std.specs.List.{list_any}
use Rattle.std.proofs.Common.{arith, refl, subst, sym, ap, ◌∙◌}
use Rattle.kernel_model.specs.declared.Cause.{Cause}
use Rattle.kernel_model.specs.declared.Note.TheVariants.{Refused}
use Rattle.kernel_model.specs.declared.Refusal.TheVariants.{TimedOut}
use Rattle.kernel_model.specs.Meaning.{Meaning}
use Rattle.kernel_model.specs.Levels.{Config, drop_level}
use Rattle.kernel_model.specs.GraftStep.{micro}
use Rattle.kernel_model.specs.History.{Mark, Trace, replay}
use Rattle.kernel_model.specs.Kernel.{Call, Blocker, Waiter, Kernel, Run, is_at_piece, has_level}
use Rattle.kernel_model.specs.Kernel.{noted, with_call, requeue}
use Rattle.kernel_model.specs.Blocking.{config_in, levels_in, trace_of, config_of, levels_of, blocker}
use Rattle.kernel_model.specs.Settle.{outcome_step, graft_step, marked_step, call_step, step}
use Rattle.kernel_model.specs.Settle.{first_free, rested, settle}
use Rattle.kernel_model.specs.Events.{in_order, drop_marked, drop_call, times_out}
use Rattle.kernel_model.specs.Sound.{IsSoundKernel, HasWholeBlocks, sum_below}
use Rattle.kernel_model.specs.Claims.{IsStable, Stability}
use Rattle.call_laws.specs.Ledgers.{at_here, at_other, sum_one, sum_same}
use Rattle.graft_laws.proofs.MoveLemmas.{StandsAt, Moves}
use Rattle.graft_laws.proofs.StepMoveLemmas.{call_moves, drop_moves}
use Rattle.kernel_laws.proofs.SettleLemmas.{first_stands, left_of_same}
use Rattle.graft_laws.proofs.GoLemmas.{step_goes, ends_moves}
use Rattle.graft_laws.proofs.NoteLemmas.{sound_stands}
use Rattle.graft_laws.proofs.SoundCallLemmas.{InGraft, in_graft}
use Rattle.graft_laws.proofs.SteadyLemmas.{alike_length}
use Rattle.graft_laws.proofs.HistoryKernelStepLemmas.{Known}
use Rattle.graft_laws.proofs.OutcomeLemmas.{own_trace, own_config}
use Rattle.graft_laws.proofs.ShareLemmas.{above, depth_left, share, own_share, no_levels}
use Rattle.graft_laws.proofs.ShareLemmas.{some_now, instruction_share, drop_share, piece_share}
use Rattle.graft_laws.proofs.SoundRunLemmas.{rested_waiting, free_is, entry_call, step_sound, config_self}
use Rattle.graft_laws.proofs.KernelLemmas.{processes_in}
use Rattle.kernel_laws.proofs.SettleLemmas.{left_of, own_in_after, other_in_after}

-- what all processes can lose
abbrev pub total : Meaning → Kernel → ℕ
total m k = sum_below 16 (λ p. share m k (in_order p k.order) p)

-- who stands in an order, by the processes in it
in_order_by : (q : ℕ) (es : List Waiter) → in_order q es ≡ list_any (λ p. p == q) (processes_in es)
in_order_by q [] = refl
in_order_by q (e ∷ es) = ap (λ b. e.process == q || b) (in_order_by q es)

-- the same where the order lists the same
pub total_order : (m : Meaning) (k : Kernel) (es : List Waiter) →
    processes_in es ≡ processes_in k.order → total m (record k { order = es }) ≡ total m k
total_order m k es same =
    sum_same 16 (λ p. share m k (in_order p es) p) (λ p. share m k (in_order p k.order) p)
    (λ p low. ap (λ b. share m k b p)
    (in_order_by p es ∙ ap (list_any (λ q. q == p)) same ∙ sym (in_order_by p k.order)))

-- as many levels, where a replay stays alike
stays_length : (m : Meaning) (k l : Kernel) (q : ℕ) → IsSoundKernel m k → l.call q ≡ k.call q →
    IsStable m k l q → length (levels_of m l q) ≡ length (levels_of m k q)
stays_length m k l q sound same stable = by_config (config_of m k q) refl
  where
    none_some : (x : Option Trace) → is_some x ≡ true → config_in x ≡ None → ⊥
    none_some None h e = cc
    none_some (Some t) h e = cc

    by_marks : (c : Call) (x : Option (List Mark)) → k.call q ≡ Some c → c.marks ≡ x →
        config_in (elim x as (λ _. Option Trace) [
          | None ↦ None
          | Some ks ↦ replay m k.world k.images k.objects q c.stage ks
        ]) ≡ None →
        config_in (elim x as (λ _. Option Trace) [
          | None ↦ None
          | Some ks ↦ replay m l.world l.images l.objects q c.stage ks
        ]) ≡ None
    by_marks c None e marked none = refl
    by_marks c (Some ks) e marked none =
        absurd (none_some (replay m k.world k.images k.objects q c.stage ks)
        (subst (λ x. is_some (elim x as (λ _. Option Trace) [
          | None ↦ None
          | Some y ↦ replay m k.world k.images k.objects q c.stage y
        ]) ≡ true) marked
        (sound.runs q c ks e marked)) none)

    none_by : (x : Option Call) → k.call q ≡ x → config_in (trace_of m k q x) ≡ None →
        config_in (trace_of m l q x) ≡ None
    none_by None e none = refl
    none_by (Some c) e none = by_marks c c.marks e refl none

    by_config : (x : Option Config) → config_of m k q ≡ x → length (levels_of m l q) ≡ length (levels_in x)
    by_config None e =
        ap (λ x. length (levels_in (config_in (trace_of m l q x)))) same
        ∙ ap (λ x. length (levels_in x)) (none_by (k.call q) refl e)
    by_config (Some c) e =
        let d = stable c e in
        ap (λ x. length (levels_in x)) d.1 ∙ alike_length c.levels d.0.levels d.2.levels

module _ (m : Meaning) (know : Known m) where
  -- ---- one move

  module _ (r u : Run) (p : ℕ) (sound : IsSoundKernel m r.kernel) (low : p < 16) (k : Moves m p r u)
      (steady : (q : ℕ) → q ≢ p → IsStable m r.kernel (requeue p u).kernel q) where
    -- another process can lose as much
    other_share : (q : ℕ) → q ≢ p → share m (requeue p u).kernel
        (in_order q (requeue p u).kernel.order) q ≡ share m r.kernel (in_order q r.kernel.order) q
    other_share q ne =
        let l = (requeue p u).kernel in
        let order = other_in_after p q (is_at_piece (u.kernel.call p)) u.kernel.order ne ∙ ap (in_order q) k.order in
        let left = ap (λ v. left_of m v u.kernel.objects q (u.kernel.call q)) k.world
        ∙ ap (left_of m r.kernel.world u.kernel.objects q) (k.calls q ne)
        ∙ left_of_same m know.laws r.kernel.world r.kernel.objects u.kernel.objects q
        (r.kernel.call q) (k.files q ne) in
        ap (λ b. share m l b q) order
        ∙ ap (λ n. n + depth_left (in_order q r.kernel.order) (length (levels_of m l q))) left
        ∙ ap (λ n. left_of m r.kernel.world r.kernel.objects q
        (r.kernel.call q) + depth_left (in_order q r.kernel.order) n)
        (stays_length m r.kernel l q sound (k.calls q ne) (steady q ne))

    -- p itself what its own share says
    own_is : share m (requeue p u).kernel (in_order p (requeue p u).kernel.order) p ≡ own_share m p u
    own_is =
        ap (λ b. share m (requeue p u).kernel b p) (own_in_after p (is_at_piece (u.kernel.call p))
        u.kernel.order) ∙ own_by (is_at_piece (u.kernel.call p)) refl
      where
        no_level : (x : Option Call) → is_at_piece x ≡ true → has_level x ≡ false
        no_level None h = refl
        no_level (Some c) h = by_marks c.marks h
          where
            by_marks : (x : Option (List Mark)) →
                elim x as (λ _. Bool) [ None ↦ true | Some y ↦ false ] ≡ true →
                elim x as (λ _. Bool) [ None ↦ false | Some y ↦ true ] ≡ false
            by_marks None h = refl
            by_marks (Some y) h = absurd cc

        both_none : (n : ℕ) → n ≡ 0 → depth_left true n ≡ depth_left false n
        both_none zero e = refl
        both_none (suc n) e = absurd (not_suc n e)
          where
            not_suc : (n : ℕ) → suc n ≡ 0 → ⊥
            not_suc n e = omega arith

        own_by : (b : Bool) → is_at_piece (u.kernel.call p) ≡ b → share m (requeue p u).kernel b p ≡ own_share m p u
        own_by false e = refl
        own_by true e =
            ap (λ n. left_of m u.kernel.world u.kernel.objects p (u.kernel.call p) + n)
            (both_none (length (levels_of m (requeue p u).kernel p))
            (ap length (no_levels m (requeue p u).kernel p (no_level (u.kernel.call p) e))))

    sums : total m (requeue p u).kernel + share m r.kernel (in_order p r.kernel.order) p
        ≡ total m r.kernel + own_share m p u
    sums =
        sum_one 16 p (λ q. share m (requeue p u).kernel (in_order q (requeue p u).kernel.order) q)
        (λ q. share m r.kernel (in_order q r.kernel.order) q) low
        (λ q less ne. other_share q ne)
        ∙ ap (λ n. total m r.kernel + n) own_is

    pub total_stays : own_share m p u ≤ share m r.kernel (in_order p r.kernel.order) p →
        total m (requeue p u).kernel ≤ total m r.kernel
    total_stays h =
        paid (total m (requeue p u).kernel) (total m r.kernel) (own_share m p u)
        (share m r.kernel (in_order p r.kernel.order) p) sums h
      where
        paid : (x y a b : ℕ) → x + b ≡ y + a → a ≤ b → x ≤ y
        paid x y a b e h = omega arith

    pub total_falls : suc (own_share m p u) ≤ share m r.kernel (in_order p r.kernel.order) p →
        suc (total m (requeue p u).kernel) ≤ total m r.kernel
    total_falls h =
        paid (total m (requeue p u).kernel) (total m r.kernel) (own_share m p u)
        (share m r.kernel (in_order p r.kernel.order) p) sums h
      where
        paid : (x y a b : ℕ) → x + b ≡ y + a → suc a ≤ b → suc x ≤ y
        paid x y a b e h = omega arith

  module _ (stability : Stability m) where
    -- ---- steps

    step_own : (r : Run) (p : ℕ) (c : Call) (sound : IsSoundKernel m r.kernel)
        (whole : HasWholeBlocks r.kernel.world r.blocks) (is : r.kernel.call p ≡ Some c) →
        blocker m r.kernel p ≡ None →
        own_share m p (call_step m p (r.kernel.call p) r) ≤ share m r.kernel true p
    step_own r p c sound whole is free =
        subst (λ x. own_share m p (call_step m p x r) ≤ share m r.kernel true p) (sym is) (by_marks c.marks refl)
      where
        here : StandsAt m r
        here = sound_stands m r.kernel r.blocks sound whole

        left_is : left_of m r.kernel.world r.kernel.objects p (r.kernel.call p)
            ≡ m.left r.kernel.world r.kernel.objects p c.stage
        left_is = ap (left_of m r.kernel.world r.kernel.objects p) is

        at_least : (x a n b : ℕ) → x ≤ a → b ≡ a → x ≤ b + n
        at_least x a n b h e = omega arith

        as_much : (x a n b k : ℕ) → x ≤ a + n → b ≡ a → k ≡ n → x ≤ b + k
        as_much x a n b k h e f = omega arith

        by_trace : (ks : List Mark) (x : Option Trace) → c.marks ≡ Some ks →
            replay m r.kernel.world r.kernel.images r.kernel.objects p c.stage ks ≡ x →
            is_some x ≡ true →
            own_share m p (graft_step m p c ks x r) ≤ share m r.kernel true p
        by_trace ks None marked leads some = absurd cc
        by_trace ks (Some t) marked leads some =
            let o = micro r.kernel.world r.kernel.images p t.config in
            as_much (own_share m p (graft_step m p c ks (Some t) r))
            (m.left r.kernel.world r.kernel.objects p c.stage) (min (length t.config.levels) 3)
            (left_of m r.kernel.world r.kernel.objects p (r.kernel.call p)) (min (length (levels_of m r.kernel p)) 3)
            (instruction_share m know r sound whole here p c is ks t marked leads free)
            left_is (ap (λ x. min (length (levels_in x)) 3)
            (own_config m know r sound whole here p c ks t is marked leads))

        by_marks : (x : Option (List Mark)) → c.marks ≡ x →
            own_share m p (marked_step m p c x r) ≤ share m r.kernel true p
        by_marks None marked =
            at_least (own_share m p (marked_step m p c None r)) (m.left r.kernel.world
            r.kernel.objects p c.stage) (depth_left true (length (levels_of m r.kernel p)))
            (left_of m r.kernel.world r.kernel.objects p (r.kernel.call p))
            (piece_share m know r sound whole here p c is marked) left_is
        by_marks (Some ks) marked =
            let same : replay m r.kernel.world r.kernel.images r.kernel.objects p c.stage ks
            ≡ trace_of m r.kernel p (Some c) =
            ap (λ (x : Option (List Mark)). elim x as (λ _. Option Trace) [
              | None ↦ None
              | Some y ↦ replay m r.kernel.world r.kernel.images r.kernel.objects p c.stage y
            ]) (sym marked) in
            by_trace ks (trace_of m r.kernel p (Some c)) marked same (sound.runs p c ks is marked)

    pub step_total : (r : Run) (p : ℕ) (c : Call) → IsSoundKernel m r.kernel →
        HasWholeBlocks r.kernel.world r.blocks → r.kernel.call p ≡ Some c →
        blocker m r.kernel p ≡ None →
        in_order p r.kernel.order ≡ true → total m (step m p r).kernel ≤ total m r.kernel
    step_total r p c sound whole is free waits =
        let here = sound_stands m r.kernel r.blocks sound whole in
        total_stays r (call_step m p (r.kernel.call p) r) p
        sound (here.store.numbers p (here.callers p c is))
        (call_moves m know.laws know.instructions know.histories p c r here is)
        (λ q ne. stability.steps r q p c know.laws sound whole ne is free)
        (subst (λ b. own_share m p (call_step m p (r.kernel.call p) r) ≤ share m r.kernel b p)
        (sym waits) (step_own r p c sound whole is free))

    -- settling
    pub settle_total : (n : ℕ) (r : Run) → IsSoundKernel m r.kernel →
        HasWholeBlocks r.kernel.world r.blocks → total m (settle m n r).kernel ≤ total m r.kernel
    settle_total zero r sound whole =
        same_most (total m (rested m r).kernel) (total m r.kernel) (total_order m r.kernel
        (rested m r).kernel.order (rested_waiting m r.kernel r.kernel.order))
      where
        same_most : (a b : ℕ) → a ≡ b → a ≤ b
        same_most a b e = omega arith
    settle_total (suc n) r sound whole =
        settle_by (first_free m r.kernel r.kernel.order) refl (λ p. settle_total n (step m p r))
      where
        same_most : (a b : ℕ) → a ≡ b → a ≤ b
        same_most a b e = omega arith

        at_most : (a b c : ℕ) → a ≤ b → b ≤ c → a ≤ c
        at_most a b c h k = omega arith

        settle_by : (x : Option ℕ) → first_free m r.kernel r.kernel.order ≡ x →
            ((p : ℕ) → IsSoundKernel m (step m p r).kernel →
            HasWholeBlocks (step m p r).kernel.world (step m p r).blocks →
            total m (settle m n (step m p r)).kernel ≤ total m (step m p r).kernel) →
            total m (elim x as (λ _. Run) [
              | None ↦ rested m r
              | Some p ↦ settle m n (step m p r)
            ]).kernel ≤ total m r.kernel
        settle_by None e more =
            same_most (total m (rested m r).kernel) (total m r.kernel) (total_order m r.kernel
            (rested m r).kernel.order (rested_waiting m r.kernel r.kernel.order))
        settle_by (Some p) e more =
            let f = free_is m r.kernel r.kernel.order p e in
            let c = entry_call m r.kernel sound f.1.0 f.1.1 in
            let is = ap r.kernel.call (sym f.1.2) ∙ c.1 in
            let next = step_goes m know.laws know.instructions know.histories p r
            (sound_stands m r.kernel r.blocks sound whole) in
            at_most (total m (settle m n (step m p r)).kernel) (total m (step m p r).kernel) (total m r.kernel)
            (more p (step_sound m know stability r p c.0 sound whole is f.0) next.stands.whole)
            (step_total r p c.0 sound whole is f.0 (first_stands m r.kernel r.kernel.order p e))

    -- ---- drops and ends

    pub drop_total : (r : Run) (p d : ℕ) (cause : Cause) → IsSoundKernel m r.kernel →
        HasWholeBlocks r.kernel.world r.blocks → d < length (levels_of m r.kernel p) →
        suc (total m (drop_call m p (r.kernel.call p) (Some d) cause r).kernel) ≤ total m r.kernel
    drop_total r p d cause sound whole low = by_config (config_of m r.kernel p) refl low
      where
        none_lower : (d : ℕ) → d < 0 → ⊥
        none_lower d h = omega arith

        as_much : (x a n b k : ℕ) → x ≤ a + n → b ≡ a → k ≡ n → x ≤ b + k
        as_much x a n b k h e f = omega arith

        in_graft_falls : (f : Config) → InGraft m r.kernel p f → d < length f.levels → suc (total m
            (drop_call m p (r.kernel.call p) (Some d) cause r).kernel) ≤ total m r.kernel
        in_graft_falls f i low =
            let here = sound_stands m r.kernel r.blocks sound whole in
            let c = i.call in
            let t = i.trace in
            let levels = subst (λ (x : Config). d < length x.levels) (sym i.config) low in
            let trace = own_trace m know r sound whole here p c i.marks t i.is i.marked i.leads in
            let o = drop_level r.kernel.world t.config.now t.config.levels d cause in
            let u = outcome_step m p c t i.marks o r in
            let same : drop_call m p (r.kernel.call p) (Some d) cause r ≡ requeue p u =
            ap (λ x. drop_call m p x (Some d) cause r) i.is ∙ ap (λ x. drop_marked m p c x
            (trace_of m r.kernel p (Some c)) (Some d) cause r) i.marked
            ∙ ap (λ y. drop_marked m p c (Some i.marks) y (Some d) cause r) trace in
            subst (λ (x : Run). suc (total m x.kernel) ≤ total m r.kernel) (sym same)
            (total_falls r u p sound (here.store.numbers p (here.callers p c i.is))
            (drop_moves m know.laws know.instructions know.histories know.effects p c i.marks t
            d cause r here i.is i.marked trace)
            (λ q ne. subst (λ (x : Run). IsStable m r.kernel x.kernel q) same
            (stability.drops r q p (Some d) cause know.laws sound whole ne))
            (as_much (suc (own_share m p u)) (m.left r.kernel.world r.kernel.objects p c.stage)
            (depth_left (in_order p r.kernel.order) (length t.config.levels))
            (left_of m r.kernel.world r.kernel.objects p (r.kernel.call p))
            (depth_left (in_order p r.kernel.order) (length (levels_of m r.kernel p)))
            (drop_share m know r sound whole here p c i.is i.marks t i.marked i.leads
            (in_order p r.kernel.order) d cause levels)
            (ap (left_of m r.kernel.world r.kernel.objects p) i.is)
            (ap (λ x. depth_left (in_order p r.kernel.order) (length (levels_in x)))
            (own_config m know r sound whole here p c i.marks t i.is i.marked i.leads))))

        by_config : (x : Option Config) → config_of m r.kernel p ≡ x → d < length (levels_in x) →
            suc (total m (drop_call m p (r.kernel.call p) (Some d) cause r).kernel)
            ≤ total m r.kernel
        by_config None e low = absurd (none_lower d low)
        by_config (Some f) e low = in_graft_falls f (in_graft m r.kernel p f e) low

    pub ends_total : (r : Run) (p : ℕ) (b : Blocker) (c : Call) → IsSoundKernel m r.kernel →
        HasWholeBlocks r.kernel.world r.blocks → r.kernel.call p ≡ Some c →
        suc (total m (times_out m p b c r).kernel) ≤ total m r.kernel
    ends_total r p b c sound whole is =
        let here = sound_stands m r.kernel r.blocks sound whole in
        let u = noted (Refused c.number (TimedOut b.object b.holder)) (with_call p None r) in
        let at_p = at_here p None r.kernel.call in
        total_falls r u p sound (here.store.numbers p (here.callers p c is))
        (ends_moves m know.laws know.instructions know.histories know.effects p b c r here is)
        (λ q ne f at_q. (
          f,
          ap (λ x. config_in (trace_of m (requeue p u).kernel q x))
              (at_other p q None r.kernel.call ne) ∙ at_q,
          config_self m know stability f,
        ))
        (one_most (left_of m r.kernel.world r.kernel.objects p (u.kernel.call p))
        (length (levels_of m (requeue p u).kernel p))
        (left_of m r.kernel.world r.kernel.objects p (r.kernel.call p))
        (depth_left (in_order p r.kernel.order) (length (levels_of m r.kernel p)))
        (m.left r.kernel.world r.kernel.objects p c.stage)
        (ap (left_of m r.kernel.world r.kernel.objects p) at_p)
        (ap length (no_levels m (requeue p u).kernel p (ap has_level at_p)))
        (ap (left_of m r.kernel.world r.kernel.objects p) is) (some_now m know r sound whole here p c is))
      where
        one_most : (a n b x k : ℕ) → a ≡ 0 → n ≡ 0 → b ≡ k → 1 ≤ k → suc (a + above n) ≤ b + x
        one_most a zero b x k e f g h = omega arith
        one_most a (suc n) b x k e f g h = absurd (not_suc n f)
          where
            not_suc : (n : ℕ) → suc n ≡ 0 → ⊥
            not_suc n e = omega arith
