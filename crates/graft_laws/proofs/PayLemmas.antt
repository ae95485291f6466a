-- Each step and each drop pays for its drop with a graft or a call.
use Rattle.std.specs.Prelude.{◌≡◌, ◌≢◌, ℕ, zero, suc, ◌+◌, ◌<◌, ◌≤◌, Bool, true, false, List, []}
use Rattle.std.specs.Prelude.{◌∷◌, ◌++◌, length, is_some, Option, Some, None, Contains}
use Rattle.std.proofs.Common.{arith, refl, subst, sym, ap, ◌∙◌, inl, inr}
use Rattle.std.proofs.lemmas.Bool.{cases_eq}
use Rattle.kernel_model.specs.declared.Cause.{Cause}
use Rattle.kernel_model.specs.declared.Held.{Held}
use Rattle.kernel_model.specs.declared.Micro.{Micro}
use Rattle.kernel_model.specs.declared.Note.TheVariants.{Dropped}
use Rattle.kernel_model.specs.declared.Object.TheVariants.{Graft}
use Rattle.kernel_model.specs.declared.Point.{Point}
use Rattle.kernel_model.specs.Objects.{GraftValue}
use Rattle.kernel_model.specs.Locks.{is_held}
use Rattle.kernel_model.specs.Meaning.{Meaning}
use Rattle.kernel_model.specs.Levels.{Level, Config, Outcome, touched_at, answer_of, drop_level}
use Rattle.kernel_model.specs.GraftStep.{micro}
use Rattle.kernel_model.specs.History.{Mark, Stepped, Trace, begin_at, begin_with, first_trace, replay, fallen}
use Rattle.kernel_model.specs.Kernel.{Call, Run, requeue}
use Rattle.kernel_model.specs.Blocking.{config_in, levels_in, trace_of, config_of, levels_of, holds}
use Rattle.kernel_model.specs.Settle.{lost_objects, finish_on, piece_at, piece_step, after_outcome}
use Rattle.kernel_model.specs.Sound.{IsSoundKernel, HasWholeBlocks, clash}
use Rattle.kernel_model.specs.Claims.{IsStable}
use Rattle.graft_laws.specs.Notes.{is_drop, note_count}
use Rattle.graft_laws.proofs.ActLemmas.{removed_gone}
use Rattle.graft_laws.proofs.InPlaceLemmas.{row_low, caller_low}
use Rattle.kernel_laws.proofs.StepLemmas.{alike_disk}
use Rattle.graft_laws.proofs.MoveLemmas.{count_more, StandsAt}
use Rattle.graft_laws.proofs.StepMoveLemmas.{WhereCompleted, alike_lost, stands_on}
use Rattle.graft_laws.proofs.ComeLemmas.{went_accounts}
use Rattle.graft_laws.proofs.GraftLemmas.{GraftsFrom, from_stands, graft_self, removed_from}
use Rattle.graft_laws.proofs.SoundCallLemmas.{in_graft, call_comes, call_has_come, call_sound}
use Rattle.graft_laws.proofs.HistoryKernelStepLemmas.{Known}
use Rattle.graft_laws.proofs.OutcomeLemmas.{micro_fell, drops_level, IsLikely, own_graft, own_config}
use Rattle.graft_laws.proofs.CountLemmas.{stands_in, stands_for_all, drops_left, stands_from}
use Rattle.graft_laws.proofs.CountLemmas.{outermost_at, Pays, marks_pays, marks_pays_drop}
use Rattle.graft_laws.proofs.CountLemmas.{finish_pays, finish_pays_drop}
use Rattle.kernel_laws.proofs.SettleLemmas.{alike_self}

-- the least of two is at most itself
pub same_most : (n : ℕ) → n ≤ n
same_most n = omega arith

module _ (m : Meaning) (know : Known m) (r : Run) (sound : IsSoundKernel m r.kernel)
    (whole : HasWholeBlocks r.kernel.world r.blocks) (here : StandsAt m r) (p : ℕ) (c : Call)
    (is : r.kernel.call p ≡ Some c) where
  -- drops are paid for
  abbrev pub PaysFor : Run → Type 0
  PaysFor u = Pays m know.laws know.histories r sound p c is u

  -- others' replays stay alike
  abbrev pub Steady : Run → Type 0
  Steady u = (q : ℕ) → q ≢ p → IsStable m r.kernel (requeue p u).kernel q

  module _ (ks : List Mark) (t : Trace) (marked : c.marks ≡ Some ks)
      (leads : replay m r.kernel.world r.kernel.images r.kernel.objects p c.stage ks ≡ Some t) where
    -- where the call stands
    config_now : config_of m r.kernel p ≡ Some t.config
    config_now = own_config m know r sound whole here p c ks t is marked leads

    -- what else is to be known of an outcome
    pub record IsPaid (o : Outcome) : Type 0 where
      pub grafts_from : GraftsFrom t.config.now.accounts o.config.now.accounts
      pub fell : (d q pt : ℕ) (cause : Cause) → o.said ≡ Micro.Dropped d q pt cause →
          (l : Level) × Contains t.config.levels l × (q ≡ l.owner) × (pt ≡ l.point)
          × (is_some (o.config.now.accounts.graft q pt) ≡ false)

    -- a level's graft stands for all
    level_stood : (l : Level) → Contains t.config.levels l → stands_for_all m r.kernel l.owner l.point ≡ true
    level_stood l contained =
        let g = own_graft m know r sound whole here p c ks t is marked leads in
        let x = call_comes m know.laws know.histories r.kernel sound p t.config config_now g in
        let stands = sound.grafts p t.config l config_now contained in
        let committed = from_stands (t.config.now.accounts.graft l.owner l.point)
        (r.kernel.objects.accounts.graft l.owner l.point)
        (x.grafts_from l.owner l.point) stands in
        stands_from m r.kernel l.owner l.point committed (λ i. elim (cases_eq i p) [
          | inl same ↦ ap (λ j. stands_in (config_of m r.kernel j) l.owner l.point) same
              ∙ ap (λ y. stands_in y l.owner l.point) config_now ∙ stands
          | inr ne ↦ other_by i (config_of m r.kernel i) refl ne committed
        ])
      where
        held_free : (h k : Held) → h ≡ Held.Exclusive → is_held k ≡ true → clash h k ≡ false → ⊥
        held_free Held.Free k e held none = cc
        held_free Held.Shared k e held none = cc
        held_free Held.Exclusive Held.Free e held none = cc
        held_free Held.Exclusive Held.Shared e held none = cc
        held_free Held.Exclusive Held.Exclusive e held none = cc

        other_by : (i : ℕ) (y : Option Config) → config_of m r.kernel i ≡ y → i ≢ p →
            is_some (r.kernel.objects.accounts.graft l.owner l.point) ≡ true →
            stands_in y l.owner l.point ≡ true
        other_by i None e ne committed = refl
        other_by i (Some f) e ne committed =
            let g = in_graft m r.kernel i f e in
            let come = call_has_come m know.laws know.histories r.kernel sound i f e g
            (call_comes m know.laws know.histories r.kernel sound i f e g) in
            let config = call_sound m know.laws know.histories r.kernel sound p t.config config_now
            know.undoes know.own in
            elim (come.before l.owner l.point) [
              | inl same ↦ same ∙ committed
              | inr held ↦ absurd (held_free (holds m r.kernel p 0 (Graft l.owner l.point))
                  (holds m r.kernel i 0 (Graft l.owner l.point))
                  (ap (λ (ls : List Level). touched_at ls 0 (Graft l.owner l.point)) (row_low
                  (levels_of m r.kernel) p (caller_low m r.kernel sound p t.config config_now))
                  ∙ ap (λ y. touched_at (levels_in y) 0 (Graft l.owner l.point)) config_now
                  ∙ outermost_at t.config.levels (Graft l.owner l.point) config.some
                  ∙ (config.paid l contained).0)
                  (ap (λ (ls : List Level). is_held (touched_at ls 0 (Graft l.owner l.point)))
                  (row_low (levels_of m r.kernel) i (caller_low m r.kernel sound i f e))
                  ∙ ap (λ y. is_held (touched_at (levels_in y) 0 (Graft l.owner l.point))) e
                  ∙ ap is_held (outermost_at f.levels (Graft l.owner l.point) come.shape.some)
                  ∙ held)
                  (sound.apart p i 0 0 (Graft l.owner l.point) (λ x. ne (sym x))))
            ]

    -- its numbers are below 16
    level_low : (l : Level) → Contains t.config.levels l → (l.owner < 16) × (l.point < 16)
    level_low l contained =
        let config = call_sound m know.laws know.histories r.kernel sound p t.config config_now know.undoes know.own in
        low_by (t.config.now.accounts.graft l.owner l.point) refl (config.grafts l contained)
      where
        low_by : (g : Option GraftValue) → t.config.now.accounts.graft l.owner l.point ≡ g →
            is_some g ≡ true → (l.owner < 16) × (l.point < 16)
        low_by None e some = absurd cc
        low_by (Some g) e some =
            let config = call_sound m know.laws know.histories r.kernel sound p t.config config_now
            know.undoes know.own in
            let x = config.now.grafts l.owner l.point g e in (config.now.numbers l.owner x.1, x.0)

    -- p's config has what a later one of it has
    own_from : (o : Outcome) → IsPaid o → (q pt : ℕ) →
        is_some (o.config.now.accounts.graft q pt) ≡ true →
        stands_in (config_of m r.kernel p) q pt ≡ true
    own_from o h q pt some =
        ap (λ y. stands_in y q pt) config_now ∙ from_stands (o.config.now.accounts.graft q pt)
        (t.config.now.accounts.graft q pt) (h.grafts_from q pt) some

    -- one drop more
    one_drop : (n q pt : ℕ) (cause : Cause) →
        note_count is_drop (r.notes ++ Dropped n q pt cause ∷ []) ≡ note_count is_drop r.notes + 1
    one_drop n q pt cause = count_more is_drop r.notes (Dropped n q pt cause ∷ [])

    pub outcome_pays : (o : Outcome) (said : Micro) → o.said ≡ said →
        IsLikely m know r sound whole here p c ks t is marked leads o → IsPaid o →
        Steady (after_outcome m p c t ks o said r) → PaysFor (after_outcome m p c t ks o said r)
    outcome_pays o Micro.Went e h paid steady =
        marks_pays m know.laws know.histories r sound p c is (ks ++ Stepped ∷ []) o.config (h.went e) (own_from o paid)
    outcome_pays o (Micro.Blocked object holder by_user) e h paid steady =
        same_most (note_count is_drop r.notes + drops_left m r.kernel)
    outcome_pays o (Micro.Completed answer) e h paid steady =
        let w = o.config.now in
        let done = subst (WhereCompleted m r.kernel.world r.kernel.objects p c t.config.levels w) e h.completed in
        finish_pays m know.laws know.histories r sound p c is w (Some (answer_of answer t.config.levels))
        (record {
          standing = stands_on m know.laws p c w r here is done.0 done.1;
          disk = alike_disk r.kernel.world r.kernel.objects w done.1 here.disk;
          right = done.2;
          body = done.3;
        })
        h.grafts_from (own_from o paid) r.notes steady refl
    outcome_pays o (Micro.Dropped zero q pt cause) e h paid steady =
        let w = lost_objects o.config.now r.kernel.objects in
        let f = paid.fell 0 q pt cause e in
        let low = level_low f.0 f.1 in
        finish_pays_drop m know.laws know.histories r sound p c is w None
        (record {
          standing =
              stands_on m know.laws p c w r here is h.base (alike_lost o.config.now r.kernel.objects);
          disk = here.disk;
          right = tt;
          body = tt;
        })
        h.grafts_from (own_from o paid) (r.notes ++ Dropped c.number q pt cause ∷ []) steady q pt f.4
        (ap (λ i. stands_for_all m r.kernel i pt) f.2
        ∙ ap (λ i. stands_for_all m r.kernel f.0.owner i) f.3 ∙ level_stood f.0 f.1)
        (subst (λ i. i < 16) (sym f.2) low.0)
        (subst (λ i. i < 16) (sym f.3) low.1) (one_drop c.number q pt cause)
    outcome_pays o (Micro.Dropped (suc d) q pt cause) e h paid steady =
        let f = paid.fell (suc d) q pt cause e in
        let low = level_low f.0 f.1 in
        marks_pays_drop m know.laws know.histories r sound p c is (fallen t ks o.effects (suc d))
        (Dropped c.number q pt cause) o.config q pt (h.fell d q pt cause e)
        (own_from o paid) f.4
        (ap (λ i. stands_for_all m r.kernel i pt) f.2
        ∙ ap (λ i. stands_for_all m r.kernel f.0.owner i) f.3 ∙ level_stood f.0 f.1)
        (subst (λ i. i < 16) (sym f.2) low.0)
        (subst (λ i. i < 16) (sym f.3) low.1) refl

    -- an instruction
    pub instruction_paid : IsPaid (micro r.kernel.world r.kernel.images p t.config)
    instruction_paid =
        record {
          grafts_from =
              went_accounts r.kernel.world r.kernel.images p t.config.now.accounts t.config.now
              t.config.levels (λ q pt. graft_self (t.config.now.accounts.graft q pt));
          fell = λ d q pt cause e.
              let f = micro_fell r.kernel.world r.kernel.images p t.config.now t.config.levels d
              q pt cause e in
              (f.level, f.among, f.owner, f.point, f.gone);
        }

    -- a drop
    pub drop_paid : (d : ℕ) (cause : Cause) → d < length t.config.levels →
        IsPaid (drop_level r.kernel.world t.config.now t.config.levels d cause)
    drop_paid d cause low =
        let o = drop_level r.kernel.world t.config.now t.config.levels d cause in
        let f = drops_level r.kernel.world t.config.now t.config.levels d cause low in
        record {
          grafts_from = subst (GraftsFrom t.config.now.accounts) (sym f.accounts)
              (removed_from t.config.now.accounts t.config.now.accounts f.level.owner f.level.point
              (λ q pt. graft_self (t.config.now.accounts.graft q pt)));
          fell = λ n q pt why e.
              let same = same_drop d n f.level.owner q f.level.point pt cause why (sym f.said ∙ e) in (
                f.level,
                f.among,
                sym same.0,
                sym same.1,
                ap (λ i. is_some (o.config.now.accounts.graft i pt)) (sym same.0)
                    ∙ ap (λ i. is_some (o.config.now.accounts.graft f.level.owner i)) (sym same.1)
                    ∙ ap (λ a. is_some (a.graft f.level.owner f.level.point)) f.accounts
                    ∙ removed_gone t.config.now.accounts f.level.owner f.level.point,
              );
        }
      where
        same_drop : (d e q r pt pu : ℕ) (c x : Cause) →
            Micro.Dropped d q pt c ≡ Micro.Dropped e r pu x → (q ≡ r) × (pt ≡ pu)
        same_drop d e q r pt pu c x h = (cc, cc)

  -- ---- a piece

  -- the call at a piece has no config
  no_config_now : c.marks ≡ None → config_of m r.kernel p ≡ None
  no_config_now marked =
      ap (λ x. config_in (trace_of m r.kernel p x)) is
      ∙ ap (λ (x : Option (List Mark)). config_in (elim x as (λ _. Option Trace) [
        | None ↦ None
        | Some y ↦ replay m r.kernel.world r.kernel.images r.kernel.objects p c.stage y
      ])) marked

  pub piece_pays : (ask : Option Point) → c.marks ≡ None →
      m.asks r.kernel.world r.kernel.objects p c.stage ≡ ask → Steady (piece_step m p c ask r) →
      PaysFor (piece_step m p c ask r)
  piece_pays ask marked asked steady = by_ask ask asked steady
    where
      own : (q pt : ℕ) (b : Bool) → b ≡ true → stands_in (config_of m r.kernel p) q pt ≡ true
      own q pt b h = ap (λ x. stands_in x q pt) (no_config_now marked)

      default_pays : Steady (finish_on m p c r.kernel.objects None r) →
          PaysFor (finish_on m p c r.kernel.objects None r)
      default_pays steady =
          finish_pays m know.laws know.histories r sound p c is r.kernel.objects None
          (record {
            standing = stands_on m know.laws p c r.kernel.objects r here is sound.state.store
                (alike_self r.kernel.objects);
            disk = sound.state.disk;
            right = tt;
            body = tt;
          })
          (λ q pt. graft_self (r.kernel.objects.accounts.graft q pt)) (λ q pt h. own q pt
          (is_some (r.kernel.objects.accounts.graft q pt)) h) r.notes steady refl

      by_graft : (a : Point) (g : Option GraftValue) →
          m.asks r.kernel.world r.kernel.objects p c.stage ≡ Some a → Steady (piece_at m p c g r) →
          PaysFor (piece_at m p c g r)
      by_graft a None asked steady = default_pays steady
      by_graft a (Some g) asked steady =
          marks_pays m know.laws know.histories r sound p c
          is [] (begin_at r.kernel.images r.kernel.objects p
          (m.need r.kernel.world r.kernel.objects p c.stage) (m.feed c.stage) a)
          (ap (λ x. config_in (elim (begin_with r.kernel.images r.kernel.objects p
          (m.need r.kernel.world r.kernel.objects p c.stage) (m.feed c.stage)
          x) as (λ _. Option Trace) [ None ↦ None | Some y ↦ Some (first_trace y) ])) asked)
          (λ q pt h. own q pt (is_some (r.kernel.objects.accounts.graft q pt)) h)

      by_ask : (ask : Option Point) → m.asks r.kernel.world r.kernel.objects p c.stage ≡ ask →
          Steady (piece_step m p c ask r) → PaysFor (piece_step m p c ask r)
      by_ask None asked steady = default_pays steady
      by_ask (Some a) asked steady = by_graft a (r.kernel.objects.accounts.graft a.installer a.point) asked steady
