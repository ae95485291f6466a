-- What a step in place spends, and how many drops it tells.
use Rattle.std.specs.Prelude.{◌≡◌, ℕ, zero, suc, ◌+◌, ◌<◌, ◌≤◌, ◌==◌, ◌||◌, not, Bool, true, false}
use Rattle.std.specs.Prelude.{List, [], ◌∷◌, ◌++◌, map, length, Contains, Option, Some, None, is_some}
use Rattle.std.proofs.Common.{arith, refl, subst, sym, ap, ◌∙◌}
use Rattle.std.proofs.lemmas.Bool.Decides.{nat_tests}
use Rattle.script_model.specs.declared.Cause.{Cause}
use Rattle.script_model.specs.declared.Cause.TheVariants.{SpentSteps}
use Rattle.script_model.specs.declared.Kind.{Kind}
use Rattle.script_model.specs.declared.Kind.TheVariants.{Steps}
use Rattle.script_model.specs.declared.Micro.{Micro}
use Rattle.script_model.specs.declared.Note.{Note}
use Rattle.script_model.specs.declared.Note.TheVariants.{Dropped}
use Rattle.script_model.specs.declared.Object.TheVariants.{Graft, Acct}
use Rattle.script_model.specs.declared.Point.{Point}
use Rattle.script_model.specs.World.{World, ImageTable}
use Rattle.script_model.specs.Objects.{Objects, Accounts, GraftValue}
use Rattle.script_model.specs.Charges.{payer_balance, removed}
use Rattle.script_model.specs.Meaning.{Meaning, Answer}
use Rattle.script_model.specs.Levels.{Level, Config, Outcome, answer_of, limit_in, drop_innermost, drop_level}
use Rattle.script_model.specs.GraftStep.{is_spent, micro, micro_on, charged_step}
use Rattle.script_model.specs.History.{Mark}
use Rattle.script_model.specs.Kernel.{Call, Run, gave_note, after_note, has_level}
use Rattle.script_model.specs.Blocking.{config_in, levels_in, trace_of, config_of, levels_of}
use Rattle.script_model.specs.Laws.{Laws, IsReady}
use Rattle.script_model.specs.Sound.{sum_below, ledger, once_if, IsSoundStore, IsSoundConfig}
use Rattle.kernel_model.specs.UndoLog.{undo_all}
use Rattle.call_laws.specs.Ledgers.{sum_one, sum_same}
use Rattle.kernel_laws.proofs.LevelLemmas.{outer_changed}
use Rattle.graft_laws.specs.Notes.{is_drop, note_count}
use Rattle.graft_laws.proofs.HistoryLaws.{calls_are_sound}
use Rattle.graft_laws.proofs.MoveLemmas.{count_more}
use Rattle.graft_laws.proofs.SoundCallLemmas.{contains_first}
use Rattle.graft_laws.proofs.TurnLemmas.{levels_turn}
use Rattle.graft_laws.proofs.TurnParts.{IsEnded}
use Rattle.placed_laws.specs.Placed.{PlacedCall, PlacedRun, has_some, bare, level_with}
use Rattle.placed_laws.specs.Placed.{levels_with, placed_levels, placed_config}
use Rattle.placed_laws.specs.PlacedSteps.{placed_finish_on, placed_piece_at, placed_piece_step, placed_after_outcome}
use Rattle.placed_laws.specs.PlacedSteps.{placed_step_by, placed_call_step, placed_step, placed_drop_by, placed_drop}
use Rattle.placed_laws.specs.PlacedSteps.{placed_requeue}
use Rattle.placed_laws.specs.Stands.{without_history, RunStandsFor}
use Rattle.placed_laws.proofs.AlignLemmas.{over_store, run_over, placed_of}
use Rattle.placed_laws.proofs.FreeLemmas.{StandsWhere, AtPiece, InGraft, stands_where}
use Rattle.placed_laws.proofs.Laws.{ready_in_place}
use Rattle.placed_laws.proofs.SourceLemmas.{IsPlaced, own}
use Rattle.session_laws.specs.Spending.{steps_of, IsPaidFor}
use Rattle.session_laws.proofs.SpendingLemmas.{instructions_are_paid_for, removed_steps}
use Rattle.run_laws.specs.Grants.{steps_spent, SpendsNoSteps, is_instruction, has_step, can_step, is_charged}
use Rattle.run_laws.specs.Moves.{Steps}

-- ---- sums

sum_le : (n : ℕ) (f g : ℕ → ℕ) → ((i : ℕ) → f i ≤ g i) → sum_below n f ≤ sum_below n g
unfolding sum_below
sum_le zero f g h = omega arith
sum_le (suc n) f g h = let k = sum_le n f g h in let e = h n in omega arith

-- in a sound store all processes together have spent at most the grant, of each kind
pub spent_within : (v : World) (s : Objects) (kind : Kind) → IsSoundStore v s →
    sum_below 16 (λ q. (s.accounts.acct q).spent kind) ≤ v.grant
spent_within v s kind sound =
    subst (λ n. sum_below 16 (λ q. (s.accounts.acct q).spent kind) ≤ n) (sound.ledgers kind)
    (sum_le 16 (λ q. (s.accounts.acct q).spent kind) (ledger s.accounts kind) part)
  where
    middle : (a b c : ℕ) → b ≤ a + b + c
    middle a b c = omega arith

    part : (q : ℕ) → (s.accounts.acct q).spent kind ≤ ledger s.accounts kind q
    part q = middle ((s.accounts.acct q).balance kind) ((s.accounts.acct q).spent kind) _

-- ---- instructions

-- an instruction spends one step, if one is left
charge_counts : (v : World) (images : ImageTable) (p : ℕ) (w : Objects) (l : Level) (ls : List Level) →
    l.point < 16 → l.owner < 16 →
    steps_spent (micro_on v images p w (l ∷ ls)).config.now.accounts
    ≡ steps_spent w.accounts + once_if (not (is_spent w.accounts l))
charge_counts v images p w l ls point owner =
    by_spent (is_spent w.accounts l) refl (instructions_are_paid_for v images p w l ls point)
  where
    after : Accounts
    after = (micro_on v images p w (l ∷ ls)).config.now.accounts

    one_more : (a b x y : ℕ) → b + x ≡ a + y → y ≡ x + 1 → b ≡ a + 1
    one_more a b x y h e = omega arith

    none_more : (a b : ℕ) → b ≡ a → b ≡ a + 0
    none_more a b e = omega arith

    by_spent : (t : Bool) → is_spent w.accounts l ≡ t → IsPaidFor l w.accounts after →
        steps_spent after ≡ steps_spent w.accounts + once_if (not t)
    by_spent true e h =
        none_more (steps_spent w.accounts) (steps_spent after)
        (sum_same 16 (steps_of after) (steps_of w.accounts) (λ i low. (h.uncharged e).steps i))
    by_spent false e h =
        let one = h.charged e in
        one_more (steps_spent w.accounts) (steps_spent after) (steps_of w.accounts l.owner) (steps_of after l.owner)
        (sum_one 16 l.owner (steps_of after) (steps_of w.accounts) owner (λ i low ne. one.others i ne)) one.own

-- the drop of a level spends none
drop_counts : (v : World) (w : Objects) (ls : List Level) (d : ℕ) (cause : Cause) →
    steps_spent (drop_level v w ls d cause).config.now.accounts ≡ steps_spent w.accounts
drop_counts v w [] d cause = refl
drop_counts v w (l ∷ ls) d cause = by_place (length ls == d) (drop_counts v w ls d cause)
  where
    by_place : (b : Bool) → steps_spent (drop_level v w ls d cause).config.now.accounts ≡ steps_spent w.accounts →
        steps_spent (elim b as (λ _. Outcome) [
          | true ↦ drop_innermost v w l ls cause
          | false ↦ drop_level v w ls d cause
        ]).config.now.accounts ≡ steps_spent w.accounts
    by_place true h =
        sum_same 16 (steps_of (removed l.owner l.point w.accounts)) (steps_of w.accounts)
        (λ i low. removed_steps w.accounts l.owner l.point i (w.accounts.graft l.owner l.point))
    by_place false h = h

-- it is said
drop_said : (v : World) (w : Objects) (ls : List Level) (d : ℕ) (cause : Cause) → d < length ls →
    (q : ℕ) × (pt : ℕ) × ((drop_level v w ls d cause).said ≡ Micro.Dropped d q pt cause)
drop_said v w [] d cause low = absurd (none d low)
  where
    none : (d : ℕ) → d < 0 → ⊥
    none d h = omega arith
drop_said v w (l ∷ ls) d cause low = by_place (length ls == d) refl (drop_said v w ls d cause)
  where
    same : (a b : ℕ) → (a == b) ≡ true → a ≡ b
    same a b h = grind (arith, nat_tests)

    lower : (a d : ℕ) → (a == d) ≡ false → d < suc a → d < a
    lower a d h low = grind (arith, nat_tests)

    by_place : (b : Bool) → (length ls == d) ≡ b →
        (d < length ls → (q : ℕ) × (pt : ℕ) × ((drop_level v w ls d cause).said ≡ Micro.Dropped d q pt cause)) →
        (q : ℕ) × (pt : ℕ) × ((elim b as (λ _. Outcome) [
          | true ↦ drop_innermost v w l ls cause
          | false ↦ drop_level v w ls d cause
        ]).said ≡ Micro.Dropped d q pt cause)
    by_place true e rest = (l.owner, l.point, ap (λ n. Micro.Dropped n l.owner l.point cause) (same (length ls) d e))
    by_place false e rest = rest (lower (length ls) d e low)

-- ---- steps in place

-- What a move in place leaves: steps are spent where it is charged, and an instruction that isn't charged tells of a
-- drop.
pub record IsPaid (before after : PlacedRun) (charged instruction : Bool) : Type 0 where
  pub steps : steps_spent after.placed.objects.accounts
      ≡ steps_spent before.placed.objects.accounts + once_if charged
  pub drops : note_count is_drop before.notes + once_if instruction
      ≤ note_count is_drop after.notes + once_if charged

-- the order of waiting doesn't matter
requeue_paid : (x u : PlacedRun) (p : ℕ) (charged instruction : Bool) → IsPaid x u charged instruction →
    IsPaid x (placed_requeue p u) charged instruction
requeue_paid x u p charged instruction h = record { steps = h.steps; drops = h.drops }

module _ (m : Meaning) (laws : Laws m) (spends : SpendsNoSteps m) (r : Run) (w : Objects)
    (h : RunStandsFor m (run_over m w r) r) (p : ℕ) (c : Call) (e : r.kernel.call p ≡ Some c) where
  abbrev x : PlacedRun
  x = run_over m w r

  -- the call in place
  abbrev own_call : PlacedCall
  own_call = record { number = c.number; stage = c.stage }

  here : IsPlaced m r.kernel w
  here = placed_of m (over_store m w r.kernel) r.kernel h.kernel

  call_is : x.placed.call p ≡ Some own_call
  call_is = ap without_history e

  -- a piece is done, after these notes
  finish_paid : (s : Objects) (answer : Option Answer) (notes : List Note) (charged instruction : Bool) →
      IsReady m r.kernel.world r.kernel.images s p c.stage answer →
      steps_spent s.accounts ≡ steps_spent w.accounts + once_if charged →
      note_count is_drop r.notes + once_if instruction ≤ note_count is_drop notes + once_if charged →
      IsPaid x (placed_finish_on m p own_call s answer (record x { notes = notes })) charged instruction
  finish_paid s answer notes charged instruction ready steps drops =
      let q = m.piece r.kernel.world r.kernel.images s r.blocks p c.stage answer r.io in
      let gave = gave_note c.number q.gave in
      let last = after_note c.number q.after in
      record {
        steps = spends r.kernel.world r.kernel.images s r.blocks p c.stage answer r.io ready ∙ steps;
        drops =
            more (note_count is_drop r.notes + once_if instruction) (note_count is_drop notes)
            (note_count is_drop gave) (note_count is_drop last) (once_if charged)
            (note_count is_drop ((notes ++ gave) ++ last)) (note_count is_drop (notes ++ gave)) drops
            (count_more is_drop (notes ++ gave) last) (count_more is_drop notes gave);
      }
    where
      more : (a n g l c all most : ℕ) → a ≤ n + c → all ≡ most + l → most ≡ n + g → a ≤ all + c
      more a n g l c all most h e f = omega arith

  at_piece : levels_of m r.kernel p ≡ [] → IsPaid x (placed_step m p x) false false
  at_piece none =
      subst (λ y. IsPaid x (placed_requeue p (placed_call_step m p y x)) false false) (sym call_is)
      (subst (λ ls. IsPaid x (placed_requeue p (placed_step_by m p own_call ls x)) false false)
      (sym (ap (map bare) none))
      (requeue_paid x _ p false false (by_ask (m.asks r.kernel.world w p c.stage))))
    where
      no_more : (n : ℕ) → n ≡ n + 0
      no_more n = omega arith

      at_most : (n : ℕ) → n + 0 ≤ n + 0
      at_most n = omega arith

      done : IsPaid x (placed_finish_on m p own_call w None x) false false
      done =
          finish_paid w None r.notes false false
          ((ready_in_place m laws).at_once (over_store m w r.kernel) r.kernel p own_call h.kernel call_is)
          (no_more (steps_spent w.accounts)) (at_most (note_count is_drop r.notes))

      by_graft : (a : Point) (g : Option GraftValue) → IsPaid x (placed_piece_at m p own_call a g x) false false
      by_graft a None = done
      by_graft a (Some g) =
          record { steps = no_more (steps_spent w.accounts); drops = at_most (note_count is_drop r.notes) }

      by_ask : (a : Option Point) → IsPaid x (placed_piece_step m p own_call a x) false false
      by_ask None = done
      by_ask (Some a) = by_graft a (w.accounts.graft a.installer a.point)

  -- ---- in a graft

  module _ (f : Config) (is : config_of m r.kernel p ≡ Some f) (l : Level) (ls : List Level)
      (levels : f.levels ≡ l ∷ ls) where
    sound : IsSoundConfig r.kernel.world f
    sound = calls_are_sound m laws r.kernel p f here.kernel is

    first : Contains f.levels l
    first = subst (λ xs. Contains xs l) (sym levels) (contains_first l ls)

    graft_low : (l.point < 16) × (l.owner < 16)
    graft_low = by_graft (f.now.accounts.graft l.owner l.point) refl (sound.grafts l first)
      where
        by_graft : (g : Option GraftValue) → f.now.accounts.graft l.owner l.point ≡ g → is_some g ≡ true →
            (l.point < 16) × (l.owner < 16)
        by_graft None at stands = absurd cc
        by_graft (Some g) at stands =
            let there = sound.now.grafts l.owner l.point g at in (there.0, sound.now.numbers l.owner there.1)

    -- its level has a step left in place as in the replay
    same_spent : is_spent w.accounts l ≡ is_spent f.now.accounts l
    same_spent =
        let paid = sound.paid l first in
        let graft = own m laws r.kernel w here p f (Graft l.owner l.point) is tt
        (outer_changed f.levels (Graft l.owner l.point) paid.0) in
        let acct = own m laws r.kernel w here p f (Acct l.owner) is graft_low.1
        (outer_changed f.levels (Acct l.owner) paid.1) in
        ap (λ (g : Option GraftValue). l.count == limit_in g
        || payer_balance Steps (w.accounts.acct l.owner) g == 0) graft.0
        ∙ ap (λ a. l.count == limit_in (f.now.accounts.graft l.owner l.point)
        || payer_balance Steps a (f.now.accounts.graft l.owner l.point) == 0) acct

    -- the levels in place
    abbrev top : Level
    top = level_with (undo_all l.records w.things) (bare l)

    abbrev outer : List Level
    outer = levels_with (undo_all l.records w.things) (map bare ls)

    levels_there : levels_of m r.kernel p ≡ l ∷ ls
    levels_there = ap levels_in is ∙ levels

    placed_there : placed_levels x.placed p ≡ top ∷ outer
    placed_there = ap (λ (xs : List Level). levels_with w.things (map bare xs)) levels_there

    some_there : has_some (x.placed.levels p) ≡ true
    some_there = ap (λ (xs : List Level). has_some (map bare xs)) levels_there

    abbrev outcome : Outcome
    outcome = micro r.kernel.world r.kernel.images p (placed_config x.placed p)

    -- whether it is charged
    abbrev charged : Bool
    charged = not (is_spent w.accounts l)

    spends_one : steps_spent outcome.config.now.accounts ≡ steps_spent w.accounts + once_if charged
    spends_one =
        ap (λ xs. steps_spent (micro_on r.kernel.world r.kernel.images p w xs).config.now.accounts) placed_there
        ∙ charge_counts r.kernel.world r.kernel.images p w top outer graft_low.0 graft_low.1

    spent_falls : is_spent w.accounts l ≡ true →
        outcome.said ≡ Micro.Dropped (length outer) l.owner l.point SpentSteps
    spent_falls spent =
        ap (λ xs. (micro_on r.kernel.world r.kernel.images p w xs).said) placed_there
        ∙ ap (λ t. (charged_step r.kernel.world r.kernel.images p w top outer t).said) spent

    -- an instruction that drops nothing is charged
    is_paid_for : (said : Micro) → outcome.said ≡ said →
        ((d q pt : ℕ) (cause : Cause) → said ≡ Micro.Dropped d q pt cause → ⊥) →
        note_count is_drop r.notes + 1 ≤ note_count is_drop r.notes + once_if charged
    is_paid_for said same other = by_spent (is_spent w.accounts l) refl
      where
        at_most : (n : ℕ) → n + 1 ≤ n + 1
        at_most n = omega arith

        by_spent : (t : Bool) → is_spent w.accounts l ≡ t →
            note_count is_drop r.notes + 1 ≤ note_count is_drop r.notes + once_if (not t)
        by_spent false spent = at_most (note_count is_drop r.notes)
        by_spent true spent =
            absurd (other (length outer) l.owner l.point SpentSteps (sym same ∙ spent_falls spent))

    -- one that drops a level tells it
    falls_told : (n q pt : ℕ) (cause : Cause) (charged : Bool) →
        note_count is_drop r.notes + 1
        ≤ note_count is_drop (r.notes ++ Dropped n q pt cause ∷ []) + once_if charged
    falls_told n q pt cause charged =
        told (note_count is_drop r.notes) (note_count is_drop (r.notes ++ Dropped n q pt cause ∷ [])) (once_if charged)
        (count_more is_drop r.notes (Dropped n q pt cause ∷ []))
      where
        told : (a b c : ℕ) → b ≡ a + 1 → a + 1 ≤ b + c
        told a b c e = omega arith

    unblocked : (o : _) (holder : ℕ) (user : Bool) → outcome.said ≡ Micro.Blocked o holder user → ⊥
    unblocked o holder user said =
        let found = ap (λ xs. (micro_on r.kernel.world r.kernel.images p w xs).said) placed_there in
        subst (λ y. IsEnded outer y (micro_on r.kernel.world r.kernel.images p w (top ∷ outer)).config.levels)
        (sym found ∙ said) (levels_turn r.kernel.world r.kernel.images p w top outer).ends

    outcome_paid : (said : Micro) → outcome.said ≡ said →
        IsPaid x (placed_after_outcome m p own_call outcome.config said x) charged true
    outcome_paid Micro.Went said =
        record { steps = spends_one; drops = is_paid_for Micro.Went said (λ d q pt cause no. absurd cc) }
    outcome_paid (Micro.Blocked o holder user) said = absurd (unblocked o holder user said)
    outcome_paid (Micro.Completed answer) said =
        finish_paid outcome.config.now (Some (answer_of answer (placed_levels x.placed p))) r.notes charged true
        ((ready_in_place m laws).completed (over_store m w r.kernel) r.kernel p own_call answer h.kernel call_is
        some_there said) spends_one
        (is_paid_for (Micro.Completed answer) said (λ d q pt cause no. absurd cc))
    outcome_paid (Micro.Dropped zero q pt cause) said =
        finish_paid outcome.config.now None (r.notes ++ Dropped c.number q pt cause ∷ []) charged true
        ((ready_in_place m laws).lost (over_store m w r.kernel) r.kernel p own_call h.kernel call_is some_there)
        spends_one (falls_told c.number q pt cause charged)
    outcome_paid (Micro.Dropped (suc d) q pt cause) said =
        record { steps = spends_one; drops = falls_told c.number q pt cause charged }

    in_graft : IsPaid x (placed_step m p x) charged true
    in_graft =
        subst (λ y. IsPaid x (placed_requeue p (placed_call_step m p y x)) charged true) (sym call_is)
        (subst (λ bs. IsPaid x (placed_requeue p (placed_step_by m p own_call bs x)) charged true)
        (sym (ap (λ (xs : List Level). map bare xs) levels_there))
        (requeue_paid x _ p charged true (outcome_paid outcome.said refl)))

    -- the drop of one of its levels
    drop_paid : (n : ℕ) (cause : Cause) → n < length (levels_of m r.kernel p) →
        IsPaid x (placed_drop m p n cause x) false false
    drop_paid n cause low =
        subst (λ y. IsPaid x (placed_drop_by m p y (x.placed.levels p) n cause x) false false) (sym call_is)
        (subst (λ bs. IsPaid x (placed_drop_by m p (Some own_call) bs n cause x) false false)
        (sym (ap (λ (xs : List Level). map bare xs) levels_there))
        (subst (λ said. IsPaid x (placed_requeue p (placed_after_outcome m p own_call o.config said x)) false false)
        (sym there.2) (requeue_paid x _ p false false (dropped n there.0 there.1 refl))))
      where
        o : Outcome
        o = drop_level r.kernel.world w (placed_levels x.placed p) n cause

        length_placed : (y : _) (xs : List Level) → length (levels_with y (map bare xs)) ≡ length xs
        length_placed y [] = refl
        length_placed y (k ∷ ks) = ap suc (length_placed (undo_all k.records y) ks)

        length_bare : (xs : List Level) → length (map bare xs) ≡ length xs
        length_bare [] = refl
        length_bare (k ∷ ks) = ap suc (length_bare ks)

        there : (q : ℕ) × (pt : ℕ) × (o.said ≡ Micro.Dropped n q pt cause)
        there =
            drop_said r.kernel.world w (placed_levels x.placed p) n cause
            (subst (λ i. n < i) (sym (length_placed w.things (levels_of m r.kernel p))) low)

        steps : steps_spent o.config.now.accounts ≡ steps_spent w.accounts + 0
        steps =
            no_more (steps_spent w.accounts) (steps_spent o.config.now.accounts)
            (drop_counts r.kernel.world w (placed_levels x.placed p) n cause)
          where
            no_more : (a b : ℕ) → b ≡ a → b ≡ a + 0
            no_more a b e = omega arith

        told : (q pt : ℕ) → note_count is_drop r.notes + 0
            ≤ note_count is_drop (r.notes ++ Dropped c.number q pt cause ∷ []) + 0
        told q pt =
            later (note_count is_drop r.notes) (note_count is_drop (r.notes ++ Dropped c.number q pt cause ∷ []))
            (count_more is_drop r.notes (Dropped c.number q pt cause ∷ []))
          where
            later : (a b : ℕ) → b ≡ a + 1 → a + 0 ≤ b + 0
            later a b e = omega arith

        dropped : (d q pt : ℕ) → d ≡ n →
            IsPaid x (placed_after_outcome m p own_call o.config (Micro.Dropped d q pt cause) x) false false
        dropped zero q pt same =
            finish_paid o.config.now None (r.notes ++ Dropped c.number q pt cause ∷ []) false false
            ((ready_in_place m laws).dropped (over_store m w r.kernel) r.kernel p own_call n cause h.kernel call_is
            (subst (λ i. n < i) (sym (length_bare (levels_of m r.kernel p))) low)) steps (told q pt)
        dropped (suc d) q pt same = record { steps = steps; drops = told q pt }

  -- ---- any step

  -- a step is paid for, by what is told of it
  pub step_paid : IsPaid x (placed_step m p x) (is_charged m (Steps p r)) (is_instruction (Steps p r))
  step_paid = by_where (stands_where m r.kernel p c e (λ ks marked. here.kernel.runs p c ks e marked))
    where
      by_levels : (f : Config) (ks : List Mark) → c.marks ≡ Some ks → config_of m r.kernel p ≡ Some f →
          (xs : List Level) → f.levels ≡ xs →
          IsPaid x (placed_step m p x) (is_charged m (Steps p r)) (is_instruction (Steps p r))
      by_levels f ks marked is [] levels =
          absurd (none (length f.levels) (ap length levels)
          (calls_are_sound m laws r.kernel p f here.kernel is).some)
        where
          none : (n : ℕ) → n ≡ 0 → 1 ≤ n → ⊥
          none n e h = omega arith
      by_levels f ks marked is (l ∷ ls) levels =
          let same = ap can_step is ∙ ap (has_step f.now.accounts) levels
          ∙ ap not (sym (same_spent f is l ls levels)) in
          let level = ap has_level e ∙ ap (λ (y : Option (List Mark)). elim y as (λ _. Bool)
          [ None ↦ false | Some zs ↦ true ]) marked in
          subst (λ b. IsPaid x (placed_step m p x) b (is_instruction (Steps p r))) (sym same)
          (subst (IsPaid x (placed_step m p x) (not (is_spent w.accounts l))) (sym level)
          (in_graft f is l ls levels))

      by_where : StandsWhere m r.kernel p c →
          IsPaid x (placed_step m p x) (is_charged m (Steps p r)) (is_instruction (Steps p r))
      by_where (AtPiece marked none needed) =
          let config = ap (λ y. config_in (trace_of m r.kernel p y)) e ∙ ap config_in (no_trace marked) in
          let level = ap has_level e ∙ ap (λ (y : Option (List Mark)). elim y as (λ _. Bool)
          [ None ↦ false | Some zs ↦ true ]) marked in
          subst (λ b. IsPaid x (placed_step m p x) b (is_instruction (Steps p r))) (sym (ap can_step config))
          (subst (IsPaid x (placed_step m p x) false) (sym level) (at_piece none))
        where
          no_trace : c.marks ≡ None → trace_of m r.kernel p (Some c) ≡ None
          no_trace marked = rw marked refl
      by_where (InGraft f ks marked is needed) = by_levels f ks marked is f.levels refl

  -- and so is the drop of a level by a time-out, which spends nothing
  pub time_out_paid : (n : ℕ) (cause : Cause) → n < length (levels_of m r.kernel p) →
      IsPaid x (placed_drop m p n cause x) false false
  time_out_paid n cause low = by_where (stands_where m r.kernel p c e (λ ks marked. here.kernel.runs p c ks e marked))
    where
      none_lower : (i : ℕ) → n < i → i ≡ 0 → ⊥
      none_lower i h e = omega arith

      by_levels : (f : Config) → config_of m r.kernel p ≡ Some f → (xs : List Level) → f.levels ≡ xs →
          IsPaid x (placed_drop m p n cause x) false false
      by_levels f is [] levels =
          absurd (none_lower (length (levels_of m r.kernel p)) low (ap length (ap levels_in is ∙ levels)))
      by_levels f is (l ∷ ls) levels = drop_paid f is l ls levels n cause low

      by_where : StandsWhere m r.kernel p c → IsPaid x (placed_drop m p n cause x) false false
      by_where (AtPiece marked none needed) =
          absurd (none_lower (length (levels_of m r.kernel p)) low (ap length none))
      by_where (InGraft f ks marked is needed) = by_levels f is f.levels refl
