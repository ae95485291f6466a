-- Wherever a history leads, what each level found is what undoing gives.
use Rattle.std.specs.Prelude.{◌≡◌, ℕ, suc, ◌≤◌, Bool, true, false, List, [], ◌∷◌, length, Option, Some, None}
use Rattle.std.proofs.Common.{arith, refl, subst, sym, ap, ◌∙◌}
use Rattle.kernel_model.specs.declared.Held.{Held}
use Rattle.kernel_model.specs.declared.Need.{Need}
use Rattle.kernel_model.specs.declared.Object.TheVariants.{Graft}
use Rattle.kernel_model.specs.declared.Point.{Point}
use Rattle.kernel_model.specs.World.{World, ImageTable}
use Rattle.kernel_model.specs.Objects.{Objects}
use Rattle.kernel_model.specs.Policies.{lives, default_of}
use Rattle.kernel_model.specs.Meaning.{Meaning, Stage}
use Rattle.kernel_model.specs.Laws.{Laws}
use Rattle.kernel_model.specs.Locks.{touch_all, untouched}
use Rattle.kernel_model.specs.Levels.{Level, Config, Effect}
use Rattle.kernel_model.specs.GraftStep.{micro}
use Rattle.kernel_model.specs.History.{Mark, Stepped, Fell, Trace, begin_at, begin_with}
use Rattle.kernel_model.specs.History.{first_trace, stepped, effects_on, level_ends, owner_among}
use Rattle.kernel_model.specs.History.{mark_on, marks_on, replay}
use Rattle.kernel_model.specs.Sound.{IsSoundStore, once_if}
use Rattle.kernel_laws.specs.Undoing.{InversesUndo, ChangesAreOfOneObject, IsOnceIn}
use Rattle.graft_laws.proofs.ComeLemmas.{graft_held}
use Rattle.graft_laws.proofs.HistoryEffectLemmas.{levels_by, accounts_by, levels_inside, config_with, have_been_made}
use Rattle.graft_laws.proofs.FallenLemmas.{no_trace, same_trace, went_where, fell_where}
use Rattle.graft_laws.proofs.RecordLemmas.{FoundByUndoing, StartsAt, CanBeUndone}
use Rattle.graft_laws.proofs.RecordLemmas.{CanBeUndoneAfter, WhereWent, HoldGrafts, found_answer}
use Rattle.graft_laws.proofs.RecordLemmas.{found_effects, grafts_answer, grafts_effects}
use Rattle.graft_laws.proofs.RecordLemmas.{instruction_well}
use Rattle.kernel_laws.proofs.LevelLemmas.{outer_changed}

-- a config of a graft call that can be undone
abbrev pub Undoable : Config → Type 0
Undoable c = CanBeUndone c.now.things c.levels

module _ (undoes : InversesUndo) (own : ChangesAreOfOneObject) (v : World) (images : ImageTable) (p : ℕ) where
  -- after an instruction's mark
  stepped_undoable : (t u : Trace) → Undoable t.config →
      stepped t (micro v images p t.config) ≡ Some u →
      CanBeUndoneAfter (length t.config.levels) u.config
  stepped_undoable t u h e =
      let r = micro v images p t.config in
      let went = went_where t u r e in
      subst (λ (x : Trace). CanBeUndoneAfter (length t.config.levels) x.config) went.1
      (subst (λ x. WhereWent (length t.config.levels) x r.config) went.0
      (instruction_well undoes own v images p t.config.now t.config.levels h))

  -- after a level's end, where it had just begun
  ends_undoable : (q : ℕ) (es : List Effect) (w : Objects) (ls : List Level) (c : Config) →
      CanBeUndone w.things ls → StartsAt w.things ls → 1 ≤ length ls →
      effects_on q es (record { now = w; levels = ls }) ≡ Some c → Undoable (level_ends v c.now c.levels)
  ends_undoable q es w [] c h starts some e = absurd (none_some some)
    where
      none_some : 1 ≤ 0 → ⊥
      none_some h = omega arith
  ends_undoable q es w (l ∷ ls) c h starts some e =
      let made = have_been_made q es w.accounts w.things l ls c e in
      let first = levels_inside q es l ls in
      let found = subst (FoundByUndoing w.things) first.1 (found_effects q es w.things (l ∷ ls) h.found) in
      let outer = subst (λ x. FoundByUndoing x (levels_by q es ls)) (first.2.found ∙ starts) found.2 in
      let grafts = subst HoldGrafts first.1 (grafts_effects q es (l ∷ ls) h.grafts) in
      let d = default_of v w.things first.0.owner first.0.point in
      subst (λ (x : Config). Undoable (level_ends v x.now x.levels))
      (sym (made.leads ∙ ap (config_with (accounts_by q es w.accounts) w.things) first.1))
      (record {
        found = found_answer first.0.point d.0 d.1 w.things (levels_by q es ls) outer;
        grafts = grafts_answer first.0.point d.0 d.1 (levels_by q es ls) grafts.1;
        once = h.once;
      })

  mark_undoable : (k : Mark) (t u : Trace) → Undoable t.config → mark_on v images p k t ≡ Some u → Undoable u.config
  mark_undoable Stepped t u h e = (stepped_undoable t u h e).can
  mark_undoable (Fell es) t u h e =
      let f = fell_where v es (length t.config.levels) (stepped t (micro v images p t.config)) u e in
      let after = stepped_undoable t f.asked h f.asks in
      subst (λ (x : Trace). Undoable x.config) f.is
      (ends_undoable (owner_among f.asked.config.levels) es f.asked.config.now f.asked.config.levels
      f.made after.can (after.begins f.deeper)
      (some_levels (length t.config.levels) (length f.asked.config.levels) f.deeper) f.effects)
    where
      some_levels : (n m : ℕ) → m ≡ suc n → 1 ≤ m
      some_levels n m e = omega arith

  marks_undoable : (ks : List Mark) (t u : Trace) → Undoable t.config →
      marks_on v images p ks t ≡ Some u → Undoable u.config
  marks_undoable [] t u h e = subst (λ (x : Trace). Undoable x.config) (same_trace t u e) h
  marks_undoable (k ∷ ks) t u h e = marks_by (mark_on v images p k t) refl (λ x. marks_undoable ks x u) e
    where
      marks_by : (x : Option Trace) → mark_on v images p k t ≡ x → ((y : Trace) →
          Undoable y.config → marks_on v images p ks y ≡ Some u → Undoable u.config) →
          elim x as (λ _. Option Trace) [ None ↦ None | Some y ↦ marks_on v images p ks y ] ≡ Some u → Undoable u.config
      marks_by None is again e = absurd (no_trace u e)
      marks_by (Some y) is again e = again y (mark_undoable k t y h is) e

  -- a process stands in a sound store's queue at most once
  sound_once : (s : Objects) → IsSoundStore v s → (q : ℕ) → IsOnceIn q s.things.queue
  sound_once s h q = subst (λ n. n ≤ 1) (sym (h.once q)) (at_most_once (lives s.things.queue q))
    where
      at_most_once : (b : Bool) → once_if b ≤ 1
      at_most_once true = omega arith
      at_most_once false = omega arith

  -- by the point that is asked
  begun_undoable : (s : Objects) (base : List Need) (feed : List ℕ) (ask : Option Point)
      (ks : List Mark) (u : Trace) → IsSoundStore v s →
      ((a : Point) → ask ≡ Some a → touch_all base untouched (Graft a.installer a.point) ≡ Held.Exclusive) →
      elim (begin_with images s p base feed ask) as (λ _. Option Trace) [
        | None ↦ None
        | Some c ↦ marks_on v images p ks (first_trace c)
      ] ≡ Some u → Undoable u.config
  begun_undoable s base feed None ks u h held e = absurd (no_trace u e)
  begun_undoable s base feed (Some a) ks u h held e =
      let c = begin_at images s p base feed a in
      marks_undoable ks (first_trace c) u (record {
        found = (refl, tt, tt);
        grafts = (outer_changed c.levels (Graft a.installer a.point) (held a refl), tt);
        once = sound_once s h;
      }) e

  -- wherever a history leads from a sound store, the call can be undone
  pub replay_undoable : (m : Meaning) → Laws m →
      (s : Objects) (t : Stage) (ks : List Mark) (u : Trace) → m.fits v s p t ≡ true →
      IsSoundStore v s →
      replay m v images s p t ks ≡ Some u → Undoable u.config
  replay_undoable m laws s t ks u fits h e =
      begun_undoable s (m.need v s p t) (m.feed t) (m.asks v s p t) ks u h
      (λ a asked. graft_held m laws v s p t a fits asked) e
