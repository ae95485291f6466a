-- A step of a call, and a drop, commit changes only of what the call takes.
use Rattle.std.specs.Prelude.{◌≡◌, ℕ, Bool, false, List, [], Option, Some, None}
use Rattle.std.proofs.Common.{refl, subst, sym, ap, ◌∙◌}
use Rattle.kernel_model.specs.declared.Cause.{Cause}
use Rattle.kernel_model.specs.declared.Object.{Object}
use Rattle.kernel_model.specs.declared.Point.{Point}
use Rattle.kernel_model.specs.Objects.{GraftValue}
use Rattle.kernel_model.specs.Meaning.{Meaning}
use Rattle.kernel_model.specs.Levels.{Config, drop_level}
use Rattle.kernel_model.specs.GraftStep.{micro}
use Rattle.kernel_model.specs.History.{Mark, Trace, replay}
use Rattle.kernel_model.specs.Kernel.{Call, Kernel, Run, requeue}
use Rattle.kernel_model.specs.Blocking.{config_in, config_of, levels_in, levels_of, trace_of}
use Rattle.kernel_model.specs.Settle.{piece_at, piece_step, after_outcome, graft_step, marked_step, call_step, step}
use Rattle.kernel_model.specs.Events.{drop_at, drop_marked, drop_call}
use Rattle.kernel_model.specs.InPlace.{is_changed_in}
use Rattle.kernel_model.specs.Sound.{IsSoundKernel, HasWholeBlocks}
use Rattle.kernel_model.specs.Alike.{is_needed_exclusively}
use Rattle.kernel_model.specs.Laws.{Laws, NeedsGraftsExclusively}
use Rattle.graft_laws.specs.Stability.{is_taken_in, is_taken_by}
use Rattle.graft_laws.proofs.CommitLemmas.{Commits, Stands, marks_commit, nothing_commits}
use Rattle.graft_laws.proofs.CommitLemmas.{default_commits, outcome_commits}
use Rattle.graft_laws.proofs.GraftEndLemmas.{IsInGraft, in_graft, before_free, micro_ends, drop_ends}

-- ---- one step

module _ (m : Meaning) (laws : Laws m) (owns : NeedsGraftsExclusively m) where
  -- a call of a sound kernel stands
  pub stands_in : (r : Run) (p : ℕ) (c : Call) → IsSoundKernel m r.kernel →
      HasWholeBlocks r.kernel.world r.blocks → r.kernel.call p ≡ Some c → Stands m p c r
  stands_in r p c h whole e =
      record {
        standing =
            record {
              store = h.state.store;
              caller = h.callers p c e;
              granted = h.granted p c e;
              fits = h.fit p c e;
            };
        disk = h.state.disk;
        whole = whole;
      }

  -- where less is free
  pub commits_less : (p : ℕ) (free less : Object → Type 0) (r u : Run) →
      ((o : Object) → less o → free o) → Commits p free r u → Commits p less r u
  commits_less p free less r u weaker h =
      record {
        world = h.world;
        images = h.images;
        calls = h.calls;
        store = h.store;
        disk = h.disk;
        whole = h.whole;
        live = h.live;
        files = h.files;
        changes = λ o range e. h.changes o range (weaker o e);
      }

  -- the order of waiting doesn't matter
  pub requeue_commits : (p : ℕ) (free : Object → Type 0) (r u : Run) → Commits p free r u →
      Commits p free r (requeue p u)
  requeue_commits p free r u h =
      record {
        world = h.world;
        images = h.images;
        calls = h.calls;
        store = h.store;
        disk = h.disk;
        whole = h.whole;
        live = h.live;
        files = h.files;
        changes = h.changes;
      }

  -- the history of a call leads to its trace
  pub trace_is : (k : Kernel) (p : ℕ) (c : Call) (ks : List Mark) → c.marks ≡ Some ks →
      replay m k.world k.images k.objects p c.stage ks ≡ trace_of m k p (Some c)
  trace_is k p c ks marked =
      ap (λ (x : Option (List Mark)). elim x as (λ _. Option Trace) [
        | None ↦ None
        | Some y ↦ replay m k.world k.images k.objects p c.stage y
      ]) (sym marked)

  pub config_is : (k : Kernel) (p : ℕ) (c : Call) (t : Trace) → k.call p ≡ Some c →
      trace_of m k p (Some c) ≡ Some t → config_of m k p ≡ Some t.config
  config_is k p c t e f = ap (λ x. config_in (trace_of m k p x)) e ∙ ap config_in f

  pub levels_are : (k : Kernel) (p : ℕ) (c : Config) → config_of m k p ≡ Some c → levels_of m k p ≡ c.levels
  levels_are k p c e = ap levels_in e

  -- where it leads
  pub graft_of_call : (r : Run) (p : ℕ) (c : Call) (ks : List Mark) (t : Trace) →
      IsSoundKernel m r.kernel → HasWholeBlocks r.kernel.world r.blocks → r.kernel.call p ≡ Some c →
      c.marks ≡ Some ks →
      trace_of m r.kernel p (Some c) ≡ Some t → IsInGraft m r.kernel.world r.kernel.images r.kernel.objects p c.stage t
  graft_of_call r p c ks t h whole e marked f =
      in_graft m laws owns r.kernel.world r.kernel.images r.kernel.objects p c.stage ks t
      (stands_in r p c h whole e).standing (trace_is r.kernel p c ks marked ∙ f)
      (λ l k. h.grafts p t.config l (config_is r.kernel p c t e f) k)

  -- what its levels don't hold exclusively
  pub free_levels : (k : Kernel) (p : ℕ) (c : Call) (t : Trace) (o : Object) → k.call p ≡ Some c →
      trace_of m k p (Some c) ≡ Some t → is_changed_in (levels_of m k p) o ≡ false →
      is_changed_in t.config.levels o ≡ false
  free_levels k p c t o e f none =
      ap (λ ls. is_changed_in ls o) (sym (levels_are k p t.config (config_is k p c t e f))) ∙ none

  graft_step_commits : (r : Run) (p : ℕ) (c : Call) (ks : List Mark) (x : Option Trace) →
      IsSoundKernel m r.kernel → HasWholeBlocks r.kernel.world r.blocks → r.kernel.call p ≡ Some c →
      c.marks ≡ Some ks →
      trace_of m r.kernel p (Some c) ≡ x → Commits p
      (λ o. is_changed_in (levels_of m r.kernel p) o ≡ false) r (graft_step m p c ks x r)
  graft_step_commits r p c ks None h whole e marked f =
      nothing_commits m laws p c (λ o. is_changed_in (levels_of m r.kernel p) o ≡ false) r
      (stands_in r p c h whole e)
  graft_step_commits r p c ks (Some t) h whole e marked f =
      let k = r.kernel in
      let g = graft_of_call r p c ks t h whole e marked f in
      let o = micro k.world k.images p t.config in
      let stands = stands_in r p c h whole e in
      commits_less p (λ b. is_changed_in t.config.levels b ≡ false)
      (λ b. is_changed_in (levels_of m k p) b ≡ false) r (after_outcome m p c t ks o o.said r)
      (λ b none. free_levels k p c t b e f none)
      (outcome_commits m laws p c t ks g.point o o.said (λ b. is_changed_in t.config.levels b ≡ false) r stands g.asks
      (λ b none. before_free m laws owns k.world k.images k.objects p
      c.stage t b stands.standing.fits g none) g.replayed.sound.some
      (micro_ends m laws owns k.world k.images k.objects p c.stage t g))

  piece_at_commits : (r : Run) (p : ℕ) (c : Call) (g : Option GraftValue) → Stands m p c r →
      Commits p (λ o. is_needed_exclusively o (m.need r.kernel.world r.kernel.objects p c.stage)
      ≡ false) r (piece_at m p c g r)
  piece_at_commits r p c None h = default_commits m laws p c r h
  piece_at_commits r p c (Some g) h =
      marks_commit m laws p c []
      (λ o. is_needed_exclusively o (m.need r.kernel.world r.kernel.objects p c.stage) ≡ false) r h

  piece_commits : (r : Run) (p : ℕ) (c : Call) (a : Option Point) → Stands m p c r →
      Commits p (λ o. is_needed_exclusively o (m.need r.kernel.world r.kernel.objects p c.stage)
      ≡ false) r (piece_step m p c a r)
  piece_commits r p c None h = default_commits m laws p c r h
  piece_commits r p c (Some a) h = piece_at_commits r p c (r.kernel.objects.accounts.graft a.installer a.point) h

  pub marked_commits : (r : Run) (p : ℕ) (c : Call) (x : Option (List Mark)) →
      IsSoundKernel m r.kernel → HasWholeBlocks r.kernel.world r.blocks →
      r.kernel.call p ≡ Some c → c.marks ≡ x →
      Commits p (λ o. is_taken_in m r.kernel p o (Some c) ≡ false) r (marked_step m p c x r)
  marked_commits r p c None h whole e marked =
      let k = r.kernel in
      commits_less p (λ o. is_needed_exclusively o (m.need k.world k.objects p c.stage) ≡ false)
      (λ o. is_taken_in m k p o (Some c) ≡ false) r
      (piece_step m p c (m.asks k.world k.objects p c.stage) r)
      (λ o free. ap (λ (y : Option (List Mark)). elim y as (λ _. Bool) [
        | None ↦ is_needed_exclusively o (m.need k.world k.objects p c.stage)
        | Some ks ↦ is_changed_in (levels_of m k p) o
      ]) (sym marked) ∙ free)
      (piece_commits r p c (m.asks k.world k.objects p c.stage) (stands_in r p c h whole e))
  marked_commits r p c (Some ks) h whole e marked =
      let k = r.kernel in
      commits_less p (λ o. is_changed_in (levels_of m k p) o ≡ false) (λ o. is_taken_in m k p o
      (Some c) ≡ false) r (graft_step m p c ks (trace_of m k p (Some c)) r)
      (λ o free. ap (λ (y : Option (List Mark)). elim y as (λ _. Bool) [
        | None ↦ is_needed_exclusively o (m.need k.world k.objects p c.stage)
        | Some ks ↦ is_changed_in (levels_of m k p) o
      ]) (sym marked) ∙ free)
      (graft_step_commits r p c ks (trace_of m k p (Some c)) h whole e marked refl)

  -- a step of a call in flight
  pub step_commits : (r : Run) (p : ℕ) (c : Call) → IsSoundKernel m r.kernel →
      HasWholeBlocks r.kernel.world r.blocks → r.kernel.call p ≡ Some c →
      Commits p (λ o. is_taken_by m r.kernel p o ≡ false) r (step m p r)
  step_commits r p c h whole e =
      requeue_commits p (λ o. is_taken_by m r.kernel p o ≡ false) r (call_step m p (r.kernel.call p) r)
      (subst (λ x. Commits p (λ o. is_taken_in m r.kernel p o x ≡ false) r (call_step m p x r))
      (sym e) (marked_commits r p c c.marks h whole e refl))

  -- ---- one drop

  -- what the drop comes to, before the call takes its place in the order
  pub drop_outcome_commits : (r : Run) (p : ℕ) (c : Call) (ks : List Mark) (t : Trace) (n : ℕ)
      (cause : Cause) → IsSoundKernel m r.kernel → HasWholeBlocks r.kernel.world r.blocks →
      r.kernel.call p ≡ Some c → c.marks ≡ Some ks → trace_of m r.kernel p (Some c) ≡ Some t →
      let o = drop_level r.kernel.world t.config.now t.config.levels n cause in
      Commits p (λ b. is_changed_in (levels_of m r.kernel p) b ≡ false) r (after_outcome m p c t ks o o.said r)
  drop_outcome_commits r p c ks t n cause h whole e marked f =
      let k = r.kernel in
      let g = graft_of_call r p c ks t h whole e marked f in
      let o = drop_level k.world t.config.now t.config.levels n cause in
      let stands = stands_in r p c h whole e in
      commits_less p (λ b. is_changed_in t.config.levels b ≡ false)
      (λ b. is_changed_in (levels_of m k p) b ≡ false) r (after_outcome m p c t ks o o.said r)
      (λ b none. free_levels k p c t b e f none)
      (outcome_commits m laws p c t ks g.point o o.said (λ b. is_changed_in t.config.levels b ≡ false) r stands g.asks
      (λ b none. before_free m laws owns k.world k.images k.objects p
      c.stage t b stands.standing.fits g none) g.replayed.sound.some
      (drop_ends m laws owns k.world k.images k.objects p c.stage t n cause g))

  drop_at_commits :
      (r : Run) (p : ℕ) (c : Call) (ks : List Mark) (t : Trace) (d : Option ℕ) (cause : Cause) →
      IsSoundKernel m r.kernel → HasWholeBlocks r.kernel.world r.blocks → r.kernel.call p ≡ Some c →
      c.marks ≡ Some ks → trace_of m r.kernel p (Some c) ≡ Some t → Commits p
      (λ o. is_changed_in (levels_of m r.kernel p) o ≡ false) r (drop_at m p c ks t d cause r)
  drop_at_commits r p c ks t None cause h whole e marked f =
      nothing_commits m laws p c (λ o. is_changed_in (levels_of m r.kernel p) o ≡ false) r
      (stands_in r p c h whole e)
  drop_at_commits r p c ks t (Some n) cause h whole e marked f =
      let o = drop_level r.kernel.world t.config.now t.config.levels n cause in
      requeue_commits p (λ b. is_changed_in (levels_of m r.kernel p) b ≡ false) r (after_outcome m p
      c t ks o o.said r) (drop_outcome_commits r p c ks t n cause h whole e marked f)

  drop_marked_commits : (r : Run) (p : ℕ) (c : Call) (x : Option (List Mark))
      (y : Option Trace) (d : Option ℕ) (cause : Cause) → IsSoundKernel m r.kernel →
      HasWholeBlocks r.kernel.world r.blocks →
      r.kernel.call p ≡ Some c → c.marks ≡ x → trace_of m r.kernel p (Some c) ≡ y → Commits p (λ o.
      is_changed_in (levels_of m r.kernel p) o ≡ false) r (drop_marked m p c x y d cause r)
  drop_marked_commits r p c (Some ks) (Some t) d cause h whole e marked f =
      drop_at_commits r p c ks t d cause h whole e marked f
  drop_marked_commits r p c None y d cause h whole e marked f =
      nothing_commits m laws p c (λ o. is_changed_in (levels_of m r.kernel p) o ≡ false) r
      (stands_in r p c h whole e)
  drop_marked_commits r p c (Some ks) None d cause h whole e marked f =
      nothing_commits m laws p c (λ o. is_changed_in (levels_of m r.kernel p) o ≡ false) r
      (stands_in r p c h whole e)

  -- the drop of a level of a call in flight
  pub drop_commits : (r : Run) (p : ℕ) (c : Call) (d : Option ℕ) (cause : Cause) →
      IsSoundKernel m r.kernel → HasWholeBlocks r.kernel.world r.blocks → r.kernel.call p ≡ Some c →
      Commits p (λ o. is_changed_in (levels_of m r.kernel p) o ≡ false) r (drop_call m p (r.kernel.call p) d cause r)
  drop_commits r p c d cause h whole e =
      subst (λ x. Commits p (λ o. is_changed_in (levels_of m r.kernel p) o ≡ false) r
      (drop_call m p x d cause r)) (sym e)
      (drop_marked_commits r p c c.marks (trace_of m r.kernel p (Some c)) d cause h whole e refl refl)
