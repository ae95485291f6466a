-- Whatever another call does or loses, a call in a graft stays the same as far as it can tell.
use Rattle.std.specs.Prelude.{◌≡◌, ◌≢◌, ℕ, ◌<◌, ◌≤◌, Bool, true, false, List, [], ◌∷◌, length, Option, Some, None}
use Rattle.std.proofs.Common.{refl, subst, sym, ap, ◌∙◌}
use Rattle.kernel_model.specs.declared.Cause.{Cause}
use Rattle.kernel_model.specs.declared.Need.{Need}
use Rattle.kernel_model.specs.declared.Object.{Object}
use Rattle.kernel_model.specs.Objects.{SameAt, SameThing}
use Rattle.kernel_model.specs.Meaning.{Meaning}
use Rattle.kernel_model.specs.Levels.{Level, Config}
use Rattle.kernel_model.specs.History.{Mark, Trace, replay}
use Rattle.kernel_model.specs.Kernel.{Call, Kernel, Run}
use Rattle.kernel_model.specs.Blocking.{config_in, config_of, levels_of, trace_of, needs_at, needs_in, needs, blocker}
use Rattle.kernel_model.specs.Settle.{call_step, step}
use Rattle.kernel_model.specs.Events.{drop_call}
use Rattle.kernel_model.specs.InPlace.{is_changed_in}
use Rattle.kernel_model.specs.Sound.{IsSoundKernel, HasWholeBlocks}
use Rattle.kernel_model.specs.Alike.{LevelsAlike, ConfigsAlike, is_held_in, is_needed_exclusively}
use Rattle.kernel_model.specs.Laws.{Laws, IsStanding, NeedsGraftsExclusively}
use Rattle.kernel_model.specs.Claims.{IsStable, Stability}
use Rattle.graft_laws.specs.Histories.{HasRange}
use Rattle.graft_laws.specs.Stability.{is_taken_in, is_taken_by, CommitsWhatIsTaken}
use Rattle.graft_laws.proofs.AlikeHistoryLemmas.{histories_alike}
use Rattle.graft_laws.proofs.HolderLemmas.{apart_unchanged, free_unneeded}
use Rattle.graft_laws.proofs.CommitLemmas.{Commits}
use Rattle.graft_laws.proofs.GraftEndLemmas.{thing_self}
use Rattle.graft_laws.proofs.StepCommitLemmas.{stands_in, trace_is, config_is, levels_are}
use Rattle.graft_laws.proofs.StepCommitLemmas.{graft_of_call, step_commits, drop_commits}
use Rattle.call_laws.specs.FileChanges.{same_self}

-- ---- what is committed

pub commits_what_is_taken : (m : Meaning) → CommitsWhatIsTaken m
commits_what_is_taken m =
    record {
      steps =
          λ r p o laws h whole range free. stepped_by m r p o laws laws.need.grafts h whole range
          free (r.kernel.call p) refl;
      drops =
          λ r p d cause o laws h whole range free. dropped_by m r p d cause o laws laws.need.grafts
          h whole range free (r.kernel.call p) refl;
    }
  where
    stepped_by : (m : Meaning) (r : Run) (p : ℕ) (o : Object) → Laws m → NeedsGraftsExclusively m →
        IsSoundKernel m r.kernel → HasWholeBlocks r.kernel.world r.blocks → HasRange o →
        is_taken_by m r.kernel p o ≡ false → (x : Option Call) → r.kernel.call p ≡ x →
        SameAt o r.kernel.objects (step m p r).kernel.objects
    stepped_by m r p o laws owns h whole range free None e =
        subst (λ x. SameAt o r.kernel.objects (call_step m p x r).kernel.objects) (sym e) (same_self o r.kernel.objects)
    stepped_by m r p o laws owns h whole range free (Some c) e =
        (step_commits m laws owns r p c h whole e).changes o range free

    dropped_by : (m : Meaning) (r : Run) (p : ℕ) (d : Option ℕ) (cause : Cause) (o : Object) →
        Laws m → NeedsGraftsExclusively m → IsSoundKernel m r.kernel →
        HasWholeBlocks r.kernel.world r.blocks →
        HasRange o → is_changed_in (levels_of m r.kernel p) o ≡ false →
        (x : Option Call) → r.kernel.call p ≡ x →
        SameAt o r.kernel.objects (drop_call m p (r.kernel.call p) d cause r).kernel.objects
    dropped_by m r p d cause o laws owns h whole range free None e =
        subst (λ x. SameAt o r.kernel.objects (drop_call m p x d cause r).kernel.objects) (sym e)
        (same_self o r.kernel.objects)
    dropped_by m r p d cause o laws owns h whole range free (Some c) e =
        (drop_commits m laws owns r p c d cause h whole e).changes o range free

-- ---- the call of another process

-- a config that a process's call has, with its call, history and trace
pub record HasGraft (m : Meaning) (k : Kernel) (p : ℕ) (c : Config) : Type 0 where
  pub call : Call
  pub is : k.call p ≡ Some call
  pub marks : List Mark
  pub marked : call.marks ≡ Some marks
  pub trace : Trace
  pub leads : trace_of m k p (Some call) ≡ Some trace
  pub config : trace.config ≡ c

pub has_graft : (m : Meaning) (k : Kernel) (p : ℕ) (c : Config) → config_of m k p ≡ Some c → HasGraft m k p c
has_graft m k p c e = by_call (k.call p) refl e
  where
    is_it : (x y : Config) → Some x ≡ Some y → x ≡ y
    is_it x y e = cc

    by_trace : (d : Call) → k.call p ≡ Some d → (ks : List Mark) → d.marks ≡ Some ks →
        (x : Option Trace) → trace_of m k p (Some d) ≡ x → config_in x ≡ Some c → HasGraft m k p c
    by_trace d f ks g None h e = absurd cc
    by_trace d f ks g (Some t) h e =
        record {
          call = d;
          is = f;
          marks = ks;
          marked = g;
          trace = t;
          leads = h;
          config = is_it t.config c e;
        }

    by_marks : (d : Call) → k.call p ≡ Some d → (x : Option (List Mark)) → d.marks ≡ x →
        config_in (elim x as (λ _. Option Trace) [
          | None ↦ None
          | Some ks ↦ replay m k.world k.images k.objects p d.stage ks
        ]) ≡ Some c → HasGraft m k p c
    by_marks d f None g e = absurd cc
    by_marks d f (Some ks) g e =
        by_trace d f ks g (replay m k.world k.images k.objects p d.stage ks)
        (sym (trace_is_of d ks g)) e
      where
        trace_is_of : (d : Call) (ks : List Mark) → d.marks ≡ Some ks →
            replay m k.world k.images k.objects p d.stage ks ≡ trace_of m k p (Some d)
        trace_is_of d ks marked =
            ap (λ (x : Option (List Mark)). elim x as (λ _. Option Trace) [
              | None ↦ None
              | Some y ↦ replay m k.world k.images k.objects p d.stage y
            ]) (sym marked)

    by_call : (x : Option Call) → k.call p ≡ x → config_in (trace_of m k p x) ≡ Some c → HasGraft m k p c
    by_call None f e = absurd cc
    by_call (Some d) f e = by_marks d f d.marks refl e

module _ (m : Meaning) (laws : Laws m) (owns : NeedsGraftsExclusively m) where
  -- a call of a process still stands after another's step or drop
  pub still_standing : (r u : Run) (p q : ℕ) (c : Call) (free : Object → Type 0) →
      IsSoundKernel m r.kernel → p ≢ q → r.kernel.call p ≡ Some c → Commits q free r u →
      IsStanding m r.kernel.world r.kernel.images u.kernel.objects p c.stage
  still_standing r u p q c free h ne e commits =
      record {
        store = commits.store;
        caller = commits.live p ne (h.callers p c e);
        granted = h.granted p c e;
        fits =
            sym (laws.stages.fits_same r.kernel.world r.kernel.objects u.kernel.objects p c.stage
            (commits.files p ne)) ∙ h.fit p c e;
      }

  -- a process with a call is one of the sixteen
  pub caller_low : (r : Run) (p : ℕ) (c : Call) → IsSoundKernel m r.kernel → r.kernel.call p ≡ Some c → p < 16
  caller_low r p c h e = h.state.store.numbers p (h.callers p c e)

  pub stable_after : (r u : Run) (p q : ℕ) (free : Object → Type 0) → IsSoundKernel m r.kernel →
      HasWholeBlocks r.kernel.world r.blocks → p ≢ q → Commits q free r u →
      ((o : Object) → p < 16 → length (levels_of m r.kernel p) ≤ 4 →
      is_held_in (levels_of m r.kernel p) o ≡ true → free o) → IsStable m r.kernel u.kernel p
  stable_after r u p q free h whole ne commits unheld c e =
      let k = r.kernel in
      let l = u.kernel in
      let g = has_graft m k p c e in
      let first = graft_of_call m laws owns r p g.call g.marks g.trace h whole g.is g.marked g.leads in
      let levels = levels_are m laws owns k p g.trace.config (config_is m laws owns k p g.call g.trace g.is g.leads) in
      let other = histories_alike m k.world k.images k.objects l.objects p g.call.stage g.marks
      g.trace laws (stands_in m laws owns r p g.call h whole g.is).standing
      (still_standing r u p q g.call free h ne g.is commits)
      (trace_is m laws owns k p g.call g.marks g.marked ∙ g.leads) first.replayed.sound.grafts
      (λ o held. commits.changes o (first.replayed.ranges o held)
      (unheld o (caller_low r p g.call h g.is) (subst (λ ls. length ls ≤ 4) (sym levels)
      first.replayed.sound.most) (ap (λ ls. is_held_in ls o) levels ∙ held))) in
      let here = commits.calls p ne ∙ g.is in
      let leads = sym (trace_is m laws owns l p g.call g.marks g.marked)
      ∙ ap (λ v. replay m v l.images l.objects p g.call.stage g.marks) commits.world
      ∙ ap (λ i. replay m k.world i l.objects p g.call.stage g.marks) commits.images ∙ other.1 in (
        other.0.config,
        config_is m laws owns l p g.call other.0 here leads,
        subst (λ (x : Config). ConfigsAlike x other.0.config) g.config other.2.config,
      )

  -- ---- steps

  -- what p holds the step of q, which nothing blocks, doesn't take
  pub untaken : (r : Run) (p q : ℕ) (c : Call) (o : Object) → IsSoundKernel m r.kernel → p ≢ q →
      r.kernel.call q ≡ Some c → blocker m r.kernel q ≡ None → p < 16 →
      length (levels_of m r.kernel p) ≤ 4 → is_held_in (levels_of m r.kernel p) o ≡ true →
      is_taken_by m r.kernel q o ≡ false
  untaken r p q c o h ne e free low few held = ap (is_taken_in m r.kernel q o) e ∙ by_marks c.marks refl
    where
      by_marks : (x : Option (List Mark)) → c.marks ≡ x →
          elim x as (λ _. Bool) [
            | None ↦ is_needed_exclusively o (m.need r.kernel.world r.kernel.objects q c.stage)
            | Some ks ↦ is_changed_in (levels_of m r.kernel q) o
          ] ≡ false
      by_marks None f =
          let needed : needs m r.kernel q ≡ m.need r.kernel.world r.kernel.objects q c.stage =
          ap (needs_in m r.kernel q) e
          ∙ ap (λ (y : Option (List Mark)). elim y as (λ _. List Need) [
            | None ↦ m.need r.kernel.world r.kernel.objects q c.stage
            | Some ks ↦ needs_at m r.kernel (config_of m r.kernel q)
          ]) f in
          ap (is_needed_exclusively o) (sym needed) ∙ free_unneeded m r.kernel p q o free ne low few held
      by_marks (Some ks) f = apart_unchanged m r.kernel p q o h ne low (caller_low r q c h e) held

  pub stable : Stability m
  stable =
      record {
        steps = λ r p q c l h whole ne e free.
            stable_after r (step m q r) p q (λ o. is_taken_by m r.kernel q o ≡ false) h whole ne
            (step_commits m laws owns r q c h whole e)
            (λ o low few held. untaken r p q c o h ne e free low few held);
        drops = λ r p q d cause l h whole ne. by_call r p q d cause h whole ne (r.kernel.call q) refl;
      }
    where
      itself : (k : Kernel) (p : ℕ) → IsStable m k k p
      itself k p c e = (
        c,
        e,
        record {
          levels = alike_self c.levels;
          now = λ o held. same_self o c.now;
          kept = λ n l x o a b held. found_same l x o (a_is l x (sym a ∙ b));
        },
      )
        where
          alike_self : (ls : List Level) → LevelsAlike ls ls
          alike_self [] = tt
          alike_self (l ∷ ls) = (refl, alike_self ls)

          a_is : (x y : Level) → Some x ≡ Some y → x ≡ y
          a_is x y e = cc

          found_same : (l x : Level) (o : Object) → l ≡ x → SameThing o l.kept x.kept
          found_same l x o e = subst (λ (y : Level). SameThing o l.kept y.kept) e (thing_self m laws owns o l.kept)

      by_call : (r : Run) (p q : ℕ) (d : Option ℕ) (cause : Cause) → IsSoundKernel m r.kernel →
          HasWholeBlocks r.kernel.world r.blocks → p ≢ q → (x : Option Call) → r.kernel.call q ≡ x →
          IsStable m r.kernel (drop_call m q (r.kernel.call q) d cause r).kernel p
      by_call r p q d cause h whole ne None e =
          subst (λ x. IsStable m r.kernel (drop_call m q x d cause r).kernel p) (sym e)
          (itself r.kernel p)
      by_call r p q d cause h whole ne (Some c) e =
          stable_after r (drop_call m q (r.kernel.call q) d cause r) p q
          (λ o. is_changed_in (levels_of m r.kernel q) o ≡ false) h whole ne
          (drop_commits m laws owns r q c d cause h whole e)
          (λ o low few held. apart_unchanged m r.kernel p q o h ne low (caller_low r q c h e) held)

pub calls_are_stable : (m : Meaning) → Stability m
calls_are_stable m = record {
  steps = λ r p q c laws h whole ne e free. (stable m laws laws.need.grafts).steps r p q c laws h whole ne e free;
  drops = λ r p q d cause laws h whole ne. (stable m laws laws.need.grafts).drops r p q d cause laws h whole ne;
}
