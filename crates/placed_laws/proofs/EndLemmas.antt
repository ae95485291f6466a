-- The end of a piece on two states: the committed one, and the store.
use Rattle.std.specs.Prelude.{◌≡◌, ◌≢◌, ℕ, Bool, true, false, List, [], ◌++◌, map, drop, Option, Some, None}
use Rattle.std.proofs.Common.{refl, sym, ap, ◌∙◌, inl, inr}
use Rattle.std.proofs.lemmas.Bool.{cases_Bool}
use Rattle.kernel_model.specs.declared.Need.{Need}
use Rattle.kernel_model.specs.declared.Object.{Object}
use Rattle.kernel_model.specs.World.{Blocks}
use Rattle.kernel_model.specs.Objects.{Objects, SameAt, at}
use Rattle.kernel_model.specs.Meaning.{Meaning, Stage, After, Continues, EndsWith, Fails, Answer}
use Rattle.kernel_model.specs.Levels.{Config}
use Rattle.kernel_model.specs.Kernel.{Call, Kernel, Run, call_after, gave_note, after_note, requeue}
use Rattle.kernel_model.specs.Blocking.{config_in, levels_in, trace_of, config_of, levels_of}
use Rattle.kernel_model.specs.Settle.{finish_on}
use Rattle.kernel_model.specs.InPlace.{is_changed_in}
use Rattle.kernel_model.specs.Sound.{HasWholeBlocks}
use Rattle.kernel_model.specs.Alike.{is_needed, is_needed_exclusively}
use Rattle.kernel_model.specs.Laws.{Laws, IsReady, IsInRange, PieceAlike}
use Rattle.kernel_model.specs.Claims.{IsStable}
use Rattle.call_laws.specs.Ledgers.{at_here, at_other}
use Rattle.graft_laws.specs.Histories.{HasRange}
use Rattle.graft_laws.specs.Kernels.{IsSoundRun}
use Rattle.graft_laws.proofs.CommitLemmas.{in_range_enough}
use Rattle.graft_laws.proofs.EffectLemmas.{same_back}
use Rattle.graft_laws.proofs.OrderLemmas.{config_same}
use Rattle.placed_laws.specs.Placed.{PlacedCall, bare}
use Rattle.placed_laws.specs.PlacedSteps.{placed_after, placed_finish_on, placed_requeue}
use Rattle.placed_laws.specs.Stands.{without_history, RunStandsFor}
use Rattle.placed_laws.proofs.SourceLemmas.{IsPlaced}
use Rattle.placed_laws.proofs.AlignLemmas.{run_over}
use Rattle.placed_laws.proofs.AfterLemmas.{stands_after}
use Rattle.placed_laws.proofs.GoLemmas.{history_at}
use Rattle.placed_laws.proofs.NeedLemmas.{unneeded_free}
use Rattle.kernel_laws.proofs.FrameLemmas.{same_then}

-- a piece of p's call does the same from state s and from state d, as far as these needs go; others keep what they hold
pub record EndsAlike (m : Meaning) (k : Kernel) (w : Objects) (p : ℕ) (t : Stage)
    (answer : Option Answer) (s d : Objects) (ns : List Need) : Type 0 where
  pub first : IsReady m k.world k.images s p t answer
  pub second : IsReady m k.world k.images d p t answer
  pub pieces : (blocks : Blocks) (io : List Bool) → PieceAlike ns (m.piece k.world k.images s blocks
      p t answer io) (m.piece k.world k.images d blocks p t answer io)
  pub changes : (blocks : Blocks) (io : List Bool) (o : Object) → IsInRange o → is_needed_exclusively o ns ≡ false →
      SameAt o (m.piece k.world k.images s blocks p t answer io).objects s
      × SameAt o (m.piece k.world k.images d blocks p t answer io).objects d
  -- what no other call holds exclusively is the same on both
  pub agree : (o : Object) → HasRange o → ((q : ℕ) → q ≢ p → is_changed_in (levels_of m k q) o ≡ false) → SameAt o s d
  -- what another does is as it was in the store, and isn't needed exclusively
  pub frame : (o : Object) (q : ℕ) → HasRange o → q ≢ p → is_changed_in (levels_of m k q) o ≡ true → SameAt o d w
  pub free : (o : Object) (q : ℕ) → q ≢ p → is_changed_in (levels_of m k q) o ≡ true →
      is_needed_exclusively o ns ≡ false

-- a call after its piece, in place
after_same : (c : Call) (a : After) → placed_after (record { number = c.number; stage = c.stage }) a
    ≡ without_history (call_after c a)
after_same c (Continues t) = refl
after_same c (EndsWith reply) = refl
after_same c (Fails refusal) = refl

-- it has no level
no_config_after : (m : Meaning) (l : Kernel) (p : ℕ) (c : Call) (a : After) →
    config_in (trace_of m l p (call_after c a)) ≡ None
no_config_after m l p c (Continues t) = refl
no_config_after m l p c (EndsWith reply) = refl
no_config_after m l p c (Fails refusal) = refl

pub finish_stands : (m : Meaning) (laws : Laws m) (u : Run) (w : Objects) →
    (here : IsPlaced m u.kernel w) → HasWholeBlocks u.kernel.world u.blocks →
    (p : ℕ) (c : Call) (answer : Option Answer)
    (s d : Objects) (ns : List Need) → EndsAlike m u.kernel w p c.stage answer s d ns →
    IsSoundRun m (requeue p (finish_on m p c s answer u)) →
    ((q : ℕ) → q ≢ p → IsStable m u.kernel (requeue p (finish_on m p c s answer u)).kernel q) →
    RunStandsFor m (placed_requeue p (placed_finish_on m p
    (record { number = c.number; stage = c.stage }) d answer (run_over m w u)))
    (requeue p (finish_on m p c s answer u))
finish_stands m laws u w here whole p c answer s d ns ends sound stable =
    let k = u.kernel in
    let n = finish_on m p c s answer u in
    let l = (requeue p n).kernel in
    let a = m.piece k.world k.images s u.blocks p c.stage answer u.io in
    let b = m.piece k.world k.images d u.blocks p c.stage answer u.io in
    let pc : PlacedCall = record { number = c.number; stage = c.stage } in
    let alike = ends.pieces u.blocks u.io in
    let first = laws.piece.store k.world k.images s u.blocks p c.stage answer u.io ends.first whole in
    let second = laws.piece.store k.world k.images d u.blocks p c.stage answer u.io ends.second whole in
    let calls = λ (q : ℕ) (ne : q ≢ p). at_other p q (call_after c a.after) k.call ne in
    let nowhere : config_of m n.kernel p ≡ None =
    ap (λ x. config_in (trace_of m n.kernel p x)) (at_here p (call_after c a.after) k.call)
    ∙ no_config_after m n.kernel p c a.after in
    let nowhere_then : config_of m l p ≡ None = config_same m n.kernel n.kernel.clock l.order p ∙ nowhere in
    stands_after m laws k w here p (placed_finish_on m p pc d answer (run_over m w u)) n
    (record {
      world = refl;
      images = refl;
      clock = refl;
      order = refl;
      blocks = sym alike.blocks;
      notes =
          ap (λ g. u.notes ++ gave_note c.number g ++ after_note c.number b.after) (sym alike.gave)
          ∙ ap (λ x. u.notes ++ gave_note c.number a.gave ++ after_note c.number x)
          (sym alike.after);
      io = ap (λ i. drop i u.io) (sym alike.calls);
      calls = λ q. ap (λ x. at p (placed_after pc x) (λ i. without_history (k.call i)) q) (sym alike.after)
          ∙ ap (λ x. at p x (λ i. without_history (k.call i)) q) (after_same c a.after)
          ∙ history_at p q (call_after c a.after) k.call;
      levels = at_here p [] (λ i. map bare (levels_of m k i)) ∙ ap (λ x. map bare (levels_in x)) (sym nowhere);
      others = λ q ne. at_other p q [] (λ i. map bare (levels_of m k i)) ne;
      store = second;
    }) sound
    (record {
      beside = λ o q range ne changed. in_range_enough k.world b.objects w o second here.store
          (λ within. same_then o b.objects d w (ends.changes u.blocks u.io o within
          (ends.free o q ne changed)).1 (ends.frame o q range ne changed)) range;
      own = λ f o there range changed. absurd (no_some f (sym nowhere_then ∙ there));
      rest = λ o range none free. in_range_enough k.world b.objects a.objects o second first
          (λ within. elim (cases_Bool (is_needed o ns)) [
            | inl needed ↦ same_back o a.objects b.objects (alike.objects o needed)
            | inr unneeded ↦
                let same = ends.changes u.blocks u.io o within (unneeded_free o ns unneeded) in
                same_then o b.objects d a.objects same.1 (same_then o d s a.objects
                (same_back o s d (ends.agree o range none)) (same_back o a.objects s same.0))
          ]) range;
    }) calls stable
  where
    no_some : (f : Config) → None ≡ Some f → ⊥
    no_some f e = cc
