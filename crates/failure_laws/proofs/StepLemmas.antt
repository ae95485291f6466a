-- Steps of calls with lists that say the same.
use Rattle.std.specs.Prelude.{◌≡◌, ℕ, zero, suc, ◌+◌, Bool, true, false, List, [], ◌∷◌, drop}
use Rattle.std.specs.Prelude.{Option, Some, None}
use Rattle.std.proofs.Common.{arith, refl, sym, ap, subst, ◌∙◌}
use Rattle.script_model.specs.declared.Micro.{Micro}
use Rattle.script_model.specs.declared.Note.TheVariants.{Dropped}
use Rattle.script_model.specs.declared.Point.{Point}
use Rattle.script_model.specs.Objects.{Objects, GraftValue}
use Rattle.script_model.specs.Meaning.{Meaning, Answer, Piece, disk_fails}
use Rattle.script_model.specs.Levels.{Outcome}
use Rattle.script_model.specs.GraftStep.{micro}
use Rattle.script_model.specs.History.{Mark, Trace}
use Rattle.script_model.specs.Kernel.{Call, Run, finish, noted, requeue}
use Rattle.script_model.specs.Blocking.{trace_of}
use Rattle.script_model.specs.Settle.{lost_objects, finish_on, piece_at, piece_step, after_drop}
use Rattle.script_model.specs.Settle.{after_outcome, outcome_step, graft_step, marked_step}
use Rattle.script_model.specs.Settle.{call_step}
use Rattle.script_model.specs.Settle.{step, first_free, rested, settle, settled}
use Rattle.failure_laws.specs.Failures.{FailAlike, SeesFailures, RunsAlike}

-- ---- lists

-- what the calls behind the first ones do
drop_fails : (k : ℕ) (io : List Bool) (n : ℕ) → disk_fails (drop k io) n ≡ disk_fails io (k + n)
drop_fails zero io n =
    let same : n ≡ 0 + n = omega arith in ap (λ (i : ℕ). disk_fails io i) same
drop_fails (suc k) [] n = refl
drop_fails (suc k) (b ∷ io) n =
    let same : suc (k + n) ≡ suc k + n = omega arith in
    drop_fails k io n ∙ ap (λ (i : ℕ). disk_fails (b ∷ io) i) same

-- lists say the same of the calls behind the first ones
pub drop_alike : (k : ℕ) (io jo : List Bool) → FailAlike io jo → FailAlike (drop k io) (drop k jo)
drop_alike k io jo h n = drop_fails k io n ∙ h (k + n) ∙ sym (drop_fails k jo n)

-- ---- runs

-- a run with this list
abbrev pub with_list : List Bool → Run → Run
with_list io r = record r { io = io }

-- a run and itself with a list that says the same
pub alike : (r : Run) (jo : List Bool) → FailAlike r.io jo → RunsAlike r (with_list jo r)
alike r jo h = record { kernel = refl; blocks = refl; notes = refl; io = h }

-- of two alike runs the one is the other with its own list
pub run_is : (r u : Run) → RunsAlike r u → u ≡ with_list u.io r
run_is r u h =
    ap (λ k. record u { kernel = k }) h.kernel
    ∙ ap (λ b. record u { kernel = r.kernel; blocks = b }) h.blocks
    ∙ ap (λ n. record u { kernel = r.kernel; blocks = r.blocks; notes = n }) h.notes

-- with a list that says the same this leaves the same
abbrev pub Keeps : (Run → Run) → Type 0
Keeps f = (r : Run) (jo : List Bool) → FailAlike r.io jo → RunsAlike (f r) (f (with_list jo r))

-- so it does to alike runs
pub on : (f : Run → Run) → Keeps f → (r u : Run) → RunsAlike r u → RunsAlike (f r) (f u)
on f k r u h = subst (λ x. RunsAlike (f r) (f x)) (sym (run_is r u h)) (k r u.io h.io)

-- either of two
pub either : (x : Bool) (a b c d : Run) → RunsAlike a c → RunsAlike b d →
    RunsAlike (elim x as (λ _. Run) [ true ↦ a | false ↦ b ])
    (elim x as (λ _. Run) [ true ↦ c | false ↦ d ])
either true a b c d h k = h
either false a b c d h k = k

module _ (m : Meaning) (sees : SeesFailures m) where
  -- ---- a step

  finish_on_keeps : (p : ℕ) (c : Call) (s : Objects) (answer : Option Answer) →
      Keeps (finish_on m p c s answer)
  finish_on_keeps p c s answer r jo h =
      let done = m.piece r.kernel.world r.kernel.images s r.blocks p c.stage answer r.io in
      subst (λ (x : Piece). RunsAlike (finish p c done r) (finish p c x (with_list jo r)))
      (sees r.kernel.world r.kernel.images s r.blocks p c.stage answer r.io jo h)
      (record {
        kernel = refl;
        blocks = refl;
        notes = refl;
        io = drop_alike done.calls r.io jo h;
      })

  piece_at_keeps : (p : ℕ) (c : Call) (g : Option GraftValue) → Keeps (piece_at m p c g)
  piece_at_keeps p c None r jo h = finish_on_keeps p c r.kernel.objects None r jo h
  piece_at_keeps p c (Some g) r jo h = alike (piece_at m p c (Some g) r) jo h

  piece_step_keeps : (p : ℕ) (c : Call) (a : Option Point) → Keeps (piece_step m p c a)
  piece_step_keeps p c None r jo h = piece_at_keeps p c None r jo h
  piece_step_keeps p c (Some a) r jo h =
      piece_at_keeps p c (r.kernel.objects.accounts.graft a.installer a.point) r jo h

  after_drop_keeps : (p : ℕ) (c : Call) (t : Trace) (ks : List Mark) (o : Outcome) (d : ℕ) →
      Keeps (after_drop m p c t ks o d)
  after_drop_keeps p c t ks o zero r jo h =
      finish_on_keeps p c (lost_objects o.config.now r.kernel.objects) None r jo h
  after_drop_keeps p c t ks o (suc d) r jo h = alike (after_drop m p c t ks o (suc d) r) jo h

  after_outcome_keeps : (p : ℕ) (c : Call) (t : Trace) (ks : List Mark) (o : Outcome)
      (x : Micro) → Keeps (after_outcome m p c t ks o x)
  after_outcome_keeps p c t ks o Micro.Went r jo h =
      alike (after_outcome m p c t ks o Micro.Went r) jo h
  after_outcome_keeps p c t ks o (Micro.Blocked object holder by_user) r jo h = alike r jo h
  after_outcome_keeps p c t ks o (Micro.Completed answer) r jo h =
      finish_on_keeps p c o.config.now _ r jo h
  after_outcome_keeps p c t ks o (Micro.Dropped d q pt cause) r jo h =
      after_drop_keeps p c t ks o d (noted (Dropped c.number q pt cause) r) jo h

  pub outcome_step_keeps : (p : ℕ) (c : Call) (t : Trace) (ks : List Mark) (o : Outcome) →
      Keeps (outcome_step m p c t ks o)
  outcome_step_keeps p c t ks o r jo h = after_outcome_keeps p c t ks o o.said r jo h

  graft_step_keeps : (p : ℕ) (c : Call) (ks : List Mark) (t : Option Trace) →
      Keeps (graft_step m p c ks t)
  graft_step_keeps p c ks None r jo h = alike r jo h
  graft_step_keeps p c ks (Some t) r jo h =
      outcome_step_keeps p c t ks (micro r.kernel.world r.kernel.images p t.config) r jo h

  marked_step_keeps : (p : ℕ) (c : Call) (ks : Option (List Mark)) → Keeps (marked_step m p c ks)
  marked_step_keeps p c None r jo h =
      piece_step_keeps p c (m.asks r.kernel.world r.kernel.objects p c.stage) r jo h
  marked_step_keeps p c (Some ks) r jo h =
      graft_step_keeps p c ks (trace_of m r.kernel p (Some c)) r jo h

  call_step_keeps : (p : ℕ) (c : Option Call) → Keeps (call_step m p c)
  call_step_keeps p None r jo h = alike r jo h
  call_step_keeps p (Some c) r jo h = marked_step_keeps p c c.marks r jo h

  requeue_keeps : (p : ℕ) → Keeps (requeue p)
  requeue_keeps p r jo h = alike (requeue p r) jo h

  pub requeued : (p : ℕ) (r u : Run) → RunsAlike r u → RunsAlike (requeue p r) (requeue p u)
  requeued p r u h = on (requeue p) (requeue_keeps p) r u h

  pub step_keeps : (p : ℕ) → Keeps (step m p)
  step_keeps p r jo h =
      requeued p (call_step m p (r.kernel.call p) r)
      (call_step m p (r.kernel.call p) (with_list jo r))
      (call_step_keeps p (r.kernel.call p) r jo h)

  -- ---- settling

  settle_keeps : (n : ℕ) → Keeps (settle m n)
  settle_keeps zero r jo h = alike (rested m r) jo h
  settle_keeps (suc n) r jo h =
      by_free (first_free m r.kernel r.kernel.order)
      (λ a b k. on (settle m n) (settle_keeps n) a b k)
    where
      by_free : (x : Option ℕ) →
          ((a b : Run) → RunsAlike a b → RunsAlike (settle m n a) (settle m n b)) →
          RunsAlike (elim x as (λ _. Run) [ None ↦ rested m r | Some p ↦ settle m n (step m p r) ])
          (elim x as (λ _. Run) [
            | None ↦ rested m (with_list jo r)
            | Some p ↦ settle m n (step m p (with_list jo r))
          ])
      by_free None rest = alike (rested m r) jo h
      by_free (Some p) rest =
          rest (step m p r) (step m p (with_list jo r)) (step_keeps p r jo h)

  pub settled_keeps : Keeps (settled m)
  settled_keeps r jo h = settle_keeps 256 r jo h

  pub settled_alike : (r u : Run) → RunsAlike r u → RunsAlike (settled m r) (settled m u)
  settled_alike r u h = on (settled m) settled_keeps r u h
