-- What is kept through each end of a step is kept through steps, with what they show.
use Rattle.std.specs.Prelude.{◌≡◌, ℕ, zero, suc, Bool, true, false, not, ◌&&◌, ◌==◌, List, [], ◌∷◌}
use Rattle.std.specs.Prelude.{◌++◌, length, Option, Some, None}
use Rattle.std.proofs.Common.{refl, sym, ap, subst, ◌∙◌}
use Rattle.script_model.specs.declared.Micro.{Micro}
use Rattle.script_model.specs.declared.Note.{Note}
use Rattle.script_model.specs.declared.Note.TheVariants.{Ended, Gave, Dropped}
use Rattle.script_model.specs.declared.Point.{Point}
use Rattle.script_model.specs.declared.Cause.{Cause}
use Rattle.script_model.specs.declared.SysCall.{SysCall}
use Rattle.script_model.specs.declared.SysCall.TheVariants.{Serve}
use Rattle.script_model.specs.World.{World}
use Rattle.script_model.specs.Objects.{Objects, GraftValue, at}
use Rattle.script_model.specs.Meaning.{Meaning, Stage, Answer}
use Rattle.script_model.specs.Levels.{Level, Outcome, answer_of, drop_innermost, drop_level}
use Rattle.script_model.specs.GraftStep.{micro}
use Rattle.script_model.specs.History.{Mark, Stepped, Trace, fallen, begin_with, marks_on, first_trace, replay}
use Rattle.script_model.specs.Kernel.{Call, Blocker, Kernel, Run, joins, noted, has_level}
use Rattle.script_model.specs.Blocking.{blocker, trace_of}
use Rattle.script_model.specs.Settle.{lost_objects, finish_on, piece_at, piece_step, after_drop}
use Rattle.script_model.specs.Settle.{after_outcome, graft_step, marked_step, call_step, step}
use Rattle.script_model.specs.Settle.{first_free, rested, settle, settled}
use Rattle.script_model.specs.Events.{in_order, steps}
use Rattle.script_model.specs.EventPoints.{event_ask}
use Rattle.session_laws.specs.Sent.{numbered, taken_by, piece_taken, step_taken, completed_by}
use Rattle.session_laws.specs.Sent.{with_handler, graft_answers, marked_answers, step_answers}
use Rattle.session_laws.specs.Sent.{step_completed}
use Rattle.session_laws.specs.Served.{MeansServe}
use Rattle.session_laws.proofs.ShownLemmas.{Shown, nothing, and_then, same_shown, then_nothing}
use Rattle.session_laws.proofs.ShownLemmas.{then_then, takes, completes, call_shown, step_shown}
use Rattle.session_laws.proofs.ShownLemmas.{settle_shown, settled_shown, steps_shown, next_shows}
use Rattle.session_laws.proofs.ShownLemmas.{taken_shows}

-- ---- what is kept

-- a note tells neither bytes nor an end
abbrev pub is_silent : Note → Bool
is_silent (Ended n reply) = false
is_silent (Gave n bytes) = false
is_silent note = true

-- What is kept: through a silent note, a new history, a call that is taken out, and each way in which a piece is done.
pub record IsKept (m : Meaning) (Q : Shown → (ℕ → Option Call) → List Note → Type 0) : Type 0 where
  pub lines : (l : Shown) (call : ℕ → Option Call) (notes : List Note) (x : Note) → is_silent x ≡ true →
      Q l call notes → Q l call (notes ++ x ∷ [])
  pub marks : (l : Shown) (call : ℕ → Option Call) (notes : List Note) (p : ℕ) (c : Call) (ks : List Mark) →
      call p ≡ Some c → Q l call notes → Q l (at p (Some (record c { marks = Some ks })) call) notes
  pub ends : (l : Shown) (call : ℕ → Option Call) (notes : List Note) (p : ℕ) →
      Q l call notes → Q l (at p None call) notes
  pub default : (l : Shown) (p : ℕ) (c : Call) (r : Run) → r.kernel.call p ≡ Some c →
      Q l r.kernel.call r.notes →
      Q (and_then l (takes c r)) (finish_on m p c r.kernel.objects None r).kernel.call
      (finish_on m p c r.kernel.objects None r).notes
  pub drop : (l : Shown) (p : ℕ) (c : Call) (s : Objects) (a : Point) (r : Run) → r.kernel.call p ≡ Some c →
      m.asks r.kernel.world r.kernel.objects p c.stage ≡ Some a → Q l r.kernel.call r.notes →
      Q l (finish_on m p c s None r).kernel.call (finish_on m p c s None r).notes
  pub answer : (l : Shown) (p : ℕ) (c : Call) (s : Objects) (a : Point) (x : Answer) (r : Run) →
      r.kernel.call p ≡ Some c → m.asks r.kernel.world r.kernel.objects p c.stage ≡ Some a →
      Q l r.kernel.call r.notes →
      Q (and_then l (completes c a x)) (finish_on m p c s (Some x) r).kernel.call
      (finish_on m p c s (Some x) r).notes

-- ---- points that are asked

pub no_point : (a : Point) → None ≡ Some a → ⊥
no_point a h = cc

-- a piece that asks takes no handlers
asking_takes_none : (m : Meaning) → MeansServe m → (v : World) (s : Objects) (p : ℕ) (t : Stage) (a : Point)
    (handlers : List (ℕ × ℕ)) → m.asks v s p t ≡ Some a → taken_by t.call t.piece handlers ≡ []
asking_takes_none m is v s p t a handlers e = by_call t.call t.piece refl refl
  where
    by_call : (call : SysCall) (n : ℕ) → t.call ≡ call → t.piece ≡ n → taken_by call n handlers ≡ []
    by_call (Serve port bytes) zero f g =
        absurd (no_point a (sym (ap (λ n. event_ask (Serve port bytes) n t.handlers p) g)
        ∙ sym (ap (λ call. event_ask call t.piece t.handlers p) f) ∙ sym (is.asks v s p t port bytes f) ∙ e))
    by_call call n f g = refl

-- a call whose history leads somewhere asks a point
pub asks_of_trace : (m : Meaning) (k : Kernel) (p : ℕ) (c : Call) (t : Trace) → trace_of m k p (Some c) ≡ Some t →
    (a : Point) × (m.asks k.world k.objects p c.stage ≡ Some a)
asks_of_trace m k p c t e = by_marks c.marks e
  where
    no_trace : None ≡ Some t → ⊥
    no_trace h = cc

    by_point : (ks : List Mark) (x : Option Point) → m.asks k.world k.objects p c.stage ≡ x →
        elim (begin_with k.images k.objects p (m.need k.world k.objects p c.stage) (m.feed c.stage)
        x) as (λ _. Option Trace) [
          | None ↦ None
          | Some u ↦ marks_on k.world k.images p ks (first_trace u)
        ] ≡ Some t →
        (a : Point) × (m.asks k.world k.objects p c.stage ≡ Some a)
    by_point ks None f h = absurd (no_trace h)
    by_point ks (Some a) f h = (a, f)

    by_marks : (x : Option (List Mark)) →
        elim x as (λ _. Option Trace) [
          | None ↦ None
          | Some ks ↦ replay m k.world k.images k.objects p c.stage ks
        ] ≡ Some t →
        (a : Point) × (m.asks k.world k.objects p c.stage ≡ Some a)
    by_marks None h = absurd (no_trace h)
    by_marks (Some ks) h = by_point ks (m.asks k.world k.objects p c.stage) refl h

-- where nothing completed, no handler did
no_handler : (x : Option Point) → with_handler x [] ≡ []
no_handler None = refl
no_handler (Some a) = refl

-- the drop of a level completes nothing
pub drop_completes_none : (c : Call) (t : Trace) (v : World) (w : Objects) (ls : List Level) (d : ℕ) (cause : Cause) →
    completed_by c t (drop_level v w ls d cause).said ≡ []
drop_completes_none c t v w [] d cause = refl
drop_completes_none c t v w (l ∷ ls) d cause = by_place (length ls == d) (drop_completes_none c t v w ls d cause)
  where
    by_place : (b : Bool) → completed_by c t (drop_level v w ls d cause).said ≡ [] →
        completed_by c t
        (elim b as (λ _. Outcome) [
          | true ↦ drop_innermost v w l ls cause
          | false ↦ drop_level v w ls d cause
        ]).said ≡ []
    by_place true h = refl
    by_place false h = h

-- ---- one step

module _ (m : Meaning) (serves : MeansServe m) (Q : Shown → (ℕ → Option Call) → List Note → Type 0)
    (kept : IsKept m Q) where
  -- it holds of a run
  abbrev On : Shown → Run → Type 0
  On l r = Q l r.kernel.call r.notes

  -- nothing more is shown
  shows_nothing : (l x : Shown) (r : Run) → x ≡ nothing → On l r → On (and_then l x) r
  shows_nothing l x r e h = subst (λ y. On y r) (sym (ap (and_then l) e ∙ then_nothing l)) h

  -- two parts one after the other
  pub shows_both : (l a b : Shown) (r : Run) → On (and_then (and_then l a) b) r → On (and_then l (and_then a b)) r
  shows_both l a b r h = subst (λ y. On y r) (then_then l a b) h

  module _ (p : ℕ) (c : Call) where
    -- a piece that asks a point
    asking_kept : (a : Point) (g : Option GraftValue) (r : Run) (l : Shown) → r.kernel.call p ≡ Some c →
        m.asks r.kernel.world r.kernel.objects p c.stage ≡ Some a → On l r → On l (piece_at m p c g r)
    asking_kept a None r l e f h = kept.drop l p c r.kernel.objects a r e f h
    asking_kept a (Some g) r l e f h = kept.marks l r.kernel.call r.notes p c [] e h

    piece_kept : (x : Option Point) (r : Run) (l : Shown) → r.kernel.call p ≡ Some c →
        m.asks r.kernel.world r.kernel.objects p c.stage ≡ x → On l r →
        On (and_then l (takes c r)) (piece_step m p c x r)
    piece_kept None r l e f h = kept.default l p c r e h
    piece_kept (Some a) r l e f h =
        let g = r.kernel.objects.accounts.graft a.installer a.point in
        shows_nothing l (takes c r) (piece_at m p c g r)
        (ap (λ hs. record { answers = []; completed = []; taken = numbered c.number hs })
        (asking_takes_none m serves r.kernel.world r.kernel.objects p c.stage a r.kernel.objects.things.handlers f))
        (asking_kept a g r l e f h)

    -- what an instruction on a trace shows, whose graft call is that of a point
    abbrev outcome_shown : Trace → Point → Micro → Shown
    outcome_shown t a said =
        record {
          answers = completed_by c t said;
          completed = with_handler (Some a) (completed_by c t said);
          taken = [];
        }

    dropped_kept : (t : Trace) (ks : List Mark) (o : Outcome) (d : ℕ) (a : Point) (r : Run) (l : Shown) →
        r.kernel.call p ≡ Some c → m.asks r.kernel.world r.kernel.objects p c.stage ≡ Some a → On l r →
        On l (after_drop m p c t ks o d r)
    dropped_kept t ks o zero a r l e f h = kept.drop l p c (lost_objects o.config.now r.kernel.objects) a r e f h
    dropped_kept t ks o (suc d) a r l e f h = kept.marks l r.kernel.call r.notes p c (fallen t ks o.effects (suc d)) e h

    pub outcome_kept : (t : Trace) (ks : List Mark) (o : Outcome) (said : Micro) (a : Point) (r : Run) (l : Shown) →
        r.kernel.call p ≡ Some c → m.asks r.kernel.world r.kernel.objects p c.stage ≡ Some a → On l r →
        On (and_then l (outcome_shown t a said)) (after_outcome m p c t ks o said r)
    outcome_kept t ks o Micro.Went a r l e f h =
        subst (λ y. On y (after_outcome m p c t ks o Micro.Went r)) (sym (then_nothing l))
        (kept.marks l r.kernel.call r.notes p c (ks ++ Stepped ∷ []) e h)
    outcome_kept t ks o (Micro.Blocked object holder by_user) a r l e f h = subst (λ y. On y r) (sym (then_nothing l)) h
    outcome_kept t ks o (Micro.Completed registers) a r l e f h =
        kept.answer l p c o.config.now a (answer_of registers t.config.levels) r e f h
    outcome_kept t ks o (Micro.Dropped d q pt cause) a r l e f h =
        subst (λ y. On y (after_outcome m p c t ks o (Micro.Dropped d q pt cause) r)) (sym (then_nothing l))
        (dropped_kept t ks o d a (noted (Dropped c.number q pt cause) r) l e f
        (kept.lines l r.kernel.call r.notes (Dropped c.number q pt cause) refl h))

    -- what the next instruction of the call shows
    abbrev graft_shown : Option Trace → Run → Shown
    graft_shown x r =
        record {
          answers = graft_answers m p c x r;
          completed = with_handler (m.asks r.kernel.world r.kernel.objects p c.stage) (graft_answers m p c x r);
          taken = [];
        }

    graft_kept : (ks : List Mark) (x : Option Trace) (r : Run) (l : Shown) → r.kernel.call p ≡ Some c →
        trace_of m r.kernel p (Some c) ≡ x → On l r → On (and_then l (graft_shown x r)) (graft_step m p c ks x r)
    graft_kept ks None r l e f h =
        shows_nothing l (graft_shown None r) r
        (same_shown (graft_shown None r) nothing refl
        (no_handler (m.asks r.kernel.world r.kernel.objects p c.stage)) refl) h
    graft_kept ks (Some t) r l e f h =
        let (a, asks) = asks_of_trace m r.kernel p c t f in
        let o = micro r.kernel.world r.kernel.images p t.config in
        let xs = completed_by c t o.said in
        let none : List (ℕ × (ℕ × ℕ)) = [] in
        subst (λ (y : Option Point).
        On (and_then l (record { answers = xs; completed = with_handler y xs; taken = none }))
        (graft_step m p c ks (Some t) r))
        (sym asks) (outcome_kept t ks o o.said a r l e asks h)

    -- what the next step of the call shows
    abbrev marked_shown : Option (List Mark) → Run → Shown
    marked_shown x r =
        record {
          answers = marked_answers m p c x r;
          completed = with_handler (m.asks r.kernel.world r.kernel.objects p c.stage) (marked_answers m p c x r);
          taken = piece_taken c x r.kernel.objects.things.handlers;
        }

    marked_kept : (x : Option (List Mark)) (r : Run) (l : Shown) → r.kernel.call p ≡ Some c → On l r →
        On (and_then l (marked_shown x r)) (marked_step m p c x r)
    marked_kept None r l e h =
        subst (λ y. On (and_then l y) (marked_step m p c None r))
        (same_shown (takes c r) (marked_shown None r) refl
        (sym (no_handler (m.asks r.kernel.world r.kernel.objects p c.stage))) refl)
        (piece_kept (m.asks r.kernel.world r.kernel.objects p c.stage) r l e refl h)
    marked_kept (Some ks) r l e h = graft_kept ks (trace_of m r.kernel p (Some c)) r l e refl h

  call_kept : (p : ℕ) (x : Option Call) (r : Run) (l : Shown) → r.kernel.call p ≡ x → On l r →
      On (and_then l (call_shown m p x r)) (call_step m p x r)
  call_kept p None r l e h = subst (λ y. On y r) (sym (then_nothing l)) h
  call_kept p (Some c) r l e h = marked_kept p c c.marks r l e h

  step_kept : (p : ℕ) (r : Run) (l : Shown) → On l r → On (and_then l (step_shown m p r)) (step m p r)
  step_kept p r l h = call_kept p (r.kernel.call p) r l refl h

  -- ---- settling

  settle_by : (n : ℕ) (r : Run) (l : Shown) →
      ((q : Run) (k : Shown) → On k q → On (and_then k (settle_shown m n q)) (settle m n q)) →
      On l r → (x : Option ℕ) →
      On (and_then l (record {
        answers = next_shows m (step_answers m) n r x;
        completed = next_shows m (step_completed m) n r x;
        taken = next_shows m step_taken n r x;
      }))
      (elim x as (λ _. Run) [ None ↦ rested m r | Some p ↦ settle m n (step m p r) ])
  settle_by n r l go h None = subst (λ y. On y (rested m r)) (sym (then_nothing l)) h
  settle_by n r l go h (Some p) =
      shows_both l (step_shown m p r) (settle_shown m n (step m p r)) (settle m n (step m p r))
      (go (step m p r) (and_then l (step_shown m p r)) (step_kept p r l h))

  settle_kept : (n : ℕ) (r : Run) (l : Shown) → On l r → On (and_then l (settle_shown m n r)) (settle m n r)
  settle_kept zero r l h = subst (λ y. On y (rested m r)) (sym (then_nothing l)) h
  settle_kept (suc n) r l h = settle_by n r l (settle_kept n) h (first_free m r.kernel r.kernel.order)

  pub settled_kept : (r : Run) (l : Shown) → On l r → On (and_then l (settled_shown m r)) (settled m r)
  settled_kept r l h = settle_kept 256 r l h

  -- ---- instructions

  steps_by : (p n taken : ℕ) (r : Run) (l : Shown) →
      ((i : ℕ) (q : Run) (k : Shown) → On k q → On (and_then k (steps_shown m p n q)) (steps m p n i q).1) → On l r →
      (b : Bool) (w : Option Blocker) →
      On (and_then l (record {
        answers = taken_shows m (step_answers m) p n r b w;
        completed = taken_shows m (step_completed m) p n r b w;
        taken = taken_shows m step_taken p n r b w;
      }))
      (elim b as (λ _. ℕ × Run) [
        | false ↦ (taken, r)
        | true ↦ elim w as (λ _. ℕ × Run) [
          | Some x ↦ (taken, settled m (joins p r))
          | None ↦ steps m p n (suc taken) (settled m (step m p r))
        ]
      ]).1
  steps_by p n taken r l go h false w = subst (λ y. On y r) (sym (then_nothing l)) h
  steps_by p n taken r l go h true (Some x) = settled_kept (joins p r) l h
  steps_by p n taken r l go h true None =
      let u = settled m (step m p r) in
      let e = (steps m p n (suc taken) u).1 in
      let k = and_then l (step_shown m p r) in
      shows_both l (step_shown m p r) (and_then (settled_shown m (step m p r)) (steps_shown m p n u)) e
      (shows_both k (settled_shown m (step m p r)) (steps_shown m p n u) e
      (go (suc taken) u (and_then k (settled_shown m (step m p r))) (settled_kept (step m p r) k (step_kept p r l h))))

  pub steps_kept : (p n taken : ℕ) (r : Run) (l : Shown) → On l r →
      On (and_then l (steps_shown m p n r)) (steps m p n taken r).1
  steps_kept p zero taken r l h = subst (λ y. On y r) (sym (then_nothing l)) h
  steps_kept p (suc n) taken r l h =
      steps_by p n taken r l (λ i q k. steps_kept p n i q k) h
      (has_level (r.kernel.call p) && not (in_order p r.kernel.order))
      (blocker m r.kernel p)
