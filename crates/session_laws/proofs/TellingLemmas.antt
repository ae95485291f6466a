-- What a step of a call tells, or the loss of a level: notes with the call's number, and an answer
-- at their end exactly where the call isn't in flight any more.
use Rattle.std.specs.Prelude.{◌≡◌, ◌≢◌, ℕ, zero, suc, ◌==◌, true, false, cond, List, [], ◌∷◌, ◌++◌}
use Rattle.std.specs.Prelude.{filter, Option, Some, None}
use Rattle.std.specs.List.{AllByRecursion}
use Rattle.std.proofs.Common.{arith, refl, subst, sym, ap, ◌∙◌}
use Rattle.std.proofs.lemmas.Bool.Decides.{nat_tests}
use Rattle.std.proofs.lemmas.List.{append_assoc, append-nil}
use Rattle.script_model.specs.declared.Cause.{Cause}
use Rattle.script_model.specs.declared.Micro.{Micro}
use Rattle.script_model.specs.declared.Note.{Note}
use Rattle.script_model.specs.declared.Note.TheVariants.{Ended, Refused, Gave, Dropped}
use Rattle.script_model.specs.declared.Point.{Point}
use Rattle.script_model.specs.declared.Refusal.TheVariants.{TimedOut}
use Rattle.script_model.specs.Objects.{GraftValue}
use Rattle.script_model.specs.Meaning.{Meaning, Piece, After, Continues, EndsWith, Fails}
use Rattle.script_model.specs.Levels.{Outcome, answer_of, drop_level}
use Rattle.script_model.specs.GraftStep.{micro}
use Rattle.script_model.specs.History.{Mark, Stepped, Trace, fallen}
use Rattle.script_model.specs.Kernel.{Call, Blocker, Run, finish, noted, requeue, with_marks}
use Rattle.script_model.specs.Kernel.{gave_note, after_note, call_after}
use Rattle.script_model.specs.Blocking.{trace_of}
use Rattle.script_model.specs.Settle.{lost_objects, finish_on, piece_at, piece_step, after_outcome}
use Rattle.script_model.specs.Settle.{graft_step, marked_step, call_step}
use Rattle.script_model.specs.Events.{drop_at, drop_marked, drop_call, times_out}
use Rattle.call_laws.specs.Ledgers.{at_here, at_other}
use Rattle.graft_laws.specs.Notes.{is_end}
use Rattle.session_laws.specs.NoteNumbers.{number_of, numbered, is_answer}

-- ---- notes of one number

-- all of these notes bear this number
abbrev pub Bear : ℕ → List Note → Type 0
Bear n notes = AllByRecursion (λ (x : Note). number_of x ≡ n) notes

pub all_numbered : (n : ℕ) (notes : List Note) → Bear n notes → numbered n notes ≡ notes
all_numbered n [] h = refl
all_numbered n (x ∷ notes) h =
    ap (λ b. cond b (x ∷ numbered n notes) (numbered n notes)) (is_it (number_of x) n h.0)
    ∙ ap (λ xs. x ∷ xs) (all_numbered n notes h.1)
  where
    is_it : (i n : ℕ) → i ≡ n → (i == n) ≡ true
    is_it i n e = grind (arith, nat_tests)

pub none_numbered : (n i : ℕ) (notes : List Note) → Bear i notes → (i == n) ≡ false →
    numbered n notes ≡ []
none_numbered n i [] h other = refl
none_numbered n i (x ∷ notes) h other =
    ap (λ b. cond b (x ∷ numbered n notes) (numbered n notes)) (ap (λ a. a == n) h.0 ∙ other)
    ∙ none_numbered n i notes h.1 other

-- ---- what is told of a call

-- The notes of a call by where it is then: the last of them is an end where it isn't in flight, and
-- else none is an answer.
abbrev pub IsTelling : ℕ → List Note → Option Call → Type 0
IsTelling n new None = (before : List Note) × (answer : Note) × (new ≡ before ++ answer ∷ [])
    × (filter is_answer before ≡ []) × (is_end answer ≡ true)
IsTelling n new (Some c) = (c.number ≡ n) × (filter is_answer new ≡ [])

-- a run goes on to another by what the call of q does
pub record Tells (q : ℕ) (c : Call) (r u : Run) : Type 0 where
  pub others : (i : ℕ) → i ≢ q → u.kernel.call i ≡ r.kernel.call i
  pub new : List Note
  pub notes : u.notes ≡ r.notes ++ new
  pub numbers : Bear c.number new
  pub own : IsTelling c.number new (u.kernel.call q)

-- nothing
pub nothing_tells : (q : ℕ) (c : Call) (r : Run) → r.kernel.call q ≡ Some c → Tells q c r r
nothing_tells q c r is =
    record {
      others = λ i ne. refl;
      new = [];
      notes = sym (append-nil r.notes);
      numbers = tt;
      own = subst (IsTelling c.number []) (sym is) (refl, refl);
    }

-- the history changes
marks_tell : (q : ℕ) (c : Call) (ks : List Mark) (r : Run) → Tells q c r (with_marks q c ks r)
marks_tell q c ks r =
    let d : Call = record c { marks = Some ks } in
    record {
      others = λ i ne. at_other q i (Some d) r.kernel.call ne;
      new = [];
      notes = sym (append-nil r.notes);
      numbers = tt;
      own = subst (IsTelling c.number []) (sym (at_here q (Some d) r.kernel.call)) (refl, refl);
    }

-- a piece is done
finish_tells : (q : ℕ) (c : Call) (x : Piece) (r : Run) → Tells q c r (finish q c x r)
finish_tells q c x r =
    record {
      others = λ i ne. at_other q i (call_after c x.after) r.kernel.call ne;
      new = gave_note c.number x.gave ++ after_note c.number x.after;
      notes = append_assoc r.notes (gave_note c.number x.gave) (after_note c.number x.after);
      numbers = bear x.gave x.after;
      own = subst (IsTelling c.number (gave_note c.number x.gave ++ after_note c.number x.after))
          (sym (at_here q (call_after c x.after) r.kernel.call)) (telling x.gave x.after);
    }
  where
    bear : (gave : Option (List ℕ)) (a : After) →
        Bear c.number (gave_note c.number gave ++ after_note c.number a)
    bear None (Continues t) = tt
    bear None (EndsWith reply) = (refl, tt)
    bear None (Fails why) = (refl, tt)
    bear (Some bytes) (Continues t) = (refl, tt)
    bear (Some bytes) (EndsWith reply) = (refl, (refl, tt))
    bear (Some bytes) (Fails why) = (refl, (refl, tt))

    telling : (gave : Option (List ℕ)) (a : After) →
        IsTelling c.number (gave_note c.number gave ++ after_note c.number a) (call_after c a)
    telling None (Continues t) = (refl, refl)
    telling None (EndsWith reply) = ([], Ended c.number reply, refl, refl, refl)
    telling None (Fails why) = ([], Refused c.number why, refl, refl, refl)
    telling (Some bytes) (Continues t) = (refl, refl)
    telling (Some bytes) (EndsWith reply) =
        (Gave c.number bytes ∷ [], Ended c.number reply, refl, refl, refl)
    telling (Some bytes) (Fails why) =
        (Gave c.number bytes ∷ [], Refused c.number why, refl, refl, refl)

-- a dropped level was noted before
dropped_tells : (q : ℕ) (c : Call) (owner point : ℕ) (cause : Cause) (r u : Run) →
    Tells q c (noted (Dropped c.number owner point cause) r) u → Tells q c r u
dropped_tells q c owner point cause r u h =
    let drop = Dropped c.number owner point cause in
    record {
      others = h.others;
      new = drop ∷ h.new;
      notes = h.notes ∙ append_assoc r.notes (drop ∷ []) h.new;
      numbers = (refl, h.numbers);
      own = more (u.kernel.call q) h.own;
    }
  where
    more : (x : Option Call) → IsTelling c.number h.new x →
        IsTelling c.number (Dropped c.number owner point cause ∷ h.new) x
    more None own =
        let drop = Dropped c.number owner point cause in
        (drop ∷ own.0, own.1, ap (λ xs. drop ∷ xs) own.2, own.3, own.4)
    more (Some d) own = own

-- its place in the order changes
requeue_tells : (q : ℕ) (c : Call) (r u : Run) → Tells q c r u → Tells q c r (requeue q u)
requeue_tells q c r u h = record {
  others = h.others;
  new = h.new;
  notes = h.notes;
  numbers = h.numbers;
  own = h.own;
}

-- a waiter without a level ends
pub end_tells : (q : ℕ) (b : Blocker) (c : Call) (m : Meaning) (r : Run) →
    Tells q c r (times_out m q b c r)
end_tells q b c m r =
    let why = TimedOut b.object b.holder in
    record {
      others = λ i ne. at_other q i None r.kernel.call ne;
      new = Refused c.number why ∷ [];
      notes = refl;
      numbers = (refl, tt);
      own = subst (IsTelling c.number (Refused c.number why ∷ []))
          (sym (at_here q None r.kernel.call)) ([], Refused c.number why, refl, refl, refl);
    }

module _ (m : Meaning) where
  -- ---- a step

  outcome_tells : (q : ℕ) (c : Call) (t : Trace) (ks : List Mark) (o : Outcome) (said : Micro)
      (r : Run) → r.kernel.call q ≡ Some c → Tells q c r (after_outcome m q c t ks o said r)
  outcome_tells q c t ks o Micro.Went r is = marks_tell q c (ks ++ Stepped ∷ []) r
  outcome_tells q c t ks o (Micro.Blocked object holder by_user) r is = nothing_tells q c r is
  outcome_tells q c t ks o (Micro.Completed answer) r is =
      finish_tells q c
      (m.piece r.kernel.world r.kernel.images o.config.now r.blocks q c.stage
      (Some (answer_of answer t.config.levels)) r.io) r
  outcome_tells q c t ks o (Micro.Dropped zero owner point cause) r is =
      let w = lost_objects o.config.now r.kernel.objects in
      let u = noted (Dropped c.number owner point cause) r in
      dropped_tells q c owner point cause r (finish_on m q c w None u)
      (finish_tells q c (m.piece r.kernel.world r.kernel.images w r.blocks q c.stage None r.io) u)
  outcome_tells q c t ks o (Micro.Dropped (suc d) owner point cause) r is =
      let marks = fallen t ks o.effects (suc d) in
      let u = noted (Dropped c.number owner point cause) r in
      dropped_tells q c owner point cause r (with_marks q c marks u) (marks_tell q c marks u)

  graft_tells : (q : ℕ) (c : Call) (ks : List Mark) (x : Option Trace) (r : Run) →
      r.kernel.call q ≡ Some c → Tells q c r (graft_step m q c ks x r)
  graft_tells q c ks None r is = nothing_tells q c r is
  graft_tells q c ks (Some t) r is =
      let o = micro r.kernel.world r.kernel.images q t.config in outcome_tells q c t ks o o.said r is

  default_tells : (q : ℕ) (c : Call) (r : Run) →
      Tells q c r (finish_on m q c r.kernel.objects None r)
  default_tells q c r =
      finish_tells q c
      (m.piece r.kernel.world r.kernel.images r.kernel.objects r.blocks q c.stage None r.io) r

  point_tells : (q : ℕ) (c : Call) (g : Option GraftValue) (r : Run) →
      Tells q c r (piece_at m q c g r)
  point_tells q c None r = default_tells q c r
  point_tells q c (Some g) r = marks_tell q c [] r

  piece_tells : (q : ℕ) (c : Call) (a : Option Point) (r : Run) → Tells q c r (piece_step m q c a r)
  piece_tells q c None r = default_tells q c r
  piece_tells q c (Some a) r =
      point_tells q c (r.kernel.objects.accounts.graft a.installer a.point) r

  marked_tells : (q : ℕ) (c : Call) (ks : Option (List Mark)) (r : Run) →
      r.kernel.call q ≡ Some c → Tells q c r (marked_step m q c ks r)
  marked_tells q c None r is =
      piece_tells q c (m.asks r.kernel.world r.kernel.objects q c.stage) r
  marked_tells q c (Some ks) r is = graft_tells q c ks (trace_of m r.kernel q (Some c)) r is

  -- a step of a call in flight, which takes its place in the order
  pub step_tells : (q : ℕ) (c : Call) (r : Run) → r.kernel.call q ≡ Some c →
      Tells q c r (requeue q (call_step m q (Some c) r))
  step_tells q c r is =
      requeue_tells q c r (call_step m q (Some c) r) (marked_tells q c c.marks r is)

  -- ---- the loss of a level

  -- of a call in flight, if it has that level
  pub drop_tells : (q : ℕ) (c : Call) (d : Option ℕ) (cause : Cause) (r : Run) →
      r.kernel.call q ≡ Some c → Tells q c r (drop_call m q (Some c) d cause r)
  drop_tells q c d cause r is = by_marks c.marks (trace_of m r.kernel q (Some c))
    where
      at_level : (ks : List Mark) (t : Trace) (d : Option ℕ) →
          Tells q c r (drop_at m q c ks t d cause r)
      at_level ks t None = nothing_tells q c r is
      at_level ks t (Some n) =
          let o = drop_level r.kernel.world t.config.now t.config.levels n cause in
          requeue_tells q c r (after_outcome m q c t ks o o.said r)
          (outcome_tells q c t ks o o.said r is)

      by_marks : (ks : Option (List Mark)) (t : Option Trace) →
          Tells q c r (drop_marked m q c ks t d cause r)
      by_marks (Some ks) (Some t) = at_level ks t d
      by_marks (Some ks) None = nothing_tells q c r is
      by_marks None t = nothing_tells q c r is
