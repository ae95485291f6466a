-- Over any events of which one is a `serve` the notes tell its answers.
use Rattle.std.specs.Prelude.{◌≡◌, ◌≢◌, ℕ, Bool, List, [], ◌∷◌, ◌++◌, length, Option, Some, None, Result, Ok, Err, map}
use Rattle.std.proofs.Common.{arith, refl, sym, ap, subst, ◌∙◌, inl, inr}
use Rattle.std.proofs.lemmas.Bool.{cases_eq}
use Rattle.std.proofs.lemmas.List.{append-nil, append_assoc}
use Rattle.script_model.specs.declared.Event.{Event}
use Rattle.script_model.specs.declared.Event.TheVariants.{Sys}
use Rattle.script_model.specs.declared.Note.{Note}
use Rattle.script_model.specs.declared.Note.TheVariants.{Ended}
use Rattle.script_model.specs.declared.Reply.TheVariants.{One}
use Rattle.script_model.specs.declared.Refusal.{Refusal}
use Rattle.script_model.specs.declared.SysCall.TheVariants.{Serve}
use Rattle.script_model.specs.World.{World, ImageTable}
use Rattle.script_model.specs.Objects.{at}
use Rattle.script_model.specs.Meaning.{Meaning, Stage, Answer, stage}
use Rattle.script_model.specs.Early.{begins_unless}
use Rattle.script_model.specs.Kernel.{Call, Run, gave_note, after_note, finish}
use Rattle.script_model.specs.Settle.{finish_on}
use Rattle.script_model.specs.AllCalls.{all_calls}
use Rattle.script_model.specs.EventPoints.{event_refusal}
use Rattle.script_model.specs.Session.{first_io, later_io}
use Rattle.session_laws.specs.Shown.{before_events, begins_on, with_event, events_on, events_show}
use Rattle.session_laws.specs.Sent.{those, sent, step_answers, step_completed, step_taken}
use Rattle.session_laws.specs.Served.{MeansServe, AreOthers, AreSomeOf, TellAnswers}
use Rattle.session_laws.specs.Served.{ServesTellAnswers, EachServeTellsAnswers}
use Rattle.session_laws.proofs.ServePartLemmas.{all_are_some}
use Rattle.session_laws.proofs.ShownLemmas.{Shown, nothing, and_then, then_nothing, then_then}
use Rattle.session_laws.proofs.ShownLemmas.{takes, completes, new_call, event_shown}
use Rattle.session_laws.proofs.ServeKeptLemmas.{IsKept}
use Rattle.session_laws.proofs.ShownEventLemmas.{sys_kept, event_kept}
use Rattle.session_laws.proofs.ServeOtherLemmas.{at_here, none_contained, line_leaves}
use Rattle.session_laws.proofs.ServeOtherLemmas.{end_leaves, marks_leaves, default_leaves}
use Rattle.session_laws.proofs.ServeOtherLemmas.{drop_leaves, answer_leaves, some_call}
use Rattle.session_laws.proofs.ServeFreshLemmas.{IsFresh, fresh_begins, fresh_kept}
use Rattle.session_laws.proofs.ServingLemmas.{IsServing, IsServed, served_left, default_done, drop_done, answer_done}
use Rattle.call_laws.specs.Ledgers.{at_other}

-- ---- what is kept

-- a new history of the call itself
marks_own : (n p : ℕ) (l : Shown) (call : ℕ → Option Call) (notes : List Note) (q : ℕ)
    (c d : Call) → call q ≡ Some c → c.number ≡ n →
    d.stage ≡ c.stage → IsServed n p l call notes → IsServed n p l (at q (Some d) call) notes
marks_own n p l call notes q c d e same stays h =
    record {
      told = h.told;
      flight = λ i x is num. elim (cases_eq i q) [
        | inl here ↦ subst (IsServing n p l notes i)
            (some_call d x (sym (at_here q i (Some d) call here) ∙ is)) (serving i here)
        | inr other ↦ h.flight i x (sym (at_other q i (Some d) call other) ∙ is) num
      ];
    }
  where
    serving : (i : ℕ) → i ≡ q → IsServing n p l notes i d
    serving i here =
        let f = h.flight q c e same in
        record {
          process = here ∙ f.process;
          port = f.port;
          event = f.event;
          call = ap (λ (t : Stage). t.call) stays ∙ f.call;
          open_yet = f.open_yet;
          count = ap (λ (t : Stage). t.answers) stays ∙ f.count;
          first = λ z. f.first (sym (ap (λ (t : Stage). t.piece) stays) ∙ z);
          coming =
              subst (λ hs. AreSomeOf (those n l.completed ++ hs) (those n l.taken))
              (sym (ap (λ (t : Stage). t.handlers) stays)) f.coming;
        }

-- a call of another number begins
pub served_begins : (n p : ℕ) (l : Shown) (call : ℕ → Option Call) (notes : List Note) (q : ℕ) (c : Call) →
    c.number ≢ n →
    IsServed n p l call notes → IsServed n p l (at q (Some c) call) notes
served_begins n p l call notes q c ne h =
    served_left n p l l call (at q (Some c) call) notes notes h (marks_leaves n l call notes q c ne)

pub served_kept : (m : Meaning) (n p : ℕ) → MeansServe m → IsKept m (IsServed n p)
served_kept m n p serves =
    record {
      lines =
          λ l call notes x silent h. served_left n p l l call call notes (notes ++ x ∷ []) h
          (line_leaves n l call notes x silent);
      marks = λ l call notes q c ks e h. elim (cases_eq c.number n) [
        | inl same ↦ marks_own n p l call notes q c (record c { marks = Some ks }) e same refl h
        | inr ne ↦ served_begins n p l call notes q (record c { marks = Some ks }) ne h
      ];
      ends = λ l call notes q h. served_left n p l l call (at q None call) notes notes h (end_leaves n l call notes q);
      default = λ l q c r e h. elim (cases_eq c.number n) [
        | inl same ↦ default_done n p l q c r e same h m serves c.stage.piece refl
        | inr ne ↦ served_left n p l (and_then l (takes c r)) r.kernel.call
            (finish_on m q c r.kernel.objects None r).kernel.call r.notes
            (finish_on m q c r.kernel.objects None r).notes h (default_leaves m n l q c r ne)
      ];
      drop = λ l q c s a r e f h. elim (cases_eq c.number n) [
        | inl same ↦ drop_done n p l q c r e same h m serves s a c.stage.piece refl f
        | inr ne ↦ served_left n p l l r.kernel.call (finish_on m q c s None r).kernel.call r.notes
            (finish_on m q c s None r).notes h
            (drop_leaves m n l q c s r ne)
      ];
      answer = λ l q c s a x r e f h. elim (cases_eq c.number n) [
        | inl same ↦ answer_done n p l q c r e same h m serves s a x c.stage.piece c.stage.handlers refl refl f
        | inr ne ↦ served_left n p l (and_then l (completes c a x)) r.kernel.call
            (finish_on m q c s (Some x) r).kernel.call r.notes
            (finish_on m q c s (Some x) r).notes h (answer_leaves m n l q c s a x r ne)
      ];
    }

-- ---- a `serve` begins

-- nothing of the number is told, and so what is told is right
fresh_tells : (n : ℕ) (l : Shown) (call : ℕ → Option Call) (notes : List Note) → IsFresh n l call notes →
    TellAnswers n notes l.answers l.completed l.taken
fresh_tells n l call notes h =
    record {
      bytes = h.bytes ∙ sym (ap (map (λ (a : Answer). a.body)) h.answers);
      number = λ x told. absurd (h.number x told);
      each = ap length h.completed ∙ sym (ap (λ xs. length (map (λ (a : Answer). a.body) xs)) h.answers);
      handlers =
          subst (λ xs. AreSomeOf xs (those n l.taken)) (sym h.completed)
          (subst (AreSomeOf []) (sym h.taken) (all_are_some []));
    }

-- no call has the number yet
pub fresh_served : (n p : ℕ) (l : Shown) (call : ℕ → Option Call) (notes : List Note) →
    IsFresh n l call notes → IsServed n p l call notes
fresh_served n p l call notes h =
    record { told = fresh_tells n l call notes h; flight = λ q c e same. absurd (h.calls q c e same) }

ok_stage : (t u : Stage) → ◌≡◌ {A = Result Stage Refusal} (Ok t) (Ok u) → t ≡ u
ok_stage t u e = cc

err_stage : (why : Refusal) (t : Stage) → ◌≡◌ {A = Result Stage Refusal} (Err why) (Ok t) → ⊥
err_stage why t e = cc

-- the stage at which it begins
pub stage_is : (m : Meaning) → MeansServe m →
    (v : World) (images : ImageTable) (p port : ℕ) (bytes : List ℕ) (t : Stage) →
    m.early v images p (Serve port bytes) ≡ Ok t → t ≡ stage (Serve port bytes) 0
stage_is m serves v images p port bytes t e =
    by_refusal (event_refusal v images p (Serve port bytes)) (sym (serves.early v images p port bytes) ∙ e)
  where
    by_refusal : (x : Option Refusal) → begins_unless (Serve port bytes) x ≡ Ok t → t ≡ stage (Serve port bytes) 0
    by_refusal None e = ok_stage t (stage (Serve port bytes) 0) (sym e)
    by_refusal (Some why) e = absurd (err_stage why t e)

-- the call is in flight
pub serve_begins : (n p port : ℕ) (bytes : List ℕ) (l : Shown) (call : ℕ → Option Call) (notes : List Note)
    (t : Stage) →
    t ≡ stage (Serve port bytes) 0 → IsFresh n l call notes →
    IsServed n p l (at p (Some (record { number = n; stage = t; marks = None })) call) notes
serve_begins n p port bytes l call notes t e h =
    record {
      told = fresh_tells n l call notes h;
      flight = λ i x is num. elim (cases_eq i p) [
        | inl here ↦ subst (IsServing n p l notes i)
            (some_call new x (sym (at_here p i (Some new) call here) ∙ is)) (serving i here)
        | inr other ↦ absurd (h.calls i x (sym (at_other p i (Some new) call other) ∙ is) num)
      ];
    }
  where
    new : Call
    new = record { number = n; stage = t; marks = None }

    none_sent : sent n l.answers ≡ []
    none_sent = ap (map (λ (a : Answer). a.body)) h.answers

    serving : (i : ℕ) → i ≡ p → IsServing n p l notes i new
    serving i here =
        record {
          process = here;
          port = port;
          event = bytes;
          call = ap (λ (u : Stage). u.call) e;
          open_yet = h.number;
          count = ap (λ (u : Stage). u.answers) e ∙ sym (ap length none_sent);
          first = λ z. (h.answers, h.completed, h.taken);
          coming = subst (λ xs. AreSomeOf (xs ++ t.handlers) (those n l.taken)) (sym h.completed)
              (subst (λ hs. AreSomeOf hs (those n l.taken)) (sym (ap (λ (u : Stage). u.handlers) e))
              (subst (AreSomeOf []) (sym h.taken) (all_are_some [])));
        }

-- ---- behind the notes of earlier events

-- what is kept is kept with earlier notes before
abbrev pub behind : List Note → (Shown → (ℕ → Option Call) → List Note → Type 0) → Shown →
    (ℕ → Option Call) → List Note → Type 0
behind earlier Q l call notes = Q l call (earlier ++ notes)

-- a run with earlier notes before its own
abbrev with_earlier : List Note → Run → Run
with_earlier earlier r = record r { notes = earlier ++ r.notes }

-- the notes of a piece that is done come behind them too
done_behind : (earlier notes gave after : List Note) →
    ((earlier ++ notes) ++ gave) ++ after ≡ earlier ++ ((notes ++ gave) ++ after)
done_behind earlier notes gave after =
    ap (λ xs. xs ++ after) (append_assoc earlier notes gave) ∙ append_assoc earlier (notes ++ gave) after

pub behind_kept : (m : Meaning) (Q : Shown → (ℕ → Option Call) → List Note → Type 0) (earlier : List Note) →
    IsKept m Q →
    IsKept m (behind earlier Q)
behind_kept m Q earlier kept =
    record {
      lines = λ l call notes x silent h.
          subst (Q l call) (append_assoc earlier notes (x ∷ [])) (kept.lines l call (earlier ++ notes) x silent h);
      marks = λ l call notes p c ks e h. kept.marks l call (earlier ++ notes) p c ks e h;
      ends = λ l call notes p h. kept.ends l call (earlier ++ notes) p h;
      default = λ l p c r e h.
          let q = m.piece r.kernel.world r.kernel.images r.kernel.objects r.blocks p c.stage None r.io in
          subst (Q (and_then l (takes c r)) (finish p c q r).kernel.call)
          (done_behind earlier r.notes (gave_note c.number q.gave) (after_note c.number q.after))
          (kept.default l p c (with_earlier earlier r) e h);
      drop = λ l p c s a r e f h.
          let q = m.piece r.kernel.world r.kernel.images s r.blocks p c.stage None r.io in
          subst (Q l (finish p c q r).kernel.call)
          (done_behind earlier r.notes (gave_note c.number q.gave) (after_note c.number q.after))
          (kept.drop l p c s a (with_earlier earlier r) e f h);
      answer = λ l p c s a x r e f h.
          let q = m.piece r.kernel.world r.kernel.images s r.blocks p c.stage (Some x) r.io in
          subst (Q (and_then l (completes c a x)) (finish p c q r).kernel.call)
          (done_behind earlier r.notes (gave_note c.number q.gave) (after_note c.number q.after))
          (kept.answer l p c s a x (with_earlier earlier r) e f h);
    }

-- ---- events

module _ (m : Meaning) (serves : MeansServe m) where
  -- what numbered events show
  abbrev events_shown : List (ℕ × Event) → List (List Bool) → Run → Shown
  events_shown es ios r =
      record {
        answers = events_show m (step_answers m) es ios r;
        completed = events_show m (step_completed m) es ios r;
        taken = events_show m step_taken es ios r;
      }

  module _ (Q : Shown → (ℕ → Option Call) → List Note → Type 0) (kept : IsKept m Q) where
    -- it holds where an event begins
    begins_behind : (l : Shown) (r : Run) → Q l r.kernel.call r.notes → behind r.notes Q l r.kernel.call []
    begins_behind l r h = subst (Q l r.kernel.call) (sym (append-nil r.notes)) h

    module _ (n : ℕ)
        (others : (l : Shown) (call : ℕ → Option Call) (notes : List Note) (p : ℕ) (c : Call) →
        c.number ≢ n → Q l call notes →
        Q l (at p (Some c) call) notes) where
      -- an event of another number
      other_kept : (e : ℕ × Event) (io : List Bool) (r : Run) (l : Shown) → e.0 ≢ n → Q l r.kernel.call r.notes →
          Q (and_then l (event_shown m e.0 e.1 (begins_on io r))) (with_event m e io r).kernel.call
          (with_event m e io r).notes
      other_kept e io r l ne h =
          event_kept m serves (behind r.notes Q) (behind_kept m Q r.notes kept) e.0 e.1
          (begins_on io r) l (begins_behind l r h)
          (λ p t. others l r.kernel.call (r.notes ++ []) p (new_call e.0 t) ne (begins_behind l r h))

      -- events of other numbers
      others_kept : (es : List (ℕ × Event)) (ios : List (List Bool)) (r : Run) (l : Shown) →
          AreOthers n es → Q l r.kernel.call r.notes →
          Q (and_then l (events_shown es ios r)) (events_on m es ios r).kernel.call (events_on m es ios r).notes
      others_kept [] ios r l ne h = subst (λ y. Q y r.kernel.call r.notes) (sym (then_nothing l)) h
      others_kept (e ∷ es) ios r l ne h =
          let u = with_event m e (first_io ios) r in
          let x = event_shown m e.0 e.1 (begins_on (first_io ios) r) in
          let y = events_on m es (later_io ios) u in
          subst (λ z. Q z y.kernel.call y.notes) (then_then l x (events_shown es (later_io ios) u))
          (others_kept es (later_io ios) u (and_then l x) ne.1 (other_kept e (first_io ios) r l ne.0 h))

  module _ (n p port : ℕ) (bytes : List ℕ) where
    -- the event of the `serve` itself
    serve_kept : (io : List Bool) (r : Run) (l : Shown) → IsFresh n l r.kernel.call r.notes →
        IsServed n p (and_then l (event_shown m n (Sys p (Serve port bytes)) (begins_on io r)))
        (with_event m (n, Sys p (Serve port bytes)) io r).kernel.call
        (with_event m (n, Sys p (Serve port bytes)) io r).notes
    serve_kept io r l h =
        let fresh = begins_behind (IsFresh n) (fresh_kept m n) l r h in
        sys_kept m serves (behind r.notes (IsServed n p))
        (behind_kept m (IsServed n p) r.notes (served_kept m n p serves)) n p
        (Serve port bytes) (begins_on io r) l (fresh_served n p l r.kernel.call (r.notes ++ []) fresh)
        (λ t e. serve_begins n p port bytes l r.kernel.call (r.notes ++ []) t
        (stage_is m serves r.kernel.world r.kernel.images p port bytes t e) fresh)

    -- events around it
    events_kept : (before after : List (ℕ × Event)) (ios : List (List Bool)) (r : Run) (l : Shown) →
        AreOthers n before →
        AreOthers n after → IsFresh n l r.kernel.call r.notes →
        IsServed n p (and_then l (events_shown (before ++ (n, Sys p (Serve port bytes)) ∷ after) ios r))
        (events_on m (before ++ (n, Sys p (Serve port bytes)) ∷ after) ios r).kernel.call
        (events_on m (before ++ (n, Sys p (Serve port bytes)) ∷ after) ios r).notes
    events_kept [] after ios r l first others h =
        let u = with_event m (n, Sys p (Serve port bytes)) (first_io ios) r in
        let x = event_shown m n (Sys p (Serve port bytes)) (begins_on (first_io ios) r) in
        let y = events_on m after (later_io ios) u in
        subst (λ z. IsServed n p z y.kernel.call y.notes) (then_then l x (events_shown after (later_io ios) u))
        (others_kept (IsServed n p) (served_kept m n p serves) n
        (λ k call notes q c. served_begins n p k call notes q c) after
        (later_io ios) u (and_then l x) others (serve_kept (first_io ios) r l h))
    events_kept (e ∷ before) after ios r l first others h =
        let es = before ++ (n, Sys p (Serve port bytes)) ∷ after in
        let u = with_event m e (first_io ios) r in
        let x = event_shown m e.0 e.1 (begins_on (first_io ios) r) in
        let y = events_on m es (later_io ios) u in
        subst (λ z. IsServed n p z y.kernel.call y.notes) (then_then l x (events_shown es (later_io ios) u))
        (events_kept before after (later_io ios) u (and_then l x) first.1 others
        (other_kept (IsFresh n) (fresh_kept m n) n
        (λ k call notes q c. fresh_begins n k call notes q c) e (first_io ios) r l first.0 h))

-- ---- the law

pub serves_tell_answers : EachServeTellsAnswers
serves_tell_answers m serves k blocks before after ios n p port bytes unused first others =
    (events_kept m serves n p port bytes before after ios (before_events k blocks) nothing first others
    (record {
      calls = unused;
      bytes = refl;
      number = λ x told. none_contained (Ended n (One x)) told;
      answers = refl;
      completed = refl;
      taken = refl;
    })).told

-- ---- of all calls

pub all_calls_serve : MeansServe all_calls
all_calls_serve = record {
  early = λ v images p port bytes. refl;
  asks = λ v s p t port bytes is. grind (arith, is);
  piece = λ v images s blocks p t answer io port bytes is. grind (arith, is);
}

pub all_calls_tell_answers : ServesTellAnswers all_calls
all_calls_tell_answers = serves_tell_answers all_calls all_calls_serve
