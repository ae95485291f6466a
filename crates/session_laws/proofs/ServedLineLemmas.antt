-- Over the lines of a script the notes of each `serve` tell its answers.
use Rattle.std.specs.Prelude.{◌≡◌, ◌≢◌, ℕ, suc, ◌≤◌, Bool, List, [], ◌∷◌, ◌++◌, Option, Some, None}
use Rattle.std.proofs.Common.{arith, refl, sym, ap, subst, ◌∙◌}
use Rattle.std.proofs.lemmas.List.{append-nil, append_assoc}
use Rattle.script_model.specs.declared.Event.{Event}
use Rattle.script_model.specs.declared.Event.TheVariants.{Sys}
use Rattle.script_model.specs.declared.Keys.{Keys}
use Rattle.script_model.specs.declared.Note.{Note}
use Rattle.script_model.specs.declared.Note.TheVariants.{Ended}
use Rattle.script_model.specs.declared.Reply.TheVariants.{One}
use Rattle.script_model.specs.declared.SysCall.TheVariants.{Serve}
use Rattle.script_model.specs.Objects.{at}
use Rattle.script_model.specs.Kernel.{Call, Kernel, Run}
use Rattle.script_model.specs.Events.{event}
use Rattle.script_model.specs.Session.{Build, Session, Written, first_session, after_line, after_lines}
use Rattle.script_model.specs.Session.{first_io, later_io, session_after, whole}
use Rattle.session_laws.specs.Lines.{line_event, event_in_shows, lines_show}
use Rattle.session_laws.specs.Shown.{event_on_shows}
use Rattle.session_laws.specs.Sent.{step_answers, step_completed, step_taken}
use Rattle.session_laws.specs.Served.{MeansServe, EachLineTellsAnswers, RunsTellAnswers}
use Rattle.session_laws.proofs.LineDoesLemmas.{LineDoes, Happened, Loaded, Began, Stayed, line_does}
use Rattle.session_laws.proofs.LineDoesLemmas.{line_rises, lines_rise}
use Rattle.session_laws.proofs.ShownLemmas.{Shown, nothing, and_then, then_nothing, then_then, new_call, event_shown}
use Rattle.session_laws.proofs.ServeKeptLemmas.{IsKept}
use Rattle.session_laws.proofs.ShownEventLemmas.{sys_kept, event_kept}
use Rattle.session_laws.proofs.ServeOtherLemmas.{none_contained}
use Rattle.session_laws.proofs.ServeFreshLemmas.{IsFresh, fresh_begins, fresh_kept}
use Rattle.session_laws.proofs.ServingLemmas.{IsServed}
use Rattle.session_laws.proofs.SentLemmas.{served_begins, served_kept, fresh_served, stage_is, serve_begins}
use Rattle.session_laws.proofs.SentLemmas.{behind, behind_kept, all_calls_serve}

-- no call is in flight
abbrev no_calls : ℕ → Option Call
no_calls p = None

-- the calls of a kernel, none where there is no kernel
abbrev calls_in : Option Kernel → ℕ → Option Call
calls_in None = no_calls
calls_in (Some k) = k.call

module _ (b : Build) (keys : Keys) (size : ℕ) (serves : MeansServe b.meaning) where
  -- what an event of a session shows
  abbrev in_shown : Session → Option Kernel → Option Event → List Bool → Shown
  in_shown s k e io =
      record {
        answers = event_in_shows (event_on_shows b.meaning (step_answers b.meaning)) s k e io;
        completed = event_in_shows (event_on_shows b.meaning (step_completed b.meaning)) s k e io;
        taken = event_in_shows (event_on_shows b.meaning step_taken) s k e io;
      }

  abbrev line_shown : Session → List ℕ → List Bool → Shown
  line_shown s text io = in_shown s s.kernel (line_event b.words s text) io

  abbrev lines_shown : Session → List (List ℕ) → List (List Bool) → Shown
  lines_shown s texts ios =
      record {
        answers = lines_show (event_on_shows b.meaning (step_answers b.meaning)) b keys size s texts ios;
        completed = lines_show (event_on_shows b.meaning (step_completed b.meaning)) b keys size s texts ios;
        taken = lines_show (event_on_shows b.meaning step_taken) b keys size s texts ios;
      }

  -- a line that is run as no event shows nothing
  none_shown : (s : Session) (x : Option Kernel) (io : List Bool) → in_shown s x None io ≡ nothing
  none_shown s None io = refl
  none_shown s (Some k) io = refl

  -- the run that an event of a session begins on
  abbrev begins_in : Session → Kernel → List Bool → Run
  begins_in s k io = record { kernel = k; blocks = s.blocks; notes = []; io = io }

  -- what a line shows by what it does
  some_shown : (s : Session) (text : List ℕ) (io : List Bool) (k : Kernel) (e : Event) → s.kernel ≡ Some k →
      line_event b.words s text ≡ Some e →
      line_shown s text io ≡ event_shown b.meaning (suc s.events) e (begins_in s k io)
  some_shown s text io k e is says =
      ap (λ x. in_shown s x (line_event b.words s text) io) is ∙ ap (λ y. in_shown s (Some k) y io) says

  no_event_shown : (s : Session) (text : List ℕ) (io : List Bool) → line_event b.words s text ≡ None →
      line_shown s text io ≡ nothing
  no_event_shown s text io says = ap (λ y. in_shown s s.kernel y io) says ∙ none_shown s s.kernel io

  module _ (Q : Shown → (ℕ → Option Call) → List Note → Type 0) (kept : IsKept b.meaning Q)
      (empties : (l : Shown) (call : ℕ → Option Call) (notes : List Note) → Q l call notes → Q l no_calls notes) where
    -- it holds of a session behind these notes
    abbrev At : Shown → List Note → Session → Type 0
    At l notes s = Q l (calls_in s.kernel) notes

    -- a line that shows nothing and writes no note
    quiet_line : (s : Session) (text : List ℕ) (io : List Bool) (l : Shown) (notes : List Note) (w : Written) →
        line_event b.words s text ≡ None → w.notes ≡ [] → At l notes w.session →
        At (and_then l (line_shown s text io)) (notes ++ w.notes) w.session
    quiet_line s text io l notes w says none h =
        subst (λ x. At (and_then l x) (notes ++ w.notes) w.session) (sym (no_event_shown s text io says))
        (subst (λ x. At x (notes ++ w.notes) w.session) (sym (then_nothing l))
        (subst (λ ns. At l (notes ++ ns) w.session) (sym none)
        (subst (λ ns. At l ns w.session) (sym (append-nil notes)) h)))

    -- a line by its event, where that keeps it
    any_line : (s : Session) (text : List ℕ) (io : List Bool) (l : Shown) (notes : List Note) → At l notes s →
        ((k : Kernel) (e : Event) → s.kernel ≡ Some k → line_event b.words s text ≡ Some e →
        (after_line b keys size s text io).session.events ≡ suc s.events → behind notes Q l k.call [] →
        behind notes Q (and_then l (event_shown b.meaning (suc s.events) e (begins_in s k io)))
        (event b.meaning k s.blocks (suc s.events) e io).kernel.call
        (event b.meaning k s.blocks (suc s.events) e io).notes) →
        At (and_then l (line_shown s text io)) (notes ++ (after_line b keys size s text io).notes)
        (after_line b keys size s text io).session
    any_line s text io l notes h happens = by_line (line_does b keys size s text io)
      where
        w : Written
        w = after_line b keys size s text io

        by_line : LineDoes b s text io w → At (and_then l (line_shown s text io)) (notes ++ w.notes) w.session
        by_line (Happened k e is says kernel blocks events told) =
            let u = event b.meaning k s.blocks (suc s.events) e io in
            let x = event_shown b.meaning (suc s.events) e (begins_in s k io) in
            let first = subst (λ ns. Q l k.call ns) (sym (append-nil notes))
            (subst (λ y. Q l (calls_in y) notes) is h) in
            let done = happens k e is says events first in
            subst (λ x. At (and_then l x) (notes ++ w.notes) w.session) (sym (some_shown s text io k e is says))
            (subst (λ ns. Q (and_then l x) (calls_in w.session.kernel) (notes ++ ns)) (sym told)
            (subst (λ y. Q (and_then l x) (calls_in y) (notes ++ u.notes)) (sym kernel) done))
        by_line (Loaded k slot i is says free kernel blocks events none) =
            quiet_line s text io l notes w says none
            (subst (λ y. Q l (calls_in y) notes) (sym kernel) (subst (λ y. Q l (calls_in y) notes) is h))
        by_line (Began v is says kernel blocks events none) =
            quiet_line s text io l notes w says none
            (subst (λ y. Q l (calls_in y) notes) (sym kernel) (empties l (calls_in s.kernel) notes h))
        by_line (Stayed says kernel blocks events none) =
            quiet_line s text io l notes w says none (subst (λ y. Q l (calls_in y) notes) (sym kernel) h)

    -- lines whose events have other numbers than n
    module _ (n : ℕ)
        (others : (l : Shown) (call : ℕ → Option Call) (notes : List Note) (p : ℕ) (c : Call) →
        c.number ≢ n → Q l call notes → Q l (at p (Some c) call) notes) where
      other_line : (s : Session) (text : List ℕ) (io : List Bool) (l : Shown) (notes : List Note) →
          ((after_line b keys size s text io).session.events ≡ suc s.events → suc s.events ≢ n) → At l notes s →
          At (and_then l (line_shown s text io)) (notes ++ (after_line b keys size s text io).notes)
          (after_line b keys size s text io).session
      other_line s text io l notes apart h =
          any_line s text io l notes h
          (λ k e is says events first. event_kept b.meaning serves (behind notes Q) (behind_kept b.meaning Q notes kept)
          (suc s.events) e (begins_in s k io) l first
          (λ p t. others l k.call (notes ++ []) p (new_call (suc s.events) t) (apart events) first))

      later_lines : (s : Session) (texts : List (List ℕ)) (ios : List (List Bool)) (l : Shown) (notes : List Note) →
          n ≤ s.events → At l notes s →
          At (and_then l (lines_shown s texts ios)) (notes ++ (after_lines b keys size s texts ios).notes)
          (session_after b keys size s texts ios)
      later_lines s [] ios l notes late h =
          subst (λ x. At x (notes ++ []) s) (sym (then_nothing l))
          (subst (λ ns. At l ns s) (sym (append-nil notes)) h)
      later_lines s (text ∷ texts) ios l notes late h =
          let io = first_io ios in
          let w = after_line b keys size s text io in
          let rest = lines_shown w.session texts (later_io ios) in
          let more = (after_lines b keys size w.session texts (later_io ios)).notes in
          let u = session_after b keys size w.session texts (later_io ios) in
          subst (λ x. At x (notes ++ (w.notes ++ more)) u) (then_then l (line_shown s text io) rest)
          (subst (λ ns. At (and_then (and_then l (line_shown s text io)) rest) ns u)
          (append_assoc notes w.notes more)
          (later_lines w.session texts (later_io ios) (and_then l (line_shown s text io)) (notes ++ w.notes)
          (no_less n s.events w.session.events late (line_rises b keys size s text io))
          (other_line s text io l notes (λ e same. too_late s.events late same) h)))
        where
          no_less : (a b c : ℕ) → a ≤ b → b ≤ c → a ≤ c
          no_less a b c h k = omega arith

          too_late : (e : ℕ) → n ≤ e → suc e ≡ n → ⊥
          too_late e h k = omega arith

  -- ---- a `serve` among them

  module _ (p port : ℕ) (bytes : List ℕ) where
    -- no call leaves what is kept
    fresh_empties : (n : ℕ) (l : Shown) (call : ℕ → Option Call) (notes : List Note) → IsFresh n l call notes →
        IsFresh n l no_calls notes
    fresh_empties n l call notes h =
        record {
          calls = λ q c e. absurd (no_call c e);
          bytes = h.bytes;
          number = h.number;
          answers = h.answers;
          completed = h.completed;
          taken = h.taken;
        }
      where
        no_call : (c : Call) → None ≡ Some c → ⊥
        no_call c e = cc

    served_empties : (n : ℕ) (l : Shown) (call : ℕ → Option Call) (notes : List Note) → IsServed n p l call notes →
        IsServed n p l no_calls notes
    served_empties n l call notes h = record { told = h.told; flight = λ q c e same. absurd (no_call c e) }
      where
        no_call : (c : Call) → None ≡ Some c → ⊥
        no_call c e = cc

    -- the line of the `serve` itself
    serve_line : (s : Session) (text : List ℕ) (io : List Bool) (l : Shown) (notes : List Note) →
        line_event b.words s text ≡ Some (Sys p (Serve port bytes)) →
        IsFresh (suc s.events) l (calls_in s.kernel) notes →
        IsServed (suc s.events) p (and_then l (line_shown s text io))
        (calls_in (after_line b keys size s text io).session.kernel)
        (notes ++ (after_line b keys size s text io).notes)
    serve_line s text io l notes says h =
        let n = suc s.events in
        any_line (IsServed n p) (served_kept b.meaning n p serves) (served_empties n) s text io l notes
        (fresh_served n p l (calls_in s.kernel) notes h)
        (λ k e is said events first. subst
        (λ (y : Event). behind notes (IsServed n p) (and_then l (event_shown b.meaning n y (begins_in s k io)))
        (event b.meaning k s.blocks n y io).kernel.call (event b.meaning k s.blocks n y io).notes)
        (some_event (Sys p (Serve port bytes)) e (sym says ∙ said))
        (sys_kept b.meaning serves (behind notes (IsServed n p))
        (behind_kept b.meaning (IsServed n p) notes (served_kept b.meaning n p serves)) n p (Serve port bytes)
        (begins_in s k io) l first
        (λ t early. serve_begins n p port bytes l k.call (notes ++ []) t
        (stage_is b.meaning serves k.world k.images p port bytes t early)
        (subst (λ ns. IsFresh n l k.call ns) (sym (append-nil notes))
        (subst (λ y. IsFresh n l (calls_in y) notes) is h)))))
      where
        some_event : (e f : Event) → Some e ≡ Some f → e ≡ f
        some_event e f h = cc

    -- it has the next number
    serve_counts : (s : Session) (text : List ℕ) (io : List Bool) (e : Event) → line_event b.words s text ≡ Some e →
        (after_line b keys size s text io).session.events ≡ suc s.events
    serve_counts s text io e says = by_line (line_does b keys size s text io)
      where
        no_event : None ≡ Some e → ⊥
        no_event h = cc

        by_line : LineDoes b s text io (after_line b keys size s text io) →
            (after_line b keys size s text io).session.events ≡ suc s.events
        by_line (Happened k f is said kernel blocks events told) = events
        by_line (Loaded k slot i is said free kernel blocks events none) = events
        by_line (Began v is said kernel blocks events none) = absurd (no_event (sym said ∙ says))
        by_line (Stayed said kernel blocks events none) = absurd (no_event (sym said ∙ says))

    with_serve : (n : ℕ) (before after : List (List ℕ)) (text : List ℕ) (ios : List (List Bool)) (s : Session)
        (l : Shown) (notes : List Note) → n ≡ suc (session_after b keys size s before ios).events →
        line_event b.words (session_after b keys size s before ios) text ≡ Some (Sys p (Serve port bytes)) →
        IsFresh n l (calls_in s.kernel) notes →
        IsServed n p (and_then l (lines_shown s (before ++ text ∷ after) ios))
        (calls_in (session_after b keys size s (before ++ text ∷ after) ios).kernel)
        (notes ++ (after_lines b keys size s (before ++ text ∷ after) ios).notes)
    with_serve n [] after text ios s l notes same says h =
        let io = first_io ios in
        let w = after_line b keys size s text io in
        let rest = lines_shown w.session after (later_io ios) in
        let more = (after_lines b keys size w.session after (later_io ios)).notes in
        let u = session_after b keys size w.session after (later_io ios) in
        let served = serve_line s text io l notes says
        (subst (λ i. IsFresh i l (calls_in s.kernel) notes) same h) in
        subst (λ x. IsServed n p x (calls_in u.kernel) (notes ++ (w.notes ++ more)))
        (then_then l (line_shown s text io) rest)
        (subst (λ ns. IsServed n p (and_then (and_then l (line_shown s text io)) rest) (calls_in u.kernel) ns)
        (append_assoc notes w.notes more)
        (later_lines (IsServed n p) (served_kept b.meaning n p serves) (served_empties n) n
        (λ k call notes q c. served_begins n p k call notes q c) w.session after (later_io ios)
        (and_then l (line_shown s text io)) (notes ++ w.notes)
        (at_most n (suc s.events) w.session.events same
        (serve_counts s text io (Sys p (Serve port bytes)) says))
        (subst (λ i. IsServed i p (and_then l (line_shown s text io)) (calls_in w.session.kernel) (notes ++ w.notes))
        (sym same) served)))
      where
        at_most : (n a e : ℕ) → n ≡ a → e ≡ a → n ≤ e
        at_most n a e h k = omega arith
    with_serve n (x ∷ before) after text ios s l notes same says h =
        let io = first_io ios in
        let w = after_line b keys size s x io in
        let texts = before ++ text ∷ after in
        let rest = lines_shown w.session texts (later_io ios) in
        let more = (after_lines b keys size w.session texts (later_io ios)).notes in
        let u = session_after b keys size w.session texts (later_io ios) in
        let e = session_after b keys size w.session before (later_io ios) in
        subst (λ y. IsServed n p y (calls_in u.kernel) (notes ++ (w.notes ++ more)))
        (then_then l (line_shown s x io) rest)
        (subst (λ ns. IsServed n p (and_then (and_then l (line_shown s x io)) rest) (calls_in u.kernel) ns)
        (append_assoc notes w.notes more)
        (with_serve n before after text (later_io ios) w.session (and_then l (line_shown s x io)) (notes ++ w.notes)
        same says
        (other_line (IsFresh n) (fresh_kept b.meaning n) (fresh_empties n) n
        (λ k call notes q c. fresh_begins n k call notes q c) s x io l notes
        (λ events own. too_early s.events w.session.events e.events
        (lines_rise b keys size w.session before (later_io ios)) events (own ∙ same) own) h)))
      where
        too_early : (a i e : ℕ) → i ≤ e → i ≡ suc a → suc a ≡ suc e → suc a ≡ n → ⊥
        too_early a i e h k same own = omega arith

-- ---- the law

pub lines_tell_answers : EachLineTellsAnswers
lines_tell_answers b serves keys d before after text ios p port bytes says =
    (with_serve b keys d.size serves p port bytes
    (suc (session_after b keys d.size (first_session d) before ios).events) before after text ios
    (first_session d) nothing [] refl says
    (record {
      calls = λ q c e. absurd (no_call c e);
      bytes = refl;
      number = λ x told. none_contained
          (Ended (suc (session_after b keys d.size (first_session d) before ios).events) (One x)) told;
      answers = refl;
      completed = refl;
      taken = refl;
    })).told
  where
    no_call : (c : Call) → None ≡ Some c → ⊥
    no_call c e = cc

pub runs_tell_answers : RunsTellAnswers
runs_tell_answers = lines_tell_answers whole all_calls_serve
