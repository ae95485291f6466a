-- What holds of a kernel after boot, and is kept through events and images, holds of each kernel of a run, with the
-- moves and the notes that led to it.
use Rattle.std.specs.Prelude.{◌≡◌, ℕ, suc, ◌≤◌, Bool, List, [], ◌∷◌, ◌++◌, Option, Some, None}
use Rattle.std.proofs.Common.{refl, subst, sym, ap, ◌∙◌}
use Rattle.std.proofs.lemmas.List.{append-nil, append_assoc}
use Rattle.script_model.specs.declared.Event.{Event}
use Rattle.script_model.specs.declared.Keys.{Keys}
use Rattle.script_model.specs.declared.Note.{Note}
use Rattle.script_model.specs.Directory.{Disk}
use Rattle.script_model.specs.World.{World, Image, Blocks}
use Rattle.script_model.specs.Events.{event}
use Rattle.script_model.specs.ImageLines.{add_image}
use Rattle.script_model.specs.Kernel.{Kernel, Run}
use Rattle.script_model.specs.Laws.{Laws}
use Rattle.script_model.specs.Meaning.{Meaning}
use Rattle.script_model.specs.Opening.{opening_kernel}
use Rattle.script_model.specs.Session.{Build, Session, Written, first_session, after_line, after_lines}
use Rattle.script_model.specs.Session.{first_io, later_io, session_after}
use Rattle.graft_laws.specs.Kernels.{IsSoundRun}
use Rattle.session_laws.specs.Lines.{line_event, event_in_shows, line_shows, lines_show}
use Rattle.session_laws.specs.Sessions.{run_of, IsRunnable}
use Rattle.session_laws.proofs.LineDoesLemmas.{LineDoes, Happened, Loaded, Began, Stayed, line_does}
use Rattle.session_laws.proofs.SessionLemmas.{StandsWith, Stands, line_stands, first_session_stands}
use Rattle.run_laws.specs.Moves.{Move, event_moves, moves_of}

-- the run in which an event begins
abbrev pub run_at : Kernel → Blocks → List Bool → Run
run_at k blocks io = record { kernel = k; blocks = blocks; notes = []; io = io }

-- What is kept of the moves so far, the notes so far, and the kernel and the blocks that they led to. Before boot
-- there is neither move nor note, and the blocks are as they were.
pub record IsKept (m : Meaning) (Before : Blocks → Type 0) (I : List Move → List Note → Kernel → Blocks → Type 0) :
    Type 0 where
  pub opens : (v : World) (blocks : Blocks) → IsSoundRun m (run_at (opening_kernel v) blocks []) → Before blocks →
      I [] [] (opening_kernel v) blocks
  pub images : (l : List Move) (notes : List Note) (k : Kernel) (blocks : Blocks) (slot : ℕ) (i : Image) →
      IsSoundRun m (run_at k blocks []) → k.images slot ≡ None → I l notes k blocks →
      I l notes (add_image slot i k) blocks
  pub events : (l : List Move) (notes : List Note) (k : Kernel) (blocks : Blocks) (number : ℕ) (e : Event)
      (io : List Bool) → ((tell : List Bool) → IsSoundRun m (run_at k blocks tell)) → I l notes k blocks →
      let u = event m k blocks number e io in
      I (l ++ event_moves m number e (run_at k blocks io)) (notes ++ u.notes) u.kernel u.blocks

module _ (b : Build) (keys : Keys) (size : ℕ) (laws : Laws b.meaning) (callable : b.callable ≤ 15) (some : 1 ≤ size)
    (high : size ≤ 4096) (Before : Blocks → Type 0) (I : List Move → List Note → Kernel → Blocks → Type 0)
    (kept : IsKept b.meaning Before I) where
  -- it holds of a session, by its kernel
  abbrev pub InSession : List Move → List Note → Blocks → Option Kernel → Type 0
  InSession l notes blocks None = (l ≡ []) × (notes ≡ []) × Before blocks
  InSession l notes blocks (Some k) = I l notes k blocks

  abbrev line_moves : Session → List ℕ → List Bool → List Move
  line_moves s text io = line_shows (event_moves b.meaning) b.words s text io

  none_moved : (s : Session) (x : Option Kernel) (io : List Bool) →
      event_in_shows (event_moves b.meaning) s x None io ≡ []
  none_moved s None io = refl
  none_moved s (Some k) io = refl

  -- a line without moves and notes
  quiet_line : (l : List Move) (notes : List Note) (s : Session) (text : List ℕ) (io : List Bool) (w : Written) →
      line_event b.words s text ≡ None → w.notes ≡ [] → InSession l notes w.session.blocks w.session.kernel →
      InSession (l ++ line_moves s text io) (notes ++ w.notes) w.session.blocks w.session.kernel
  quiet_line l notes s text io w says none h =
      subst (λ x. InSession (l ++ x) (notes ++ w.notes) w.session.blocks w.session.kernel)
      (sym (ap (λ y. event_in_shows (event_moves b.meaning) s s.kernel y io) says ∙ none_moved s s.kernel io))
      (subst (λ x. InSession x (notes ++ w.notes) w.session.blocks w.session.kernel) (sym (append-nil l))
      (subst (λ ns. InSession l (notes ++ ns) w.session.blocks w.session.kernel) (sym none)
      (subst (λ ns. InSession l ns w.session.blocks w.session.kernel) (sym (append-nil notes)) h)))

  line_kept : (l : List Move) (notes : List Note) (s : Session) (text : List ℕ) (io : List Bool) →
      Stands b keys size s → InSession l notes s.blocks s.kernel →
      let w = after_line b keys size s text io in
      InSession (l ++ line_moves s text io) (notes ++ w.notes) w.session.blocks w.session.kernel
  line_kept l notes s text io stands h = by_line (line_does b keys size s text io)
    where
      w : Written
      w = after_line b keys size s text io

      after_stands : Stands b keys size w.session
      after_stands = line_stands b keys size laws callable some high s text io stands

      -- the run of a kernel of the session is sound
      sound_at : (k : Kernel) → s.kernel ≡ Some k → (tell : List Bool) → IsSoundRun b.meaning (run_at k s.blocks tell)
      sound_at k is tell =
          let x = subst (StandsWith b keys size s) is stands in record { kernel = x.0; blocks = x.1 }

      by_line : LineDoes b s text io w →
          InSession (l ++ line_moves s text io) (notes ++ w.notes) w.session.blocks w.session.kernel
      by_line (Happened k e is says kernel blocks events told) =
          let u = event b.meaning k s.blocks (suc s.events) e io in
          let x = event_moves b.meaning (suc s.events) e (run_at k s.blocks io) in
          let before = subst (InSession l notes s.blocks) is h in
          let done = kept.events l notes k s.blocks (suc s.events) e io (sound_at k is) before in
          subst (λ y. InSession (l ++ y) (notes ++ w.notes) w.session.blocks w.session.kernel)
          (sym (ap (λ y. event_in_shows (event_moves b.meaning) s y (line_event b.words s text) io) is
          ∙ ap (λ y. event_in_shows (event_moves b.meaning) s (Some k) y io) says))
          (subst (λ ns. InSession (l ++ x) (notes ++ ns) w.session.blocks w.session.kernel) (sym told)
          (subst (λ y. InSession (l ++ x) (notes ++ u.notes) w.session.blocks y) (sym kernel)
          (subst (λ y. I (l ++ x) (notes ++ u.notes) u.kernel y) (sym blocks) done)))
      by_line (Loaded k slot i is says free kernel blocks events none) =
          let before = subst (InSession l notes s.blocks) is h in
          quiet_line l notes s text io w says none
          (subst (InSession l notes w.session.blocks) (sym kernel)
          (subst (λ y. I l notes (add_image slot i k) y) (sym blocks)
          (kept.images l notes k s.blocks slot i (sound_at k is []) free before)))
      by_line (Began v is says kernel blocks events none) =
          let before = subst (InSession l notes s.blocks) is h in
          let x = subst (StandsWith b keys size w.session) kernel after_stands in
          let opened = kept.opens v w.session.blocks (record { kernel = x.0; blocks = x.1 })
          (subst Before (sym blocks) before.2) in
          quiet_line l notes s text io w says none
          (subst (InSession l notes w.session.blocks) (sym kernel)
          (subst (λ y. I y notes (opening_kernel v) w.session.blocks) (sym before.0)
          (subst (λ y. I [] y (opening_kernel v) w.session.blocks) (sym before.1) opened)))
      by_line (Stayed says kernel blocks events none) =
          quiet_line l notes s text io w says none
          (subst (InSession l notes w.session.blocks) (sym kernel)
          (subst (λ y. InSession l notes y s.kernel) (sym blocks) h))

  lines_kept : (l : List Move) (notes : List Note) (s : Session) (texts : List (List ℕ)) (ios : List (List Bool)) →
      Stands b keys size s → InSession l notes s.blocks s.kernel →
      let u = session_after b keys size s texts ios in
      InSession (l ++ lines_show (event_moves b.meaning) b keys size s texts ios)
      (notes ++ (after_lines b keys size s texts ios).notes) u.blocks u.kernel
  lines_kept l notes s [] ios stands h =
      subst (λ x. InSession x (notes ++ []) s.blocks s.kernel) (sym (append-nil l))
      (subst (λ ns. InSession l ns s.blocks s.kernel) (sym (append-nil notes)) h)
  lines_kept l notes s (text ∷ texts) ios stands h =
      let io = first_io ios in
      let w = after_line b keys size s text io in
      let moves = line_moves s text io in
      let rest = lines_show (event_moves b.meaning) b keys size w.session texts (later_io ios) in
      let more = (after_lines b keys size w.session texts (later_io ios)).notes in
      let u = session_after b keys size w.session texts (later_io ios) in
      subst (λ x. InSession x (notes ++ (w.notes ++ more)) u.blocks u.kernel) (append_assoc l moves rest)
      (subst (λ ns. InSession ((l ++ moves) ++ rest) ns u.blocks u.kernel) (append_assoc notes w.notes more)
      (lines_kept (l ++ moves) (notes ++ w.notes) w.session texts (later_io ios)
      (line_stands b keys size laws callable some high s text io stands)
      (line_kept l notes s text io stands h)))

-- so it holds of each kernel of a run
pub runs_kept : (b : Build) (keys : Keys) (d : Disk) (texts : List (List ℕ)) (ios : List (List Bool)) (k : Kernel)
    (Before : Blocks → Type 0) (I : List Move → List Note → Kernel → Blocks → Type 0) →
    IsKept b.meaning Before I → IsRunnable b d → Before d.block → (run_of b keys d texts ios).kernel ≡ Some k →
    I (moves_of b keys d texts ios) (after_lines b keys d.size (first_session d) texts ios).notes k
    (run_of b keys d texts ios).blocks
runs_kept b keys d texts ios k Before I kept h before is =
    let u = session_after b keys d.size (first_session d) texts ios in
    subst (λ y. InSession b keys d.size h.laws h.callable h.some h.most Before I kept (moves_of b keys d texts ios)
    (after_lines b keys d.size (first_session d) texts ios).notes u.blocks y) is
    (lines_kept b keys d.size h.laws h.callable h.some h.most Before I kept [] [] (first_session d) texts ios
    (first_session_stands b keys d h) (refl, refl, before))
