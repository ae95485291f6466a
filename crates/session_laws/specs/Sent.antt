-- The answers of graft calls, and what a call's notes say that it gave. The answers are told from
-- the steps themselves: from the replayed history and its next instruction. No note is looked at.
use Rattle.std.specs.Prelude.{ℕ, zero, ◌==◌, cond, Bool, List, [], ◌∷◌, Option, Some, None, map, filter}
use Rattle.std.specs.List.{flat_map}
use Rattle.script_model.specs.declared.Event.{Event}
use Rattle.script_model.specs.declared.Micro.{Micro}
use Rattle.script_model.specs.declared.Point.{Point}
use Rattle.script_model.specs.declared.SysCall.{SysCall}
use Rattle.script_model.specs.declared.SysCall.TheVariants.{Serve}
use Rattle.script_model.specs.declared.Note.{Note}
use Rattle.script_model.specs.declared.Note.TheVariants.{Gave}
use Rattle.script_model.specs.World.{Blocks}
use Rattle.script_model.specs.Handlers.{handlers_at}
use Rattle.script_model.specs.Meaning.{Meaning, Answer}
use Rattle.script_model.specs.Levels.{answer_of}
use Rattle.script_model.specs.GraftStep.{micro}
use Rattle.script_model.specs.History.{Mark, Trace}
use Rattle.script_model.specs.Kernel.{Call, Kernel, Run}
use Rattle.script_model.specs.Blocking.{trace_of}
use Rattle.script_model.specs.EventPoints.{point_of_port}
use Rattle.session_laws.specs.Shown.{run_shows}

-- ---- by number

-- the values that stand with this number, in order
abbrev pub those : {A : Type 0} → ℕ → List (ℕ × A) → List A
those n xs = map (λ x. x.1) (filter (λ x. x.0 == n) xs)

-- each value with this number
abbrev pub numbered : {A : Type 0} → ℕ → List A → List (ℕ × A)
numbered n xs = map (λ x. (n, x)) xs

-- the bytes of the answers with this number, in order
abbrev pub sent : ℕ → List (ℕ × Answer) → List (List ℕ)
sent n answers = map (λ (a : Answer). a.body) (those n answers)

-- the bytes that a note says the call of this number gave
abbrev pub given_by : ℕ → Note → List (List ℕ)
given_by n (Gave number bytes) = cond (number == n) (bytes ∷ []) []
given_by n note = []

-- the bytes that the call of this number gave, as the notes say in their order
abbrev pub given : ℕ → List Note → List (List ℕ)
given n notes = flat_map (given_by n) notes

-- ---- the handlers that a `serve` takes

-- the handlers that the first piece of a `serve` takes into the call: those of its port
abbrev pub taken_by : SysCall → (piece : ℕ) → List (ℕ × ℕ) → List (ℕ × ℕ)
taken_by (Serve port bytes) zero handlers = handlers_at (point_of_port port) handlers
taken_by c n handlers = []

-- a step that is a piece takes them, each with the number of the call
abbrev pub piece_taken : Call → Option (List Mark) → List (ℕ × ℕ) → List (ℕ × (ℕ × ℕ))
piece_taken c None handlers = numbered c.number (taken_by c.stage.call c.stage.piece handlers)
piece_taken c (Some ks) handlers = []

-- the handlers that the next step of a call takes
abbrev pub call_taken : Option Call → Run → List (ℕ × (ℕ × ℕ))
call_taken None r = []
call_taken (Some c) r = piece_taken c c.marks r.kernel.objects.things.handlers

-- the handlers that the next step of a process takes
abbrev pub step_taken : ℕ → Run → List (ℕ × (ℕ × ℕ))
step_taken p r = call_taken (r.kernel.call p) r

-- ---- the answers of graft calls

-- the answer of a graft call that an instruction on this trace completes, if it does, with its
-- call's number
abbrev pub completed_by : Call → Trace → Micro → List (ℕ × Answer)
completed_by c t (Micro.Completed registers) =
    (c.number, answer_of registers t.config.levels) ∷ []
completed_by c t said = []

-- the handler whose point was asked, once for each answer, with the same number
abbrev pub with_handler : Option Point → List (ℕ × Answer) → List (ℕ × (ℕ × ℕ))
with_handler None answers = []
with_handler (Some a) answers = map (λ (x : ℕ × Answer). (x.0, (a.installer, a.point))) answers

module _ (m : Meaning) where
  -- the answer that the next instruction of a call gives whose history leads to this trace
  abbrev pub graft_answers : ℕ → Call → Option Trace → Run → List (ℕ × Answer)
  graft_answers p c None r = []
  graft_answers p c (Some t) r =
      completed_by c t (micro r.kernel.world r.kernel.images p t.config).said

  -- the answer that the next step of a call gives: a piece completes no graft call
  abbrev pub marked_answers : ℕ → Call → Option (List Mark) → Run → List (ℕ × Answer)
  marked_answers p c None r = []
  marked_answers p c (Some ks) r = graft_answers p c (trace_of m r.kernel p (Some c)) r

  -- the same, if there is a call
  abbrev pub call_answers : ℕ → Option Call → Run → List (ℕ × Answer)
  call_answers p None r = []
  call_answers p (Some c) r = marked_answers p c c.marks r

  -- the answer of the graft call that the next step of a process completes, if it does, with the
  -- number of its call
  abbrev pub step_answers : ℕ → Run → List (ℕ × Answer)
  step_answers p r = call_answers p (r.kernel.call p) r

  -- the point that the piece of a call asks
  abbrev pub asked_by : ℕ → Option Call → Run → Option Point
  asked_by p None r = None
  asked_by p (Some c) r = m.asks r.kernel.world r.kernel.objects p c.stage

  -- the handler whose graft call the next step of a process completes
  abbrev pub step_completed : ℕ → Run → List (ℕ × (ℕ × ℕ))
  step_completed p r = with_handler (asked_by p (r.kernel.call p) r) (step_answers p r)

  -- the answers of a run of numbered events
  abbrev pub run_answers : Kernel → Blocks → List (ℕ × Event) → List (List Bool) →
      List (ℕ × Answer)
  run_answers = run_shows m step_answers

  -- the handlers whose graft calls a run of numbered events completes, each with its call's number
  abbrev pub run_completed : Kernel → Blocks → List (ℕ × Event) → List (List Bool) →
      List (ℕ × (ℕ × ℕ))
  run_completed = run_shows m step_completed

  -- the handlers that the first pieces of a run take, each with its call's number
  abbrev pub run_taken : Kernel → Blocks → List (ℕ × Event) → List (List Bool) →
      List (ℕ × (ℕ × ℕ))
  run_taken = run_shows m step_taken
