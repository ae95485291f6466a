-- One step of a call; and steps of the first call in the order that nothing blocks, until every
-- call in the order is blocked.
use Rattle.std.specs.Prelude.{ℕ, zero, suc, true, false, List, [], ◌∷◌, ◌++◌, Option, Some, None, map}
use Rattle.kernel_data.specs.declared.Point.{Point}
use Rattle.kernel_model.specs.declared.Micro.{Micro}
use Rattle.kernel_data.specs.declared.Note.TheVariants.{Dropped}
use Rattle.kernel_data.specs.Objects.{Objects, GraftValue}
use Rattle.kernel_model.specs.Meaning.{Meaning, Answer}
use Rattle.kernel_model.specs.Locks.{LockTable}
use Rattle.kernel_model.specs.Levels.{Outcome, answer_of}
use Rattle.kernel_model.specs.GraftStep.{micro}
use Rattle.kernel_model.specs.History.{Mark, Stepped, Trace, fallen}
use Rattle.kernel_model.specs.Kernel.{Call, Blocker, Waiter, Kernel, Run, finish, noted, requeue, with_marks}
use Rattle.kernel_model.specs.Blocking.{blocker_in, holds, same_blocker, trace_of}

-- the objects after level 0 is lost: of what it did only accounts and grafts stay
abbrev pub lost_objects : Objects → Objects → Objects
lost_objects w s = record { accounts = w.accounts; things = s.things }

-- An entry whose blocker is the kept one keeps its count; any other entry keeps the new blocker
-- with count 0.
abbrev pub entry_with : Waiter → Option Blocker → Waiter
entry_with e b = elim (same_blocker e.blocker b) [
  | true ↦ e
  | false ↦ record { process = e.process; blocker = b; count = 0 }
]

module _ (m : Meaning) where
  -- ---- one step

  -- the piece of a call on a state, with an answer or by default
  abbrev pub finish_on : ℕ → Call → Objects → Option Answer → Run → Run
  finish_on p c s answer r =
      finish p c (m.piece r.kernel.world r.kernel.images s r.blocks p c.stage answer r.io) r

  -- a piece: if a graft is installed at its point, a history begins; otherwise the default finishes
  -- the piece
  abbrev pub piece_at : ℕ → Call → Option GraftValue → Run → Run
  piece_at p c None r = finish_on p c r.kernel.objects None r
  piece_at p c (Some g) r = with_marks p c [] r

  -- the same by the point that the piece asks, if it asks one
  abbrev pub piece_step : ℕ → Call → Option Point → Run → Run
  piece_step p c None r = piece_at p c None r
  piece_step p c (Some a) r = piece_at p c (r.kernel.objects.accounts.graft a.installer a.point) r

  -- after the drop of a level: for level 0 the default finishes the piece; for another level the
  -- history goes back to the ask that began it
  abbrev pub after_drop : ℕ → Call → Trace → List Mark → Outcome → (d : ℕ) → Run → Run
  after_drop p c t ks o zero r = finish_on p c (lost_objects o.config.now r.kernel.objects) None r
  after_drop p c t ks o (suc d) r = with_marks p c (fallen t ks o.effects (suc d)) r

  -- a run after an instruction, or the drop of a level, of a call whose history leads to this
  -- trace; an instruction that runs alone is never blocked
  abbrev pub after_outcome : ℕ → Call → Trace → List Mark → Outcome → Micro → Run → Run
  after_outcome p c t ks o Micro.Went r = with_marks p c (ks ++ Stepped ∷ []) r
  after_outcome p c t ks o (Micro.Blocked object holder by_user) r = r
  after_outcome p c t ks o (Micro.Completed answer) r =
      finish_on p c o.config.now (Some (answer_of answer t.config.levels)) r
  after_outcome p c t ks o (Micro.Dropped d q pt cause) r =
      after_drop p c t ks o d (noted (Dropped c.number q pt cause) r)

  -- the same, by what the outcome says
  abbrev pub outcome_step : ℕ → Call → Trace → List Mark → Outcome → Run → Run
  outcome_step p c t ks o r = after_outcome p c t ks o o.said r

  -- one instruction of the innermost level
  abbrev pub graft_step : ℕ → Call → List Mark → Option Trace → Run → Run
  graft_step p c ks None r = r
  graft_step p c ks (Some t) r =
      outcome_step p c t ks (micro r.kernel.world r.kernel.images p t.config) r

  -- a piece, or an instruction if the call has a level
  abbrev pub marked_step : ℕ → Call → Option (List Mark) → Run → Run
  marked_step p c None r = piece_step p c (m.asks r.kernel.world r.kernel.objects p c.stage) r
  marked_step p c (Some ks) r = graft_step p c ks (trace_of m r.kernel p (Some c)) r

  -- one step of a call, if there is one
  abbrev pub call_step : ℕ → Option Call → Run → Run
  call_step p None r = r
  call_step p (Some c) r = marked_step p c c.marks r

  -- One step of the call of p is a piece, the beginning of a graft call, or an instruction. If the
  -- instruction ends level 0 with an answer, this same step commits its changes and finishes the
  -- piece with the answer; if level 0 is dropped, only accounts and grafts stay and the default
  -- finishes the piece. After the step the call is in the order if and only if its next step is a
  -- piece.
  abbrev pub step : ℕ → Run → Run
  step p r = requeue p (call_step p (r.kernel.call p) r)

  -- ---- steps until all are blocked

  -- the first of these entries that nothing blocks; the table says what calls hold
  abbrev pub first_free_in : Kernel → LockTable → List Waiter → Option ℕ
  first_free_in k locks [] = None
  first_free_in k locks (e ∷ es) =
      elim (blocker_in m k locks e.process) [
        | None ↦ Some e.process
        | Some b ↦ first_free_in k locks es
      ]

  -- the first in the order that nothing blocks
  abbrev pub first_free : Kernel → List Waiter → Option ℕ
  first_free k [] = None
  first_free k (e ∷ es) = first_free_in k (holds m k) (e ∷ es)

  -- each entry with its blocker; the table says what calls hold
  abbrev pub order_in : Kernel → LockTable → List Waiter → List Waiter
  order_in k locks es = map (λ (e : Waiter). entry_with e (blocker_in m k locks e.process)) es

  -- the order with its blockers
  abbrev pub rested_order : Kernel → List Waiter → List Waiter
  rested_order k [] = []
  rested_order k (e ∷ es) = order_in k (holds m k) (e ∷ es)

  -- the kernel rests: each entry keeps its blocker
  abbrev pub rested : Run → Run
  rested r = record r
      { kernel = record (r.kernel) { order = rested_order r.kernel r.kernel.order } }

  -- Settling takes at most this many steps, each of the first call in the order that nothing
  -- blocks. Then each entry keeps its blocker: with its count if it is the same blocker as before,
  -- otherwise with count 0.
  abbrev pub settle : ℕ → Run → Run
  settle zero r = rested r
  settle (suc n) r =
      elim (first_free r.kernel r.kernel.order) [ None ↦ rested r | Some p ↦ settle n (step p r) ]

  -- all steps that can be taken: 256 are always enough
  abbrev pub settled : Run → Run
  settled r = settle 256 r
