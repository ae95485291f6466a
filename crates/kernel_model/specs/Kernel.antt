-- The whole state of the abstract kernel: the committed state, the call in flight of each process,
-- and the order of waiting. It has no lock table, no registers and no undo log: those follow from
-- the histories.
use Rattle.std.specs.Prelude.{ℕ, Bool, true, false, cond, not, ◌==◌, List, [], ◌∷◌, ◌++◌, Option}
use Rattle.std.specs.Prelude.{Some, None, filter, drop}
use Rattle.kernel_data.specs.declared.Object.{Object}
use Rattle.kernel_data.specs.declared.Note.{Note}
use Rattle.kernel_data.specs.declared.Note.TheVariants.{Ended, Refused, Gave}
use Rattle.kernel_data.specs.Objects.{Objects, at}
use Rattle.kernel_data.specs.World.{World, ImageTable, Blocks}
use Rattle.kernel_model.specs.Meaning.{Stage, Piece, After, Continues, EndsWith, Fails}
use Rattle.kernel_model.specs.History.{Mark}

-- ---- the state

-- a call in flight
pub record Call : Type 0 where
  -- the number of the event that began it
  pub number : ℕ
  pub stage : Stage
  -- its history, if and only if it has a level
  pub marks : Option (List Mark)

-- what blocks a call
pub record Blocker : Type 0 where
  pub object : Object
  pub holder : ℕ
  -- the holder's call, or none for a user lock
  pub call : Option ℕ

-- an entry of the order of waiting: the kept blocker, and for how many ticks
pub record Waiter : Type 0 where
  pub process : ℕ
  pub blocker : Option Blocker
  pub count : ℕ

-- an abstract kernel
pub record Kernel : Type 0 where
  pub world : World
  pub images : ImageTable
  -- what is committed
  pub objects : Objects
  pub clock : ℕ
  -- the call of each process that has one in flight
  pub call : ℕ → Option Call
  -- the order of waiting
  pub order : List Waiter

-- a running event: the kernel, the disk's blocks, the notes so far, and what the next disk calls
-- will do
pub record Run : Type 0 where
  pub kernel : Kernel
  pub blocks : Blocks
  pub notes : List Note
  pub io : List Bool

-- ---- changes

-- a run in which a process has this call
abbrev pub with_call : ℕ → Option Call → Run → Run
with_call p c r = record r { kernel = record (r.kernel) { call = at p c r.kernel.call } }

-- a run with one more note
abbrev pub noted : Note → Run → Run
noted n r = record r { notes = r.notes ++ n ∷ [] }

-- the history of a call becomes this one
abbrev pub with_marks : ℕ → Call → List Mark → Run → Run
with_marks p c ks r = with_call p (Some (record c { marks = Some ks })) r

-- the next step of a call is a piece
abbrev pub is_at_piece : Option Call → Bool
is_at_piece None = false
is_at_piece (Some c) = elim c.marks [ None ↦ true | Some ks ↦ false ]

-- a call has a level
abbrev pub has_level : Option Call → Bool
has_level None = false
has_level (Some c) = elim c.marks [ None ↦ false | Some ks ↦ true ]

-- ---- the end of a piece

-- the note of bytes that a piece gives
abbrev pub gave_note : ℕ → Option (List ℕ) → List Note
gave_note n None = []
gave_note n (Some bytes) = Gave n bytes ∷ []

-- the note of a call that ended
abbrev pub after_note : ℕ → After → List Note
after_note n (Continues t) = []
after_note n (EndsWith reply) = Ended n reply ∷ []
after_note n (Fails refusal) = Refused n refusal ∷ []

-- a call after its piece
abbrev pub call_after : Call → After → Option Call
call_after c (Continues t) = Some (record { number = c.number; stage = t; marks = None })
call_after c (EndsWith reply) = None
call_after c (Fails refusal) = None

-- Finishing a piece of p's call commits it: its objects and blocks become the kernel's, its notes
-- are written, and the call goes on at its next stage or ends.
abbrev pub finish : ℕ → Call → Piece → Run → Run
finish p c q r =
    record {
      kernel = record (r.kernel) {
        objects = q.objects;
        call = at p (call_after c q.after) r.kernel.call;
      };
      blocks = q.blocks;
      notes = r.notes ++ gave_note c.number q.gave ++ after_note c.number q.after;
      io = drop q.calls r.io;
    }

-- ---- the order of waiting

-- an entry that has just joined: no kept blocker, and count 0
abbrev pub new_entry : ℕ → Waiter
new_entry p = record { process = p; blocker = None; count = 0 }

-- the order without a process's entry
abbrev pub less_entry : ℕ → List Waiter → List Waiter
less_entry p es = filter (λ (e : Waiter). not (e.process == p)) es

-- the call of p joins the end of the order
abbrev pub joins : ℕ → Run → Run
joins p r = record r { kernel = record (r.kernel) { order = r.kernel.order ++ new_entry p ∷ [] } }

-- after a step of p, p is in the order if and only if its next step is a piece, and then at the end
abbrev pub requeue : ℕ → Run → Run
requeue p r =
    record r {
      kernel = record (r.kernel) {
        order = less_entry p r.kernel.order
            ++ cond (is_at_piece (r.kernel.call p)) (new_entry p ∷ []) [];
      };
    }
