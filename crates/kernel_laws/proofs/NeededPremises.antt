-- Premises of the laws that can't be left out: for each the smallest example in which the law would be false.
use Rattle.std.specs.Prelude.{◌≡◌, ℕ, suc, ◌==◌, false, true, cond, List, [], ◌∷◌, Option, Some, None}
use Rattle.std.proofs.Common.{arith, refl, sym, ap, ◌∙◌}
use Rattle.kernel_model.specs.declared.Object.TheVariants.{Lock}
use Rattle.kernel_model.specs.declared.Kind.TheVariants.{Steps}
use Rattle.kernel_model.specs.declared.Inverse.{Inverse}
use Rattle.kernel_model.specs.declared.Event.{Event}
use Rattle.kernel_model.specs.declared.Event.TheVariants.{Tick, Sys}
use Rattle.kernel_model.specs.declared.SysCall.TheVariants.{TakeLock, Yield, Sync}
use Rattle.kernel_model.specs.declared.Note.{Note}
use Rattle.kernel_model.specs.declared.Note.TheVariants.{Refused, Waits, InGraft}
use Rattle.kernel_model.specs.declared.Refusal.TheVariants.{Held, DiskFault}
use Rattle.kernel_model.specs.declared.QueueRow.{QueueRow}
use Rattle.kernel_model.specs.World.{World, Blocks}
use Rattle.kernel_model.specs.Objects.{Objects, Accounts, Things, GraftValue, FrameValue, at, at2}
use Rattle.kernel_model.specs.Access.{bare_found, access, undo, set_cell}
use Rattle.kernel_model.specs.UndoLog.{undo_all}
use Rattle.kernel_model.specs.Charges.{charge, returned}
use Rattle.kernel_model.specs.Meaning.{Meaning, Piece, Fails, stage}
use Rattle.kernel_model.specs.Kernel.{Kernel}
use Rattle.kernel_model.specs.Events.{event}
use Rattle.kernel_model.specs.Quiet.{quiet, at_rest}
use Rattle.kernel_model.specs.Alone.{pieces_from}
use Rattle.kernel_model.specs.Pieces.{plain_calls}
use Rattle.kernel_model.specs.Opening.{opening_accounts, opening_things, opening_objects}
use Rattle.kernel_model.specs.Sound.{ledger, sum_below}
use Rattle.kernel_laws.proofs.ClockLemmas.{ticks_raise_the_clock}
use Rattle.kernel_laws.specs.Undoing.{LeadsBack}

-- one isn't two
one_two : ◌≡◌ {A = ℕ} 1 2 → ⊥
one_two h = omega arith

-- ---- undoing

-- a row of the queue
abbrev row : (process nice : ℕ) → QueueRow
row p n = record { process = p; nice = n; slices = 0 }

-- a process that stands in the queue twice
abbrev twice_queued : Things
twice_queued = record opening_things { queue = row 0 1 ∷ row 0 2 ∷ [] }

-- the nice of the second row of a queue
abbrev second_nice : List QueueRow → ℕ
second_nice [] = 0
second_nice (r ∷ []) = 0
second_nice (r ∷ x ∷ rows) = x.nice

-- an inverse of a nice doesn't lead back where the process stands in the queue twice
twice_is_too_often : LeadsBack twice_queued (access 3 7 0 0 0 twice_queued) → ⊥
twice_is_too_often h = one_two (ap (λ (w : Things). second_nice w.queue) h)

-- two inverses of one cell don't commute
one_cell_is_not_two : undo (bare_found (Inverse.Cell 0 0 1))
    (undo (bare_found (Inverse.Cell 0 0 2)) opening_things) ≡ undo (bare_found (Inverse.Cell 0 0 2))
    (undo (bare_found (Inverse.Cell 0 0 1)) opening_things) → ⊥
one_cell_is_not_two h = one_two (ap (λ (w : Things). w.cell 0 0) h)

-- a cell that was 0, is set to 1 and then to 2: its records, oldest first, lead to 1
oldest_first_leads_elsewhere :
    (undo_all (bare_found (Inverse.Cell 0 0 0) ∷ bare_found (Inverse.Cell 0 0 1) ∷ [])
    (set_cell 0 0 2 (set_cell 0 0 1 opening_things))).cell 0 0 ≡ 1
oldest_first_leads_elsewhere = refl

-- newest first they lead to 0
newest_first_leads_back :
    (undo_all (bare_found (Inverse.Cell 0 0 1) ∷ bare_found (Inverse.Cell 0 0 0) ∷ [])
    (set_cell 0 0 2 (set_cell 0 0 1 opening_things))).cell 0 0 ≡ 0
newest_first_leads_back = refl

-- ---- amounts

-- a graft at (0, 0) with so much of each kind, and an account of nothing
abbrev with_balance : ℕ → Accounts
with_balance n =
    record {
      graft =
          λ q pt. cond (q == 0) (cond (pt == 0)
          (Some (record { image = 0; limit = 1; billed = false; balance = λ k. n })) None) None;
      acct = λ q. record { balance = λ k. 0; spent = λ k. 0 };
    }

-- a charge that nobody can pay makes an amount
unpaid_makes_one : ledger (charge Steps 0 0 (with_balance 0)) Steps 0 ≡ ledger (with_balance 0) Steps 0 → ⊥
unfolding sum_below
unpaid_makes_one h = omega (arith, h)

-- a graft that gives its balances back twice makes them anew
returned_twice_makes_some : (g : GraftValue) → g ≡ record { image = 0; limit = 1; billed = false; balance = λ k. 1 } →
    ledger (record {
      graft = at2 0 0 None (with_balance 1).graft;
      acct = at 0 (returned g (returned g ((with_balance 1).acct 0))) (with_balance 1).acct;
    }) Steps 0 ≡ ledger (with_balance 1) Steps 0 → ⊥
unfolding sum_below
returned_twice_makes_some g e h = let b = ap (λ (x : GraftValue). x.balance Steps) e in omega (arith, h, b)

-- ---- the clock

-- a tick doesn't leave the clock
a_tick_is_no_other : (m : Meaning) (k : Kernel) (blocks : Blocks) →
    ((e : Event) → (event m k blocks 0 e []).kernel.clock ≡ k.clock) → ⊥
a_tick_is_no_other m k blocks h = absurd_clock k.clock (sym (ticks_raise_the_clock m k blocks 0 []) ∙ h Tick)
  where
    absurd_clock : (n : ℕ) → suc n ≡ n → ⊥
    absurd_clock n h = omega (arith, h)

-- ---- a call that is alone

-- a world of the least size
abbrev small_world : World
small_world = record { frames = 2; patience = λ kind. 10; grant = 0; disk_size = 1; directory = []; callable = 15 }

-- user lock 0 is held by process 1, which lives
abbrev lock_held : Objects
lock_held =
    record {
      accounts = opening_accounts 0;
      things = record opening_things {
        queue = row 0 20 ∷ row 1 20 ∷ [];
        lock =
            λ u. cond (u == 0) (Some 1) None;
      };
    }

-- the note with which a run's event ends
abbrev only_note : List Note → Option Note
only_note (n ∷ []) = Some n
only_note _ = None

-- `lock` of a lock that another process holds waits, and isn't its piece
held_lock_waits : (event plain_calls (quiet small_world (λ slot. None) lock_held 0)
    (λ b. []) 1 (Sys 0 (TakeLock 0)) []).notes ≡ Waits 1 (Lock 0) 1 ∷ []
held_lock_waits = refl

-- its piece would be refused
held_lock_is_refused : (pieces_from plain_calls 1 0 1 (stage (TakeLock 0) 0)
    (at_rest small_world (λ slot. None) lock_held 0 (λ b. []) [] [])).notes ≡ Refused 1 Held ∷ []
held_lock_is_refused = refl

-- too few pieces don't end a call
one_piece_is_too_few : (pieces_from plain_calls 1 0 1 (stage Yield 0)
    (at_rest small_world (λ slot. None) (opening_objects 0) 0 (λ b. []) [] [])).notes ≡ []
one_piece_is_too_few = refl

-- a graft that stands at the point of process 0's slice
abbrev graft_stands : Objects
graft_stands =
    record {
      accounts = record (opening_accounts 0) {
        graft = λ q pt. cond (q == 0) (cond (pt == 5)
            (Some (record { image = 0; limit = 1; billed = false; balance = λ k. 0 })) None) None;
      };
      things = opening_things;
    }

-- where a graft stands the call is in it at the end of the event
graft_is_asked : (event plain_calls (quiet small_world (λ slot. None) graft_stands 0)
    (λ b. []) 1 (Sys 0 Yield) []).notes ≡ InGraft 1 0 5 1 ∷ []
graft_is_asked = refl

-- ---- refusals

-- a dirty frame of process 0 that holds a block, with one byte to tell it by
abbrev dirty_frame : (block byte : ℕ) → Option FrameValue
dirty_frame block byte = Some (record { owner = 0; block = block; dirty = true; mark = 0; bytes = byte ∷ [] })

-- two dirty frames
abbrev two_dirty : Objects
two_dirty =
    record {
      accounts = opening_accounts 0;
      things = record opening_things {
        cache =
            record {
              frame = λ f. cond (f == 0) (dirty_frame 3 7) (cond (f == 1) (dirty_frame 4 8) None);
              lru = 0 ∷ 1 ∷ [];
            };
      };
    }

-- a sync of which the second call of the disk fails
abbrev failed_sync : Piece
failed_sync = plain_calls.piece small_world (λ slot. None) two_dirty (λ b. []) 0 (stage Sync 0) None (false ∷ true ∷ [])

-- it is refused, and yet the first frame's block was written: so `sync` is left out where refusals change nothing
failed_sync_wrote : (failed_sync.after ≡ Fails DiskFault) × (failed_sync.blocks 3 ≡ 7 ∷ [])
failed_sync_wrote = (refl, refl)
