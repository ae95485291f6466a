-- Runs over two tables that agree on what the first one touches. This is what makes completed calls
-- as if one at a time: what other calls do meanwhile is at other words, or they read too.
use Rattle.std.specs.Prelude.{◌≡◌, ℕ, Bool, true, false, List, [], ◌∷◌, ◌⊎◌, Option, None, Some, slice_get}
use Rattle.graft_code.specs.declared.Instr.{Instr}
use Rattle.vino_host.specs.declared.Record.{Record}
use Rattle.vino_host.specs.declared.Stop.{Stop}
use Rattle.vino_host.specs.declared.Stop.TheVariants.{Returns, Waits, Drops}
use Rattle.vino_host.specs.declared.Word.{Word}
use Rattle.vino_host.specs.HostRuns.{State, state, Ended, host_run}
use Rattle.vino_host.specs.Tables.{readings}

-- a place has a record
abbrev pub HasRecord : ℕ → List Record → Type 0
HasRecord k [] = ⊥
HasRecord k (r ∷ rs) = (r.place ≡ k) ⊎ HasRecord k rs

-- the plug-in returned, or waits
abbrev pub goes_well : Stop → Bool
goes_well Returns = true
goes_well (Waits id) = true
goes_well (Drops cause detail) = false

-- a word where no other call reads it: with so many readings of the call's own
abbrev pub seen : (own : ℕ) → Option Word → Option Word
seen own o =
    elim o [
      | None ↦ None
      | Some w ↦ Some (record { value = w.value; owner = w.owner; readers = own })
    ]

-- on what is touched the other table has the same words, where no other call reads them
abbrev pub Agree : (touched : ℕ → Bool) → List Record → (table other : List Word) → Type 0
Agree touched records table other =
    (k : ℕ) → touched k ≡ true → slice_get other k ≡ seen (readings k records) (slice_get table k)

-- each word that the call of this number changed is touched
abbrev pub OwnsTouched : (number : ℕ) → (touched : ℕ → Bool) → List Word → Type 0
OwnsTouched number touched table =
    (k : ℕ) (w : Word) → slice_get table k ≡ Some w → w.owner ≡ number → touched k ≡ true

-- each place with a record is touched
abbrev pub RecordsTouched : (touched : ℕ → Bool) → List Record → Type 0
RecordsTouched touched records = (k : ℕ) → HasRecord k records → touched k ≡ true

-- a second run, over another table, is the same as the first: it stops in the same way, with as many
-- instructions left, the same machine and the same records; what is touched ends as in the first
-- one, and all else stays as it was in its own table
pub record IsSameRun (touched : ℕ → Bool) (e f : Ended) (other : List Word) : Type 0 where
  pub stop : f.stop ≡ e.stop
  pub left : f.left ≡ e.left
  pub machine : f.state.machine ≡ e.state.machine
  pub records : f.state.records ≡ e.state.records
  pub on : Agree touched e.state.records e.state.table f.state.table
  pub off : (k : ℕ) → touched k ≡ false → slice_get f.state.table k ≡ slice_get other k

-- A run that returns or waits hangs on the words that it touched, those that it changed before and
-- those of its records, and on no others, nor on who else reads them: over any table that agrees on
-- these it is the same.
abbrev pub RunsHangOnTheirWords : Type 0
RunsHangOnTheirWords =
    (number : ℕ) (code : List Instr) (n : ℕ) (s : State) (other : List Word) (touched : ℕ → Bool) →
    goes_well (host_run number code n s).stop ≡ true → OwnsTouched number touched s.table →
    RecordsTouched touched (host_run number code n s).state.records → Agree touched s.records s.table other →
    IsSameRun touched (host_run number code n s)
    (host_run number code n (state s.machine other s.records)) other
