-- Rows, and lists of numbers, as functions of the crate leave them.
use Rattle.std.specs.Prelude.{ℕ, ◌==◌, cond, true, Option, None, Some, option_map}
use Rattle.audit_table.specs.declared.Row.{Row}
use Rattle.audit_state.specs.declared.Frame.{Frame}
use Rattle.audit_state.specs.declared.Kept.{Kept}
use Rattle.audit_state.specs.Things.{kept_of}

-- a row, its value seen through a function
abbrev pub row_through : {A B : Type 0} → (A → B) → Row A → Row B
row_through f r = record { first = r.first; second = r.second; value = f r.value }

-- a row of a kept segment, its bytes by place
abbrev pub kept_row : Row (Option Kept) → Row (Option (ℕ → ℕ))
kept_row r = row_through (option_map kept_of) r

-- a frame with this mark
abbrev pub marked : ℕ → Frame → Frame
marked v f = record f { mark = v }

-- a frame that is dirty
abbrev pub dirtied : Frame → Frame
dirtied f = record f { dirty = true }

-- a frame whose owner changes from p to q
abbrev pub handed : ℕ → ℕ → Option Frame → Option Frame
handed p q None = None
handed p q (Some f) = Some (record f { owner = cond (f.owner == p) q f.owner })

-- a frame, or the other one of two
abbrev pub exchanged : (f g : ℕ) → ℕ → ℕ
exchanged f g h = cond (h == f) g (cond (h == g) f h)
