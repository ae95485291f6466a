-- Histories and traces of the code as those of the definitions.
use Rattle.std.specs.Prelude.{◌≡◌, ℕ, true, false, Bool, List, [], ◌∷◌, Option, Some, None, map, reverse}
use Rattle.kernel_model.specs.World.{World, ImageTable}
use Rattle.kernel_model.specs.Locks.{Touched}
use Rattle.kernel_model.specs.Levels.{Config, Level}
use Rattle.kernel_model.specs.History as history
use Rattle.audit_levels.specs.Levels.{config_of, effect_of}
use Rattle.audit_replay.specs.declared.Mark.{Mark}
use Rattle.audit_replay.specs.declared.Mark.TheVariants.{Stepped, Fell}
use Rattle.audit_replay.specs.declared.Past.{Past}
use Rattle.audit_replay.specs.declared.Trace.{Trace}

-- a mark
abbrev pub mark_of : Mark → history.Mark
mark_of Stepped = history.Stepped
mark_of (Fell es) = history.Fell (map effect_of es.items)

-- what came about since a level began
abbrev pub past_of : Past → history.Past
past_of a = record { began = a.began; effects = reverse (map effect_of a.effects.items) }

-- the pasts of levels
abbrev pub pasts_of : List Past → List history.Past
pasts_of ps = map past_of ps

-- where a history leads
abbrev pub trace_of : (ℕ → List ℕ) → Trace → history.Trace
trace_of bytes t =
    record { config = config_of bytes t.config; marks = t.marks; pasts = pasts_of t.pasts.items }

-- something that a history leads to here, or nothing
abbrev pub led : {A : Type 0} → Bool → A → Option A
led true t = Some t
led false t = None

-- where marks lead from the beginning of a graft call, if one begins
abbrev pub led_from : World → ImageTable → ℕ → List history.Mark → Option Config → Option history.Trace
led_from v images p ks None = None
led_from v images p ks (Some c) = history.marks_on v images p ks (history.first_trace c)

-- A history and the trace kept beside it go on together: where the old history leads to the old
-- trace, the new one leads to the new trace.
abbrev pub GoesOn : World → ImageTable → ℕ → (old new : List Mark) → (before after : Trace) → Type 0
GoesOn v images p old new before after =
    (bytes : ℕ → List ℕ) → (first : history.Trace) →
    history.marks_on v images p (map mark_of old) first ≡ Some (trace_of bytes before) →
    history.marks_on v images p (map mark_of new) first ≡ Some (trace_of bytes after)

-- how the outermost of levels holds objects, or else these
abbrev pub last_touched : Touched → List Level → Touched
last_touched t [] = t
last_touched t (l ∷ ls) = last_touched l.touched ls
