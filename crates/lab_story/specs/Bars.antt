-- Where bars end.
use Rattle.std.specs.Prelude.{ℕ, ◌-◌, ◌^◌, ◌==◌, ◌&&◌, Bool, true, false, not, cond, nat_le, nat_lt, List, []}
use Rattle.std.specs.Prelude.{◌∷◌, length, Option, option_map, find, slice_index_or}
use Rattle.std.specs.List.{list_any}
use Rattle.std.specs.Option.{option_map_or}
use Rattle.script_model.specs.World.{same_bytes}
use Rattle.lab_story.specs.declared.story.Bar.{Bar}
use Rattle.lab_story.specs.declared.story.End.{End}
use Rattle.lab_story.specs.declared.story.End.TheVariants as ends
use Rattle.lab_story.specs.declared.story.Kind.{Kind}
use Rattle.lab_story.specs.declared.story.Kind.TheVariants as kind

-- a bar is one of a call
abbrev pub is_call : Kind → Bool
is_call kind.Call = true
is_call k = false

-- a bar is the one of a call itself
abbrev pub is_of_call : (call : ℕ) → Bar → Bool
is_of_call call bar = bar.call == call && is_call bar.kind

-- the process of a call: that of the first bar of the call itself
abbrev pub process_of : (call : ℕ) → List Bar → Option ℕ
process_of call bars = option_map (λ (bar : Bar). bar.process) (find (is_of_call call) bars)

-- a bar of a call itself has another text that says how it ended
abbrev pub noted : (call said : ℕ) → Bar → Bar
noted call said bar = cond (is_of_call call bar) (record bar { result = said }) bar

-- a bar hasn't ended yet
abbrev pub is_open : End → Bool
is_open ends.Open = true
is_open e = false

-- the level of a bar: a call is below all others, and a wait goes with the innermost
abbrev pub level_of : Kind → ℕ
level_of kind.Call = 0
level_of kind.Wait = 9
level_of (kind.Level level) = level

-- a bar that ends in this event, where it is an open one of a call that stands at a level or above
abbrev pub ended : (call level event : ℕ) → End → Bar → Bar
ended call level event how bar =
    cond (bar.call == call && is_open bar.end && nat_le level (level_of bar.kind))
    (record bar { to = event; end = how })
    bar

-- a bar that goes on to an event, where it hasn't ended
abbrev pub gone_on : (event : ℕ) → Bar → Bar
gone_on event bar = cond (is_open bar.end) (record bar { to = event }) bar

-- a bar is one of this level of grafts
abbrev pub is_at : (level : ℕ) → Kind → Bool
is_at level (kind.Level l) = l == level
is_at level k = false

-- a bar is an open one of this level of a call
abbrev pub is_open_at : (call level : ℕ) → Bar → Bool
is_open_at call level bar = bar.call == call && is_open bar.end && is_at level bar.kind

-- a level of a call is open
abbrev pub has_open : (call level : ℕ) → List Bar → Bool
has_open call level bars = list_any (is_open_at call level) bars

-- a bar names a graft, and another one than this
abbrev pub names_other : (texts : List (List ℕ)) → (graft : List ℕ) → Bar → Bool
names_other texts graft bar =
    nat_lt 0 (length (slice_index_or texts bar.text []))
    && not (same_bytes (slice_index_or texts bar.text []) graft)

-- the first open bar of a level of a call does
abbrev pub runs_other : (call level : ℕ) → (texts : List (List ℕ)) → (graft : List ℕ) → List Bar
    → Bool
runs_other call level texts graft bars =
    option_map_or (names_other texts graft) (find (is_open_at call level) bars) false

-- a bar is one of a level of grafts
abbrev pub is_level : Kind → Bool
is_level (kind.Level l) = true
is_level k = false

-- a bar is an open one of a level of a call
abbrev pub is_open_level : (call : ℕ) → Bar → Bool
is_open_level call bar = bar.call == call && is_open bar.end && is_level bar.kind

-- it is, and names this graft
abbrev pub names : (call : ℕ) → (texts : List (List ℕ)) → (graft : List ℕ) → Bar → Bool
names call texts graft bar =
    is_open_level call bar && same_bytes (slice_index_or texts bar.text []) graft

-- the level of the last open bar of a level of a call; the given one where there is none
abbrev pub last_level : (call level : ℕ) → List Bar → ℕ
last_level call level [] = level
last_level call level (bar ∷ bars) =
    last_level call (cond (is_open_level call bar) (level_of bar.kind) level) bars

-- the level of the first open bar that names a graft; that of the last one where none names it
abbrev pub level_of_graft : (call : ℕ) → (texts : List (List ℕ)) → (graft : List ℕ) → List Bar → ℕ
level_of_graft call texts graft bars =
    option_map_or (λ (bar : Bar). level_of bar.kind) (find (names call texts graft) bars)
    (last_level call 1 bars)

-- a bar is an open one of a level of a process, and names no graft
abbrev pub is_nameless : (process level : ℕ) → Bar → Bool
is_nameless process level bar =
    bar.process == process && is_open bar.end && is_at level bar.kind && bar.text == 2 ^ 64 - 1

-- it names one then
abbrev pub named : (process level text : ℕ) → Bar → Bar
named process level text bar =
    cond (is_nameless process level bar) (record bar { text = text }) bar
