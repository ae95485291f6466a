-- What a strip shows, and by which class a bar is drawn.
use Rattle.std.specs.Prelude.{ℕ, zero, suc, ◌+◌, ◌-◌, ◌^◌, ◌==◌, ◌&&◌, Bool, false, cond, min, max}
use Rattle.std.specs.Prelude.{nat_le, List, [], ◌∷◌, codes, count_by, slice_get}
use Rattle.std.specs.List.{list_any}
use Rattle.std.specs.Option.{option_map_or}
use Rattle.lab_story.specs.declared.story.Bar.{Bar}
use Rattle.lab_story.specs.declared.story.DroppedGraft.{DroppedGraft}
use Rattle.lab_story.specs.declared.story.PutBack.{PutBack}
use Rattle.lab_story.specs.declared.story.End.{End}
use Rattle.lab_story.specs.declared.story.End.TheVariants as ends
use Rattle.lab_story.specs.declared.story.Kind.{Kind}
use Rattle.lab_story.specs.declared.story.Kind.TheVariants as kind

-- an event is one of those from the first to the last one
abbrev pub has : (first last event : ℕ) → Bool
has first last event = nat_le first event && nat_le event last

-- a part of a bar stands between the first event and the last one
abbrev pub shows : (first last : ℕ) → Bar → Bool
shows first last bar = nat_le bar.from last && nat_le first bar.to

-- the class of a level that wasn't dropped
abbrev pub level_class : (level : ℕ) → List ℕ
level_class level =
    cond (level == 1) (codes "level1")
    (cond (level == 2) (codes "level2")
    (cond (level == 3) (codes "level3") (codes "level4")))

-- the class of a bar
abbrev pub class_of : Kind → End → List ℕ
class_of kind.Call ends.Refused = codes "refused"
class_of kind.Call e = codes "call"
class_of kind.Wait e = codes "wait"
class_of (kind.Level level) ends.Dropped = codes "dropped"
class_of (kind.Level level) e = level_class level

-- the level of a bar; 0 for a call and for a wait
abbrev pub level_of : Kind → ℕ
level_of kind.Call = 0
level_of kind.Wait = 0
level_of (kind.Level level) = level

-- the most levels of some bars
abbrev pub most_levels : List Bar → ℕ
most_levels [] = 0
most_levels (bar ∷ bars) = max (level_of bar.kind) (most_levels bars)

-- a process has a bar
abbrev pub has_bar : List Bar → (process : ℕ) → Bool
has_bar bars process = list_any (λ (bar : Bar). bar.process == process) bars

-- how many of the first so many processes have one
abbrev pub with_bar : List Bar → (processes : ℕ) → ℕ
with_bar bars zero = 0
with_bar bars (suc n) = cond (has_bar bars n) 1 0 + with_bar bars n

-- the number of the lane of a process, from 1; 0 where it has no bar
abbrev pub lane_of : List Bar → (process : ℕ) → ℕ
lane_of bars process = cond (has_bar bars process) (with_bar bars process + 1) 0

-- a record was put back by a drop in one of the events from the first to the last one
abbrev pub is_put_back : (first last : ℕ) → List DroppedGraft → PutBack → Bool
is_put_back first last drops r =
    option_map_or (λ (d : DroppedGraft). has first last d.event) (slice_get drops r.drop) false

-- how many of the records were, as far as a number of 32 bits counts them
abbrev pub records_within : (first last : ℕ) → List DroppedGraft → List PutBack → ℕ
records_within first last drops records =
    min (count_by (is_put_back first last drops) records) (2 ^ 32 - 1)
