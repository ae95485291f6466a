-- Records of the undo log, as a story keeps them and puts them back.
use Rattle.std.specs.Prelude.{ℕ, ◌+◌, ◌-◌, ◌^◌, ◌==◌, ◌&&◌, Bool, List, min, nat_le, map, filter}
use Rattle.lab_story.specs.declared.story.Record.{Record}
use Rattle.lab_story.specs.declared.story.PutBack.{PutBack}
use Rattle.lab_story.specs.Numbers.{number_at, from_word}

-- the process, the level and the text of a record
abbrev pub kept : Record → ℕ × ℕ × List ℕ
kept r = (r.process, r.level, r.text.now)

-- those of a written record `P D I`; levels are counted from 0 there, and from 1 here
abbrev pub written : List ℕ → ℕ × ℕ × List ℕ
written text = (number_at text 0, min (number_at text 1 + 1) (2 ^ 32 - 1), from_word text 2)

-- the place of the drop that put a record back, and the text of that
abbrev pub undone : PutBack → ℕ × List ℕ
undone u = (u.drop, u.text.now)

-- a record is one of this level of a process, or of one above
abbrev pub is_above : (process level : ℕ) → Record → Bool
is_above process level r = r.process == process && nat_le level r.level

-- what a drop puts back of some records
abbrev pub put_back : (drop process level : ℕ) → List Record → List (ℕ × List ℕ)
put_back drop process level records =
    map (λ (r : Record). (drop, r.text.now)) (filter (is_above process level) records)
