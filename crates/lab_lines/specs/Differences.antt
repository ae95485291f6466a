-- What a comparison tells, line by line.
use Rattle.std.specs.Prelude.{◌≡◌, ◌<◌, ◌+◌, ◌==◌, ◌&&◌, ℕ, Bool, true, false, length}
use Rattle.vino_base.specs.Faults.{counted}
use Rattle.lab_lines.specs.AsWanted.{rest_as_wanted}
use Rattle.lab_lines.specs.declared.testing.Ahead.{Ahead}
use Rattle.lab_lines.specs.declared.testing.Compared.{Compared}

-- one more difference is counted, and more text tells of it
pub record TellsOne (old new : Compared) : Type 0 where
  pub counts : new.differences ≡ counted old.differences
  pub longer : length old.text.items < length new.text.items

-- one more where something differs, and else nothing
abbrev pub TellsIf : (differs : Bool) → (old new : Compared) → Type 0
TellsIf true old new = TellsOne old new
TellsIf false old new = new ≡ old

-- there is text exactly where something differs
abbrev pub IsTold : Compared → Type 0
IsTold told = (told.differences == 0) ≡ (length told.text.items == 0)

-- nothing differs, neither so far nor in what is ahead
abbrev pub is_clean : Compared → Ahead → Bool
is_clean told ahead = told.differences == 0 && rest_as_wanted ahead.owner ahead.wants.now ahead.lines.now

-- how many lines are ahead
abbrev pub count_ahead : Ahead → ℕ
count_ahead ahead = length ahead.wants.now + length ahead.lines.now

-- a step ahead tells what differs there
pub record Steps (old new : Compared) (ahead next : Ahead) : Type 0 where
  pub same : is_clean new next ≡ is_clean old ahead
  pub fewer : 0 < count_ahead ahead → count_ahead next < count_ahead ahead
  pub told : IsTold old → IsTold new
