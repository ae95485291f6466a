-- What notes give.
use Rattle.std.specs.Prelude.{ℕ, List, []}
use Rattle.script_model.specs.declared.Note.{Note}
use Rattle.script_model.specs.declared.Note.TheVariants.{Gave}

-- the bytes that a note gives, none where it gives none
abbrev pub given_in : Note → List ℕ
given_in (Gave n bytes) = bytes
given_in _ = []
