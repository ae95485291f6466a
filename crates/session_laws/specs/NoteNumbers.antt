-- The numbers that notes bear, and which notes are answers.
use Rattle.std.specs.Prelude.{ℕ, ◌==◌, Bool, true, List, filter}
use Rattle.script_model.specs.declared.Note.{Note}
use Rattle.script_model.specs.declared.Note.TheVariants.{Ticked, Ended, Refused, Gave, Dropped, Ran, Waits, InGraft}
use Rattle.graft_laws.specs.Notes.{is_end}

-- the number that a note bears
abbrev pub number_of : Note → ℕ
number_of (Ticked n clock) = n
number_of (Ended n reply) = n
number_of (Refused n why) = n
number_of (Gave n bytes) = n
number_of (Dropped n q pt cause) = n
number_of (Ran n count) = n
number_of (Waits n object holder) = n
number_of (InGraft n q pt depth) = n

-- the notes that bear a number, in their order
abbrev pub numbered : ℕ → List Note → List Note
numbered n notes = filter (λ (x : Note). number_of x == n) notes

-- the answers: a call ended or was refused, waits, or is in a graft
abbrev pub is_answer : Note → Bool
is_answer (Waits n object holder) = true
is_answer (InGraft n q pt depth) = true
is_answer x = is_end x
