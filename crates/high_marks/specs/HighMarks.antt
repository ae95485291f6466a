-- A table of two calls, `poke` and `peek`, over cells that are high-water marks: a poke raises a
-- cell, and never lowers it. It is an example of a table that is put beside the plain one
-- (docs/EXTENDING.md). All that it doesn't say anew is as in the plain table.
use Rattle.std.specs.Prelude.{ℕ, Bool, true, false, max}
use Rattle.kernel_model.specs.declared.SysCall.{SysCall}
use Rattle.kernel_model.specs.declared.SysCall.TheVariants.{Poke, Peek}
use Rattle.kernel_model.specs.declared.Reply.TheVariants.{One}
use Rattle.kernel_model.specs.Objects.{Objects, with_things}
use Rattle.kernel_model.specs.Access.{set_cell}
use Rattle.kernel_model.specs.Meaning.{Meaning, Piece, After, EndsWith, registers_of}
use Rattle.kernel_model.specs.Pieces.{plain_calls, piece_of}

-- the two calls
abbrev pub is_mark_call : SysCall → Bool
is_mark_call (Poke k x) = true
is_mark_call (Peek k) = true
is_mark_call c = false

-- what cell k of process p is after a poke of x: the greater of x and what it was
abbrev pub mark : (p k x : ℕ) → Objects → ℕ
mark p k x s = max x (s.things.cell p k)

-- a state in which that cell has this value
abbrev pub marked : (p k mark : ℕ) → Objects → Objects
marked p k mark s = with_things (set_cell p k mark s.things) s

-- the call as the plain table is to do it: a poke with what its cell is to be
abbrev pub as_plain : Objects → ℕ → SysCall → SysCall
as_plain s p (Poke k x) = Poke k (mark p k x s)
as_plain s p c = c

-- what comes after a piece: a poke answers what its cell is then
abbrev pub told_after : SysCall → After → After
told_after (Poke k x) after = EndsWith (One x)
told_after c after = after

-- the piece of the plain table, with that answer
abbrev pub told : SysCall → Piece → Piece
told c x = record x { after = told_after c x.after }

-- the table of high marks: it differs from the plain table in what its pieces do
abbrev pub high_marks : Meaning
high_marks =
    record plain_calls {
      piece = λ v images s blocks p t answer io.
          let c = as_plain s p t.call in
          told c (piece_of c t.piece v s blocks p (registers_of answer) io);
    }
