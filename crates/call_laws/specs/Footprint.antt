-- What the pieces of the system calls look at and change: the laws.
use Rattle.std.specs.Prelude.{ℕ, List}
use Rattle.kernel_model.specs.declared.Need.{Need}
use Rattle.kernel_model.specs.Objects.{Objects}
use Rattle.kernel_model.specs.Meaning.{Piece, registers_of}
use Rattle.kernel_model.specs.Needs.{piece_needs}
use Rattle.kernel_model.specs.Pieces.{plain_upto}
use Rattle.kernel_model.specs.Alike.{AgreeOn}
use Rattle.kernel_model.specs.Laws.{FootprintLaws, PieceAlike}
use Rattle.call_laws.specs.Changes.{piece_changes}
use Rattle.call_laws.specs.SamePieces.{SamePiece}
use Rattle.call_laws.specs.Looks.{piece_looks, asking_piece_looks, asking_piece_changes}

-- pieces that do the same do so on the objects on which the states agree
pub alike_on : (ns : List Need) (s u : Objects) (a b : Piece) → AgreeOn ns s u → SamePiece s u a b →
    PieceAlike ns a b
alike_on ns s u a b agree same =
    record {
      objects = λ o e. same.objects o (agree o e);
      blocks = same.blocks;
      gave = same.gave;
      after = same.after;
      calls = same.calls;
    }

-- the laws of what pieces look at and change
pub footprint_of_plain : (top : ℕ) → FootprintLaws (plain_upto top)
footprint_of_plain top = record {
  looks = λ v images s u blocks p t answer io ready other agree living.
      alike_on (piece_needs t.call t.piece v s p) s u _ _ agree
      (piece_looks t.call t.piece v s u blocks p (registers_of answer) io agree);
  changes = λ v images s blocks p t answer io o ready range free.
      piece_changes t.call t.piece v s blocks p (registers_of answer) io o range free;
  asking_looks = λ v images s u blocks p t answer io a ready other asks agree living.
      alike_on _ s u _ _ agree
      (asking_piece_looks t.call t.piece v s u blocks p (registers_of answer) io a asks agree);
  asking_changes = λ v images s blocks p t answer io a o ready range asks free.
      asking_piece_changes t.call t.piece v s blocks p (registers_of answer) io a o asks free;
}
