-- Pieces keep states sound, as the laws of the table say.
use Rattle.kernel_model.specs.Meaning.{Meaning}
use Rattle.kernel_model.specs.Laws.{Laws}
use Rattle.kernel_laws.specs.Soundness.{PiecesStaySound}

-- a piece of a sound state leaves a sound state
pub pieces_stay_sound : (m : Meaning) → Laws m → PiecesStaySound m
pieces_stay_sound m laws v images s blocks p t answer io ready loaded whole = (
  record {
    store = laws.piece.store v images s blocks p t answer io ready whole;
    images_loaded = laws.piece.images_loaded v images s blocks p t answer io ready loaded;
    disk = laws.piece.disk v images s blocks p t answer io ready;
  },
  laws.piece.whole_blocks v images s blocks p t answer io ready whole,
)
