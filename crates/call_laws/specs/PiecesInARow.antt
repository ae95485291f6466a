-- The two pieces of a stream call in a row, between which other calls may run.
use Rattle.std.specs.Prelude.{◌≡◌, ℕ, Bool, List, Option, Ok}
use Rattle.kernel_model.specs.World.{World, ImageTable, Blocks}
use Rattle.kernel_model.specs.Objects.{Objects}
use Rattle.kernel_model.specs.Meaning.{Stage, Answer, Piece}
use Rattle.kernel_model.specs.Needs.{file_block}
use Rattle.kernel_model.specs.Sound.{HasWholeBlocks}
use Rattle.kernel_model.specs.StreamPoints.{stream_points}
use Rattle.kernel_model.specs.Laws.{IsReady}
use Rattle.call_laws.specs.SoundFiles.{IsFileBlock, file_block_is}

-- what a piece finds: the state, the disk's blocks, its point's answer, and what the calls of the
-- disk will do
pub record Setting : Type 0 where
  pub objects : Objects
  pub blocks : Blocks
  pub answer : Option Answer
  pub io : List Bool

-- the piece of a stream call of process p at a stage, on what it finds
abbrev pub piece_on : World → ImageTable → ℕ → Stage → Setting → Piece
piece_on v images p t x = stream_points.piece v images x.objects x.blocks p t x.answer x.io

-- such a piece may run: it is ready, and the disk's blocks are whole
pub record MayRun (v : World) (images : ImageTable) (p : ℕ) (t : Stage) (x : Setting) : Type 0 where
  pub ready : IsReady stream_points v images x.objects p t x.answer
  pub whole : HasWholeBlocks v x.blocks

-- the block that an open file names is on the disk
pub named_block : (v : World) (images : ImageTable) (p : ℕ) (t : Stage) (x : Setting)
    (fd i off len b : ℕ) → MayRun v images p t x →
    file_block v (x.objects.things.file p fd) i off len ≡ Ok b → IsFileBlock v b
named_block v images p t x fd i off len b h e =
    file_block_is v (x.objects.things.file p fd) i off len b x.objects.things.cache
    h.ready.standing.store.world h.ready.disk e
