-- What a `sync` keeps, whether it ends well or is refused: it writes dirty frames back, and changes
-- nothing else.
use Rattle.std.specs.Prelude.{◌≡◌, ℕ, Bool, false, List, Option, Some, ◌⊎◌}
use Rattle.script_model.specs.declared.SysCall.TheVariants.{Sync}
use Rattle.script_model.specs.World.{World, Blocks}
use Rattle.script_model.specs.Objects.{Objects, FrameValue}
use Rattle.script_model.specs.Fetch.{dirty_value}
use Rattle.script_model.specs.Meaning.{Piece}
use Rattle.script_model.specs.FilePieces.{with_cache}
use Rattle.script_model.specs.Pieces.{piece_of}
use Rattle.script_model.specs.Sound.{IsSoundStore}

-- a frame was written back: it was dirty and is clean, and the disk has its bytes
pub record IsWrittenBack (s : Objects) (q : Piece) (frame : ℕ) : Type 0 where
  pub value : FrameValue
  pub dirty : dirty_value (s.things.cache.frame frame) ≡ Some value
  pub clean : q.objects.things.cache.frame frame ≡ Some (record value { dirty = false })
  pub on_disk : q.blocks value.block ≡ value.bytes

-- a dirty frame holds this block, with these bytes
pub record IsHeldDirty (s : Objects) (block : ℕ) (bytes : List ℕ) : Type 0 where
  pub frame : ℕ
  pub value : FrameValue
  pub dirty : dirty_value (s.things.cache.frame frame) ≡ Some value
  pub block_is : value.block ≡ block
  pub bytes_are : value.bytes ≡ bytes

-- A piece wrote dirty frames back and changed nothing else: each frame is as it was, or was written
-- back, and each block of the disk is as it was, or has the bytes of a dirty frame that held it.
pub record WritesBackAlone (s : Objects) (blocks : Blocks) (q : Piece) : Type 0 where
  pub elsewhere : q.objects
      ≡ with_cache (record (s.things.cache) { frame = q.objects.things.cache.frame }) s
  pub frames : (frame : ℕ) →
      (q.objects.things.cache.frame frame ≡ s.things.cache.frame frame) ⊎ IsWrittenBack s q frame
  pub disk : (block : ℕ) → (q.blocks block ≡ blocks block) ⊎ IsHeldDirty s block (q.blocks block)

-- so does each `sync` on a sound store, whichever of its calls of the disk fails
abbrev pub SyncsWriteBackAlone : Type 0
SyncsWriteBackAlone =
    (v : World) (s : Objects) (blocks : Blocks) (p n : ℕ) (answer : Option (List ℕ))
    (io : List Bool) → IsSoundStore v s →
    WritesBackAlone s blocks (piece_of Sync n v s blocks p answer io)
