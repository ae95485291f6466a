-- What is seen of a block: the cache can't be. Whoever chooses what the cache evicts, and whichever
-- calls of the disk fail, what is read of a block is what was last written to it.
use Rattle.std.specs.Prelude.{◌≡◌, ◌≢◌, ◌⊎◌, ℕ, zero, suc, ◌+◌, Bool, false, List, length}
use Rattle.std.specs.Prelude.{slice_range}
use Rattle.std.specs.Prelude.{Option, Some, None, Ok}
use Rattle.script_model.specs.declared.Reply.{Reply}
use Rattle.script_model.specs.declared.SysCall.{SysCall}
use Rattle.script_model.specs.declared.SysCall.TheVariants.{Read, Write, Sync, StreamRead}
use Rattle.script_model.specs.declared.SysCall.TheVariants.{StreamWrite}
use Rattle.script_model.specs.World.{World, ImageTable, Blocks}
use Rattle.script_model.specs.Objects.{Objects, CacheValue, FrameValue}
use Rattle.script_model.specs.AllCalls.{all_calls}
use Rattle.script_model.specs.Fetch.{bytes_of, bytes_with}
use Rattle.script_model.specs.FilePieces.{well}
use Rattle.script_model.specs.Laws.{IsReady}
use Rattle.script_model.specs.Meaning.{Stage, Answer, Piece, Continues, EndsWith}
use Rattle.script_model.specs.Pieces.{piece_of}
use Rattle.kernel_model.specs.Needs.{frame_of_block, file_block}
use Rattle.script_model.specs.Sound.{HasWholeBlocks, IsSoundStore}

-- ---- what is seen

-- what is seen of a block: the bytes of the frame that holds it, or else the disk's
abbrev pub seen_block : CacheValue → Blocks → ℕ → List ℕ
seen_block c blocks b = elim (frame_of_block c b) [ None ↦ blocks b | Some f ↦ bytes_of c f ]

-- each clean frame has the bytes that the disk has of its block
abbrev pub IsCoherent : CacheValue → Blocks → Type 0
IsCoherent c blocks =
    (f : ℕ) (x : FrameValue) → c.frame f ≡ Some x → x.dirty ≡ false → blocks x.block ≡ x.bytes

-- two caches over their disks show the same
abbrev pub ShowsSame : (c : CacheValue) → Blocks → (e : CacheValue) → Blocks → Type 0
ShowsSame c blocks e after = (b : ℕ) → seen_block e after b ≡ seen_block c blocks b

-- they show the same, but that these bytes stand at an offset of block b
abbrev pub ShowsPut : (b offset : ℕ) → List ℕ → (c : CacheValue) → Blocks → (e : CacheValue) →
    Blocks → Type 0
ShowsPut b offset new c blocks e after =
    (seen_block e after b ≡ bytes_with offset new (seen_block c blocks b))
    × ((other : ℕ) → other ≢ b → seen_block e after other ≡ seen_block c blocks other)

-- each block of the disk is as it was, or has what was seen of it
abbrev pub WritesSeen : CacheValue → (blocks after : Blocks) → Type 0
WritesSeen c blocks after =
    (b : ℕ) → (after b ≡ blocks b) ⊎ (after b ≡ seen_block c blocks b)

-- ---- pieces

-- bytes that a piece puts at an offset of a block of an open file
pub record Put : Type 0 where
  pub file : ℕ
  pub block : ℕ
  pub offset : ℕ
  pub bytes : List ℕ

-- what a piece of a call may put, which carries these bytes: only that of a write, and the second
-- one of a stream write
abbrev pub put_of : SysCall → (piece : ℕ) → (carried : List ℕ) → Option Put
put_of (Write fd i off bytes) n carried =
    Some (record { file = fd; block = i; offset = off; bytes = bytes })
put_of (StreamWrite fd i off bytes) zero carried = None
put_of (StreamWrite fd i off bytes) (suc n) carried =
    Some (record { file = fd; block = i; offset = off; bytes = carried })
put_of c n carried = None

-- the same of the piece at a stage
abbrev pub put_by : Stage → Option Put
put_by t = put_of t.call t.piece t.bytes

-- What a piece of process p does to what is seen.
pub record KeepsShown (v : World) (s : Objects) (blocks : Blocks) (p : ℕ) (t : Stage) (q : Piece) :
    Type 0 where
  -- clean frames agree with the disk still, whichever of its calls failed
  pub coherent : IsCoherent q.objects.things.cache q.blocks
  -- and nothing comes to the disk that wasn't seen
  pub disk : WritesSeen s.things.cache blocks q.blocks
  -- a piece that puts nothing changes nothing that is seen: no eviction, whoever chose the frame,
  -- no reading ahead, no `sync`, no exit
  pub others : put_by t ≡ None → ShowsSame s.things.cache blocks q.objects.things.cache q.blocks
  -- nor does one that doesn't end well
  pub failed : q.after ≢ well → ShowsSame s.things.cache blocks q.objects.things.cache q.blocks
  -- one that ends well puts its bytes, and no other
  pub puts : (w : Put) → put_by t ≡ Some w → q.after ≡ well → (b : ℕ)
      × (file_block v (s.things.file p w.file) w.block w.offset (length w.bytes) ≡ Ok b)
      × ShowsPut b w.offset w.bytes s.things.cache blocks q.objects.things.cache q.blocks
  -- the first piece of a read that goes on gives what is seen
  pub read : (fd i off len : ℕ) (u : Stage) → t.call ≡ Read fd i off len → t.piece ≡ 0 →
      q.after ≡ Continues u → (b : ℕ) × (file_block v (s.things.file p fd) i off len ≡ Ok b)
      × (q.gave ≡ Some (slice_range (seen_block s.things.cache blocks b) off (off + len)))
  -- and that of a stream read takes it into the call
  pub taken : (fd i off len : ℕ) (u : Stage) → t.call ≡ StreamRead fd i off len → t.piece ≡ 0 →
      q.after ≡ Continues u → (b : ℕ) × (file_block v (s.things.file p fd) i off len ≡ Ok b)
      × (u.bytes ≡ slice_range (seen_block s.things.cache blocks b) off (off + len))

-- So it is of each piece of a system call that is ready, over whole and coherent blocks.
abbrev pub PiecesKeepShown : Type 0
PiecesKeepShown =
    (v : World) (images : ImageTable) (s : Objects) (blocks : Blocks) (p : ℕ) (t : Stage)
    (answer : Option Answer) (io : List Bool) →
    IsReady all_calls v images s p t answer → HasWholeBlocks v blocks →
    IsCoherent s.things.cache blocks →
    KeepsShown v s blocks p t (all_calls.piece v images s blocks p t answer io)

-- ---- after a `sync`

-- no frame is dirty, and the disk has what the cache has
abbrev pub IsWritten : CacheValue → Blocks → Type 0
IsWritten c blocks =
    (f : ℕ) (x : FrameValue) → c.frame f ≡ Some x → (x.dirty ≡ false) × (blocks x.block ≡ x.bytes)

-- A `sync` on a sound store over a coherent cache that ends well leaves it so.
abbrev pub SyncsEndWritten : Type 0
SyncsEndWritten =
    (v : World) (s : Objects) (blocks : Blocks) (p n : ℕ) (answer : Option (List ℕ))
    (io : List Bool) (reply : Reply) → IsSoundStore v s → IsCoherent s.things.cache blocks →
    (piece_of Sync n v s blocks p answer io).after ≡ EndsWith reply →
    IsWritten (piece_of Sync n v s blocks p answer io).objects.things.cache
    (piece_of Sync n v s blocks p answer io).blocks
