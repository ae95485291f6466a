-- What the piece of a quick call left, for some whole blocks of the disk.
use Rattle.std.proofs.Common.{◌≡◌, ℕ, Bool, List, [], replicate, length, Option, Some, refl, ap, ◌∙◌}
use Rattle.std.proofs.lemmas.List.{length-replicate, get_or-replicate}
use Rattle.kernel_model.specs.World.{World, Blocks}
use Rattle.kernel_model.specs.Objects.{Objects}
use Rattle.kernel_model.specs.Meaning.{Piece, After}
use Rattle.kernel_model.specs.Sound.{HasWholeBlocks}
use Rattle.call_pieces.specs.Calls.{Knows, blocks_in}
use Rattle.call_pieces.specs.Matching.{PieceMatches, PieceMatchesSome}

-- a list of so many bytes
some_bytes : (n : ℕ) → (bytes : List ℕ) × (length bytes ≡ n)
some_bytes n = (replicate n 0, length-replicate n 0)

-- what a disk of whole blocks could tell
some_told : (v : World) → (bs : List (List ℕ)) × HasWholeBlocks v (blocks_in bs)
some_told v =
    let block = some_bytes 512 in (
      replicate v.disk_size block.0,
      λ b below. ap (λ (x : List ℕ). length x) (get_or-replicate v.disk_size b block.0 [] below)
          ∙ block.1,
    )

-- a piece that makes no call of the disk leaves what it does for some whole blocks
pub some_at_once : (v : World) (q : Blocks → Piece) (s : Objects) (gave : Option (List ℕ))
    (after : After) (io : List Bool) → io ≡ [] →
    ((blocks : Blocks) (known : Option (List (List ℕ))) → Knows known blocks →
    PieceMatches (q blocks) s known gave after 0) →
    PieceMatchesSome v (λ blocks rest. q blocks) s gave after io
some_at_once v q s gave after io none came =
    let there = some_told v in
    let so = came (blocks_in there.0) (Some there.0) refl in
    record {
      blocks = blocks_in there.0;
      whole = there.1;
      left = λ rest. record {
        objects = so.objects;
        bytes = so.bytes;
        next = so.next;
        calls_made = ap (λ (w : List Bool). length w) none ∙ so.calls_made;
      };
    }
