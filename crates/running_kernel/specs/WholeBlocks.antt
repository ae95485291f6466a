-- Some whole blocks.
use Rattle.std.proofs.Common.{◌≡◌, ℕ, length}
use Rattle.std.specs.Prelude.{replicate}
use Rattle.std.proofs.lemmas.List.{length-replicate}
use Rattle.kernel_data.specs.World.{World, Blocks}
use Rattle.kernel_model.specs.Sound.{HasWholeBlocks}

-- blocks of so many zeros
abbrev zeros : ℕ → Blocks
zeros n b = replicate n 0

zeros_long : (n b : ℕ) → length (zeros n b) ≡ n
zeros_long n b = length-replicate n 0

-- blocks of zeros
pub some_blocks : Blocks
some_blocks = zeros 512

pub blocks_are_whole : (v : World) → HasWholeBlocks v some_blocks
unfolding some_blocks
blocks_are_whole v b small = zeros_long 512 b
