-- A fetch of a block, and what it left for some whole blocks of the disk.
use Rattle.std.proofs.Common.{◌≡◌, ℕ, Bool, true, false, List, [], ◌∷◌, ◌++◌, replicate, length}
use Rattle.std.proofs.Common.{Option, Result, Ok, Err, refl, sym, ◌∙◌, ap, subst}
use Rattle.std.proofs.lemmas.List.{length-replicate, get_or-replicate}
use Rattle.kernel_model.specs.World.{World, Blocks}
use Rattle.kernel_model.specs.Objects.{CacheValue, PolValue}
use Rattle.kernel_model.specs.Policies.{or_zero, victim_among}
use Rattle.kernel_model.specs.Needs.{free_frame}
use Rattle.kernel_model.specs.Meaning.{disk_fails}
use Rattle.kernel_model.specs.Fetch.{Fetched, Got, Failed, chosen_by, place_block, read_block}
use Rattle.kernel_model.specs.Sound.{HasWholeBlocks}
use Rattle.kernel_state.specs.declared.Failed.{Failed as DiskFailed}
use Rattle.kernel_state.specs.Calls.{blocks_in}
use Rattle.call_needs.specs.Fetching.{FetchLeft, FetchMatchesSome}

-- a list of so many bytes
some_bytes : (n : ℕ) → (bytes : List ℕ) × (length bytes ≡ n)
some_bytes n = (replicate n 0, length-replicate n 0)

-- what a disk of whole blocks could tell
pub some_told : (v : World) → (bs : List (List ℕ)) × HasWholeBlocks v (blocks_in bs)
some_told v =
    let block = some_bytes 512 in (
      replicate v.disk_size block.0,
      λ b below. ap (λ (x : List ℕ). length x) (get_or-replicate v.disk_size b block.0 [] below) ∙ block.1,
    )

-- a fetch for all blocks
pub fetch_some : (v : World) (q : Blocks → List Bool → Fetched) (result : Result ℕ DiskFailed)
    (cache : CacheValue) (io : List Bool)
    → ((blocks : Blocks) (rest : List Bool) →
    FetchLeft (q blocks (io ++ rest)) blocks result cache (length io)) →
    FetchMatchesSome v q result cache io
fetch_some v q result cache io all =
    let there = some_told v in
    record {
      blocks = blocks_in there.0;
      whole = there.1;
      outcome = λ rest. all (blocks_in there.0) rest;
    }

-- a fetch for blocks that are all the one that was read
pub fetch_alike : (v : World) (q : Blocks → List Bool → Fetched) (result : Result ℕ DiskFailed)
    (cache : CacheValue) (io : List Bool) (bytes : List ℕ) → length bytes ≡ 512
    → ((rest : List Bool) →
    FetchLeft (q (λ b. bytes) (io ++ rest)) (λ b. bytes) result cache (length io)) →
    FetchMatchesSome v q result cache io
fetch_alike v q result cache io bytes whole all =
    record { blocks = λ b. bytes; whole = λ b below. whole; outcome = all }

-- a fetch of a block that a frame holds
pub fetch_held : (v : World) (q : Blocks → List Bool → Fetched) (cache : CacheValue) (f : ℕ) (io :
    List Bool) → io ≡ [] → ((blocks : Blocks) (w : List Bool) → q blocks w ≡ Got cache blocks f 0)
    → FetchMatchesSome v q (Ok f) cache io
fetch_held v q cache f io none is =
    fetch_some v q (Ok f) cache io (λ blocks rest.
    subst (λ (x : Fetched). FetchLeft x blocks (Ok f) cache (length io)) (sym (is blocks (io ++ rest)))
    (subst (λ (w : List Bool). FetchLeft (Got cache blocks f 0) blocks (Ok f) cache (length w)) (sym none) refl))

-- a block that was read is put into a frame
pub read_is : (v : World) (pol : PolValue) (p b : ℕ) (answer : Option (List ℕ)) (c : CacheValue)
    (blocks : Blocks) (io : List Bool) → disk_fails io 0 ≡ false
    → read_block v pol p b answer c blocks io
    ≡ place_block (free_frame c v.frames 0) p b (chosen_by answer
    (or_zero (victim_among pol c c.lru))) (or_zero (victim_among pol c c.lru)) c blocks io
read_is v pol p b answer c blocks io well =
    ap (λ t. elim t as (λ _. Fetched) [
      | true ↦ Failed 1
      | false ↦ place_block (free_frame c v.frames 0) p b (chosen_by answer
          (or_zero (victim_among pol c c.lru))) (or_zero (victim_among pol c c.lru)) c blocks io
    ]) well

-- a block whose read failed
pub read_failed : (v : World) (pol : PolValue) (p b : ℕ) (answer : Option (List ℕ)) (c : CacheValue)
    (blocks : Blocks) (e : DiskFailed) (io rest : List Bool) → io ≡ true ∷ []
    → FetchLeft (read_block v pol p b answer c blocks (io ++ rest)) blocks (Err e) c (length io)
read_failed v pol p b answer c blocks e io rest is =
    subst (λ (w : List Bool). FetchLeft (read_block v pol p b answer c blocks (w ++ rest)) blocks
    (Err e) c (length w)) (sym is) refl
