-- A write, once its block is fetched or the disk failed.
use Rattle.std.proofs.Common.{◌≡◌, ℕ, List, Bool, Option, None, Result, Ok, Err, refl, sym, ◌∙◌, ap, subst}
use Rattle.kernel_model.specs.declared.Refusal.{Refusal}
use Rattle.kernel_model.specs.declared.Refusal.TheVariants.{DiskFault}
use Rattle.kernel_model.specs.World.{World, Blocks}
use Rattle.kernel_model.specs.Objects.{Objects, CacheValue}
use Rattle.kernel_model.specs.Meaning.{Piece, After, Fails}
use Rattle.kernel_model.specs.Fetch.{Fetched, Got, Failed, fetch, with_patch}
use Rattle.kernel_model.specs.FilePieces.{with_cache, write_fetched, write_piece, disk_failed, well}
use Rattle.kernel_state.specs.declared.Failed.{Failed as DiskFailed}
use Rattle.kernel_state.specs.Calls.{Knows}
use Rattle.call_needs.specs.Fetching.{FetchMatches, blocks_after}
use Rattle.call_pieces.specs.Matching.{PieceMatches}

-- what a failed fetch tells of the blocks
pub tells_failed : (q : Fetched) (blocks : Blocks) (e : DiskFailed) (cache : CacheValue)
    (known : Option (List (List ℕ))) (n : ℕ) → FetchMatches q blocks (Err e) cache known n →
    Knows known blocks
tells_failed q blocks e cache known n came =
    subst (λ (x : Fetched). Knows known (blocks_after x blocks)) (sym came.outcome) came.tells

-- a piece of which a fetch failed
pub fetch_failed : (f : Fetched → Piece) (q : Fetched) (s new : Objects) (blocks : Blocks)
    (e : DiskFailed) (cache : CacheValue) (known : Option (List (List ℕ))) (n : ℕ) →
    f (Failed n) ≡ disk_failed s blocks n → FetchMatches q blocks (Err e) cache known n → new ≡ s →
    PieceMatches (f q) new known None (Fails DiskFault) n
fetch_failed f q s new blocks e cache known n is came kept =
    let tells = tells_failed q blocks e cache known n came in
    let there : PieceMatches (disk_failed s blocks n) new known None (Fails DiskFault) n = record {
      objects = kept;
      blocks = tells;
      bytes = refl;
      next = refl;
      calls_made = refl;
    } in
    subst (λ (x : Fetched). PieceMatches (f x) new known None (Fails DiskFault) n) came.outcome
    (subst (λ (x : Piece). PieceMatches x new known None (Fails DiskFault) n) (sym is) there)

-- a write whose block was fetched
pub write_came : (s mid new : Objects) (blocks : Blocks) (off f n : ℕ) (bytes : List ℕ)
    (q : Fetched) (cache : CacheValue) (known : Option (List (List ℕ))) →
    FetchMatches q blocks (Ok f) cache known n → mid ≡ with_cache cache s →
    new ≡ with_cache (with_patch f off bytes cache) mid →
    PieceMatches (write_fetched s blocks off bytes q) new known None well n
write_came s mid new blocks off f n bytes q cache known came cached patched =
    let there : PieceMatches (write_fetched s blocks off bytes
    (Got cache (blocks_after q blocks) f n)) new known None well n =
    record {
      objects = patched ∙ ap (λ (x : Objects). with_cache (with_patch f off bytes cache) x) cached;
      blocks = came.tells;
      bytes = refl;
      next = refl;
      calls_made = refl;
    } in
    subst (λ (x : Fetched). PieceMatches (write_fetched s blocks off bytes x) new known None well n) came.outcome there

-- a write, by the block that it names
pub write_at : (x : Result ℕ Refusal) (b : ℕ) (v : World) (s new : Objects) (blocks : Blocks)
    (p off n : ℕ) (bytes : List ℕ) (answer : Option (List ℕ)) (io : List Bool)
    (known : Option (List (List ℕ))) (after : After) → Ok b ≡ x →
    PieceMatches (write_fetched s blocks off bytes
    (fetch v (s.things.pol 1) p b answer s.things.cache blocks io)) new known None after n →
    PieceMatches (write_piece x v s blocks p off bytes answer io) new known None after n
write_at x b v s new blocks p off n bytes answer io known after is came =
    subst (λ (y : Result ℕ Refusal). PieceMatches (write_piece y v s blocks p off bytes answer io)
    new known None after n) is came
