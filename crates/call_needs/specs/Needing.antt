-- What a piece needs and asks, on a store.
use Rattle.std.specs.Prelude.{ℕ, List, map, Option, Result}
use Rattle.std.specs.List.{range_with_len}
use Rattle.kernel_model.specs.declared.Need.{Need}
use Rattle.kernel_model.specs.declared.Object.{Object}
use Rattle.kernel_model.specs.declared.Point.{Point}
use Rattle.kernel_model.specs.declared.Refusal.{Refusal}
use Rattle.kernel_model.specs.Needs.{exclusive, fetch_ask, fetch_needs, file_block}
use Rattle.kernel_state.specs.declared.Store.{Store}
use Rattle.kernel_state.specs.Stores.{world_of_store, objects_of}

-- these objects by their numbers below n, each exclusively
abbrev pub all_of : (ℕ → Object) → (n : ℕ) → List Need
all_of object n = map (λ k. exclusive (object k)) (range_with_len 0 n)

-- the block of the disk that block i of the file at descriptor fd of process p is, of which bytes
-- off to off + len are meant
abbrev pub block_meant : {B : Type 0} {P : _} → Store B P → (p fd i off len : ℕ) →
    Result ℕ Refusal
block_meant s p fd i off len =
    file_block (world_of_store s) ((objects_of s).things.file p fd) i off len

-- what a fetch of a block needs
abbrev pub fetch_needs_of : {B : Type 0} {P : _} → Store B P → Result ℕ Refusal → List Need
fetch_needs_of s block = fetch_needs (world_of_store s) (objects_of s) block

-- the point that it asks
abbrev pub fetch_ask_of : {B : Type 0} {P : _} → Store B P → Result ℕ Refusal → Option Point
fetch_ask_of s block = fetch_ask (world_of_store s) (objects_of s).things block
