-- How a block is to be fetched from a store: in which frame it stands, or is to be put.
use Rattle.std.specs.Prelude.{◌≡◌, ℕ, ◌<◌, true, Option, Some, None, Result, Ok, Err}
use Rattle.kernel_model.specs.declared.Refusal.{Refusal}
use Rattle.kernel_model.specs.Needs.{frame_of_block, free_frame}
use Rattle.kernel_model.specs.Policies.{victim_among}
use Rattle.kernel_state.specs.Frames.{Frames, in_use}
use Rattle.kernel_state.specs.declared.Store.{Store}
use Rattle.kernel_state.specs.Stores.{world_of_store, cache_of, policies_of}
use Rattle.call_needs.specs.declared.plans.Plan.{Plan}
use Rattle.call_needs.specs.declared.plans.Place.{Place}
use Rattle.call_needs.specs.declared.plans.Place.TheVariants.{Held, Missing}
use Rattle.call_needs.specs.declared.plans.Room.{Room}
use Rattle.call_needs.specs.declared.plans.Room.TheVariants.{Free, Candidate}

-- There is room for a block in this frame, where these are the free frame and the candidate for
-- eviction, if there are some: the free one, or else the candidate.
abbrev pub IsRoom : Room → (free candidate : Option ℕ) → Type 0
IsRoom (Free f) free candidate = free ≡ Some f
IsRoom (Candidate f) free candidate = (free ≡ None) × (candidate ≡ Some f)

-- a block stands in the frame that holds it, if one does, or else there is room for it
abbrev pub IsPlace : Place → (held free candidate : Option ℕ) → Type 0
IsPlace (Held f) held free candidate = held ≡ Some f
IsPlace (Missing room) held free candidate = (held ≡ None) × IsRoom room free candidate

-- there is room in a frame of a store for a block that no frame holds
abbrev pub IsRoomIn : {B : Type 0} {P : _} → Store B P → Room → Type 0
IsRoomIn s room =
    IsRoom room (free_frame (cache_of s) (world_of_store s).frames 0)
    (victim_among (policies_of s 1) (cache_of s) (cache_of s).lru)

-- the place of block b on a store: the frame that holds it, the lowest free one, or the candidate
abbrev pub IsPlaceOf : {B : Type 0} {P : _} → Store B P → (b : ℕ) → Place → Type 0
IsPlaceOf s b place =
    IsPlace place (frame_of_block (cache_of s) b)
    (free_frame (cache_of s) (world_of_store s).frames 0)
    (victim_among (policies_of s 1) (cache_of s) (cache_of s).lru)

-- a frame for a block is there: it is in use, but for a free one
abbrev pub HasRoomFrame : Frames → Room → Type 0
HasRoomFrame c (Free f) = f < c.count
HasRoomFrame c (Candidate f) = in_use f c ≡ true

-- the frame of a place is there
abbrev pub HasFrame : Frames → Place → Type 0
HasFrame c (Held f) = in_use f c ≡ true
HasFrame c (Missing room) = HasRoomFrame c room

-- A plan is that of a fetch from a store as it stands: its block is on the disk, and its place is
-- the block's, in a frame that is there.
pub record IsPlan {B : Type 0} {P : _} (s : Store B P) (plan : Plan) : Type 0 where
  pub on_disk : plan.block < s.size
  pub place : IsPlaceOf s plan.block plan.place
  pub frame : HasFrame s.cache plan.place

-- the block of a plan, or the refusal
abbrev pub block_planned : Result Plan Refusal → Result ℕ Refusal
block_planned (Ok plan) = Ok plan.block
block_planned (Err refusal) = Err refusal

-- the candidate, where a frame must be chosen for the block
abbrev pub candidate_in : Place → Option ℕ
candidate_in (Missing (Candidate f)) = Some f
candidate_in _ = None
