-- The names by which graft code calls the kernel, and their ids.
use Rattle.std.specs.Prelude.{ℕ, List, [], ◌∷◌, slice_get, position, codes, Option}
use Rattle.kernel_data.specs.World.{same_bytes}

-- the names of the callable list, in the order of the ids
abbrev pub callables : List (List ℕ)
callables =
    codes "cell_get" ∷ codes "cell_set" ∷ codes "nice_get" ∷ codes "nice_set" ∷ codes "window_get"
    ∷ codes "window_set"
    ∷ codes "frames_mine" ∷ codes "frame_at" ∷ codes "frame_block" ∷ codes "frame_mark"
    ∷ codes "tune_get" ∷ codes "tune_set"
    ∷ codes "take_lock" ∷ codes "ask_ra" ∷ codes "ask_victim" ∷ codes "ask_sched" ∷ []

-- the name with this id
abbrev pub callable_name : ℕ → Option (List ℕ)
callable_name id = slice_get callables id

-- the id of a name in the callable list
abbrev pub callable_id : List ℕ → Option ℕ
callable_id name = position (same_bytes name) callables
