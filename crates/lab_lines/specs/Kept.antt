-- What a sink keeps: the bytes that it took, and where each write of them ended.
use Rattle.vino_base.specs.Streams.{SinkSeen}
use Rattle.std.specs.Prelude.{ℕ, ◌+◌, Bool, cond, List, [], ◌∷◌, ◌++◌, length, Some, None}
use Rattle.vino_base.specs.Faults.{counted}

-- the bytes, where each write ended, and the count of faults
pub record Kept : Type 0 where
  pub got : List ℕ
  pub ends : List ℕ
  pub faults : ℕ

-- nothing yet
abbrev pub nothing_kept : Kept
nothing_kept = record { got = []; ends = []; faults = 0 }

-- these bytes were taken in one write, or nothing
abbrev pub kept_if : (taken : Bool) → List ℕ → Kept → Kept
kept_if taken bytes k =
    cond taken
    (record k { got = k.got ++ bytes; ends = k.ends ++ (length k.got + length bytes) ∷ [] })
    k

-- a write of these bytes was taken, or there was no memory for it
abbrev pub kept_after : (taken : Bool) → List ℕ → Kept → Kept
kept_after taken bytes k =
    cond taken
    (record k { got = k.got ++ bytes; ends = k.ends ++ (length k.got + length bytes) ∷ [] })
    (record k { faults = counted k.faults })

-- what is seen of such a sink: its bytes and its faults, and not whether it has failed
abbrev pub kept_seen : Kept → SinkSeen
kept_seen k = record { got = Some k.got; device = record { faults = k.faults; health = None } }
