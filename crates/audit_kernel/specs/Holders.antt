-- The processes among which those are that hold an object.
use Rattle.std.specs.Prelude.{◌≡◌, ℕ, Bool, false, List, find}
use Rattle.kernel_data.specs.World.{processes}
use Rattle.kernel_model.specs.Kernel.{Kernel, has_level}

-- A test that no process passes whose call has no level finds the same process in this list as
-- among all.
abbrev pub AreHolders : Kernel → List ℕ → Type 0
AreHolders k hs =
    (test : ℕ → Bool) → ((q : ℕ) → has_level (k.call q) ≡ false → test q ≡ false) →
    find test hs ≡ find test processes
