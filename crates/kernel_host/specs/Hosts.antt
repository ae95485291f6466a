-- What always holds of a hosted kernel, and what its calls make of it.
use Rattle.std.specs.Prelude.{◌≡◌, ℕ, ◌+◌, ◌-◌, ◌^◌, ◌≤◌, Bool, true, false}
use Rattle.call_pieces.specs.Disks.{DiskSeen}
use Rattle.kernel_model.specs.declared.Event.{Event}
use Rattle.kernel_model.specs.declared.Note.{Note}
use Rattle.kernel_model.specs.Meaning.{Meaning}
use Rattle.placed_laws.specs.Placed.{Placed}
use Rattle.running_kernel.specs.Views.{placed_of}
use Rattle.kernel_core.specs.EventRefines.{IsKernel, EventRefines}
use Rattle.kernel_host.specs.declared.Host.{Host}

-- the kernel in place
abbrev pub kernel_of : {C B M : Type 0} {P : _} → Host C B M P → Placed
kernel_of h = placed_of h.kernel.running

-- It stands for a kernel of this table that had at most so many ticks as events, and its disk has this
-- size.
pub record IsHost {C B M : Type 0} {P : _} (m : Meaning) (size : ℕ) (h : Host C B M P) : Type 0 where
  pub kernel : IsKernel m h.count h.kernel.running
  pub size_is : h.kernel.running.store.size ≡ size
  pub few : h.count ≤ 2 ^ 32 - 2

-- An event happened, or there was no number left for it. Where it happened it has the next number, and
-- the kernel, the notes and the disk are what the definitions' event makes of them. Where it didn't,
-- nothing changed.
pub record Happened {C B M : Type 0} {P : _} (m : Meaning) (old new : Host C B M P) (what : Event)
    (d e : DiskSeen) (result : Bool) : Type 0 where
  pub event : result ≡ true → EventRefines m (kernel_of old) (kernel_of new) (old.count + 1) what
      new.trace.notes d e
  pub counted : result ≡ true → new.count ≡ old.count + 1
  pub full : result ≡ false → old.count ≡ 2 ^ 32 - 2
  pub same : result ≡ false → new ≡ old
  pub same_disk : result ≡ false → e ≡ d
