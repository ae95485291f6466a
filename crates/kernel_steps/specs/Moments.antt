-- Moments of an event under way.
use Rattle.std.specs.Prelude.{List}
use Rattle.kernel_model.specs.declared.Note.{Note}
use Rattle.call_pieces.specs.Disks.{DiskSeen}

-- A moment of an event under way: the kernel, or what is looked at of it; the notes that are kept
-- of those of the event so far; and what is seen of the disk.
pub record KernelMoment (K : Type 0) : Type 0 where
  pub kernel : K
  pub notes : List Note
  pub disk : DiskSeen

-- the moment of these
abbrev pub kernel_moment : {K : Type 0} → K → List Note → DiskSeen → KernelMoment K
kernel_moment kernel notes disk = record { kernel = kernel; notes = notes; disk = disk }
