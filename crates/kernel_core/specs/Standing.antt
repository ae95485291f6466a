-- What a kernel is before `boot`, and what a boot makes of it.
use Rattle.std.specs.Prelude.{◌≡◌, ℕ, Bool, true, false, List, [], length, Option}
use Rattle.call_pieces.specs.Calls.{Knows, Made}
use Rattle.call_pieces.specs.Disks.{DiskSeen}
use Rattle.kernel_model.specs.declared.FileRow.{FileRow}
use Rattle.kernel_model.specs.World.{Blocks}
use Rattle.kernel_model.specs.Directory.{directory_of, usable_count}
use Rattle.kernel_model.specs.Meaning.{Meaning, disk_fails}
use Rattle.kernel_model.specs.Opening.{opening_kernel, opening_policy}
use Rattle.kernel_model.specs.Sound.{IsAtRest}
use Rattle.call_pieces.specs.Shelf.{pol_of, first_choice}
use Rattle.call_pieces.specs.declared.Setup.{Setup}
use Rattle.call_pieces.specs.Stores.{views_of}
use Rattle.call_pieces.specs.Sound.{world_for}
use Rattle.placed_laws.specs.Placed.{Placed}
use Rattle.placed_laws.specs.Stands.{StandsFor}
use Rattle.running_kernel.specs.declared.running.Running.{Running}
use Rattle.running_kernel.specs.Views.{IsRunning, IsQuiet}
use Rattle.kernel_core.specs.declared.kernel.BootNote.{BootNote}
use Rattle.kernel_core.specs.declared.kernel.BootNote.TheVariants.{Up, Fault}

-- A kernel before `boot`: no call is in flight, none waits, no tick came, and the policies are
-- those of the opening state.
pub record IsBlank {C B M : Type 0} {P : _} (x : Running C B M P) : Type 0 where
  pub running : IsRunning x
  pub quiet : IsQuiet x
  pub clock : x.clock ≡ 0
  pub stock : pol_of (views_of x.store) first_choice ≡ opening_policy

-- the directory that was read from block 0 of a disk of this size, which is empty where the first
-- of these calls failed
abbrev pub directory_read : (size : ℕ) → (block : List ℕ) → List Bool → List (Option FileRow)
directory_read size block io =
    elim (disk_fails io 0) [ true ↦ [] | false ↦ directory_of size block ]

-- what is said of a boot that found this directory, or whose first call of the disk failed
abbrev pub boot_note_of : (frames size : ℕ) → List (Option FileRow) → List Bool → BootNote
boot_note_of frames size dir io =
    elim (disk_fails io 0) [ true ↦ Fault | false ↦ Up frames size (usable_count dir) ]

-- what is said of a boot from this block 0
abbrev pub boot_note : (frames size : ℕ) → (block : List ℕ) → List Bool → BootNote
boot_note frames size block io = boot_note_of frames size (directory_of size block) io

-- a boot says that the disk failed
abbrev pub is_boot_fault : BootNote → Bool
is_boot_fault Fault = true
is_boot_fault (Up frames size files) = false

-- what a boot leaves stands for the kernel after boot, which rests, the note is that of the boot,
-- and the disk tells its blocks
pub record BootIs (m : Meaning) (setup : Setup) (size : ℕ) (blocks : Blocks) (io : List Bool)
    (y : Placed) (note : BootNote) (known : Option (List (List ℕ))) : Type 0 where
  pub stands : StandsFor m y
      (opening_kernel (world_for setup size (directory_read size (blocks 0) io)))
  pub rests : IsAtRest m (opening_kernel (world_for setup size (directory_read size (blocks 0) io)))
  pub note_is : note ≡ boot_note setup.frames size (blocks 0) io
  pub blocks_are : Knows known blocks

-- A boot with this set-up, on a disk of this size, left this kernel in place and this note, and
-- took the disk from the one to the other.
pub record Booted (m : Meaning) (setup : Setup) (size : ℕ) (y : Placed) (note : BootNote)
    (d e : DiskSeen) : Type 0 where
  -- whether its one call of the disk failed
  pub io : List Bool
  pub one : length io ≡ 1
  pub made : Made d e io
  -- whatever the disk tells: it says so exactly where that call failed
  pub faulted : is_boot_fault note ≡ disk_fails io 0
  -- and what is left stands for the kernel after boot with some directory, whose files it counts
  pub dir : List (Option FileRow)
  pub begins : StandsFor m y (opening_kernel (world_for setup size dir))
  pub counts : note ≡ boot_note_of setup.frames size dir io
  pub is : (blocks : Blocks) → Knows d.known blocks → BootIs m setup size blocks io y note e.known
