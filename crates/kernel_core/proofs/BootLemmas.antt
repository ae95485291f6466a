-- What a boot leaves, whether block 0 was read or not.
use Rattle.std.proofs.Common.{◌≡◌, ℕ, Bool, true, false, List, [], ◌∷◌, ◌++◌, length, ap, sym, ◌∙◌}
use Rattle.std.proofs.Common.{subst, arith, Option}
use Rattle.call_pieces.specs.Calls.{Knows, CallsExtend}
use Rattle.call_pieces.specs.Joined.{made_alone}
use Rattle.call_pieces.specs.Disks.{DiskSeen}
use Rattle.kernel_model.specs.declared.FileRow.{FileRow}
use Rattle.kernel_model.specs.World.{World, ImageTable, Blocks}
use Rattle.kernel_model.specs.Objects.{Objects}
use Rattle.kernel_model.specs.Directory.{directory_of, usable_count}
use Rattle.kernel_model.specs.Meaning.{Meaning, disk_fails}
use Rattle.kernel_model.specs.Opening.{opening_kernel, opening_objects}
use Rattle.kernel_model.specs.Sound.{IsAtRest, ImagesAreLoaded}
use Rattle.call_pieces.specs.declared.Setup.{Setup}
use Rattle.call_pieces.specs.Sound.{world_for}
use Rattle.placed_laws.specs.Placed.{Placed}
use Rattle.placed_laws.specs.Stands.{StandsFor}
use Rattle.kernel_core.specs.declared.kernel.BootNote.TheVariants.{Up, Fault}
use Rattle.kernel_core.specs.Standing.{Booted, directory_read, boot_note, boot_note_of}

-- where none waits, all that wait are blocked
pub opening_rests : (m : Meaning) (v : World) → IsAtRest m (opening_kernel v)
opening_rests m v = λ e within. absurd (omega (arith, within.1))

-- no graft stands after boot
pub opening_loaded : (images : ImageTable) (s : Objects) (grant : ℕ) → s ≡ opening_objects grant →
    ImagesAreLoaded images s.accounts
opening_loaded images s grant is =
    subst (λ (x : Objects). ImagesAreLoaded images x.accounts) (sym is) (λ q pt g stands. absurd cc)

-- one call after none
one_call : (before io : List Bool) (failed : Bool) → before ≡ [] → io ≡ before ++ failed ∷ [] → io ≡ failed ∷ []
one_call before io failed empty is = is ∙ ap (λ (calls : List Bool). calls ++ failed ∷ []) empty

-- block 0 was read
pub booted_read : (m : Meaning) (setup : Setup) (size size_new : ℕ) (y : Placed) (files : ℕ)
    (dir : List (Option FileRow)) (block : List ℕ) (before io : List Bool) (d e : DiskSeen) →
    size_new ≡ size → before ≡ [] → io ≡ before ++ false ∷ [] → CallsExtend d e before io →
    ((blocks : Blocks) → Knows d.known blocks → Knows e.known blocks × (block ≡ blocks 0)) →
    dir ≡ directory_of size_new block → files ≡ usable_count dir →
    StandsFor m y (opening_kernel (world_for setup size_new dir)) →
    Booted m setup size y (Up setup.frames size_new files) d e
booted_read m setup size size_new y files dir block before io d e size_is empty noted goes known
    dir_is files_are stands =
    let one = one_call before io false empty noted in
    record {
      io = io;
      one = ap length one;
      made = made_alone d e before io empty goes;
      faulted = sym (ap (λ (calls : List Bool). disk_fails calls 0) one);
      dir = dir;
      begins = subst (λ n. StandsFor m y (opening_kernel (world_for setup n dir))) size_is stands;
      counts = ap (λ n. Up setup.frames n files) size_is ∙ ap (Up setup.frames size) files_are
          ∙ ap (boot_note_of setup.frames size dir) (sym one);
      is = λ blocks tells.
          let read = known blocks tells in
          let dir_of : dir ≡ directory_of size (blocks 0) = dir_is
          ∙ ap (λ n. directory_of n block) size_is ∙ ap (directory_of size) read.1 in
          let same : directory_read size (blocks 0) io ≡ directory_of size (blocks 0) =
          ap (directory_read size (blocks 0)) one in
          let world : world_for setup size_new dir ≡ world_for setup size (directory_read size (blocks 0) io) =
          ap (λ n. world_for setup n dir) size_is ∙ ap (world_for setup size) (dir_of ∙ sym same) in
          record {
            stands = subst (λ (v : World). StandsFor m y (opening_kernel v)) world stands;
            rests = opening_rests m (world_for setup size (directory_read size (blocks 0) io));
            note_is =
                ap (λ n. Up setup.frames n files) size_is
                ∙ ap (λ n. Up setup.frames size n) (files_are ∙ ap usable_count dir_of)
                ∙ ap (boot_note setup.frames size (blocks 0)) (sym one);
            blocks_are = read.0;
          };
    }

-- that failed
pub booted_fault : (m : Meaning) (setup : Setup) (size size_new : ℕ) (y : Placed)
    (dir : List (Option FileRow)) (before io : List Bool) (d e : DiskSeen) →
    size_new ≡ size → before ≡ [] → io ≡ before ++ true ∷ [] → CallsExtend d e before io →
    ((blocks : Blocks) → Knows d.known blocks → Knows e.known blocks) → dir ≡ [] →
    StandsFor m y (opening_kernel (world_for setup size_new dir)) → Booted m setup size y Fault d e
booted_fault m setup size size_new y dir before io d e size_is empty noted goes known dir_is stands =
    let one = one_call before io true empty noted in
    record {
      io = io;
      one = ap length one;
      made = made_alone d e before io empty goes;
      faulted = sym (ap (λ (calls : List Bool). disk_fails calls 0) one);
      dir = dir;
      begins = subst (λ n. StandsFor m y (opening_kernel (world_for setup n dir))) size_is stands;
      counts = ap (boot_note_of setup.frames size dir) (sym one);
      is = λ blocks tells.
          let same : directory_read size (blocks 0) io ≡ [] = ap (directory_read size (blocks 0)) one in
          let world : world_for setup size_new dir ≡ world_for setup size (directory_read size (blocks 0) io) =
          ap (λ n. world_for setup n dir) size_is ∙ ap (world_for setup size) (dir_is ∙ sym same) in
          record {
            stands = subst (λ (v : World). StandsFor m y (opening_kernel v)) world stands;
            rests = opening_rests m (world_for setup size (directory_read size (blocks 0) io));
            note_is = ap (boot_note setup.frames size (blocks 0)) (sym one);
            blocks_are = known blocks tells;
          };
    }
