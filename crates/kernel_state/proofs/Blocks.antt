-- The blocks of files lie on the disk.
use Rattle.std.proofs.Common.{◌≡◌, ℕ, ◌+◌, ◌*◌, ◌<◌, ◌≤◌, ◌&&◌, nat_le, nat_lt, true}
use Rattle.std.proofs.Common.{Option, Some, None, arith, ap}
use Rattle.std.proofs.lemmas.Bool.{and_parts}
use Rattle.std.proofs.lemmas.Bool.Decides.{nat_tests}
use Rattle.kernel_data.specs.declared.FileRow.{FileRow}
use Rattle.kernel_data.specs.declared.OpenRow.{OpenRow}
use Rattle.kernel_data.specs.World.{World, file_row, blocks_of}
use Rattle.kernel_data.specs.Directory.{lies_on_disk}
use Rattle.kernel_model.specs.Needs.{is_within}
use Rattle.kernel_model.specs.Sound.{IsSoundFile}

-- a file's blocks lie on the disk
pub lies : (size : ℕ) (r : FileRow) → lies_on_disk size r ≡ true → r.start + r.blocks ≤ size
lies size r is =
    let first = and_parts (nat_le 1 r.start && nat_le (r.start + r.blocks) size)
    (nat_le r.length (512 * r.blocks)) is in
    let second = and_parts (nat_le 1 r.start) (nat_le (r.start + r.blocks) size) first.0 in
    grind (arith, nat_tests, second.1)

-- a block within a file lies on the disk
pub block_inside : (size : ℕ) (r : FileRow) (i off len : ℕ) → lies_on_disk size r ≡ true →
    size ≤ 4096 → is_within r i off len ≡ true → (r.start + i < size) × (i < 4096)
block_inside size r i off len is most within =
    let end = lies size r is in
    let parts = and_parts (nat_lt i r.blocks) (nat_le (512 * i + off + len) r.length) within in
    let less : i < r.blocks = grind (arith, nat_tests, parts.0) in (omega arith, omega arith)

-- how many blocks a usable file has
pub blocks_is : (v : World) (n : ℕ) (r : FileRow) → file_row v n ≡ Some r → blocks_of v n ≡ r.blocks
blocks_is v n r row = ap (λ (y : Option FileRow). elim y as (λ _. ℕ) [ None ↦ 0 | Some x ↦ x.blocks ]) row

-- a block ahead lies on the disk
pub ahead_inside : (v : World) (o : OpenRow) (r : FileRow) → IsSoundFile v o →
    file_row v o.file ≡ Some r → lies_on_disk v.disk_size r ≡ true → 1 ≤ o.count
    → r.start + o.start < v.disk_size
ahead_inside v o r h row is some =
    let end = lies v.disk_size r is in
    let within = h.within in
    let blocks = blocks_is v o.file r row in
    omega arith
