-- A boot over the sample disk.
use Rattle.std.proofs.Common.{◌≡◌, ℕ, false, List, [], Option, Some, None, refl, sym, ap, subst, ◌∙◌, is_some}
use Rattle.script_model.specs.Directory.{directory_of, usable_count, sample_block}
use Rattle.script_model.specs.Kernel.{Kernel}
use Rattle.script_model.specs.Opening.{opening_kernel}
use Rattle.script_model.specs.Session as model
use Rattle.script_model.specs.Session.{Written, boots, booted}
use Rattle.script_model.specs.Text.{line, boot_text}
use Rattle.script_model.specs.World.{Blocks}
use Rattle.script_model.specs.declared.FileRow.{FileRow}
use Rattle.audit_table.specs.declared.Row.{Row}
use Rattle.audit_table.specs.Tables.{column_of}
use Rattle.audit_state.specs.declared.World.{World}
use Rattle.audit_state.specs.Worlds.{world_of, sample_rows, RowsAre}
use Rattle.audit_pieces.specs.Stores.{blocks_of}
use Rattle.audit_kernel.specs.declared.Run.{Run}
use Rattle.audit_kernel.specs.Runs.{kernel_of, AreKept}
use Rattle.audit_session.specs.declared.Session.{Session}
use Rattle.audit_session.specs.Sessions.{session_of, setup_of, blocks_in, Leaves}

-- before `boot` the blocks are those of the sample disk
blocks_first : (o : Option Run) → is_some o ≡ false → blocks_in o ≡ sample_block
blocks_first None h = refl
blocks_first (Some r) h = absurd cc

-- and its directory has the three files
rows_at : (blocks : Blocks) → blocks ≡ sample_block → RowsAre → directory_of 64 (blocks 0) ≡ sample_rows
unfolding sample_block
rows_at blocks same are = ap (λ (f : Blocks). directory_of 64 (f 0)) same ∙ are

three_usable : usable_count sample_rows ≡ 3
unfolding sample_rows
three_usable = refl

-- what a boot comes to, by the rows of the directory
boots_by : (s : model.Session) (rows : List (Option FileRow)) → directory_of 64 (s.blocks 0) ≡ rows →
    usable_count rows ≡ 3 →
    boots 64 15 s []
    ≡ booted s (model.world_of s.setup 64 15 rows) (boot_text s.setup.frames 64 3) []
boots_by s rows are three =
    ap (λ (rs : List (Option FileRow)). booted s (model.world_of s.setup 64 15 rs)
    (boot_text s.setup.frames 64 (usable_count rs)) []) are
    ∙ ap (λ (n : ℕ). booted s (model.world_of s.setup 64 15 rows) (boot_text s.setup.frames 64 n) []) three

-- the world that set-up lines set
pub same_world : (w u : World) → w.frames ≡ u.frames → w.patience.items ≡ u.patience.items → w.grant ≡ u.grant →
    world_of w ≡ model.world_of (setup_of u) 64 15 sample_rows
same_world w u frames patience grant =
    ap (λ (n : ℕ). record (world_of w) { frames = n }) frames
    ∙ ap (λ (rows : List (Row ℕ)). record (world_of w) { frames = u.frames; patience = column_of 10 rows }) patience
    ∙ ap (λ (n : ℕ). record (world_of u) { grant = n }) grant

-- a boot leaves a run that has just booted
pub boot_leaves : (s t : Session) (w : World) (r : Run) (bytes : List ℕ) → is_some s.run ≡ false → RowsAre →
    t ≡ record s { run = Some r } → world_of w ≡ model.world_of (setup_of s.setup) 64 15 sample_rows →
    kernel_of r ≡ opening_kernel (world_of w) → blocks_of r.store ≡ sample_block → AreKept r →
    bytes ≡ line (boot_text s.setup.frames 64 3) → Leaves (boots 64 15 (session_of s) []) t bytes
boot_leaves s t w r bytes first are state world kernel blocks kept said =
    let none = blocks_first s.run first in
    let m = session_of s in
    subst (λ (z : Written). Leaves z t bytes)
    (sym (boots_by m sample_rows (rows_at m.blocks none are) three_usable))
    (subst (λ (z : Session). Leaves (booted m (model.world_of m.setup 64 15 sample_rows)
    (boot_text m.setup.frames 64 3) []) z bytes) (sym state)
    (record {
      session =
          ap (λ (k : Kernel). record m { kernel = Some k; blocks = blocks_of r.store })
          (kernel ∙ ap opening_kernel world)
          ∙ ap (λ (b : Blocks). record m {
            kernel = Some (opening_kernel (model.world_of m.setup 64 15 sample_rows));
            blocks = b;
          }) (blocks ∙ sym none);
      bytes_are = said;
      kept = kept;
    }))
