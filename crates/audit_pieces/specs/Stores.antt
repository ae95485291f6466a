-- What is committed, as the definitions say it.
use Rattle.std.specs.Prelude.{◌≡◌, ℕ, List, [], None, Some}
use Rattle.kernel_model.specs.Directory.{sample_block}
use Rattle.kernel_model.specs.Objects.{Objects}
use Rattle.kernel_model.specs.World.{Blocks}
use Rattle.audit_table.specs.Tables.{column_of}
use Rattle.audit_state.specs.Accounts.{accounts_of}
use Rattle.audit_state.specs.Things.{things_of}
use Rattle.audit_pieces.specs.declared.Store.{Store}

-- the bytes of each frame, none where none were put
abbrev pub page_of : Store → ℕ → List ℕ
page_of s f = elim (column_of None s.pages.items f) [ None ↦ [] | Some bytes ↦ bytes.items ]

-- the objects
unfoldable pub objects_of : Store → Objects
objects_of s = record { accounts = accounts_of s.accounts; things = things_of (page_of s) s.things }

-- the disk's blocks: those that were written, and else the sample disk's
unfoldable pub blocks_of : Store → Blocks
blocks_of s b =
    elim (column_of None s.disk.items b) [ None ↦ sample_block b | Some bytes ↦ bytes.items ]

-- a change of the objects, which leaves the disk's blocks
pub record Changes (change : Objects → Objects) (old new : Store) : Type 0 where
  pub objects : objects_of new ≡ change (objects_of old)
  pub blocks : blocks_of new ≡ blocks_of old
