-- The files of the sample disk: entries without and with their names.
use Rattle.std.specs.Prelude.{ℕ, List, [], ◌∷◌, codes, Option, None, Some, slice_index_or}
use Rattle.kernel_model.specs.declared.FileRow.{FileRow}
use Rattle.audit_state.specs.declared.Extent.{Extent}

-- the name of an entry
abbrev pub name_of : ℕ → List ℕ
name_of n = slice_index_or (codes "alpha" ∷ codes "beta" ∷ codes "gamma" ∷ []) n []

-- an entry of this name
abbrev pub row_with : List ℕ → Option Extent → Option FileRow
row_with name None = None
row_with name (Some e) =
    Some (record { name = name; start = e.start; blocks = e.blocks; length = e.length })
