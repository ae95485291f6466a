-- What no line changes once a run has booted, over the sample disk.
use Rattle.std.specs.Prelude.{◌≡◌, ℕ, List, [], ◌∷◌, Option, None, Some, codes}
use Rattle.kernel_model.specs.declared.FileRow.{FileRow}
use Rattle.kernel_model.specs.Directory.{directory_of, sample_directory}
use Rattle.kernel_model.specs.World as model
use Rattle.audit_table.specs.Tables.{column_of}
use Rattle.audit_state.specs.declared.World.{World}

-- a file
abbrev pub file : List ℕ → (start blocks length : ℕ) → Option FileRow
file name start blocks length =
    Some (record { name = name; start = start; blocks = blocks; length = length })

-- the entries of the sample disk's directory
unfoldable pub sample_rows : List (Option FileRow)
sample_rows =
    file (codes "alpha") 1 8 4096 ∷ file (codes "beta") 9 40 20480 ∷ file (codes "gamma") 49 3 1100
    ∷ None ∷ None ∷ None ∷ None ∷ None ∷ None ∷ None ∷ None ∷ None ∷ None ∷ None ∷ None ∷ None ∷ []

-- these are what its block 0 says
abbrev pub RowsAre : Type 0
RowsAre = directory_of 64 sample_directory ≡ sample_rows

-- what the set-up lines set, and the sample disk
abbrev pub world_of : World → model.World
world_of w =
    record {
      frames = w.frames;
      patience = column_of 10 w.patience.items;
      grant = w.grant;
      disk_size = 64;
      directory = sample_rows;
      callable = 15;
    }
