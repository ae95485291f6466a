-- The line that tells of a run.
use Rattle.std.specs.Prelude.{ℕ, List, ◌++◌, codes}
use Rattle.script_model.specs.Bytes.{hex_text}
use Rattle.script_model.specs.Bytes.{spaced}
use Rattle.script_model.specs.Text.{line}
use Rattle.demo_text.specs.declared.summary.Counts.{Counts}

-- the line of the script of a number, of what was counted, and of the digest of all that was
-- written
abbrev pub summary_line : (n : ℕ) → Counts → (digest : List ℕ) → List ℕ
summary_line n c digest =
    line (codes "demo" ++ spaced n ++ codes " lines" ++ spaced c.lines ++ codes " ok"
    ++ spaced c.ended
    ++ codes " refused" ++ spaced c.refused ++ codes " drops" ++ spaced c.drops ++ codes " digest "
    ++ hex_text digest)
