use Rattle.std.proofs.Common.{arith}
use Rattle.std.proofs.lemmas.Bool.Decides.{nat_tests}
use Rattle.script_text.proofs.Decoding.{hex_bytes-odd}
use Rattle.script_text.proofs.hexes.written.Goals.{then-word-lt2-via-then-word-lt2}
use Rattle.script_text.proofs.hexes.written.Goals.{then-word-lt2-via-else-word-lt2+then-word-gt-MOST_WRITTEN}
use Rattle.script_text.proofs.hexes.written.Goals.{
  then-word-lt2-via-else-word-lt2+else-word-gt-MOST_WRITTEN+then-word-eq1,
}
use Rattle.script_text.proofs.hexes.written.Goals as goal

pub returns-then-word-lt2 : goal.returns-then-word-lt2
returns-then-word-lt2 c =
    elim c.then-word-lt2.branch [
      | then-word-lt2-via-then-word-lt2 w ↦ grind (arith, nat_tests)
      | then-word-lt2-via-else-word-lt2+then-word-gt-MOST_WRITTEN w ↦ grind (arith, nat_tests)
      | then-word-lt2-via-else-word-lt2+else-word-gt-MOST_WRITTEN+then-word-eq1 w ↦
          grind (arith, nat_tests, hex_bytes-odd)
    ]
