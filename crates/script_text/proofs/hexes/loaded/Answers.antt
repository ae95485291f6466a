-- Digits that are too few, too many, odd, or none; and digits that write bytes.
use Rattle.std.proofs.Common.{arith}
use Rattle.std.proofs.lemmas.Bool.Decides.{nat_tests}
use Rattle.script_text.proofs.Decoding.{hex_bytes-odd, hex_bytes-some, hex_bytes-none}
use Rattle.script_text.proofs.hexes.loaded.Goals.{then-word-lt2-via-then-word-lt2}
use Rattle.script_text.proofs.hexes.loaded.Goals.{then-word-lt2-via-else-word-lt2+then-word-gt-MOST_LOADED}
use Rattle.script_text.proofs.hexes.loaded.Goals.{
  then-word-lt2-via-else-word-lt2+else-word-gt-MOST_LOADED+then-word-eq1,
}
use Rattle.script_text.proofs.hexes.loaded.Goals.{
  then-word-lt2-via-else-word-lt2+else-word-gt-MOST_LOADED+else-word-eq1+then-not-all_digits,
}
use Rattle.script_text.proofs.hexes.loaded.Goals as goal

pub returns-then-word-lt2 : goal.returns-then-word-lt2
returns-then-word-lt2 c =
    elim c.then-word-lt2.branch [
      | then-word-lt2-via-then-word-lt2 w ↦ grind (arith, nat_tests)
      | then-word-lt2-via-else-word-lt2+then-word-gt-MOST_LOADED w ↦ grind (arith, nat_tests)
      | then-word-lt2-via-else-word-lt2+else-word-gt-MOST_LOADED+then-word-eq1 w ↦
          grind (arith, nat_tests, hex_bytes-odd)
      | then-word-lt2-via-else-word-lt2+else-word-gt-MOST_LOADED+else-word-eq1+then-not-all_digits w ↦
          grind (arith, nat_tests, hex_bytes-none c.args.word.now)
    ]

pub returns : goal.returns
returns c = grind (arith, nat_tests, hex_bytes-some c.args.word.now)
