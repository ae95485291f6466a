use Rattle.std.proofs.Common.{arith}
use Rattle.lab_words.proofs.Fits.{fit-none}
use Rattle.lab_words.proofs.form.take_words.Goals as goal

pub returns-in-None : goal.returns-in-None
returns-in-None c =
    λ more. grind (
      arith,
      c.loop-slot.invariant more,
      fit-none c.args.slots.now more c.loop-slot.slot-index c.loop-slot-test.true,
    )
