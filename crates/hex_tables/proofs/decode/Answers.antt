use Rattle.std.proofs.Common.{◌≡◌, ℕ, ◌+◌, arith}
use Rattle.kernel_data.specs.Bytes.{hex_bytes}
use Rattle.hex_tables.proofs.Loops.{decode_step, prepend-nothing}
use Rattle.hex_tables.proofs.decode.Goals as goal

pub pairs-init : goal.pairs-init
pairs-init c = prepend-nothing (hex_bytes c.args.word.now)

pub pairs-preserved : goal.pairs-preserved
pairs-preserved c =
    decode_step c.args.word.now c.pairs.to c.pairs.i (c.high.result + c.low.result) (omega arith)
    (omega arith) (omega arith) (both _ _ _ _ c.high.ensures c.low.ensures) c.pairs.invariant
  where
    both : (a b x y : ℕ) → a ≡ x → b ≡ y → a + b ≡ x + y
    both a b x y p q = omega (arith, p, q)
