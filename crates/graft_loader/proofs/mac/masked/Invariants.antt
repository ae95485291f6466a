use Rattle.std.proofs.Common.{◌≡◌, ℕ, map, take, length}
use Rattle.std.specs.Prelude.{bit_xor}
use Rattle.graft_loader.proofs.mac.masked.Given as goal

abbrev pub invariant-loop-i : goal.invariant-loop-i
invariant-loop-i l =
    record {
      done : take l.i l.masked ≡ map {A = ℕ} {B = ℕ} (λ b. bit_xor b l.with_byte) (take l.i l.block);
      size : length l.masked ≡ 64;
    }
