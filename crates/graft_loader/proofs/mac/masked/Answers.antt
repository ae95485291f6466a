use Rattle.std.proofs.Common.{◌<◌, ◌≤◌, length, arith}
use Rattle.std.specs.Prelude.{bit_xor}
use Rattle.std.proofs.lemmas.List.{length-set}
use Rattle.graft_loader.proofs.Masking.{masked_more, masked_all}
use Rattle.graft_loader.proofs.mac.masked.Goals as goal

pub loop-i-preserved : goal.loop-i-preserved
loop-i-preserved c =
    let room : c.loop-i.i < length c.args.block.now = omega arith in
    let more : c.loop-i.i < length c.loop-i.masked = omega (arith, c.loop-i.invariant.size) in
    record {
      done =
          masked_more (λ b. bit_xor b c.args.with_byte) c.args.block.now c.loop-i.masked c.loop-i.i
          c.loop-i.invariant.done room more;
      size = rw length-set c.loop-i.invariant.size;
    }

pub returns : goal.returns
returns c =
    let long : length c.args.block.now ≤ c.loop-i.i = omega arith in
    let all : length c.loop-i.masked ≤ c.loop-i.i = omega (arith, c.loop-i.invariant.size) in
    masked_all (λ b. bit_xor b c.args.with_byte) c.args.block.now c.loop-i.masked c.loop-i.i
    c.loop-i.invariant.done long all
