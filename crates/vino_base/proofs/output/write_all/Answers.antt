-- What a write takes stands after what was taken before.
use Rattle.std.proofs.Common.{arith, false, drop, length, ◌≤◌, ◌-◌, length-drop}
use Rattle.std.proofs.lemmas.List.{take_all}
use Rattle.std.proofs.KnownBytes.{Appends-trans}
use Rattle.std.proofs.Math.Seq.{take-add}
use Rattle.vino_base.specs.Streams.{used_then}
use Rattle.vino_base.proofs.output.write_all.Goals as goal

pub loop-at-preserved : goal.loop-at-preserved
loop-at-preserved g c =
    let rest = drop c.loop-at.at c.args.bytes.now in
    let short : length rest ≤ length c.args.bytes.now - c.loop-at.at =
    omega (arith, length-drop c.loop-at.at c.args.bytes.now) in
    let moved = rw (take_all (length c.args.bytes.now - c.loop-at.at) rest short) at c.in_ok-at.ensures.contents in
    let bound = rw (take_all (length c.args.bytes.now - c.loop-at.at) rest short) at c.in_ok-at.ensures.bound in
    record {
      within = omega (arith, bound, length-drop c.loop-at.at c.args.bytes.now, c.loop-at-test.true);
      used = used_then {failed = false} c.loop-at.invariant.used c.in_ok-at.ensures.used;
      appended =
          rw (take-add c.loop-at.at c.in_ok-at.field-0 c.args.bytes.now)
          (Appends-trans _ _ _ _ _ c.loop-at.invariant.appended moved);
    }
