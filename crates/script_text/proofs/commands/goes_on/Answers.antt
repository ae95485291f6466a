use Rattle.std.proofs.Common.{arith, ◌∙◌}
use Rattle.std.proofs.lemmas.Bool.Decides.{nat_tests}
use Rattle.script_text.proofs.Spelling.{goes_on-step}
use Rattle.script_text.proofs.commands.goes_on.Goals as goal

pub loop-i-preserved : goal.loop-i-preserved
loop-i-preserved c =
    let i = c.loop-i.i in
    let l = c.loop-i.invariant in
    record {
      long = l.long;
      inside = omega (arith, c.loop-i-test.true);
      rest =
          goes_on-step c.args.ending.now c.args.rest.now i c.loop-i-test.true
          (omega (arith, c.loop-i-test.true, l.long)) c.requires
          (grind (arith, nat_tests, c.if-ending-i.false)) ∙ l.rest;
    }
