-- What a file adds to the status.
use Rattle.std.proofs.Common.{arith}
use Rattle.std.proofs.lemmas.Bool.Decides.{nat_tests}
use Rattle.lab_judging.proofs.Judging.{adds_failed}
use Rattle.lab_judging.proofs.WantsOrder.{lowered_in_order}
use Rattle.lab_judging.proofs.wants.test_file.Goals as goal

pub test_lab-requires : goal.test_lab-requires
test_lab-requires c =
    let o = c.in-Ok.opened in
    record {
      wants = lowered_in_order o.text.items o.lowered.lab o.lowered.images.items
          o.lowered.script.items c.in-Ok.ensures.ok;
    }

pub returns-in-Ok-test_lab : goal.returns-in-Ok-test_lab
returns-in-Ok-test_lab c =
    let o = c.in-Ok.opened in
    let failed = c.failed-in-Ok-test_lab.ensures in
    adds_failed c.args.count.status c.failed-in-Ok-test_lab.result.status c.in-Ok-test_lab.status
    o.text.items o.lowered.lab o.lowered.images.items o.lowered.script.items
    c.in-Ok.ensures.ok c.in-Ok.ensures.some c.in-Ok-test_lab.ensures.failed
    (grind (arith, nat_tests, c.in-Ok-test_lab.status-test)) failed.counts failed.no_more
