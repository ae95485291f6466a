-- What was tallied is all that was written, the last lines too.
use Rattle.std.proofs.Common.{◌∙◌, []}
use Rattle.vino_top.proofs.DemoLemmas.{tells}
use Rattle.vino_top.proofs.demo.tell.Goals as goal

pub returns : goal.returns
returns g c = λ so_far is.
    tells c.args.n so_far.bytes _ c.as_slice.result.now c.print.new.out so_far.notes
    (c.print.ensures _ _ (c.add.ensures [] so_far.bytes so_far.notes is)) (c.as_slice.ensures.value ∙ c.left.ensures)
