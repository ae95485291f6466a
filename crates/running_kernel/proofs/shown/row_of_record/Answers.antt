-- The record at this place, from the newest on.
use Rattle.kernel_data.specs.declared.Inverse.TheVariants.{Cell}
use Rattle.running_kernel.proofs.ShownLemmas.{record_row_is}
use Rattle.running_kernel.proofs.shown.row_of_record.Goals as goal

pub returns : goal.returns
returns c =
    record_row_is c.args.p c.args.log.now c.list-records.result.now c.args.i c.owner.result
    (Cell 0 0 0) c.list-records.ensures.value c.requires c.owner.ensures.value
