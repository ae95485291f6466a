use Rattle.lock_table.proofs.ProcessMasks.{has_with}
use Rattle.lock_table.proofs.process_masks.with.Goals as goal

pub returns : goal.returns
returns c = λ q. has_with c.args.mask c.args.by.process q c.args.by.is_process
