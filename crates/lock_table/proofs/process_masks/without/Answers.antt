use Rattle.lock_table.proofs.ProcessMasks.{has_without}
use Rattle.lock_table.proofs.process_masks.without.Goals as goal

pub returns : goal.returns
returns c = λ q. has_without c.args.mask c.args.by.process q c.args.by.is_process
