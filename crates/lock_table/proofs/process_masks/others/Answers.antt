use Rattle.lock_table.proofs.ProcessMasks.{has_without, has_none}
use Rattle.lock_table.proofs.process_masks.others.Goals as goal

pub returns-then-p-lt16 : goal.returns-then-p-lt16
returns-then-p-lt16 c q = has_without c.args.mask c.args.p q c.if-p-lt16.true

pub returns-else-p-lt16 : goal.returns-else-p-lt16
returns-else-p-lt16 c q = has_none c.args.mask c.args.p q c.if-p-lt16.false
