use Rattle.std.proofs.Common.{rules}
use Rattle.audit_table.proofs.Filtering.{kept_by}
use Rattle.audit_state.proofs.lists.leave_out.Goals as goal

pub returns : goal.returns
returns c = kept_by _ _ _ (λ x b h called. search rules) _ _ c.retain.ensures.filtered
