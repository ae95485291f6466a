use Rattle.std.proofs.Common.{List, ap, ◌∙◌}
use Rattle.kernel_data.specs.declared.QueueRow.{QueueRow}
use Rattle.kernel_model.specs.Policies.{lives}
use Rattle.audit_pieces.specs.Stores.{objects_of}
use Rattle.audit_kernel.proofs.Run.lives.Goals as goal

pub returns : goal.returns
unfolding objects_of
returns c =
    c.is_among.ensures ∙ ap (λ (rows : List QueueRow). lives rows c.args.p) c.as_slice.ensures.value
