use Rattle.std.proofs.Common.{ap, ◌∙◌}
use Rattle.kernel_model.specs.Policies.{or_zero}
use Rattle.audit_pieces.specs.Stores.{objects_of, page_of}
use Rattle.audit_pieces.proofs.Store.next_process.Goals as goal

pub returns-in-None : goal.returns-in-None
unfolding objects_of
returns-in-None c = ap or_zero (c.in-None.ensures (page_of c.args.self.now))

pub returns-in-Some : goal.returns-in-Some
unfolding objects_of
returns-in-Some c = c.from.ensures ∙ ap or_zero (c.in-Some.ensures (page_of c.args.self.now))
