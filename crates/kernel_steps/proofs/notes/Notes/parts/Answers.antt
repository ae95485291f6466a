use Rattle.std.proofs.Common.{arith, take}
use Rattle.kernel_steps.proofs.NotingLemmas.{as_many}
use Rattle.kernel_steps.proofs.notes.Notes.parts.Goals as goal

pub returns-clause-few_notes : goal.returns-clause-few_notes
returns-clause-few_notes c =
    let many = as_many c.self.inside.list.items (take c.self.inside.size c.self.inside.bytes.items) in
    rw (← c.self.view_is) (omega (arith, many, c.self.invariant.0.few))
