-- The chain has as many levels as are shown.
use Rattle.std.proofs.Common.{List, ◌∙◌, ap, sym, length}
use Rattle.running_kernel.specs.declared.running.Flight.{Flight}
use Rattle.running_kernel.specs.Views.{flight_of}
use Rattle.running_kernel.proofs.ShownLemmas.{levels_many}
use Rattle.running_kernel.proofs.running.Running.shown_levels.Goals as goal

pub returns-clause-value : goal.returns-clause-value
returns-clause-value g c =
    let x = c.args.self.now in
    c.count_of.ensures.value ∙ ap
    (λ (fs : List Flight). length (flight_of fs c.args.p).chain.levels) c.deref.ensures.value
    ∙ sym (levels_many x c.args.p)
