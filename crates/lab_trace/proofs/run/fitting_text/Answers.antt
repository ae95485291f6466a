use Rattle.graft_code.specs.Instructions.{fits}
use Rattle.lab_trace.proofs.Fitting.{one_passes}
use Rattle.lab_trace.proofs.run.fitting_text.Goals as goal

pub new-requires-2-clause-code_fits : goal.new-requires-2-clause-code_fits
new-requires-2-clause-code_fits c =
    one_passes fits c.in-Ok.code.items c.args.instr c.in-Ok.ensures.items c.requires
