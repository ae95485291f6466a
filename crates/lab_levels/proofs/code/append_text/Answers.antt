use Rattle.script_model.specs.Instructions.{fits}
use Rattle.lab_levels.proofs.Fitting.{one_passes}
use Rattle.lab_levels.proofs.code.append_text.Goals as goal

pub new-requires-2-clause-code_fits : goal.new-requires-2-clause-code_fits
new-requires-2-clause-code_fits c =
    one_passes fits c.in-Ok.code.items c.args.instr c.in-Ok.ensures.items c.requires
