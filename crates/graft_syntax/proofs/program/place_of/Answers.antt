use Rattle.std.proofs.Common.{sym, ◌∙◌}
use Rattle.graft_syntax.proofs.NameMap.{position-names}
use Rattle.graft_syntax.proofs.program.place_of.Goals as goal

pub returns-clause-place : goal.returns-clause-place
returns-clause-place c = c.get_index_of.ensures.index ∙ sym (position-names c.args.name.now c.args.names.now.entries)
