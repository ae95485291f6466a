use Rattle.std.proofs.Common.{◌≡◌, take}
use Rattle.graft_syntax.specs.Views.{names_of}
use Rattle.graft_syntax.specs.Places.{known_names}
use Rattle.graft_syntax.proofs.names.Known.names.Given as goal

abbrev pub invariant-loop-entry : goal.invariant-loop-entry
invariant-loop-entry l = names_of l.names.entries ≡ known_names l.text (take l.entry-index l.self.entries.items)
