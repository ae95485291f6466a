use Rattle.std.proofs.Common.{ap, ◌∙◌}
use Rattle.std.specs.List.{list_any}
use Rattle.graft_texts.specs.World.{same_bytes}
use Rattle.graft_syntax.specs.declared.names.Entry.{Entry}
use Rattle.graft_syntax.specs.Places.{word_at}
use Rattle.graft_syntax.proofs.Knowing.{is_known_by_test}
use Rattle.graft_syntax.proofs.names.Known.is_assigned.Goals as goal

pub returns-else-is_in_chain : goal.returns-else-is_in_chain
returns-else-is_in_chain c =
    c.is_among.ensures
    ∙ ap (list_any (λ (e : Entry). same_bytes c.args.name.now (word_at c.args.text.now e.start)))
    c.as_slice-entries.ensures.value
    ∙ is_known_by_test c.args.text.now c.args.name.now c.args.self.now.entries.items
