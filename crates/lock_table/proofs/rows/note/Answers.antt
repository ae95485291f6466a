use Rattle.std.proofs.Common.{rules, sym, ◌∙◌}
use Rattle.lock_table.proofs.NotedLemmas.{room}
use Rattle.lock_table.proofs.rows.note.Goals as goal

pub push-requires : goal.push-requires
push-requires c =
    let free = sym c.any_holds.ensures ∙ c.if-not-any_holds.true in (
      search rules,
      room c.args.masks.now c.args.numbers.now.items c.args.number 421 c.requires.noted
          c.requires.size c.requires.number free,
    )
