use Rattle.std.proofs.Common.{arith, rules}
use Rattle.graft_syntax.proofs.Knowing.{is_known_entry}
use Rattle.graft_syntax.proofs.names.is_in_chain.Goals as goal

pub returns-then-eq : goal.returns-then-eq
returns-then-eq c =
    λ _. is_known_entry c.args.text.now c.args.name.now c.args.entries.now c.loop-entry.number
    c.in-Some.entry.now (search rules)
    (search rules) (grind (arith, c.if-eq.true, c.eq.ensures, c.word_at.ensures))
