use Rattle.std.proofs.Common.{sym, ◌∙◌}
use Rattle.graft_syntax.proofs.Passing.{first_word-none, first_word-some}
use Rattle.graft_syntax.proofs.names.first_word.Goals as goal

pub returns-in-None : goal.returns-in-None
returns-in-None c = first_word-none c.args.text.now (sym c.in-None.ensures.place)

pub returns-in-Some : goal.returns-in-Some
returns-in-Some c =
    c.split_at.ensures.front
    ∙ first_word-some c.args.text.now c.in-Some.at (sym c.in-Some.ensures.place)
