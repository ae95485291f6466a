use Rattle.std.proofs.Common.{true, false, sym, ◌∙◌}
use Rattle.call_needs.specs.Works.{stage_of}
use Rattle.call_pieces.proofs.Sides.{taken_of}
use Rattle.call_pieces.proofs.beside.BesideCalls.lock_taken.Goals as goal

pub returns-then-owns : goal.returns-then-owns
returns-then-owns g c =
    taken_of g.A.Calls.owns g.A.Meaning.Rules.meaning g.B.Meaning.Rules.meaning true
    (stage_of c.args.work.now) c.lock_taken.result
    (sym (c.owns.ensures c.args.work.now.bytes.items) ∙ c.if-owns.true) c.lock_taken.ensures

pub returns-else-owns : goal.returns-else-owns
returns-else-owns g c =
    taken_of g.A.Calls.owns g.A.Meaning.Rules.meaning g.B.Meaning.Rules.meaning false
    (stage_of c.args.work.now) c.lock_taken-else-owns.result
    (sym (c.owns.ensures c.args.work.now.bytes.items) ∙ c.if-owns.false) c.lock_taken-else-owns.ensures
