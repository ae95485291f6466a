use Rattle.std.proofs.Common.{arith}
use Rattle.graft_lang.proofs.Spelled.{prologue_room}
use Rattle.graft_lang.proofs.program.write_program.Goals as goal

pub statements-requires : goal.statements-requires
statements-requires c =
    prologue_room c.count-top.result c.new-writer.result c.prologue.new.self _
    c.args.syntax.now.tokens c.new-writer.ensures
    c.tokens.ensures c.requires.tokens (omega arith) c.in_ok-prologue.ensures
