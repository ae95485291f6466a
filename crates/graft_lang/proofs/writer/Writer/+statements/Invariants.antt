use Rattle.std.proofs.Common.{◌+◌, ◌*◌, length}
use Rattle.graft_lang.specs.Writing.{Uses, Writing, WritesStatements}
use Rattle.graft_lang.proofs.writer.Writer.+statements.Given as goal

abbrev pub decreases-statements : goal.decreases-statements
decreases-statements l = 8 * length l.self.now.tokens

abbrev pub decreases-block : goal.decreases-block
decreases-block l = 8 * length l.self.now.tokens + 1

abbrev pub decreases-alternative : goal.decreases-alternative
decreases-alternative l = 8 * length l.self.now.tokens + 2

abbrev pub decreases-conditional : goal.decreases-conditional
decreases-conditional l = 8 * length l.self.now.tokens + 3

abbrev pub decreases-repetition : goal.decreases-repetition
decreases-repetition l = 8 * length l.self.now.tokens + 3

abbrev pub decreases-command : goal.decreases-command
decreases-command l = 8 * length l.self.now.tokens + 4

abbrev pub decreases-statement : goal.decreases-statement
decreases-statement l = 8 * length l.self.now.tokens + 5

abbrev pub invariant-statements-loop-first : goal.invariant-statements-loop-first
invariant-statements-loop-first l = record {
  leads : (w : Writing) → WritesStatements l.names l.top l.self w
      → WritesStatements l.names l.top l.initial.self w;
  uses : Uses 16 0 l.initial.self l.self;
}

abbrev pub decreases-statements-loop-first : goal.decreases-statements-loop-first
decreases-statements-loop-first l = length l.self.tokens
