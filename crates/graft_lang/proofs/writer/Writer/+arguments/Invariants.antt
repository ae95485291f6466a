use Rattle.std.proofs.Common.{length}
use Rattle.graft_lang.proofs.writer.Writer.+arguments.Given as goal

abbrev pub decreases-arguments : goal.decreases-arguments
decreases-arguments l = length l.self.now.tokens
