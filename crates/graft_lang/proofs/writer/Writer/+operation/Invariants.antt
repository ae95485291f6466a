use Rattle.std.proofs.Common.{◌+◌, ◌*◌, length}
use Rattle.graft_lang.proofs.writer.Writer.+operation.Given as goal

abbrev pub decreases-operation : goal.decreases-operation
decreases-operation l = 4 * length l.self.now.tokens + 1

abbrev pub decreases-left : goal.decreases-left
decreases-left l = 4 * length l.self.now.tokens

abbrev pub decreases-right : goal.decreases-right
decreases-right l = 4 * length l.self.now.tokens

abbrev pub decreases-right_operation : goal.decreases-right_operation
decreases-right_operation l = 4 * length l.self.now.tokens + 2
