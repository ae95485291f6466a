-- Each turn has one word less.
use Rattle.std.proofs.Common.{length}
use Rattle.script_text.proofs.commands.+own_call.Given as goal

abbrev pub decreases-own_call : goal.decreases-own_call
decreases-own_call l = length l.own.now
