use Rattle.std.proofs.Common.{◌≡◌, ◌*◌, take}
use Rattle.lab_levels.proofs.outside.keep_memory.Given as goal

abbrev pub invariant-loop-page : goal.invariant-loop-page
invariant-loop-page l = l.kept.items ≡ take (4096 * l.page) l.memory
