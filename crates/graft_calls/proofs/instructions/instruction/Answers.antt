use Rattle.std.proofs.Common.{List, sym, subst, refl}
use Rattle.graft_levels.specs.declared.GraftLevel.{GraftLevel}
use Rattle.graft_levels.specs.Calls.{HasWrittenOwn}
use Rattle.graft_calls.proofs.instructions.instruction.Goals as goal

pub returns-in-Some-clause-memory : goal.returns-in-Some-clause-memory
returns-in-Some-clause-memory g c =
    subst (λ (x : List GraftLevel). HasWrittenOwn c.args.p x c.run_level.new.chain.levels
    c.args.store.now.ram c.run_level.new.store.ram)
    (sym c.in-Some.ensures.level) c.run_level.ensures.memory

pub returns-in-None-clause-memory : goal.returns-in-None-clause-memory
returns-in-None-clause-memory g c = λ a out apart. refl
