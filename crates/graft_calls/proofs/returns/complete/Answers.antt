use Rattle.std.proofs.Common.{◌≡◌, suc, length, refl, ap, subst, arith, slice_index}
use Rattle.graft_levels.specs.Masks.{held}
use Rattle.graft_levels.specs.Calls.{AreInside}
use Rattle.graft_levels.proofs.Completing.{joined_call, completed_call, merged_free, merged_others}
use Rattle.graft_levels.proofs.Views.{released_free, released_others}
use Rattle.graft_calls.proofs.returns.complete.Goals as goal

pub returns-in-None-clause-step : goal.returns-in-None-clause-step
returns-in-None-clause-step c = λ w ram.
    completed_call c.args.inner.process ram (held c.args.locks.now) (held c.release_from.new.self)
    c.args.inner.level c.args.chain.now.levels c.pop.new.self c.args.chain.now.undo
    c.commit_level.new.self w c.registers.result
    c.in-None.ensures.none c.in-None.ensures.no_more c.registers.ensures

pub returns-in-None-clause-unheld : goal.returns-in-None-clause-unheld
returns-in-None-clause-unheld c =
    λ d o le free. released_free c.args.inner.process 0 d o (held c.args.locks.now)
    (held c.release_from.new.self) c.release_from.ensures (omega arith)

pub returns-in-None-clause-others : goal.returns-in-None-clause-others
returns-in-None-clause-others c =
    λ q d apart. released_others c.args.inner.process 0 q d (held c.args.locks.now)
    (held c.release_from.new.self) c.release_from.ensures apart

pub returns-in-Some-clause-step : goal.returns-in-Some-clause-step
returns-in-Some-clause-step c = λ w ram.
    joined_call c.args.inner.level.point (slice_index c.args.inner.level.machine.regs 0)
    (slice_index c.args.inner.level.machine.regs 1) c.args.inner.process ram
    (held c.args.locks.now) (held c.join.new.locks) c.args.inner.level c.in-Some.asker
    c.args.chain.now.levels c.pop.new.self c.join.new.levels c.args.chain.now.undo
    c.commit_level.new.self w refl refl refl c.in-Some.ensures.level c.requires.as_many
    c.commit_level.ensures c.join.ensures.locks
    (c.join.ensures.levels c.args.inner.process ram (held c.join.new.locks) c.commit_level.new.self w.things)

pub returns-in-Some-clause-unheld : goal.returns-in-Some-clause-unheld
returns-in-Some-clause-unheld c = λ d o le free.
    let count : length c.args.chain.now.levels ≡ suc (length c.pop.new.self) = ap length c.in-Some.ensures.level in
    merged_free c.args.inner.process (length c.pop.new.self) d
    (held c.args.locks.now) (held c.join.new.locks) o c.join.ensures.locks
    (omega (arith, count, le)) (λ e a above. free e a (omega (arith, count, above)))

pub returns-in-Some-clause-others : goal.returns-in-Some-clause-others
returns-in-Some-clause-others c =
    λ q d apart. merged_others c.args.inner.process (length c.pop.new.self) q d
    (held c.args.locks.now) (held c.join.new.locks) c.join.ensures.locks apart

pub returns-in-Some-clause-inside : goal.returns-in-Some-clause-inside
returns-in-Some-clause-inside c =
    λ images a q h. c.join.ensures.inside images a q
    (subst (λ gs. AreInside images a q gs) c.in-Some.ensures.level h)
