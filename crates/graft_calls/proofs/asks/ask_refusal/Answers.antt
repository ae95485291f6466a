use Rattle.std.proofs.Common.{true, false, refl}
use Rattle.kernel_state.specs.Stores.{objects_of}
use Rattle.graft_calls.proofs.Asking.{refused_is}
use Rattle.graft_calls.proofs.asks.ask_refusal.Goals as goal

pub returns-then-is_running-clause-value : goal.returns-then-is_running-clause-value
returns-then-is_running-clause-value g c = λ p ram t log w.
    refused_is (objects_of c.args.store.now) c.args.level.now.owner c.args.pt c.args.id p
    ram t c.args.level.now c.args.levels.now log w false true _ c.if-is_vain.ensures
    c.if-is_running.ensures refl

pub returns-then-is_too_deep-clause-value : goal.returns-then-is_too_deep-clause-value
returns-then-is_too_deep-clause-value g c = λ p ram t log w.
    refused_is (objects_of c.args.store.now) c.args.level.now.owner c.args.pt c.args.id p
    ram t c.args.level.now c.args.levels.now log w false false true c.if-is_vain.ensures
    c.if-is_running.ensures c.if-is_too_deep.ensures

pub returns-clause-value : goal.returns-clause-value
returns-clause-value g c = λ p ram t log w.
    refused_is (objects_of c.args.store.now) c.args.level.now.owner c.args.pt c.args.id p
    ram t c.args.level.now c.args.levels.now log w false false false c.if-is_vain.ensures
    c.if-is_running.ensures c.if-is_too_deep.ensures
