use Rattle.std.proofs.Common.{subst, ◌<◌}
use Rattle.kernel_model.specs.Early.{policy_count}
use Rattle.kernel_state.specs.Stores.{views_of}
use Rattle.kernel_state.proofs.Params.{shown_fits}
use Rattle.kernel_state.proofs.Store.param.Goals as goal

pub returns-clause-range : goal.returns-clause-range
returns-clause-range g c =
    let s = c.args.self.now in
    shown_fits (views_of s) s.choice c.args.kind c.param.result c.args.self.now.stock c.requires.kind
    (subst (λ j. j < policy_count c.args.kind) c.of.ensures.value c.of.ensures.below)
    c.param.ensures
