use Rattle.std.proofs.Common.{ap, ◌∙◌}
use Rattle.kernel_model.specs.Objects.{Things}
use Rattle.kernel_model.specs.Fetch.{filled, new_frame}
use Rattle.audit_state.proofs.Things.replace.Goals as goal

pub returns : goal.returns
returns c = λ bytes read.
    c.in_ok-fill.ensures bytes read
    ∙ ap (λ (x : Things). record x
    { cache = filled c.args.f (new_frame c.args.owner c.args.block read) x.cache }) (c.exchange.ensures bytes)
