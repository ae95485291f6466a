use Rattle.std.proofs.Common.{ℕ, Option, None, ap}
use Rattle.kernel_model.specs.Objects.{Things}
use Rattle.audit_state.specs.Things.{things_of}
use Rattle.audit_state.proofs.Things.set_holder.Goals as goal

pub returns : goal.returns
returns c = λ bytes.
    let w = things_of bytes c.args.self.now in
    let with : (ℕ → Option ℕ) → Things = λ f. record w { lock = f } in
    ap with (c.in_ok-put_one.ensures None)
