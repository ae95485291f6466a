use Rattle.std.proofs.Common.{◌≡◌, ◌-◌, ℕ, min, ap, ◌∙◌, arith}
use Rattle.kernel_model.specs.Policies as model
use Rattle.audit_state.specs.Things.{things_of}
use Rattle.audit_state.proofs.Things.ahead_in.Goals as goal

pub returns : goal.returns
returns c = λ bytes.
    let pol = (things_of bytes c.args.self.now).pol 0 in
    let o = c.args.opened.now in
    let start : c.min-start.result ≡ min o.next c.args.blocks = grind (arith, c.min-start.ensures) in
    ap (λ (n : ℕ). (n, c.ahead_count.result)) start
    ∙ ap (λ (m : ℕ). (min o.next c.args.blocks, m))
    (c.ahead_count.ensures bytes
    ∙ ap (λ (n : ℕ). model.ahead_count pol o.seq o.window (c.args.blocks - n)) start)
