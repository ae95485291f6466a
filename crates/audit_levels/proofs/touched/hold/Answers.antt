use Rattle.std.proofs.Common.{◌≡◌, ℕ, List, ap, ◌∙◌, arith}
use Rattle.std.specs.Prelude.{slice_set}
use Rattle.audit_levels.specs.declared.Touch.{Touch}
use Rattle.audit_levels.specs.Levels.{touched_of, touches_before}
use Rattle.audit_levels.proofs.Touching.{row, hold_there, hold_new}
use Rattle.audit_levels.proofs.touched.hold.Goals as goal

pub returns-then-n-len : goal.returns-then-n-len
returns-then-n-len c =
    let rows = c.args.rows.now.items in
    let n_is : c.before-n.result ≡ touches_before c.args.object rows = c.before-n.ensures
    ∙ ap (λ (ts : List Touch). touches_before c.args.object ts) c.deref.ensures.value in
    ap (λ (n : ℕ). touched_of (slice_set rows n (row c.args.object c.args.held))) n_is
    ∙ hold_there c.args.object c.args.held rows (omega (arith, n_is))

pub returns-in-Ok : goal.returns-in-Ok
returns-in-Ok c =
    let rows = c.args.rows.now.items in
    let n_is : c.before-n.result ≡ touches_before c.args.object rows = c.before-n.ensures
    ∙ ap (λ (ts : List Touch). touches_before c.args.object ts) c.deref.ensures.value in
    ap touched_of c.in-Ok.ensures.items ∙ hold_new c.args.object c.args.held rows (omega (arith, n_is))
