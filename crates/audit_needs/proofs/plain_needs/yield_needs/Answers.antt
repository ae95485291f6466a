use Rattle.std.proofs.Common.{◌≡◌, ◌-◌, ℕ, suc, ◌∷◌, ◌++◌, Option, sym, ap, ◌∙◌, arith}
use Rattle.kernel_model.specs.declared.Object.TheVariants.{Queue, Pol}
use Rattle.kernel_model.specs.Needs as model
use Rattle.audit_state.specs.Accounts.{accounts_of}
use Rattle.audit_needs.specs.Stages.{objects_of}
use Rattle.audit_needs.proofs.NeedLists.{three_added}
use Rattle.audit_needs.proofs.plain_needs.yield_needs.Goals as goal

pub returns-in_ok-slice_needs : goal.returns-in_ok-slice_needs
returns-in_ok-slice_needs c = λ bytes.
    let scene = c.args.scene.now in
    let old = c.args.out.now.items in
    let a = accounts_of scene.accounts.now in
    let some = c.if-piece-eq0.false in
    let next : c.args.piece ≡ suc (c.args.piece - 1) = omega arith in
    three_added _ _ _ _ _ _ _ c.in_ok-exclusive.ensures c.in_ok-shared.ensures
    c.in_ok-slice_needs.ensures
    ∙ ap (λ (o : Option ℕ). old ++ (model.exclusive Queue ∷ model.shared (Pol 2) ∷ model.slice_needs a o))
    (c.next_process.ensures bytes)
    ∙ sym (ap (λ (n : ℕ). old ++ model.yield_needs n (objects_of bytes scene.accounts.now scene.things.now)) next)
