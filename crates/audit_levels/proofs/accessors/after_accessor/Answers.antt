use Rattle.std.proofs.Common.{◌∷◌, slice_index, subst, sym, ap, ◌∙◌}
use Rattle.kernel_model.specs.Objects.{Accounts, Things}
use Rattle.kernel_model.specs.GraftStep as model
use Rattle.kernel_model.specs.Levels as levels
use Rattle.audit_machine.specs.Machine.{machine_of}
use Rattle.audit_state.specs.declared.Accessed.{Accessed}
use Rattle.audit_state.specs.Access.{access_of, Keeps}
use Rattle.audit_state.specs.Accounts.{accounts_of}
use Rattle.audit_state.specs.Things.{things_of}
use Rattle.audit_state.specs.Worlds.{world_of}
use Rattle.audit_levels.specs.Levels.{level_of, levels_of}
use Rattle.audit_levels.proofs.Going.{if_ok}
use Rattle.audit_levels.proofs.accessors.after_accessor.Goals as goal

pub returns-in-Gives : goal.returns-in-Gives
returns-in-Gives c =
    if_ok c.after_result.result
    (λ o said bytes w same keeps.
    let v = world_of c.args.place.now.world.now in
    let l = level_of bytes c.args.l in
    let ls = levels_of bytes c.args.config.now.levels.items in
    let m = machine_of c.args.l.machine in
    let id = c.args.id in
    let now = things_of bytes c.args.config.now.things in
    let due = model.is_lock_due id (slice_index c.args.l.machine.regs 0) (l ∷ ls) in
    let on : Accounts → Things → levels.Outcome =
    λ a t. model.after_result v (record { accounts = a; things = t }) l ls m id c.in-Gives.r due
    in
    said bytes
    ∙ ap (on (accounts_of c.args.config.now.accounts))
    (subst (λ (d : Accessed). Keeps d w.things now) c.in-Gives.is keeps)
    ∙ ap (λ (a : Accounts). on a w.things) (sym same)
    ∙ sym (ap (λ (d : Accessed). model.after_accessor v w l ls m id (access_of d now)) c.in-Gives.is))
    c.after_result.ensures
