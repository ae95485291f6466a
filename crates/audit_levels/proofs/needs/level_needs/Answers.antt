use Rattle.std.proofs.Common.{Bool, cond, List, [], sym, ap, ◌∙◌}
use Rattle.kernel_model.specs.declared.Need.{Need}
use Rattle.kernel_model.specs.declared.Instr.{Instr}
use Rattle.kernel_model.specs.Machine.{next_call}
use Rattle.kernel_model.specs.Levels as levels
use Rattle.kernel_model.specs.GraftStep as model
use Rattle.graft_loader.specs.Slots.{table_of}
use Rattle.audit_state.specs.Accounts.{accounts_of}
use Rattle.audit_state.specs.Worlds.{world_of}
use Rattle.audit_levels.specs.Levels.{level_of}
use Rattle.audit_levels.proofs.Going.{if_ok}
use Rattle.audit_levels.proofs.needs.level_needs.Goals as goal

pub returns-then-is_spent : goal.returns-then-is_spent
returns-then-is_spent c = λ bytes outer.
    let l = level_of bytes c.args.l.now in
    let w = accounts_of c.args.accounts.now in
    let v = world_of c.args.place.now.world.now in
    let code = levels.code_of (table_of c.args.place.now.images.now) w l.owner l.point in
    c.new.ensures.items
    ∙ sym (ap (λ (b : Bool). cond {A = List Need} b []
    (model.instruction_needs v l (next_call code l.machine)))
    (sym (c.is_spent.ensures bytes) ∙ c.if-is_spent.true))

pub returns-in-Some : goal.returns-in-Some
returns-in-Some c =
    if_ok c.call_needs.result
    (λ ns said bytes outer.
    let l = level_of bytes c.args.l.now in
    let w = accounts_of c.args.accounts.now in
    let v = world_of c.args.place.now.world.now in
    let code = levels.code_of (table_of c.args.place.now.images.now) w l.owner l.point in
    said bytes
    ∙ ap (model.instruction_needs v l)
    (sym c.in-Some.is ∙ c.next_call.ensures ∙ ap (λ (is : List Instr). next_call is l.machine)
    c.code_of.ensures.code)
    ∙ sym (ap (λ (b : Bool). cond {A = List Need} b []
    (model.instruction_needs v l (next_call code l.machine)))
    (sym (c.is_spent.ensures bytes) ∙ c.if-is_spent.false)))
    c.call_needs.ensures
