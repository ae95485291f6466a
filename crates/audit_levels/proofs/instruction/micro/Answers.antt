use Rattle.std.proofs.Common.{Bool, List, ap, sym, ◌∙◌, refl}
use Rattle.kernel_model.specs.Levels as levels
use Rattle.kernel_model.specs.GraftStep as model
use Rattle.graft_loader.specs.Slots.{table_of}
use Rattle.audit_state.specs.Worlds.{world_of}
use Rattle.audit_levels.specs.declared.Level.{Level}
use Rattle.audit_levels.specs.Levels.{level_of, levels_of, now_of}
use Rattle.audit_levels.proofs.Going.{if_ok}
use Rattle.audit_levels.proofs.instruction.micro.Goals as goal

pub returns-in_default : goal.returns-in_default
returns-in_default c = λ bytes.
    let w = now_of bytes c.args.config.now in
    let v = world_of c.args.place.now.world.now in
    let images = table_of c.args.place.now.images.now in
    c.goes_on.ensures (record { now = w; levels = levels_of bytes c.take_first.new.items.items })
    ∙ ap (λ (ls : List Level). levels.goes_on w (levels_of bytes ls))
    (c.in_default.ensures.same refl ∙ c.in_default.ensures.none refl)
    ∙ sym (ap (λ (ls : List Level). model.micro_on v images c.args.place.now.process w
    (levels_of bytes ls)) (c.in_default.ensures.none refl))

pub returns : goal.returns
returns c =
    let v = world_of c.args.place.now.world.now in
    let images = table_of c.args.place.now.images.now in
    let p = c.args.place.now.process in
    if_ok c.charged_step.result
    (λ o said bytes.
    let w = now_of bytes c.args.config.now in
    let l = level_of bytes c.in-Some.l in
    let ls = levels_of bytes c.take_first.new.items.items in
    said bytes
    ∙ ap (λ (b : Bool). model.charged_step v images p w l ls b) (c.is_spent-spent.ensures bytes)
    ∙ sym (ap (λ (xs : List Level). model.micro_on v images p w (levels_of bytes xs)) c.in-Some.ensures.some))
    c.charged_step.ensures
