use Rattle.std.proofs.Common.{List, ◌∷◌, refl, ap, sym, ◌∙◌}
use Rattle.kernel_model.specs.GraftStep as model
use Rattle.kernel_model.specs.Levels as levels
use Rattle.audit_levels.specs.declared.Level.{Level}
use Rattle.audit_levels.specs.Levels.{level_of, levels_of, now_of}
use Rattle.audit_levels.proofs.endings.completed.Goals as goal

pub returns-in-None : goal.returns-in-None
returns-in-None c = λ bytes.
    let w = now_of bytes c.args.config.now in
    let none = c.in-None.ensures.none refl in
    c.complete_call.ensures bytes (record { now = w; levels = levels_of bytes c.take_first.new.items.items })
    (ap (levels_of bytes) (c.in-None.ensures.same refl ∙ none))
    ∙ sym (ap (λ (ls : List Level). model.completed w (level_of bytes c.args.l) (levels_of bytes ls)) none)

pub returns-in_ok-put_first-in-Some : goal.returns-in_ok-put_first-in-Some
returns-in_ok-put_first-in-Some c = λ bytes.
    let w = now_of bytes c.args.config.now in
    let outer = levels_of bytes c.take_first.new.items.items in
    c.goes_on.ensures (record { now = w; levels = levels_of bytes c.put_first.new.items.items })
    ∙ ap (λ (ls : List Level). levels.goes_on w (levels_of bytes ls)) c.in_ok-put_first-in-Some.ensures
    ∙ ap (λ (a : levels.Level). levels.goes_on w (a ∷ outer)) (c.in_ok-take_over-in-Some.ensures bytes)
    ∙ sym (ap (λ (ls : List Level). model.completed w (level_of bytes c.args.l)
    (levels_of bytes ls)) c.in-Some.ensures.some)
