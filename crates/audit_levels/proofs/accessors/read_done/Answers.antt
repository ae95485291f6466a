use Rattle.std.proofs.Common.{List, ◌∷◌, ap, ◌∙◌}
use Rattle.kernel_model.specs.Levels as levels
use Rattle.audit_levels.specs.declared.Level.{Level}
use Rattle.audit_levels.specs.Levels.{levels_of, now_of}
use Rattle.audit_levels.proofs.accessors.read_done.Goals as goal

pub returns : goal.returns
returns c = λ bytes.
    let w = now_of bytes c.args.config.now in
    let ls = levels_of bytes c.args.config.now.levels.items in
    c.goes_on.ensures (record { now = w; levels = levels_of bytes c.put_first.new.items.items })
    ∙ ap (λ (xs : List Level). levels.goes_on w (levels_of bytes xs)) c.in_ok-put_first.ensures
    ∙ ap (λ (l : levels.Level). levels.goes_on w (l ∷ ls)) (c.in_ok-put_access.ensures bytes)
