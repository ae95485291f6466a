use Rattle.std.proofs.Common.{List, ap, ◌∙◌}
use Rattle.kernel_model.specs.Levels as levels
use Rattle.audit_levels.specs.declared.Level.{Level}
use Rattle.audit_levels.specs.Levels.{levels_of, now_of}
use Rattle.audit_levels.proofs.instruction.goes_on_with.Goals as goal

pub returns : goal.returns
returns c = λ bytes.
    let w = now_of bytes c.args.config.now in
    c.goes_on.ensures (record { now = w; levels = levels_of bytes c.put_first.new.items.items })
    ∙ ap (λ (ls : List Level). levels.goes_on w (levels_of bytes ls)) c.in_ok-put_first.ensures
