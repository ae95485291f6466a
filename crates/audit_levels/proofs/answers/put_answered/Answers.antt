use Rattle.std.proofs.Common.{List, ◌∷◌, ap, ◌∙◌}
use Rattle.kernel_model.specs.Machine.{Machine}
use Rattle.kernel_model.specs.Levels as model
use Rattle.audit_levels.specs.declared.Level.{Level}
use Rattle.audit_levels.specs.Levels.{level_of, levels_of}
use Rattle.audit_levels.proofs.answers.put_answered.Goals as goal

pub returns : goal.returns
returns c = λ bytes.
    let ls = levels_of bytes c.args.levels.now.items in
    ap (λ (xs : List Level). levels_of bytes xs) c.in_ok-put_first.ensures
    ∙ ap (λ (m : Machine). model.with_machine m (level_of bytes c.args.l) ∷ ls) c.answer.ensures
