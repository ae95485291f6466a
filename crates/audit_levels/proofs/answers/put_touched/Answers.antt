use Rattle.std.proofs.Common.{List, [], ◌∷◌, ◌++◌, ap, ◌∙◌}
use Rattle.std.proofs.lemmas.List.{map-append}
use Rattle.kernel_model.specs.Locks.{Touched}
use Rattle.kernel_model.specs.Levels as model
use Rattle.audit_levels.specs.declared.Level.{Level}
use Rattle.audit_levels.specs.Levels.{level_of, levels_of}
use Rattle.audit_levels.proofs.answers.put_touched.Goals as goal

pub returns : goal.returns
returns c = λ bytes.
    let old = c.args.levels.now.items in
    let l = level_of bytes c.args.l in
    let with : Touched → List model.Level = λ t. levels_of bytes old ++ (record l { touched = t }) ∷ [] in
    ap (λ (xs : List Level). levels_of bytes xs) c.in_ok-put_last.ensures
    ∙ map-append (level_of bytes) old _
    ∙ ap with c.in_ok-touch.ensures
