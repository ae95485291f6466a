use Rattle.std.proofs.Common.{List, ◌∷◌, map, ap, ◌∙◌}
use Rattle.kernel_model.specs.Access.{Found, bare_found}
use Rattle.kernel_model.specs.Levels as levels
use Rattle.audit_levels.specs.declared.Level.{Level}
use Rattle.audit_levels.specs.declared.Record.{Record}
use Rattle.audit_levels.specs.Levels.{level_of, levels_of, now_of, found_of}
use Rattle.audit_levels.proofs.accessors.put_record.Goals as goal

pub returns : goal.returns
returns c = λ bytes.
    let w = now_of bytes c.args.config.now in
    let ls = levels_of bytes c.args.config.now.levels.items in
    let touched = level_of bytes c.put_access.new.l in
    let with : levels.Level → List Found → levels.Level = λ k rs. record k { records = rs } in
    c.goes_on.ensures (record { now = w; levels = levels_of bytes c.put_first-2.new.items.items })
    ∙ ap (λ (xs : List Level). levels.goes_on w (levels_of bytes xs)) c.in_ok-put_first-2.ensures
    ∙ ap (λ (k : levels.Level). levels.goes_on w (k ∷ ls))
    (ap (λ (rs : List Record). with touched (map found_of rs)) c.in_ok-put_first.ensures
    ∙ ap (λ (k : levels.Level). with k (bare_found c.args.inverse ∷ k.records))
    (c.in_ok-put_access.ensures bytes))
