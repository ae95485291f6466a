use Rattle.std.proofs.Common.{List, map, ap, ◌∙◌}
use Rattle.std.specs.Prelude.{reverse}
use Rattle.kernel_model.specs.History.{Past}
use Rattle.kernel_model.specs.Levels as levels
use Rattle.audit_levels.specs.declared.Effect.{Effect}
use Rattle.audit_levels.specs.Levels.{effect_of}
use Rattle.audit_replay.proofs.Lengthening.{longer}
use Rattle.audit_replay.proofs.pasts.extended.Goals as goal

pub returns : goal.returns
returns c =
    let with : List levels.Effect → Past = λ es. record { began = c.args.past.began; effects = es } in
    ap (λ (es : List Effect). with (reverse (map effect_of es))) c.in_ok-put_all.ensures
    ∙ ap with (longer c.args.past.effects.items c.args.more.now)
