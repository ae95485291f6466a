use Rattle.std.proofs.Common.{List, ◌∷◌, map, sym, ap, ◌∙◌}
use Rattle.kernel_model.specs.declared.Kind.TheVariants.{Records}
use Rattle.kernel_model.specs.Objects.{Accounts}
use Rattle.kernel_model.specs.Access.{bare_found}
use Rattle.kernel_model.specs.Charges.{charge}
use Rattle.kernel_model.specs.GraftStep as model
use Rattle.kernel_model.specs.Levels as levels
use Rattle.audit_machine.specs.Machine.{machine_of}
use Rattle.audit_state.specs.Things.{things_of}
use Rattle.audit_levels.specs.declared.Effect.{Effect}
use Rattle.audit_levels.specs.Levels.{level_of, levels_of, config_of, effect_of}
use Rattle.audit_levels.proofs.accessors.record_change.Goals as goal

pub returns : goal.returns
returns c = λ bytes w same.
    let l = level_of bytes c.args.l in
    let ls = levels_of bytes c.args.config.now.levels.items in
    let changed = model.after_access l (machine_of c.args.l.machine) c.args.id c.args.r in
    let on : Accounts → levels.Outcome = λ a. levels.goes_on
    (record { accounts = a; things = things_of bytes c.args.config.now.things })
    (record changed { records = bare_found c.args.inverse ∷ changed.records } ∷ ls) in
    let with : List Effect → levels.Outcome = λ es. record {
      said = c.in_ok-outcome.outcome.said;
      config = config_of bytes c.put_record.new.config;
      effects = map effect_of es;
    } in
    ap with c.in_ok-put_first.ensures
    ∙ ap (levels.with_effect (levels.Charged l.point Records))
    (c.in_ok-outcome.ensures bytes ∙ ap on c.in_ok-charge.ensures
    ∙ ap (λ (a : Accounts). on (charge Records l.owner l.point a)) (sym same))
