use Rattle.std.proofs.Common.{List, ◌∷◌, Some, map, ap, ◌∙◌}
use Rattle.kernel_model.specs.declared.Kind.TheVariants.{Records}
use Rattle.kernel_model.specs.Objects.{Accounts, Things}
use Rattle.kernel_model.specs.Access.{Found, set_segment}
use Rattle.kernel_model.specs.Charges.{charge}
use Rattle.kernel_model.specs.GraftStep as model
use Rattle.kernel_model.specs.Levels as levels
use Rattle.audit_state.specs.Accounts.{accounts_of}
use Rattle.audit_state.specs.Things.{things_of}
use Rattle.audit_levels.specs.declared.Effect.{Effect}
use Rattle.audit_levels.specs.declared.Record.{Record}
use Rattle.audit_levels.specs.Levels.{level_of, levels_of, config_of, found_of, effect_of}
use Rattle.audit_levels.proofs.endings.keep_segment.Goals as goal

pub returns : goal.returns
returns c = λ bytes.
    let old = c.args.config.now in
    let l = level_of bytes c.args.l in
    let ls = levels_of bytes old.levels.items in
    let paid = charge Records l.owner l.point (accounts_of old.accounts) in
    let kept = set_segment l.owner l.point (Some l.machine.memory) (things_of bytes old.things) in
    let things = things_of bytes c.keep.new.things in
    let records = map found_of c.put_first.new.items.items in
    let ended : Accounts → Things → List Found → levels.Outcome =
    λ a t rs. model.completed (record { accounts = a; things = t }) (record l { records = rs })
    ls in
    let with : List Effect → levels.Outcome = λ es. record {
      said = c.in_ok-outcome.outcome.said;
      config = config_of bytes c.completed.new.config;
      effects = map effect_of es;
    } in
    ap with c.in_ok-put_first-2.ensures
    ∙ ap (levels.with_effect (levels.Charged l.point Records))
    (c.in_ok-outcome.ensures bytes
    ∙ ap (λ (a : Accounts). ended a things records) c.in_ok-charge.ensures
    ∙ ap (λ (t : Things). ended paid t records) (c.in_ok-found.ensures.kept bytes)
    ∙ ap (ended paid kept)
    (ap (λ (rs : List Record). map found_of rs) c.in_ok-put_first.ensures
    ∙ ap (λ (f : Found). f ∷ l.records) (c.in_ok-found.ensures.found bytes)))
