use Rattle.std.proofs.Common.{List, Option, ap, sym, ◌∙◌}
use Rattle.kernel_model.specs.Levels as levels
use Rattle.kernel_model.specs.GraftStep as model
use Rattle.graft_loader.specs.Slots.{table_of}
use Rattle.audit_state.specs.declared.Graft.{Graft}
use Rattle.audit_state.specs.Accounts.{standing}
use Rattle.audit_state.specs.Worlds.{world_of}
use Rattle.audit_levels.specs.Levels.{levels_of, now_of, config_of}
use Rattle.audit_levels.proofs.asks.answer_ask.Goals as goal

pub returns-in_ok-answer_by_default-in-None : goal.returns-in_ok-answer_by_default-in-None
returns-in_ok-answer_by_default-in-None c = λ bytes.
    let w = now_of bytes c.args.config.now in
    let ls = levels_of bytes c.args.config.now.levels.items in
    let v = world_of c.args.place.now.world.now in
    let images = table_of c.args.place.now.images.now in
    c.goes_on.ensures (record { now = w; levels = levels_of bytes c.answer_by_default.new.levels.items })
    ∙ ap (λ (xs : List levels.Level). levels.goes_on w xs) (c.in_ok-answer_by_default-in-None.ensures bytes)
    ∙ sym (ap (λ (g : Option Graft). model.ask_answered v images w c.args.place.now.process c.args.q
    c.args.pt ls (standing g)) c.in-None.is)

pub returns-in_ok-begin_level-in-Some : goal.returns-in_ok-begin_level-in-Some
returns-in_ok-begin_level-in-Some c = λ bytes.
    let w = now_of bytes c.args.config.now in
    let ls = levels_of bytes c.args.config.now.levels.items in
    let v = world_of c.args.place.now.world.now in
    let images = table_of c.args.place.now.images.now in
    c.goes_on-in-Some.ensures (config_of bytes c.begin_level.new.config)
    ∙ ap (λ (x : levels.Config). levels.goes_on x.now x.levels) (c.in_ok-begin_level-in-Some.ensures bytes)
    ∙ sym (ap (λ (g : Option Graft). model.ask_answered v images w c.args.place.now.process c.args.q
    c.args.pt ls (standing g)) c.in-Some.is)
