use Rattle.std.proofs.Common.{List, ap, ◌∙◌}
use Rattle.kernel_model.specs.Locks.{Touched, touch_all}
use Rattle.kernel_model.specs.Levels as levels
use Rattle.graft_loader.specs.Slots.{table_of}
use Rattle.audit_state.specs.Accounts.{accounts_of}
use Rattle.audit_state.specs.Things.{things_of}
use Rattle.audit_levels.specs.declared.Touch.{Touch}
use Rattle.audit_levels.specs.Levels.{touched_of}
use Rattle.audit_replay.proofs.Going.{if_ok}
use Rattle.audit_replay.proofs.marks.first_level.Goals as goal

pub returns : goal.returns
returns c =
    if_ok c.new_level.result
    (λ l said bytes.
    let point = c.args.point.now in
    let begun : Touched → levels.Level = λ t. levels.new_level (table_of c.args.place.now.images.now)
    (record {
      accounts = accounts_of c.args.accounts.now;
      things = things_of bytes c.args.things.now;
    }) c.args.place.now.process 0 point.installer point.point point.args c.args.fed.now t in
    said bytes
    ∙ ap begun (c.in_ok-touch_all.ensures
    ∙ ap (λ (ts : List Touch). touch_all c.args.base.now (touched_of ts)) c.new-touched.ensures.items))
    c.new_level.ensures
