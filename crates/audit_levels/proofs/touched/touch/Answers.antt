use Rattle.std.proofs.Common.{◌≡◌, List, ap, ◌∙◌}
use Rattle.kernel_model.specs.declared.Held.{Held}
use Rattle.kernel_model.specs.Locks as model
use Rattle.audit_levels.specs.declared.Touch.{Touch}
use Rattle.audit_levels.specs.Levels.{touched_of}
use Rattle.audit_levels.proofs.Touching.{touch_is}
use Rattle.audit_levels.proofs.touched.touch.Goals as goal

pub returns : goal.returns
returns c =
    let t = touched_of c.args.rows.now.items in
    let mode = model.held_as c.args.mode in
    let was = c.hold_of.ensures ∙ ap (λ (ts : List Touch). touched_of ts c.args.object)
    c.deref.ensures.value in
    let held : c.stronger-held.result ≡ model.stronger (t c.args.object) mode =
    c.stronger-held.ensures ∙ ap (λ (h : Held). model.stronger h c.held_as.result) was
    ∙ ap (model.stronger (t c.args.object)) c.held_as.ensures in
    c.in_ok-hold.ensures ∙ touch_is c.args.object c.stronger-held.result t (λ h. model.stronger h mode) held
