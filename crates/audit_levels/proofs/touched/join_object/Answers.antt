use Rattle.std.proofs.Common.{◌≡◌, List, ap, ◌∙◌}
use Rattle.kernel_model.specs.declared.Held.{Held}
use Rattle.kernel_model.specs.Locks as model
use Rattle.audit_levels.specs.declared.Touch.{Touch}
use Rattle.audit_levels.specs.Levels.{touched_of, held_at}
use Rattle.audit_levels.proofs.touched.join_object.Goals as goal

pub returns : goal.returns
returns c =
    let o = c.args.object in
    let t = touched_of c.args.rows.now.items in
    let f = touched_of c.args.from.now in
    let held : c.stronger-held.result ≡ model.stronger (f o) (t o) =
    c.stronger-held.ensures ∙ ap (λ (h : Held). model.stronger h c.hold_of-2.result) c.hold_of.ensures
    ∙ ap (model.stronger (f o)) (c.hold_of-2.ensures ∙ ap (λ (ts : List Touch). touched_of ts o)
    c.deref.ensures.value) in
    c.in_ok-hold.ensures ∙ ap (λ (h : Held). held_at o h t) held
