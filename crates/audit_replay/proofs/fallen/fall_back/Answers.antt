use Rattle.std.proofs.Common.{List, refl, ap, ◌∙◌}
use Rattle.std.specs.Prelude.{reverse}
use Rattle.kernel_model.specs.History as model
use Rattle.audit_replay.specs.declared.Mark.TheVariants.{Fell}
use Rattle.audit_replay.specs.declared.Past.{Past}
use Rattle.audit_replay.specs.Traces.{trace_of, pasts_of}
use Rattle.audit_replay.proofs.Falling.{fallen_is}
use Rattle.audit_replay.proofs.fallen.fall_back.Goals as goal

pub returns : goal.returns
returns c = λ bytes.
    let d = c.args.d in
    fallen_is (trace_of bytes c.args.trace.now) d c.marks_before.result c.args.history.now.items
    c.truncate.new.self.items c.put_last.new.items.items (Fell c.put_all.new.effects)
    c.in_ok-effects.effects.items c.put_all.new.effects.items c.args.last.now
    (c.in_ok-effects.ensures
    ∙ ap (λ (ps : List Past). reverse (model.effects_since d (pasts_of ps))) c.deref.ensures.value)
    c.in_ok-put_all.ensures
    (c.marks_before.ensures
    ∙ ap (λ (ps : List Past). model.marks_before d (pasts_of ps)) c.deref-2.ensures.value)
    c.truncate.ensures.items refl c.in_ok-put_last.ensures
