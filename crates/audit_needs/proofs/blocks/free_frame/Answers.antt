use Rattle.std.proofs.Common.{◌≡◌, ◌+◌, ◌-◌, ◌<◌, suc, refl, sym, ◌∙◌, arith}
use Rattle.audit_state.specs.Things.{things_of}
use Rattle.audit_needs.proofs.Searching.{frame_used, frame_free, frame_none}
use Rattle.audit_needs.proofs.blocks.free_frame.Goals as goal

pub returns-in-None : goal.returns-in-None
returns-in-None c = λ bytes.
    let cache = (things_of bytes c.args.things.now).cache in
    let f = c.loop-f.f in
    let more : 0 < c.args.count - f = omega arith in
    sym (frame_free cache (c.args.count - f) f more (sym (c.in-None.ensures bytes)))
    ∙ c.loop-f.invariant bytes

pub loop-f-preserved : goal.loop-f-preserved
loop-f-preserved c = λ bytes.
    let cache = (things_of bytes c.args.things.now).cache in
    let f = c.loop-f.f in
    let n = c.args.count - (f + 1) in
    let less : c.args.count - f ≡ suc n = omega arith in
    sym (frame_used cache (c.args.count - f) n f (f + 1) _ less refl (sym (c.in-Some.ensures bytes)))
    ∙ c.loop-f.invariant bytes

pub returns : goal.returns
returns c = λ bytes.
    let cache = (things_of bytes c.args.things.now).cache in
    let f = c.loop-f.f in
    let none : c.args.count - f ≡ 0 = omega arith in
    sym (frame_none cache (c.args.count - f) f none) ∙ c.loop-f.invariant bytes
