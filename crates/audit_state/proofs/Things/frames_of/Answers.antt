use Rattle.std.proofs.Common.{ℕ, Bool, List, [], ◌∷◌, ◌++◌, cond, filter, get_or, ap, ◌∙◌}
use Rattle.kernel_model.specs.Policies.{is_owned}
use Rattle.audit_state.specs.Things.{things_of}
use Rattle.audit_state.proofs.Stepping.{passing_more, passing_all}
use Rattle.audit_state.proofs.Things.frames_of.Goals as goal

pub loop-f-preserved : goal.loop-f-preserved
loop-f-preserved c = λ bytes.
    let p = λ (f : ℕ). is_owned (things_of bytes c.args.self.now).cache c.args.q f in
    let xs = c.deref-f-items.result.now in
    let fs = c.loop-f.frames.items in
    let x = get_or xs c.loop-f.f-index 0 in
    passing_more p fs c.put_if.new.frames.items xs c.loop-f.f-index c.loop-f-test.true
    (c.in_ok-put_if.ensures ∙ ap (λ (b : Bool). fs ++ cond b (x ∷ []) []) (c.is_owned.ensures bytes))
    (c.loop-f.invariant bytes)

pub returns : goal.returns
returns c = λ bytes.
    let p = λ (f : ℕ). is_owned (things_of bytes c.args.self.now).cache c.args.q f in
    passing_all p c.loop-f.frames.items c.deref-f-items.result.now c.loop-f.f-index
    c.loop-f-test.false (c.loop-f.invariant bytes)
    ∙ ap (λ (xs : List ℕ). filter p xs) c.deref-f-items.ensures.value
