use Rattle.std.proofs.Common.{List, [], ◌∷◌, sym, ap, ◌∙◌, refl}
use Rattle.std.proofs.lemmas.List.{map-append}
use Rattle.kernel_model.specs.Levels as model
use Rattle.audit_levels.specs.declared.Level.{Level}
use Rattle.audit_levels.specs.Levels.{level_of, levels_of}
use Rattle.audit_levels.proofs.Outermost.{outermost_last}
use Rattle.audit_levels.proofs.answers.touch_outermost.Goals as goal

pub returns-in-None : goal.returns-in-None
returns-in-None c = λ bytes.
    let o = c.args.object in
    ap (λ (ls : List Level). levels_of bytes ls) (c.in-None.ensures.same refl ∙ c.in-None.ensures.none refl)
    ∙ sym (ap (λ (ls : List Level). model.touch_outermost o (levels_of bytes ls))
    (c.in-None.ensures.none refl))

pub returns-in_ok-put_touched-in-Some : goal.returns-in_ok-put_touched-in-Some
returns-in_ok-put_touched-in-Some c = λ bytes.
    let o = c.args.object in
    let front = c.take_last.new.levels.items in
    let l = c.in-Some.l in
    c.in_ok-put_touched-in-Some.ensures bytes
    ∙ sym (outermost_last o (levels_of bytes front) (level_of bytes l))
    ∙ sym (ap (model.touch_outermost o) (map-append (level_of bytes) front (l ∷ [])))
    ∙ sym (ap (λ (ls : List Level). model.touch_outermost o (levels_of bytes ls)) c.in-Some.ensures.some)
