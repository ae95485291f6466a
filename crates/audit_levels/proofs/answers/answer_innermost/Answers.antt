use Rattle.std.proofs.Common.{List, sym, ap, ◌∙◌, refl}
use Rattle.kernel_model.specs.Levels as model
use Rattle.audit_levels.specs.declared.Level.{Level}
use Rattle.audit_levels.specs.Levels.{levels_of}
use Rattle.audit_levels.proofs.answers.answer_innermost.Goals as goal

pub returns-in-None : goal.returns-in-None
returns-in-None c = λ bytes.
    let f = λ (ls : List Level). model.answer_innermost c.args.pt c.args.r0 c.args.r1 (levels_of bytes ls) in
    ap (λ (ls : List Level). levels_of bytes ls) (c.in-None.ensures.same refl ∙ c.in-None.ensures.none refl)
    ∙ sym (ap f (c.in-None.ensures.none refl))
