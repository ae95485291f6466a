use Rattle.std.proofs.Common.{rules, ◌≡◌, ◌∷◌, ◌∙◌, ap, sym, subst}
use Rattle.script_model.specs.Script.{command_named}
use Rattle.script_text.specs.Syntax.{FindsSyntax}
use Rattle.script_text.specs.Words.{front_word}
use Rattle.script_text.proofs.Spelling.{named-first}
use Rattle.script_text.proofs.commands.fixed.Goals as goal

pub returns-in-Some : goal.returns-in-Some
returns-in-Some c =
    let is : c.args.text.now ≡ c.in-Some.first.now ∷ c.in-Some.rest.now = search rules in
    subst (λ named. FindsSyntax named c.named_after.result)
    (named-first c.in-Some.first.now c.in-Some.rest.now
    ∙ ap (λ text. command_named (front_word text)) (sym is)) c.named_after.ensures
