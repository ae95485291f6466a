use Rattle.std.proofs.Common.{◌≡◌, ◌∙◌, Some, None, sym, ap, subst}
use Rattle.std.specs.Prelude.{Option, option_map, IfSome}
use Rattle.script_model.specs.declared.Command.{Command}
use Rattle.script_model.specs.Script.{command_named, or_own}
use Rattle.script_text.specs.Syntax.{words_seen, IsSyntax, FindsSyntaxAt}
use Rattle.script_text.specs.Words.{front_word}
use Rattle.script_text.specs.declared.commands.Syntax.{Syntax}
use Rattle.script_text.proofs.Spelling.{named-size}
use Rattle.script_text.proofs.commands.named.Goals as goal

pub returns-in-Some : goal.returns-in-Some
returns-in-Some c =
    let is : command_named (front_word c.args.text.now) ≡ Some c.in-Some.syntax.command =
    sym c.fixed.ensures.is ∙ ap (option_map (λ (s : Syntax). s.command)) c.in-Some.is in
    let syntax : IsSyntax c.in-Some.syntax = subst
    (λ (o : Option Syntax). IfSome o (λ s. IsSyntax s)) c.in-Some.is c.fixed.ensures.syntax in
    record {
      is =
          sym (ap (or_own (words_seen c.args.own.now) (front_word c.args.text.now)) is);
      syntax = record {
        size = syntax.size ∙ named-size c.args.text.now c.in-Some.syntax.command is;
        forms = syntax.forms;
        few = syntax.few;
        setup = syntax.setup;
      };
    }

pub returns-in-None : goal.returns-in-None
returns-in-None c =
    let is : command_named (front_word c.args.text.now) ≡ None =
    sym c.fixed.ensures.is ∙ ap (option_map (λ (s : Syntax). s.command)) c.in-None.is in
    let found : FindsSyntaxAt _ _ _ = c.named_own.ensures in
    record {
      is =
          found.is ∙ sym (ap (or_own (words_seen c.args.own.now) (front_word c.args.text.now)) is);
      syntax = found.syntax;
    }
