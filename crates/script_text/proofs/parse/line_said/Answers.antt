use Rattle.std.proofs.Common.{◌≡◌, ◌∙◌, not, ◌==◌, Some, sym, arith, ap, subst, refl}
use Rattle.std.specs.Prelude.{Option, option_map, IfSome}
use Rattle.std.proofs.lemmas.Bool.Decides.{nat_tests}
use Rattle.std.proofs.lemmas.List.Sums.{prefix_len-le-length}
use Rattle.script_model.specs.Script.{command_among}
use Rattle.script_text.specs.Answers.{IsParsed}
use Rattle.script_text.specs.Syntax.{words_seen, IsSyntaxAt}
use Rattle.script_text.specs.Words.{front_word}
use Rattle.script_text.specs.declared.commands.Syntax.{Syntax}
use Rattle.script_text.proofs.Lines.{parsed-first}
use Rattle.script_text.proofs.parse.line_said.Goals as goal

pub skip-requires : goal.skip-requires
skip-requires c =
    let syntax : IsSyntaxAt c.args.line.now c.in-Some.syntax = subst
    (λ (o : Option Syntax). IfSome o (λ s. IsSyntaxAt c.args.line.now s)) c.in-Some.is c.named.ensures.syntax in
    omega (
      arith,
      syntax.size,
      prefix_len-le-length (λ byte. not (byte == 32)) c.args.line.now,
    )

pub returns-in_default-clause-answer : goal.returns-in_default-clause-answer
returns-in_default-clause-answer c =
    parsed-first _ _ _ _ _ c.requires (sym c.is_blank_line.ensures ∙ c.if-is_blank_line.false)
    refl (sym c.named.ensures.is ∙ ap (option_map (λ (s : Syntax). s.command)) c.in_default.is)

pub returns-then-syntax-booted-clause-answer : goal.returns-then-syntax-booted-clause-answer
returns-then-syntax-booted-clause-answer c =
    let is : command_among (words_seen c.args.own.now) (front_word c.args.line.now) ≡ Some c.in-Some.syntax.command =
    sym c.named.ensures.is ∙ ap (option_map (λ (s : Syntax). s.command)) c.in-Some.is in
    let syntax : IsSyntaxAt c.args.line.now c.in-Some.syntax = subst
    (λ (o : Option Syntax). IfSome o (λ s. IsSyntaxAt c.args.line.now s)) c.in-Some.is c.named.ensures.syntax in
    parsed-first _ _ _ _ _ c.requires (sym c.is_blank_line.ensures ∙ c.if-is_blank_line.false)
    refl is ∙ grind (arith, nat_tests, syntax.setup)

pub returns-in-BadWord-clause-answer : goal.returns-in-BadWord-clause-answer
returns-in-BadWord-clause-answer c =
    let is : command_among (words_seen c.args.own.now) (front_word c.args.line.now) ≡ Some c.in-Some.syntax.command =
    sym c.named.ensures.is ∙ ap (option_map (λ (s : Syntax). s.command)) c.in-Some.is in
    let syntax : IsSyntaxAt c.args.line.now c.in-Some.syntax = subst
    (λ (o : Option Syntax). IfSome o (λ s. IsSyntaxAt c.args.line.now s)) c.in-Some.is c.named.ensures.syntax in
    parsed-first _ _ _ _ _ c.requires (sym c.is_blank_line.ensures ∙ c.if-is_blank_line.false)
    syntax.size is
    ∙ grind (arith, nat_tests, syntax.setup, syntax.forms)

pub returns-in-BadNumber-clause-answer : goal.returns-in-BadNumber-clause-answer
returns-in-BadNumber-clause-answer c =
    let is : command_among (words_seen c.args.own.now) (front_word c.args.line.now) ≡ Some c.in-Some.syntax.command =
    sym c.named.ensures.is ∙ ap (option_map (λ (s : Syntax). s.command)) c.in-Some.is in
    let syntax : IsSyntaxAt c.args.line.now c.in-Some.syntax = subst
    (λ (o : Option Syntax). IfSome o (λ s. IsSyntaxAt c.args.line.now s)) c.in-Some.is c.named.ensures.syntax in
    parsed-first _ _ _ _ _ c.requires (sym c.is_blank_line.ensures ∙ c.if-is_blank_line.false)
    syntax.size is
    ∙ grind (arith, nat_tests, syntax.setup, syntax.forms)

pub returns-in-Said-clause-answer : goal.returns-in-Said-clause-answer
returns-in-Said-clause-answer c =
    let is : command_among (words_seen c.args.own.now) (front_word c.args.line.now) ≡ Some c.in-Some.syntax.command =
    sym c.named.ensures.is ∙ ap (option_map (λ (s : Syntax). s.command)) c.in-Some.is in
    let syntax : IsSyntaxAt c.args.line.now c.in-Some.syntax = subst
    (λ (o : Option Syntax). IfSome o (λ s. IsSyntaxAt c.args.line.now s)) c.in-Some.is c.named.ensures.syntax in
    let said =
    parsed-first _ c.args.booted _ _ _ c.requires (sym c.is_blank_line.ensures ∙ c.if-is_blank_line.false)
    syntax.size is in
    subst (IsParsed c.entry_said.result c.entry_said.new.bytes.items) (sym said)
    (grind (arith, nat_tests, syntax.setup, syntax.forms, c.entry_said.ensures.answer))
