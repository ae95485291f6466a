use Rattle.std.proofs.Common.{arith}
use Rattle.script_model.specs.declared.Form.{Form}
use Rattle.script_text.proofs.Reading.{well_formed-short, well_formed-step, said-bad, said-none, said-some}
use Rattle.script_text.proofs.words.+read_words.Goals as goal

pub returns-then-is_empty-2 : goal.returns-then-is_empty-2
returns-then-is_empty-2 t c = grind (arith, said-bad, well_formed-short)

pub returns-then-is_bad : goal.returns-then-is_bad
returns-then-is_bad t c =
    grind (
      arith,
      said-bad,
      well_formed-step c.args.forms.now c.args.rest.now
          c.word_end-end.result Form.Number,
    )

pub returns-in-None : goal.returns-in-None
returns-in-None t c =
    grind (
      arith,
      said-none c.args.words.now.numbers.items c.args.words.now.last.now
          c.args.forms.now c.args.rest.now c.word_end-end.result Form.Number,
      c.refused.ensures c.args.words.now.numbers.items c.args.words.now.last.now,
    )

pub returns-in-Some : goal.returns-in-Some
returns-in-Some t c =
    grind (
      arith,
      said-some c.args.words.now.numbers.items c.args.words.now.last.now
          c.args.forms.now c.args.rest.now c.in-Some.size c.in-Some.n Form.Number,
    )

pub returns-in-Some-number_in : goal.returns-in-Some-number_in
returns-in-Some-number_in t c =
    grind (
      arith,
      said-some c.args.words.now.numbers.items c.args.words.now.last.now
          c.args.forms.now c.args.rest.now c.word_end-end.result c.in-Some-number_in.n Form.Number,
    )
