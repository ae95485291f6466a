use Rattle.std.proofs.Common.{arith}
use Rattle.script_model.specs.declared.Form.{Form}
use Rattle.script_text.proofs.Reading.{well_formed-end, well_formed-short, well_formed-step}
use Rattle.script_text.proofs.words.+fits_forms.Goals as goal

pub returns-then-is_empty : goal.returns-then-is_empty
returns-then-is_empty t c = grind (arith, well_formed-end)

pub returns-then-is_empty-2 : goal.returns-then-is_empty-2
returns-then-is_empty-2 t c = grind (arith, well_formed-short)

pub returns-then-is_bad : goal.returns-then-is_bad
returns-then-is_bad t c =
    grind
    (arith, well_formed-step c.args.forms.now c.args.rest.now c.word_end-end.result Form.Number)

pub returns : goal.returns
returns t c = grind (arith, well_formed-step c.args.forms.now c.args.rest.now c.word_end-end.result Form.Number)
