-- A call is left, or none.
use Rattle.std.proofs.Common.{◌∙◌, ◌++◌, ap, sym, append-nil}
use Rattle.running_kernel.specs.Views.{placed_of}
use Rattle.vino_top.proofs.RowLemmas.{left_some, left_none}
use Rattle.vino_top.proofs.lines.Lines.add_left_of.Goals as goal

pub returns-in-Some-clause-value : goal.returns-in-Some-clause-value
returns-in-Some-clause-value g c =
    let o = (placed_of c.args.kernel.now.running).call c.args.p in
    c.add.ensures.value ∙ ap (λ t. c.args.self.now ++ t) (c.print_left.ensures
    ∙ sym (left_some c.args.p o c.in-Some.number (sym c.in-Some.is ∙ c.left.ensures)))

pub returns-in_default-clause-value : goal.returns-in_default-clause-value
returns-in_default-clause-value g c =
    let o = (placed_of c.args.kernel.now.running).call c.args.p in
    sym (ap (λ t. c.args.self.now ++ t) (left_none c.args.p o
    (sym c.in_default.is ∙ c.left.ensures)) ∙ append-nil c.args.self.now)
