-- The rows are passed one by one.
use Rattle.std.proofs.Common.{◌∙◌, ap, arith, slice_get}
use Rattle.running_kernel.specs.Views.{placed_of}
use Rattle.placed_laws.proofs.Laws.{same_shown}
use Rattle.kernel_core.proofs.RowPlaceLemmas.{behind_more, row_behind, row_past}
use Rattle.kernel_core.proofs.kernel.Kernel.raw.Goals as goal

pub loop-before-init : goal.loop-before-init
loop-before-init g c =
    let x = placed_of c.args.self.now.running in
    record { rows = c.first-at.ensures.rows x; most = omega (arith, c.first-at.ensures.most) }

pub loop-before-preserved : goal.loop-before-preserved
loop-before-preserved g c =
    let x = placed_of c.args.self.now.running in
    behind_more x c.loop-before.before c.loop-before.at c.next_row.new.at c.loop-before.invariant
    c.next_row.ensures.rest c.in_ok-next_row.ensures.fewer

pub returns-in_err-next_row-clause-value : goal.returns-in_err-next_row-clause-value
returns-in_err-next_row-clause-value g c =
    let x = placed_of c.args.self.now.running in
    c.from_residual.ensures
    ∙ row_past x c.loop-before.before c.args.i c.loop-before.at c.next_row.result
    c.loop-before.invariant c.next_row.ensures.first c.in_err-next_row.was (omega arith)

pub returns-in_err-next_row-clause-stands : goal.returns-in_err-next_row-clause-stands
returns-in_err-next_row-clause-stands g c =
    λ k stands. returns-in_err-next_row-clause-value g c
    ∙ ap (λ rows. slice_get rows c.args.i) ((same_shown g.C.Meaning.Rules.meaning
    g.C.Meaning.Rules.laws).rows (placed_of c.args.self.now.running) k stands)

pub returns-clause-value : goal.returns-clause-value
returns-clause-value g c =
    let x = placed_of c.args.self.now.running in
    row_behind x c.loop-before.before c.args.i c.loop-before.at c.next_row-2.result
    c.loop-before.invariant c.next_row-2.ensures.first (omega (arith, c.loop-before-test.false))

pub returns-clause-stands : goal.returns-clause-stands
returns-clause-stands g c =
    λ k stands. returns-clause-value g c
    ∙ ap (λ rows. slice_get rows c.args.i) ((same_shown g.C.Meaning.Rules.meaning
    g.C.Meaning.Rules.laws).rows (placed_of c.args.self.now.running) k stands)
