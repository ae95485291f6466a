use Rattle.std.proofs.Common.{◌≡◌, ℕ, suc, ◌+◌, List, ◌∷◌, ap, sym, ◌∙◌, drop, get_or, arith}
use Rattle.std.proofs.Math.Seq.{drop-cons}
use Rattle.std.proofs.lemmas.List.{drop_all, take_more}
use Rattle.commands.proofs.Parting.{passed_none, passed_more, passed_all, found}
use Rattle.commands.proofs.text_to_verdict.find_parting.Goals as goal

pub loop-at-init : goal.loop-at-init
loop-at-init c = passed_none c.args.input.now

pub loop-at-preserved : goal.loop-at-preserved
loop-at-preserved c =
    let input = c.args.input.now in
    let i = c.loop-at.at in
    let next : i + 1 ≡ suc i = omega arith in
    passed_more input i (get_or input i 0) (drop (suc i) input) c.loop-at.fresh
    (drop-cons input i 0 c.loop-at-test.true)
    (take_more input i 0 c.loop-at-test.true) (ap (λ (n : ℕ). drop n input) next)
    (sym c.parts_here.ensures ∙ c.if-parts_here.false) c.loop-at.invariant

pub returns-then-parts_here-clause-some : goal.returns-then-parts_here-clause-some
returns-then-parts_here-clause-some c =
    let input = c.args.input.now in
    let i = c.loop-at.at in
    found input i (get_or input i 0) (drop (suc i) input) c.loop-at.fresh (drop-cons input i 0 c.loop-at-test.true)
    (sym c.parts_here.ensures ∙ c.if-parts_here.true) c.loop-at.invariant

pub returns-clause-none : goal.returns-clause-none
returns-clause-none c = λ none.
    passed_all c.args.input.now c.loop-at.at c.loop-at.fresh (drop_all c.loop-at.at c.args.input.now
    c.loop-at-test.false)
    c.loop-at.invariant
