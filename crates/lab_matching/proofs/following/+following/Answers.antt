-- What is left of the lines passes, or one line more is passed over.
use Rattle.std.proofs.Common.{◌∙◌, sym, ap}
use Rattle.std.proofs.lemmas.List.{take_rest}
use Rattle.lab_matching.specs.Matching.{follows}
use Rattle.lab_matching.proofs.Walking.{passes_behind}
use Rattle.lab_matching.proofs.following.+following.Goals as goal

pub some_suffix-loop-i-preserved : goal.some_suffix-loop-i-preserved
some_suffix-loop-i-preserved t c =
    let wants = c.args.wants.now in
    let lines = c.args.lines.now in
    let left = c.follows.ensures ∙ ap (follows wants) (take_rest lines c.loop-i.i) in
    c.loop-i.invariant ∙ passes_behind (follows wants) lines c.loop-i.i
    c.loop-i-test.true (sym left ∙ c.if-follows.false)
