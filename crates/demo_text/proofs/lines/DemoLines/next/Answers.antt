use Rattle.std.proofs.Common.{sym, ◌∙◌}
use Rattle.demo_text.proofs.LineLemmas.{next_is_drawn}
use Rattle.demo_text.proofs.lines.DemoLines.next.Goals as goal

pub returns-clause-more : goal.returns-clause-more
returns-clause-more c = λ said.
    let s = c.self.inside in
    let drawn = next_is_drawn s.head s.draws s.draw c.next_draw-self-inside.result
    c.print_draw.new.line c.if-self-lt-HEAD_LINES.false c.self.invariant.0
    c.if-self-eq0.false c.next_draw-self-inside.ensures.value c.print_draw.ensures in
    sym c.self.view_is ∙ drawn
