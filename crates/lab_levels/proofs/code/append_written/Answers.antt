use Rattle.std.proofs.Common.{arith, sym, ◌∙◌}
use Rattle.lab_levels.proofs.Origins.{none_said, past_said, found_said, ahead_more, ahead_next}
use Rattle.lab_levels.proofs.code.append_written.Goals as goal
use Rattle.lab_levels.proofs.code.append_written.Goals.{then-is_instruction+else-count-k, else-is_instruction}

pub returns : goal.returns
returns c =
    past_said _ _ c.args.graft.now.text _ _ _ _ _ _ c.lines-number-items.ensures (omega arith)
    c.loop-number.invariant.0 c.loop-number.invariant.1

pub returns-in_default : goal.returns-in_default
returns-in_default c =
    none_said _ _ c.args.graft.now.text _ _ _ _ _ _ c.lines-number-items.ensures c.in_default.ensures.0
    c.loop-number.invariant.0 c.loop-number.invariant.1

pub returns-then-count-k : goal.returns-then-count-k
returns-then-count-k c =
    found_said _ _ c.args.graft.now.text _ _ _ _ _ _ _ _ _ c.lines-number-items.ensures c.in-Some.ensures
    c.loop-number.invariant.0 (omega arith) (sym c.is_instruction.ensures ∙ c.if-is_instruction.true)
    c.if-count-k.true c.loop-number.invariant.1 c.in_ok-append_line.ensures

pub loop-number-preserved : goal.loop-number-preserved
loop-number-preserved c =
    elim c.if-is_instruction.branch [
      | then-is_instruction+else-count-k w ↦ (
        ahead_more _ _ _ _ _ _ _ _ _ c.in-Some.ensures (omega arith)
            (sym c.is_instruction.ensures ∙ w.if-is_instruction.true) w.if-count-k.false w.count-is
            c.loop-number.invariant.0,
        c.loop-number.invariant.1,
      )
      | else-is_instruction w ↦ (
        ahead_next _ _ _ _ _ _ _ _ _ c.in-Some.ensures (omega arith)
            (sym c.is_instruction.ensures ∙ w.if-is_instruction.false) w.count-is
            c.loop-number.invariant.0,
        c.loop-number.invariant.1,
      )
    ]
