use Rattle.std.proofs.Common.{◌≤◌, length, sym, ap, ◌∙◌, arith}
use Rattle.graft_code.specs.Instructions.{decode}
use Rattle.gm_image.proofs.Reading.{Reads-more, Reads-stop}
use Rattle.gm_image.proofs.read_code.Goals as goal

pub returns-in-Err-clause-err : goal.returns-in-Err-clause-err
returns-in-Err-clause-err c =
    let word = c.in-Some.ensures.cases.0 in
    let room : 8 ≤ length c.loop-word.rest.now = omega (arith, c.in-Some.ensures.cases.2) in
    Reads-stop _ _ _ _ _ c.in-Err.field-0 c.loop-word.invariant room (sym (c.in-Err.ensures.exact ∙ ap decode word))

pub loop-word-preserved : goal.loop-word-preserved
loop-word-preserved c =
    let word = c.in-Some.ensures.cases.0 in
    let room : 8 ≤ length c.loop-word.rest.now = omega (arith, c.in-Some.ensures.cases.2) in
    rw (c.in_ok-push-in-Ok.ensures.ok, c.in-Some.ensures.cases.1)
    (Reads-more _ _ _ _ _ c.in-Ok.instr c.loop-word.invariant room
    (sym (c.in-Ok.ensures.exact ∙ ap decode word)) c.in-Ok.ensures.fits)
