use Rattle.std.proofs.Common.{None, []}
use Rattle.kernel_steps.proofs.StepLemmas.{answer_zero, drop_finished, drop_noted}
use Rattle.kernel_model.specs.Bare.{note_with}
use Rattle.kernel_steps.proofs.steps.follow_drop.Goals as goal

pub returns-then-d-gt0 : goal.returns-then-d-gt0
returns-then-d-gt0 g c =
    λ pc is.
    let a = c.args in
    drop_noted g.C.Meaning.Rules.meaning a.running.now a.p a.d pc
    (note_with a.note []) a.trace.now.notes c.push.new.self
    (g.D.Disk.seen a.disk.now) c.if-d-gt0.true c.push.ensures c.requires.note c.requires.alone

pub finish-requires-clause-answer : goal.finish-requires-clause-answer
finish-requires-clause-answer g c = c.requires.answer None (answer_zero c.args.d c.if-d-gt0.false)

pub returns : goal.returns
returns g c =
    λ pc is.
    let a = c.args in
    drop_finished g.C.Meaning.Rules.meaning a.running.now c.finish.new.running a.p a.d pc
    (note_with a.note []) a.trace.now.notes c.push.new.self c.finish.new.trace.notes
    (g.D.Disk.seen a.disk.now) (g.D.Disk.seen c.finish.new.disk)
    c.if-d-gt0.false c.push.ensures c.requires.note (c.finish.ensures pc is)
