use Rattle.std.proofs.Common.{◌≡◌, ◌∙◌, ap, sym, subst, Some, inl, inr}
use Rattle.std.specs.Prelude.{option_map}
use Rattle.kernel_model.specs.declared.Micro.{Micro}
use Rattle.kernel_model.specs.declared.Note.TheVariants.{Dropped}
use Rattle.placed_laws.specs.PlacedSteps.{placed_noted}
use Rattle.running_kernel.specs.declared.running.InFlight.{InFlight}
use Rattle.kernel_steps.specs.Steps.{after_drop, answer_said, StepDone}
use Rattle.kernel_steps.specs.Moments.{kernel_moment}
use Rattle.running_kernel.specs.Views.{flight_of}
use Rattle.kernel_steps.proofs.StepLemmas.{nothing_done, number_is, said_done}
use Rattle.kernel_steps.proofs.steps.follow.Goals as goal

pub finish-requires-clause-answer : goal.finish-requires-clause-answer
finish-requires-clause-answer g c = c.requires.answer (Some c.in-Completed.answer) (ap answer_said c.in-Completed.is)

pub follow_drop-requires-clause-answer : goal.follow_drop-requires-clause-answer
follow_drop-requires-clause-answer g c = λ answer h. c.requires.answer answer (ap answer_said c.in-Dropped.is ∙ h)

pub returns-in-Went : goal.returns-in-Went
returns-in-Went g c =
    let m = g.C.Meaning.Rules.meaning in
    λ pc is.
    let a = c.args in
    let d = g.D.Disk.seen a.disk.now in
    let same = nothing_done a.running.now a.p a.trace.now.notes d c.requires.alone in
    elim c.in-Went.is [
      | inl went ↦ said_done m a.running.now.store.ram a.running.now a.running.now a.p pc a.said
          Micro.Went a.trace.now.notes a.trace.now.notes d d went same
      | inr b ↦ said_done m a.running.now.store.ram a.running.now a.running.now a.p pc a.said
          (Micro.Blocked b.0 b.1 b.2) a.trace.now.notes a.trace.now.notes d d b.3 same
    ]

pub returns-in-Completed : goal.returns-in-Completed
returns-in-Completed g c =
    λ pc is.
    let a = c.args in
    said_done g.C.Meaning.Rules.meaning a.running.now.store.ram a.running.now c.finish.new.running
    a.p pc a.said (Micro.Completed c.in-Completed.answer) a.trace.now.notes
    c.finish.new.trace.notes
    (g.D.Disk.seen a.disk.now) (g.D.Disk.seen c.finish.new.disk)
    c.in-Completed.is (c.finish.ensures pc is)

pub returns-in-Some : goal.returns-in-Some
returns-in-Some g c =
    let m = g.C.Meaning.Rules.meaning in
    λ pc is.
    let a = c.args in
    let dr = c.in-Dropped in
    let d = g.D.Disk.seen a.disk.now in
    let e = g.D.Disk.seen c.follow_drop.new.disk in
    let n : c.in-Some.number ≡ pc.number = number_is (flight_of a.running.now.calls.items a.p).call pc c.in-Some.number
    (sym c.in-Some.is ∙ c.number_of.ensures ∙ ap (λ fs. option_map (λ (f : InFlight). f.number)
    (flight_of fs a.p).call) c.deref.ensures.value) is in
    said_done m a.running.now.store.ram a.running.now c.follow_drop.new.running a.p pc a.said
    (Micro.Dropped dr.d dr.q dr.pt dr.cause) a.trace.now.notes c.follow_drop.new.trace.notes d e
    dr.is
    (subst (λ k. StepDone (λ r. after_drop m a.p pc dr.d (placed_noted
    (Dropped k dr.q dr.pt dr.cause) r)) a.p (kernel_moment a.running.now a.trace.now.notes d)
    (kernel_moment c.follow_drop.new.running c.follow_drop.new.trace.notes e)) n
    (c.follow_drop.ensures pc is))
