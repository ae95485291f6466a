-- The line of an image: before `boot`; want of memory; and what is said of the image.
use Rattle.std.proofs.Common.{◌≡◌, ◌+◌, arith, refl, ap, ◌∙◌}
use Rattle.script_model.specs.Script.{Loads}
use Rattle.running_kernel.specs.Views.{placed_of}
use Rattle.kernel_core.specs.AddedImages.{image_said}
use Rattle.vino_top.specs.Run.{place_over}
use Rattle.vino_top.specs.Standing.{seen_of}
use Rattle.vino_top.specs.declared.session.Session.{Session}
use Rattle.vino_top.proofs.SessionLemmas.{unbooted_runs}
use Rattle.vino_top.proofs.ImageLemmas.{free_slot, image_runs, one_later}
use Rattle.vino_top.proofs.session.Session.image.Goals as goal

pub add_image-requires-clause-running : goal.add_image-requires-clause-running
add_image-requires-clause-running g c = (c.requires.counted.1.within.kernel c.if-not-self.false).running

pub add_image-requires-clause-abstraction : goal.add_image-requires-clause-abstraction
add_image-requires-clause-abstraction g c = (c.requires.counted.1.within.kernel c.if-not-self.false).abstraction

pub returns-then-not-self-clause-runs : goal.returns-then-not-self-clause-runs
returns-then-not-self-clause-runs g c = λ size d.
    unbooted_runs (place_over g.C.Meaning.Rules.meaning c.args.keys.now size) (Loads c.args.slot c.args.bytes.now)
    (seen_of c.args.self.now) _ d (λ a rest. refl) (λ p. refl) c.if-not-self.true
    c.requires.empty c.requires.empty.no_notes

pub returns-in-Err-clause-err : goal.returns-in-Err-clause-err
returns-in-Err-clause-err g c =
    let lacks = c.in-Err.ensures.err in
    let free = free_slot (placed_of c.args.self.now.kernel.running).images c.args.slot lacks.1 in (
      lacks.0,
      record {
        booted = c.if-not-self.false;
        slot = c.args.slot;
        bytes = c.args.bytes.now;
        is = refl;
        in_range = free.0;
        free = free.1;
      },
    )

pub answer_image-requires-clause-room : goal.answer_image-requires-clause-room
answer_image-requires-clause-room g c =
    let n : c.add_image.new.self.events ≡ c.args.self.now.events =
    ap (λ (s : Session _ _ _ _). s.events) c.add_image.ensures.state in
    omega (arith, n, c.requires.counted.1.room, c.requires.counted.1.fresh)

pub answer_image-requires-clause-empty : goal.answer_image-requires-clause-empty
answer_image-requires-clause-empty g c = c.requires.empty

pub returns-in-Ok-clause-within : goal.returns-in-Ok-clause-within
returns-in-Ok-clause-within g c = λ size within.
    one_later size c.args.self.now c.answer_image.new.self c.add_image.new.self c.if-not-self.false
    c.requires.counted.1.fresh
    (c.answer_image.ensures.state
    ∙ ap (λ (s : Session _ _ _ _). record s { events = s.events + 1 }) c.add_image.ensures.state)
    c.add_image.ensures.store
    (let kernel = within.kernel c.if-not-self.false in
    record {
      running = c.add_image.ensures.running;
      abstraction = c.add_image.ensures.abstraction;
      clock = rw c.add_image.ensures.clock kernel.clock;
    })
    within

pub returns-in-Ok-clause-runs : goal.returns-in-Ok-clause-runs
returns-in-Ok-clause-runs g c = λ size d.
    image_runs (place_over g.C.Meaning.Rules.meaning c.args.keys.now size) (seen_of c.args.self.now)
    (seen_of c.answer_image.new.self) c.args.slot c.args.bytes.now
    (placed_of c.add_image.new.self.kernel.running) (image_said c.in-Ok.answer) _ d c.if-not-self.false
    (ap (λ s. seen_of s) c.answer_image.ensures.state
    ∙ ap (λ (s : Session _ _ _ _). seen_of (record s { events = s.events + 1 })) c.add_image.ensures.state)
    c.in-Ok.ensures.added
    (record {
      bytes_are = c.answer_image.ensures.text.bytes_are ∙ c.say_image.ensures;
      no_notes = c.answer_image.ensures.text.no_notes;
    })
