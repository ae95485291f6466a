use Rattle.std.proofs.Common.{◌∙◌, ap, sym}
use Rattle.std.specs.Prelude.{option_map}
use Rattle.placed_laws.specs.Placed.{placed_blocker}
use Rattle.running_kernel.specs.Orders.{blocker_of}
use Rattle.running_kernel.specs.Views.{placed_of}
use Rattle.kernel_core.proofs.LastLemmas.{waits_said, waits_unsaid}
use Rattle.kernel_core.proofs.last.say_wait.Goals as goal

pub returns-in-Some : goal.returns-in-Some
returns-in-Some g c = record {
  said =
      λ d. waits_said (placed_of c.args.running.now) c.args.number
      (placed_blocker g.C.Meaning.Rules.meaning (placed_of c.args.running.now) c.args.p)
      c.in-Some.found c.args.notes.now c.push.new.self d
      (sym (ap (option_map blocker_of) c.in-Some.is) ∙ c.blocker.ensures) c.push.ensures;
}

pub returns-in_default : goal.returns-in_default
returns-in_default g c = record {
  said =
      λ d. waits_unsaid (placed_of c.args.running.now) c.args.number
      (placed_blocker g.C.Meaning.Rules.meaning (placed_of c.args.running.now) c.args.p)
      c.args.notes.now d (sym (ap (option_map blocker_of) c.in_default.is) ∙ c.blocker.ensures);
}
