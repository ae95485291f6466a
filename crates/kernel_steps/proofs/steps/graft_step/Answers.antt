use Rattle.std.proofs.Common.{◌∙◌, ap}
use Rattle.std.specs.Prelude.{option_map}
use Rattle.kernel_model.specs.GraftStep.{micro}
use Rattle.kernel_model.specs.Levels.{Outcome}
use Rattle.call_pieces.specs.Stores.{world_of_store, objects_of}
use Rattle.graft_levels.specs.Slots.{table_of}
use Rattle.placed_laws.specs.Placed.{placed_config}
use Rattle.running_kernel.specs.Views.{placed_of, call_in_place}
use Rattle.placed_laws.proofs.Laws.{ready_in_place, owners_stay}
use Rattle.kernel_steps.proofs.EndLemmas.{micro_ends}
use Rattle.kernel_steps.proofs.PartLemmas.{micro_alone, micro_done, micro_ready, move_ends}
use Rattle.kernel_steps.proofs.steps.graft_step.Goals as goal

pub follow-requires-clause-alone : goal.follow-requires-clause-alone
follow-requires-clause-alone g c =
    let x = c.args.running.now in
    micro_alone owners_stay x c.instruct-said.new.running c.args.p c.requires.running
    c.requires.process c.instruct-said.ensures.moved c.instruct-said.ensures.config

pub follow-requires-clause-answer : goal.follow-requires-clause-answer
follow-requires-clause-answer g c =
    let m = g.C.Meaning.Rules.meaning in
    λ answer h.
    let x = c.args.running.now in
    let o : Outcome = micro (world_of_store x.store)
    (table_of x.images) c.args.p (placed_config (placed_of x) c.args.p) in
    record {
      none =
          move_ends x c.instruct-said.new.running c.args.p o c.instruct-said.result
          answer c.instruct-said.ensures.config c.instruct-said.ensures.said
          (micro_ends (world_of_store x.store) (table_of x.images) c.args.p (objects_of x.store)
          (placed_config (placed_of x) c.args.p).levels) h;
      ready =
          λ f is. micro_ready m (ready_in_place m g.C.Meaning.Rules.laws) x
          c.instruct-said.new.running c.args.p f c.instruct-said.result answer
          c.requires.abstraction c.requires.level c.instruct-said.ensures.moved
          c.instruct-said.ensures.config c.instruct-said.ensures.said h
          c.instruct-said.ensures.answer is;
    }

pub returns : goal.returns
returns g c =
    λ pc is.
    let a = c.args in
    let x = a.running.now in
    micro_done g.C.Meaning.Rules.meaning x c.instruct-said.new.running c.follow.new.running a.p pc
    c.instruct-said.result a.trace.now.notes c.follow.new.trace.notes
    (g.D.Disk.seen a.disk.now) (g.D.Disk.seen c.follow.new.disk)
    c.instruct-said.ensures.moved c.instruct-said.ensures.config c.instruct-said.ensures.said
    c.instruct-said.ensures.answer
    (c.follow.ensures pc (ap (option_map call_in_place) (c.instruct-said.ensures.moved.calls a.p) ∙ is))
