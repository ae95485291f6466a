use Rattle.std.proofs.Common.{◌≡◌, ◌∙◌, ap}
use Rattle.lock_table.specs.Masks.{held}
use Rattle.kernel_model.specs.GraftStep.{next_needs}
use Rattle.graft_levels.specs.Slots.{table_of}
use Rattle.graft_levels.specs.Chains.{levels_in}
use Rattle.call_pieces.specs.Stores.{world_of_store, objects_of}
use Rattle.running_kernel.specs.declared.running.Flight.{Flight}
use Rattle.running_kernel.specs.Views.{flight_of}
use Rattle.running_kernel.proofs.HinderLemmas.{needs_there}
use Rattle.running_kernel.proofs.running.Running.instruction_needs.Goals as goal

pub returns : goal.returns
returns g c =
    let x = c.args.self.now in
    let s = objects_of x.store in
    let fl : c.flight.result.now ≡ flight_of x.calls.items c.args.p = c.flight.ensures
    ∙ ap (λ fs. flight_of fs c.args.p) c.deref.ensures.value in
    record {
      process = c.requires.at.process;
      running = c.requires.at.running;
      value =
          c.needs.ensures.value c.args.p x.store.ram (held x.locks) c.flight.result.now.chain.undo s.things
          ∙ ap (λ (f : Flight). next_needs (world_of_store x.store) (table_of x.images) s.accounts
          (levels_in c.args.p x.store.ram (held x.locks) f.chain.levels f.chain.undo s.things))
          fl
          ∙ needs_there g.C.Meaning.Rules.meaning x c.args.p c.requires.call c.requires.level;
      range = c.needs.ensures.range;
    }
