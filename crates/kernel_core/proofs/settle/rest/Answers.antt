use Rattle.std.proofs.Common.{[], ap, sym}
use Rattle.kernel_model.specs.Settle.{rested}
use Rattle.placed_laws.specs.Placed.{Placed, PlacedRun}
use Rattle.placed_laws.specs.PlacedEvents.{placed_rested}
use Rattle.running_kernel.specs.WholeBlocks.{some_blocks}
use Rattle.running_kernel.specs.Views.{placed_of, run_of}
use Rattle.placed_laws.proofs.Laws.{others_stand}
use Rattle.kernel_core.proofs.WentLemmas.{run_at, stood_as, went_silently}
use Rattle.kernel_core.proofs.settle.rest.Goals as goal

pub returns : goal.returns
returns g c =
    let m = g.C.Meaning.Rules.meaning in
    record {
      went = λ kept d.
          let x = placed_of c.args.running.now in
          let y = placed_of c.rest.new.self in
          let s = c.requires.abstraction in
          let here = ap (λ (r : PlacedRun). r.placed) (c.rest.ensures.value [] some_blocks []) in
          went_silently m (placed_rested m) c.args.running.now c.rest.new.self kept d
          (λ notes blocks io. c.rest.ensures.value notes blocks io) c.rest.ensures.running
          (stood_as m y (placed_rested m (run_of x some_blocks [] []))
          (rested m (record { kernel = s.kernel; blocks = some_blocks; notes = []; io = [] }))
          ((others_stand m g.C.Meaning.Rules.laws).resting (run_of x some_blocks [] [])
          (record { kernel = s.kernel; blocks = some_blocks; notes = []; io = [] }) (run_at m x s))
          here)
          (sym (ap (λ (z : Placed). z.world) here)) (sym (ap (λ (z : Placed). z.clock) here));
    }
