use Rattle.std.proofs.Common.{[], ap, sym}
use Rattle.kernel_model.specs.Kernel.{joins}
use Rattle.placed_laws.specs.Placed.{Placed, PlacedRun, placed_blocker}
use Rattle.placed_laws.specs.PlacedSteps.{placed_joins}
use Rattle.running_kernel.specs.WholeBlocks.{some_blocks}
use Rattle.running_kernel.specs.Views.{placed_of, run_of}
use Rattle.placed_laws.proofs.Laws.{others_stand}
use Rattle.kernel_core.proofs.StepLemmas.{some_is}
use Rattle.kernel_core.proofs.WentLemmas.{run_at, stood_as, went_silently}
use Rattle.kernel_core.proofs.stepping.join.Goals as goal

pub returns : goal.returns
returns g c =
    let m = g.C.Meaning.Rules.meaning in
    record {
      went = λ kept d.
          let x = placed_of c.args.running.now in
          let y = placed_of c.join.new.running in
          let s = c.requires.at.abstraction in
          let here = ap (λ (r : PlacedRun). r.placed) (c.join.ensures.value [] some_blocks []) in
          let b = some_is (placed_blocker m x c.args.p) c.requires.blocked in
          went_silently m (placed_joins c.args.p) c.args.running.now c.join.new.running kept d
          (λ notes blocks io. c.join.ensures.value notes blocks io) c.join.ensures.running
          (stood_as m y (placed_joins c.args.p (run_of x some_blocks [] []))
          (joins c.args.p (record { kernel = s.kernel; blocks = some_blocks; notes = []; io = [] }))
          ((others_stand m g.C.Meaning.Rules.laws).joining (run_of x some_blocks [] [])
          (record { kernel = s.kernel; blocks = some_blocks; notes = []; io = [] }) c.args.p b.0
          (run_at m x s) c.requires.level c.requires.new b.1) here)
          (sym (ap (λ (z : Placed). z.world) here)) (sym (ap (λ (z : Placed). z.clock) here));
    }
