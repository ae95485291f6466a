use Rattle.std.proofs.Common.{[], ap, sym}
use Rattle.kernel_model.specs.Settle.{rested}
use Rattle.placed_laws.specs.Placed.{Placed, PlacedRun}
use Rattle.placed_laws.specs.PlacedEvents.{placed_rested}
use Rattle.running_kernel.specs.WholeBlocks.{some_blocks}
use Rattle.running_kernel.specs.Views.{placed_of, run_of}
use Rattle.placed_laws.proofs.Laws.{others_stand}
use Rattle.kernel_core.proofs.WentLemmas.{run_at, stood_as, went_silently}
use Rattle.kernel_core.proofs.settle.next_or_rest.Goals as goal

pub returns-in-None-clause-went : goal.returns-in-None-clause-went
returns-in-None-clause-went g c =
    let m = g.C.Meaning.Rules.meaning in
    λ kept d.
    let x = placed_of c.args.running.now in
    let y = placed_of c.next_or_rest.new.self in
    let s = c.requires.abstraction in
    let told = rw c.in-None.is at c.next_or_rest.ensures.rested in
    let here = ap (λ (r : PlacedRun). r.placed) (told [] some_blocks []) in
    went_silently m (placed_rested m) c.args.running.now c.next_or_rest.new.self kept d
    (λ notes blocks io. told notes blocks io) c.next_or_rest.ensures.running
    (stood_as m y (placed_rested m (run_of x some_blocks [] []))
    (rested m (record { kernel = s.kernel; blocks = some_blocks; notes = []; io = [] }))
    ((others_stand m g.C.Meaning.Rules.laws).resting (run_of x some_blocks [] [])
    (record { kernel = s.kernel; blocks = some_blocks; notes = []; io = [] }) (run_at m x s))
    here)
    (sym (ap (λ (z : Placed). z.world) here)) (sym (ap (λ (z : Placed). z.clock) here))
