use Rattle.std.proofs.Common.{refl, suc, [], ◌∷◌, ap, sym}
use Rattle.kernel_model.specs.declared.Note.TheVariants.{Ticked}
use Rattle.kernel_model.specs.Events.{ticked}
use Rattle.placed_laws.specs.Placed.{Placed, PlacedRun}
use Rattle.placed_laws.specs.PlacedSteps.{placed_ticked}
use Rattle.kernel_steps.specs.Composing.{did_purely}
use Rattle.running_kernel.specs.WholeBlocks.{some_blocks}
use Rattle.running_kernel.specs.Views.{placed_of, run_of}
use Rattle.placed_laws.proofs.Laws.{others_stand}
use Rattle.kernel_core.proofs.WentLemmas.{run_at, stood_as}
use Rattle.kernel_core.proofs.ticks.raise.Goals as goal

pub returns : goal.returns
returns g c =
    let m = g.C.Meaning.Rules.meaning in
    record {
      ticked = λ d.
          let a = c.args in
          let x = (placed_of a.running.now) in
          let y = placed_of c.tick.new.running in
          let s = c.requires.sound.abstraction in
          let value = c.tick.ensures.value in
          let here = ap (λ (r : PlacedRun). r.placed) (value.0 [] some_blocks []) in
          record {
            refines =
                did_purely (placed_ticked a.number) x y a.notes.now
                c.tick.new.notes (Ticked a.number (suc a.running.now.clock) ∷ []) d
                (λ blocks notes io. value.0 notes blocks io) value.1 refl;
            running = c.tick.ensures.running;
            abstraction =
                stood_as m y (placed_ticked a.number (run_of x some_blocks [] [])) (ticked a.number
                (record { kernel = s.kernel; blocks = some_blocks; notes = []; io = [] }))
                ((others_stand m g.C.Meaning.Rules.laws).ticking (run_of x some_blocks [] [])
                (record { kernel = s.kernel; blocks = some_blocks; notes = []; io = [] }) a.number
                (run_at m x s)) here;
            world = sym (ap (λ (z : Placed). z.world) here);
            clock = sym (ap (λ (z : Placed). z.clock) here);
          };
    }
