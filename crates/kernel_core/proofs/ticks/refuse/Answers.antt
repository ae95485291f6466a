use Rattle.std.proofs.Common.{[], ◌∷◌, ap, sym, None}
use Rattle.kernel_model.specs.declared.Note.TheVariants.{Refused}
use Rattle.kernel_model.specs.Kernel.{noted, requeue, with_call}
use Rattle.placed_laws.specs.Placed.{Placed, PlacedRun}
use Rattle.placed_laws.specs.PlacedSteps.{placed_noted, placed_requeue, with_placed_call}
use Rattle.running_kernel.specs.WholeBlocks.{some_blocks}
use Rattle.running_kernel.specs.Views.{placed_of, run_of}
use Rattle.placed_laws.proofs.Laws.{others_stand}
use Rattle.kernel_core.proofs.EventLemmas.{refused_elsewise}
use Rattle.kernel_core.proofs.TickLemmas.{number_call}
use Rattle.kernel_core.proofs.WentLemmas.{run_at, stood_as, went_purely}
use Rattle.kernel_core.proofs.ticks.refuse.Goals as goal

pub returns : goal.returns
returns g c =
    let m = g.C.Meaning.Rules.meaning in
    record {
      went = λ d.
          let a = c.args in
          let x = (placed_of a.running.now) in
          let y = placed_of c.end.new.running in
          let s = c.requires.at.abstraction in
          let n = Refused a.number a.why in
          let value = c.end.ensures.value in
          let here = ap (λ (r : PlacedRun). r.placed) (value.0 [] some_blocks []) in
          let t = number_call (x.call a.p) a.number c.requires.call in
          went_purely m (λ r. placed_requeue a.p (placed_noted n (with_placed_call a.p None r)))
          a.running.now c.end.new.running a.notes.now c.end.new.notes (n ∷ []) d
          (λ blocks notes io. value.0 notes blocks io) value.1
          (refused_elsewise a.number a.why c.requires.why) c.end.ensures.running
          (stood_as m y (placed_requeue a.p (placed_noted n (with_placed_call a.p None
          (run_of x some_blocks [] [])))) (requeue a.p (noted n (with_call a.p None
          (record { kernel = s.kernel; blocks = some_blocks; notes = []; io = [] }))))
          ((others_stand m g.C.Meaning.Rules.laws).ending (run_of x some_blocks [] [])
          (record { kernel = s.kernel; blocks = some_blocks; notes = []; io = [] }) a.p t.0 n
          (run_at m x s) t.1 c.requires.none) here)
          (sym (ap (λ (z : Placed). z.world) here)) (sym (ap (λ (z : Placed). z.clock) here));
    }
