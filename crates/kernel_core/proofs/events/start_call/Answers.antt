use Rattle.std.proofs.Common.{[], ap, sym, refl, Some}
use Rattle.kernel_model.specs.Bare.{call_with}
use Rattle.kernel_model.specs.Kernel.{joins, with_call}
use Rattle.placed_laws.specs.Keeping.{first_call, first_placed}
use Rattle.placed_laws.specs.Placed.{Placed, PlacedRun}
use Rattle.placed_laws.specs.PlacedSteps.{placed_joins, with_placed_call}
use Rattle.running_kernel.specs.WholeBlocks.{some_blocks}
use Rattle.running_kernel.specs.Idle.{joined_in}
use Rattle.running_kernel.specs.Views.{placed_of, run_of}
use Rattle.placed_laws.proofs.Laws.{same_shown, others_stand}
use Rattle.kernel_core.proofs.EventLemmas.{starts_by, uncalled_unordered}
use Rattle.kernel_core.proofs.WentLemmas.{run_at, stood_as, went_silently}
use Rattle.kernel_core.proofs.events.start_call.Goals as goal

pub begin_call-requires-clause-new : goal.begin_call-requires-clause-new
begin_call-requires-clause-new g c =
    let m = g.C.Meaning.Rules.meaning in
    let a = c.args in
    uncalled_unordered m (same_shown m g.C.Meaning.Rules.laws) (placed_of a.running.now) a.p
    a.running.now.order c.requires.at.abstraction refl c.requires.none

pub returns : goal.returns
returns g c =
    let a = c.args in
    let m = g.C.Meaning.Rules.meaning in
    let x = placed_of a.running.now in
    let z = joined_in a.p c.begin_call.new.running in
    let y = placed_of z in
    let s = c.requires.at.abstraction in
    let call = call_with a.request.call a.request.bytes.now.items in
    starts_by m a.p a.request.number call a.running.now c.begin_call.new.running c.begin_call.result
    c.begin_call.ensures
    (λ h.
    let t = h.first in
    let here = ap (λ (r : PlacedRun). r.placed) (h.value [] some_blocks []) in
    record {
      first = t;
      granted = h.granted;
      went = λ kept d.
          went_silently m (λ r. placed_joins a.p
          (with_placed_call a.p (Some (first_placed a.request.number t)) r)) a.running.now z
          kept d (λ notes blocks io. h.value notes blocks io) h.running
          (stood_as m y (placed_joins a.p (with_placed_call a.p
          (Some (first_placed a.request.number t)) (run_of x some_blocks [] [])))
          (joins a.p (with_call a.p (Some (first_call a.request.number t))
          (record { kernel = s.kernel; blocks = some_blocks; notes = []; io = [] })))
          ((others_stand m g.C.Meaning.Rules.laws).beginning (run_of x some_blocks [] [])
          (record { kernel = s.kernel; blocks = some_blocks; notes = []; io = [] }) a.p
          a.request.number call t (run_at m x s) c.requires.none c.requires.alive h.granted)
          here)
          (sym (ap (λ (z : Placed). z.world) here)) (sym (ap (λ (z : Placed). z.clock) here));
    })
