-- The row of a level is that of the chain.
use Rattle.std.proofs.Common.{◌≡◌, ◌<◌, ◌∙◌, ap, sym, subst, length, arith, List}
use Rattle.std.specs.Prelude.{reverse, slice_get}
use Rattle.kernel_data.specs.declared.RawRow.{RawRow}
use Rattle.kernel_model.specs.RawRows.{rows_of_levels}
use Rattle.lock_table.specs.Masks.{held}
use Rattle.graft_levels.specs.Chains.{levels_in}
use Rattle.call_pieces.specs.Stores.{objects_of}
use Rattle.running_kernel.specs.declared.running.Flight.{Flight}
use Rattle.running_kernel.specs.Views.{flight_of}
use Rattle.running_kernel.proofs.ShownLemmas.{flight_there, levels_many, level_rows_in_place}
use Rattle.running_kernel.proofs.running.Running.level_row.Goals as goal

pub row_of_level-requires : goal.row_of_level-requires
row_of_level-requires g c =
    let x = c.args.self.now in
    let fl : c.flight.result.now ≡ flight_of x.calls.items c.args.p = c.flight.ensures
    ∙ ap (λ fs. flight_of fs c.args.p) c.deref.ensures.value in
    let many : length c.flight.result.now.chain.levels ≡ length (flight_of x.calls.items
    c.args.p).chain.levels = ap (λ (f : Flight). length f.chain.levels) fl in
    omega (arith, c.requires, many, levels_many x c.args.p)

pub returns : goal.returns
returns g c =
    let x = c.args.self.now in
    let fl : c.flight.result.now ≡ flight_of x.calls.items c.args.p = c.flight.ensures
    ∙ ap (λ fs. flight_of fs c.args.p) c.deref.ensures.value in
    let s = objects_of x.store in
    ap (λ (rows : List RawRow). slice_get rows c.args.d) (level_rows_in_place x c.args.p
    ∙ sym (ap (λ (f : Flight). reverse (rows_of_levels c.args.p
    (levels_in c.args.p x.store.ram (held x.locks) f.chain.levels f.chain.undo s.things))) fl))
    ∙ c.row_of_level.ensures x.store.ram (held x.locks) c.flight.result.now.chain.undo s.things

pub flight-requires : goal.flight-requires
flight-requires g c =
    let x = c.args.self.now in
    let low = levels_many x c.args.p in
    subst (λ (fs : List Flight). c.args.p < length fs) (sym c.deref.ensures.value)
    (flight_there x.calls.items c.args.p c.args.d (omega (arith, c.requires, low)))
