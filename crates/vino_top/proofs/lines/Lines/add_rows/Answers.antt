-- Before the first row, a row more, or all of them.
use Rattle.std.proofs.Common.{ap, arith}
use Rattle.script_model.specs.Text.{row_lines}
use Rattle.placed_laws.specs.PlacedRows.{placed_rows}
use Rattle.running_kernel.specs.Views.{placed_of}
use Rattle.kernel_core.specs.PlacedSections.{most_left, row_found, row_if_found, rows_at, rows_left}
use Rattle.vino_top.proofs.RowLemmas.{found_fewer, found_more, no_bytes, row_end, row_first, some_row}
use Rattle.vino_top.proofs.lines.Lines.add_rows.Goals as goal

pub loop-found-init : goal.loop-found-init
loop-found-init g c =
    let x = placed_of c.args.kernel.now.running in
    record {
      lines =
          row_first c.args.n (rows_left x c.first-at.result) (placed_rows x) c.args.self.now
          c.requires.empty (c.first-at.ensures.rows x);
      room = no_bytes c.args.self.now c.requires.empty (most_left c.first-at.result) c.first-at.ensures.most;
    }

pub loop-found-preserved : goal.loop-found-preserved
loop-found-preserved g c =
    let x = placed_of c.args.kernel.now.running in
    let f = c.in-Some.found in
    let some = some_row (rows_at x f.section f.place) f.index c.in-Some.ensures.found.index in
    let fewer = found_fewer (row_found x f) (most_left c.find_row.new.at)
    (most_left c.loop-found.at) some c.in-Some.ensures.taken.fewer in
    record {
      lines =
          found_more c.args.n (rows_left x c.loop-found.at) (rows_left x c.find_row.new.at)
          (row_found x f) c.loop-found.self c.add.new.self c.print_found.new.text
          (row_lines c.args.n (placed_rows x)) some c.loop-found.invariant.lines
          c.in-Some.ensures.taken.first c.in-Some.ensures.taken.rest c.print_found.ensures
          c.add.ensures.value;
      room = omega (arith, c.loop-found.invariant.room, c.add.ensures.fits, fewer);
    }

pub returns : goal.returns
returns g c =
    let x = placed_of c.args.kernel.now.running in
    row_end c.args.n (rows_left x c.loop-found.at) (row_if_found x c.find_row.result)
    c.loop-found.self (row_lines c.args.n (placed_rows x)) c.loop-found.invariant.lines
    c.find_row.ensures.taken.first (ap (row_if_found x) c.in_default.is)
