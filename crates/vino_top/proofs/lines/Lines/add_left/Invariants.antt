-- The lines of the calls of the processes before the place.
use Rattle.std.proofs.Common.{◌≡◌, ◌≤◌, ◌*◌, length, map}
use Rattle.std.specs.List.{concat, range_with_len}
use Rattle.running_kernel.specs.Views.{placed_of}
use Rattle.vino_top.specs.Standing.{placed_left_line}
use Rattle.vino_top.proofs.lines.Lines.add_left.Given as goal

abbrev pub invariant-loop-p : goal.invariant-loop-p
invariant-loop-p g l =
    record {
      lines : l.self ≡ concat (map (λ q. placed_left_line q ((placed_of l.kernel.running).call q))
          (range_with_len 0 l.p));
      room : length l.self ≤ 2048 * l.p;
    }
