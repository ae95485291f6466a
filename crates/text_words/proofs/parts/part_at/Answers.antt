use Rattle.std.proofs.Common.{◌==◌}
use Rattle.std.specs.Option.{option_copied}
use Rattle.std.specs.List.{slice_split}
use Rattle.text_words.proofs.Passing.{passed}
use Rattle.text_words.proofs.parts.part_at.Goals as goal

pub loop-preserved : goal.loop-preserved
loop-preserved c =
    passed (slice_split (λ b. b == c.args.separator) c.args.text.now) c.loop.counter
    (option_copied c.next.result) c.loop.parts c.next.new.self c.loop.invariant c.next.ensures
