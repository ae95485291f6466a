-- The line is told, and what stands below it.
use Rattle.std.proofs.Common.{[], ◌∷◌, None, Some}
use Rattle.lab_lines.proofs.Lines.{joined, on_ok, wrote}
use Rattle.lab_lines.proofs.telling.add_written.Goals as goal

pub returns-in_default : goal.returns-in_default
returns-in_default c =
    let told = rw c.in_default.is at c.in_ok-words.ensures in
    on_ok c.add_alone.result (wrote c.args.out.now.items c.add_alone.new.out.items c.args.line.now None told)
    c.add_alone.ensures

pub returns : goal.returns
returns c =
    let told = rw c.in-Some.is at c.in_ok-words.ensures in
    on_ok c.add_below.result
    (joined c.args.out.now.items c.add_with_words.new.out.items c.add_below.new.out.items
    (c.args.line.now ∷ []) [] []
    (wrote c.args.out.now.items c.add_with_words.new.out.items c.args.line.now
    (Some c.split_at.result.0.now) told c.in_ok-add_with_words.ensures))
    c.add_below.ensures
