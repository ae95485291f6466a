use Rattle.std.proofs.Common.{◌-◌, length, arith}
use Rattle.std.proofs.lemmas.Bool.Decides.{nat_tests}
use Rattle.std.proofs.lemmas.Grind.{common_steps}
use Rattle.std.proofs.lemmas.Slice.{put_mid-rotated}
use Rattle.process_table.proofs.arrays.pass.Goals as goal

pub returns-clause-rows : goal.returns-clause-rows
returns-clause-rows c = λ row is.
    let a = c.args.at in
    let rows = c.args.rows.now in
    let turned = put_mid-rotated a (length rows - a) rows c.rotate_left.new.self row (omega arith)
    (omega arith) c.rotate_left.ensures.after in
    grind (arith, nat_tests, common_steps, turned)
