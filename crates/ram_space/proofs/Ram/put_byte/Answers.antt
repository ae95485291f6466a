use Rattle.std.proofs.Common.{◌∙◌, arith}
use Rattle.ram_space.proofs.Lists.{put_one}
use Rattle.ram_space.proofs.Ram.put_byte.Goals as goal

pub returns-clause-value : goal.returns-clause-value
returns-clause-value c =
    let change = c.put_in_page.ensures in
    let size = c.whole.ensures in
    let inside = c.requires in
    change.value ∙ put_one c.args.a c.args.v c.args.self.now (omega (arith, size, inside))
