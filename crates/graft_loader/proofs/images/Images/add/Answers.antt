use Rattle.std.proofs.Common.{Some, arith}
use Rattle.graft_loader.proofs.Slots.{table_changed, same_size, told_changed}
use Rattle.graft_loader.proofs.images.Images.add.Goals as goal

pub invariant_of-self : goal.invariant_of-self
invariant_of-self c = record {
  size = same_size c.self.inside.slots.items c.args.slot (Some c.args.image) c.self.invariant.size;
  told =
      told_changed c.self.inside.slots.items c.self.inside.mask _ c.args.slot c.args.image
      (omega (arith, c.requires, c.self.invariant.size)) c.self.invariant.told
      c.with_bit-self-inside.ensures;
}

pub returns-clause-table : goal.returns-clause-table
returns-clause-table c =
    table_changed c.self.inside.slots.items c.args.self.now c.args.slot (Some c.args.image)
    c.self.view_is (omega (arith, c.requires, c.self.invariant.size))
