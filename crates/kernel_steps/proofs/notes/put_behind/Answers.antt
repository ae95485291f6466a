use Rattle.std.proofs.Common.{arith, refl, length, ◌∙◌, ◌+◌}
use Rattle.std.specs.List.{length_refill}
use Rattle.kernel_steps.proofs.NotingLemmas.{put_whole, reaches}
use Rattle.kernel_steps.proofs.notes.put_behind.Goals as goal

pub copy_to-requires-clause-fits : goal.copy_to-requires-clause-fits
copy_to-requires-clause-fits c =
    let far = reaches c.args.bytes.now.items c.reach.new.self.items (c.args.size + 512) c.reach.ensures.items in
    omega (arith, far, c.deref_mut.ensures.len)

pub returns-clause-bytes : goal.returns-clause-bytes
returns-clause-bytes c =
    put_whole c.args.bytes.now.items _ c.deref_mut.result.now c.copy_to.new.bytes c.reach.new.self.items
    (length c.reach.new.self.items) c.args.size c.args.gave.now
    (c.deref_mut.ensures.value ∙ c.reach.ensures.items) c.requires.within
    (c.copy_to.ensures.size ∙ c.deref_mut.ensures.len) c.copy_to.ensures.bytes

pub returns-clause-size : goal.returns-clause-size
returns-clause-size c =
    let far = reaches c.args.bytes.now.items c.reach.new.self.items (c.args.size + 512) c.reach.ensures.items in
    let long = length_refill (length c.reach.new.self.items) c.reach.new.self.items c.copy_to.new.bytes refl in
    omega (arith, far, long)
