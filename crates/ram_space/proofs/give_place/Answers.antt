use Rattle.std.proofs.Common.{arith}
use Rattle.ram_space.proofs.Pages.{next_room, gets_space}
use Rattle.ram_space.proofs.give_place.Goals as goal

pub overflow_add-end : goal.overflow_add-end
overflow_add-end c =
    let room = next_room c.args.places.now c.args.bytes.now.items c.args.i c.len-end.result
    c.args.bytes.now.room c.len-end.ensures c.requires.space c.requires.none c.requires.page in
    let taken = c.requires.space.taken in
    omega (arith, room, taken)

pub reach-requires : goal.reach-requires
reach-requires c =
    next_room c.args.places.now c.args.bytes.now.items c.args.i c.len-end.result c.args.bytes.now.room
    c.len-end.ensures c.requires.space c.requires.none c.requires.page

pub returns-clause-space : goal.returns-clause-space
returns-clause-space c =
    gets_space c.args.places.now c.args.bytes.now.items c.reach.new.self.items c.args.i c.len-end.result
    c.args.bytes.now.room c.reach.new.self.room
    c.reach.ensures.items c.len-end.ensures c.requires.space
    c.reach.ensures.room c.requires.none c.requires.page
