-- Where memory is wanting, the source gave one piece more.
use Rattle.std.proofs.Common.{arith, ◌++◌, take, length-append, length-take}
use Rattle.std.proofs.KnownBytes.{Consumes-trans}
use Rattle.commands.proofs.input.read_pieces.Goals as goal

pub returns-in-Err-extend_from_slice-clause-gave : goal.returns-in-Err-extend_from_slice-clause-gave
returns-in-Err-extend_from_slice-clause-gave g c =
    let piece = take c.in-Ok.n c.read.new.buf in
    record {
      taken = c.loop-input.input.items ++ piece;
      within =
          omega (
            arith,
            length-append c.loop-input.input.items piece,
            length-take c.in-Ok.n
                c.read.new.buf,
            c.in-Ok.ensures.bound,
            length-take c.min-room.result c.loop-input.buf,
            c.min-room.ensures,
            c.len-in-loop-input.ensures,
            c.loop-input.invariant.within,
          );
      consumed = Consumes-trans _ _ _ _ _ c.loop-input.invariant.consumed c.in-Ok.ensures.contents.0;
    }
