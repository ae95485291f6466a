use Rattle.std.proofs.Common.{◌<◌, length, sym, arith}
use Rattle.graft_loader.proofs.Decoding.{Decodes-more}
use Rattle.graft_loader.proofs.decode_words.Goals as goal

pub loop-pc-preserved : goal.loop-pc-preserved
loop-pc-preserved c =
    let room : c.loop-pc.pc < length c.args.words.now = omega arith in
    rw c.in_ok-push-in-Ok.ensures.ok
    (Decodes-more c.args.words.now c.loop-pc.pc _ c.in-Ok.instr c.loop-pc.invariant room
    (sym c.in-Ok.ensures.exact) c.in-Ok.ensures.fits)
