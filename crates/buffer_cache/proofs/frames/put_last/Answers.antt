use Rattle.std.proofs.Common.{◌-◌, length, arith}
use Rattle.std.proofs.lemmas.Slice.{put_mid-rotated}
use Rattle.buffer_cache.proofs.frames.put_last.Goals as goal

pub returns : goal.returns
returns c =
    put_mid-rotated c.args.at (length c.args.order.now - c.args.at) c.args.order.now
    c.rotate_left.new.self 0 c.requires (omega arith) c.rotate_left.ensures.after
