use Rattle.graft_loader.proofs.Decoding.{load-parts, refused}
use Rattle.graft_loader.proofs.load.Goals as goal

pub returns-in-Ok-clause-ok : goal.returns-in-Ok-clause-ok
returns-in-Ok-clause-ok c =
    rw (load-parts c.args.keys.now c.args.bytes.now c.sealed_part.result.now _ c.sealed_part.ensures
    c.in-Ok.ensures.ok) c.check_parts.ensures.ok

pub returns-in-Ok-clause-err : goal.returns-in-Ok-clause-err
returns-in-Ok-clause-err c =
    rw (load-parts c.args.keys.now c.args.bytes.now c.sealed_part.result.now _ c.sealed_part.ensures
    c.in-Ok.ensures.ok) c.check_parts.ensures.err

pub returns-in-Err-clause-err : goal.returns-in-Err-clause-err
returns-in-Err-clause-err c =
    rw c.unread.ensures
    (refused c.in-Err.fault c.args.keys.now c.args.bytes.now c.in-Err.ensures.err)
