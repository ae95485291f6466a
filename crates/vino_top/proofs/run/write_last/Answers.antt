-- The last bytes were written, or a part of them.
use Rattle.vino_top.proofs.EndLemmas.{last_done, last_cut}
use Rattle.vino_top.proofs.run.write_last.Goals as goal

pub returns-in-Ok : goal.returns-in-Ok
returns-in-Ok g c =
    last_done _ c.args.status _ _ c.requires
    (rw c.as_slice.ensures.value at c.in-Ok.ensures.contents) c.in-Ok.ensures.used

pub returns-in-Err : goal.returns-in-Err
returns-in-Err g c =
    last_cut _ c.args.status _ _ (rw c.as_slice.ensures.value at c.in-Err.ensures.contents)
    c.in-Err.ensures.used
