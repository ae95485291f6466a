-- A kernel that is booted runs.
use Rattle.lab_watch.proofs.looks.view_of.Goals as goal

pub see_rows-requires : goal.see_rows-requires
see_rows-requires g c =
    let kernel = c.requires.within.kernel c.if-slow.true in record { running = kernel.running }

pub see_registers-requires : goal.see_registers-requires
see_registers-requires g c =
    let kernel = c.requires.within.kernel c.if-slow.true in record { running = kernel.running }
