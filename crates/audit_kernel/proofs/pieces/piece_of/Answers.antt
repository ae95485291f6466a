use Rattle.graft_loader.specs.Slots.{table_of}
use Rattle.audit_replay.proofs.Going.{if_ok}
use Rattle.audit_kernel.proofs.pieces.piece_of.Goals as goal

pub returns : goal.returns
returns c =
    if_ok c.piece-done.result (λ e said. said (table_of c.args.setting.now.images)) c.piece-done.ensures
