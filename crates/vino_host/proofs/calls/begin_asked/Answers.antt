use Rattle.vino_host.specs.Tables.{records_of}
use Rattle.vino_host.specs.Calls.{frame_with}
use Rattle.vino_host.proofs.Beginnings.{begins}
use Rattle.vino_host.proofs.calls.begin_asked.Goals as goal

pub returns : goal.returns
returns c =
    begins c.args.plugin.now c.args.request.now c.args.bytes.now c.args.segment.now _
    c.args.table.now (frame_with c.args.segment.now c.keep.new.call) (records_of c.keep.new.call.log)
    c.first.result _ c.run_apart.ensures (c.keep.ensures.frame c.args.segment.now) c.keep.ensures.records
    c.prepare.ensures c.first.ensures
