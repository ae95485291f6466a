use Rattle.std.proofs.Common.{[], refl}
use Rattle.vino_host.specs.HostRuns.{state, host_run}
use Rattle.vino_host.specs.Plugins.{code_of}
use Rattle.vino_host.specs.Calls.{begun, first_frame}
use Rattle.vino_host.proofs.Beginnings.{segment_back, segment_kept, table_back, table_kept}
use Rattle.vino_host.proofs.Stopping.{steps_most}
use Rattle.vino_host.proofs.calls.begin.Goals as goal

pub returns-clause-says : goal.returns-clause-says
returns-clause-says c h = c.begin_asked.ensures

pub returns-clause-segment : goal.returns-clause-segment
returns-clause-segment c d =
    segment_back (first_frame c.args.request.now c.args.bytes.now c.args.segment.now)
    (host_run c.args.request.now.number (code_of c.args.plugin.now) c.args.request.now.limit
    (state (begun c.args.plugin.now c.args.request.now c.args.bytes.now c.args.segment.now) c.args.table.now []))
    c.begin_asked.result c.begin_asked.new.call c.begin_asked.new.segment c.args.segment.now c.begin_asked.new.table
    c.begin_asked.ensures (c.begin_asked.auto.segment) refl d

pub returns-clause-table : goal.returns-clause-table
returns-clause-table c d =
    table_back (first_frame c.args.request.now c.args.bytes.now c.args.segment.now)
    c.args.request.now.number (code_of c.args.plugin.now) c.args.request.now.limit
    (state (begun c.args.plugin.now c.args.request.now c.args.bytes.now c.args.segment.now) c.args.table.now [])
    c.begin_asked.result c.begin_asked.new.call c.begin_asked.new.segment c.begin_asked.new.table
    c.begin_asked.ensures d

pub returns-clause-kept_segment : goal.returns-clause-kept_segment
returns-clause-kept_segment c h waits =
    segment_kept (first_frame c.args.request.now c.args.bytes.now c.args.segment.now)
    (host_run c.args.request.now.number (code_of c.args.plugin.now) c.args.request.now.limit
    (state (begun c.args.plugin.now c.args.request.now c.args.bytes.now c.args.segment.now) c.args.table.now []))
    c.begin_asked.result c.begin_asked.new.call c.begin_asked.new.segment c.begin_asked.new.table
    c.begin_asked.ensures waits

pub returns-clause-kept_table : goal.returns-clause-kept_table
returns-clause-kept_table c h waits =
    table_kept (first_frame c.args.request.now c.args.bytes.now c.args.segment.now)
    c.args.request.now.number (code_of c.args.plugin.now) c.args.request.now.limit
    (state (begun c.args.plugin.now c.args.request.now c.args.bytes.now c.args.segment.now) c.args.table.now [])
    c.begin_asked.result c.begin_asked.new.call c.begin_asked.new.segment c.begin_asked.new.table
    c.begin_asked.ensures waits

pub returns-clause-limit : goal.returns-clause-limit
returns-clause-limit c =
    steps_most (first_frame c.args.request.now c.args.bytes.now c.args.segment.now)
    (host_run c.args.request.now.number (code_of c.args.plugin.now) c.args.request.now.limit
    (state (begun c.args.plugin.now c.args.request.now c.args.bytes.now c.args.segment.now) c.args.table.now []))
    c.begin_asked.result c.begin_asked.new.call c.begin_asked.new.segment c.begin_asked.new.table c.begin_asked.ensures
