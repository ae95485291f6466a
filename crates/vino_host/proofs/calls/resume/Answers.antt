use Rattle.std.proofs.Common.{◌≡◌, ap, ◌∙◌, refl}
use Rattle.graft_code.specs.Machine as model
use Rattle.vino_host.specs.HostMachine.{machine_of}
use Rattle.vino_host.specs.HostRuns.{State, state, Ended, host_run, with_r0}
use Rattle.vino_host.specs.Tables.{records_of}
use Rattle.vino_host.specs.Plugins.{code_of}
use Rattle.vino_host.specs.Calls.{found, found_in, frame_of, pause_in}
use Rattle.vino_host.proofs.Beginnings.{resumes, segment_back, table_back, table_kept}
use Rattle.vino_host.proofs.Stopping.{steps_most}
use Rattle.vino_host.proofs.calls.resume.Goals as goal

-- the moment from which the call goes on
abbrev moment : goal.After-table-1 → State
moment c =
    state (with_r0 c.args.word (machine_of c.args.call.now.machine c.args.segment.now)) c.args.table.now
    (records_of c.args.call.now.log)

abbrev run_of : goal.After-table-1 → Ended
run_of c = host_run c.args.call.now.number (code_of c.args.plugin.now) c.args.call.now.left (moment c)

-- what a caller finds
abbrev Says : goal.After-table-1 → Type 0
Says c = found_in c.run_on.result c.run_on.new.call c.run_on.new.segment c.run_on.new.table
    ≡ found (frame_of c.args.call.now) (run_of c)

says : (c : goal.After-table-1) → Says c
says c =
    c.run_on.ensures.says
    ∙ ap (λ (m : model.Machine). found (frame_of c.args.call.now)
    (host_run c.args.call.now.number (code_of c.args.plugin.now) c.args.call.now.left
    (state m c.args.table.now (records_of c.args.call.now.log)))) (c.set_r0.ensures c.args.segment.now)

pub returns-then-how-eq0-clause-says : goal.returns-then-how-eq0-clause-says
returns-then-how-eq0-clause-says c h =
    resumes c.args.plugin.now (pause_in c.args.call.now c.args.segment.now) c.args.how c.args.word
    c.args.table.now _ c.if-how-eq0.true (says c)

pub returns-then-how-eq0-clause-segment : goal.returns-then-how-eq0-clause-segment
returns-then-how-eq0-clause-segment c d =
    segment_back (frame_of c.args.call.now) (run_of c)
    c.run_on.result c.run_on.new.call c.run_on.new.segment c.args.call.now.segment c.run_on.new.table
    (says c) c.run_on.ensures.size refl d

pub returns-then-how-eq0-clause-table : goal.returns-then-how-eq0-clause-table
returns-then-how-eq0-clause-table c d =
    table_back (frame_of c.args.call.now) c.args.call.now.number (code_of c.args.plugin.now) c.args.call.now.left
    (moment c) c.run_on.result c.run_on.new.call c.run_on.new.segment c.run_on.new.table (says c) d

pub returns-then-how-eq0-clause-kept_table : goal.returns-then-how-eq0-clause-kept_table
returns-then-how-eq0-clause-kept_table c waits =
    table_kept (frame_of c.args.call.now) c.args.call.now.number (code_of c.args.plugin.now) c.args.call.now.left
    (moment c) c.run_on.result c.run_on.new.call c.run_on.new.segment c.run_on.new.table (says c) waits

pub returns-then-how-eq0-clause-limit : goal.returns-then-how-eq0-clause-limit
returns-then-how-eq0-clause-limit c =
    steps_most (frame_of c.args.call.now) (run_of c)
    c.run_on.result c.run_on.new.call c.run_on.new.segment c.run_on.new.table (says c)
