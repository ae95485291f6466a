use Rattle.std.proofs.Common.{rules, ap}
use Rattle.vino_base.specs.Disks.{DiskSeen}
use Rattle.mem_disk.proofs.Logs.{write_tells, call_extends}
use Rattle.mem_disk.proofs.log.DiskLog.write.Goals as goal

pub returns-clause-known : goal.returns-clause-known
returns-clause-known g c blocks tells =
    let d = g.D.Disk.seen c.args.disk.now in
    let call = c.write_block-result in
    write_tells d.known (g.D.Disk.seen call.new.self).known call.result c.args.b c.size.result
    c.args.from.now blocks (search rules) (search rules) (ap (λ (x : DiskSeen). x.known) call.ensures.after) tells

pub returns-clause-calls : goal.returns-clause-calls
returns-clause-calls g c =
    let call = c.write_block-result in
    let after = call.ensures.after in
    call_extends (g.D.Disk.seen c.args.disk.now) (g.D.Disk.seen call.new.self) c.args.self.now
    c.note.new.self call.result (search rules) (ap (λ (x : DiskSeen). x.size) after)
    call.ensures.cause (ap (λ (x : DiskSeen). x.plan) after) call.ensures.fails
