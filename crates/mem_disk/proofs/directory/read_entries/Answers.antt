use Rattle.std.proofs.Common.{arith}
use Rattle.std.proofs.lemmas.Grind.{common_steps}
use Rattle.mem_disk.proofs.Entries.{entries_none, entries_more, files-push}
use Rattle.mem_disk.proofs.directory.read_entries.Goals as goal

pub loop-i-init : goal.loop-i-init
loop-i-init c = grind (arith, common_steps, entries_none)

pub loop-i-preserved : goal.loop-i-preserved
loop-i-preserved c = record {
  value = grind (arith, common_steps, entries_more);
  count = grind (arith, common_steps);
  files =
      files-push c.args.size c.loop-i.rows.items c.push.new.self.items c.read_entry-next.result
      c.loop-i.invariant.files c.read_entry-next.ensures.files c.push.ensures.items;
}
