use Rattle.std.proofs.Common.{refl}
use Rattle.audit_session.proofs.Running.{patience_leaves}
use Rattle.audit_session.proofs.Session.run_entry.Goals as goal

pub returns-in_ok-put_one-in-Patience : goal.returns-in_ok-put_one-in-Patience
returns-in_ok-put_one-in-Patience c =
    rw c.in-Patience.is (patience_leaves c.args.keys.now c.args.self.now
    (record {
      frames = c.args.self.now.setup.frames;
      patience = c.put_one.new.rows;
      grant = c.args.self.now.setup.grant;
    })
    c.in-Patience.kind c.in-Patience.ticks c.from.result c.args.out.now refl refl
    (c.in_ok-put_one-in-Patience.ensures 10) c.from.ensures c.requires.kept c.requires.empty)
