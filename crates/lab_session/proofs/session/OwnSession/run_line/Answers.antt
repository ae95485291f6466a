-- A line that is too long keeps a session within its limits.
use Rattle.lab_session.proofs.session.OwnSession.run_line.Goals as goal

pub returns-then-line-gt-LINE_BYTES : goal.returns-then-line-gt-LINE_BYTES
returns-then-line-gt-LINE_BYTES g c =
    c.refuse_long.ensures.within (g.D.Disk.seen c.args.self.now.disk).size c.requires.within
