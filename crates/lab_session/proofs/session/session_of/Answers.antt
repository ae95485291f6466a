-- Such a session is right for this disk.
use Rattle.lab_session.proofs.session.session_of.Goals as goal

pub returns : goal.returns
returns g c = c.requires.within (g.D.Disk.seen c.args.disk).size
