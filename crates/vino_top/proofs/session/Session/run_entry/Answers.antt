-- Each entry has its law; a boot, events, images and the rows have functions of their own.
use Rattle.std.proofs.Common.{ap, refl}
use Rattle.vino_top.specs.Run.{place_over}
use Rattle.vino_top.specs.Parsed.{Parsed}
use Rattle.vino_top.specs.Standing.{seen_of}
use Rattle.vino_top.proofs.SessionLemmas.{on_ok, blank_runs, frames_runs, grant_runs, patience_runs}
use Rattle.vino_top.proofs.session.Session.run_entry.Goals as goal

pub boot-requires-clause-first : goal.boot-requires-clause-first
boot-requires-clause-first g c = c.requires.place (rw c.in-Boot.is refl)

pub image-requires-clause-counted : goal.image-requires-clause-counted
image-requires-clause-counted g c = ((g.D.Disk.seen c.args.disk.now).size, c.requires.can.counted)

pub raw-requires-clause-counted : goal.raw-requires-clause-counted
raw-requires-clause-counted g c = ((g.D.Disk.seen c.args.disk.now).size, c.requires.can.counted)

pub returns-in-Blank-clause-runs : goal.returns-in-Blank-clause-runs
returns-in-Blank-clause-runs g c =
    rw c.in-Blank.is (blank_runs
    (place_over g.C.Meaning.Rules.meaning c.args.keys.now (g.D.Disk.seen c.args.disk.now).size)
    (seen_of c.args.self.now) _ (g.D.Disk.seen c.args.disk.now) c.requires.can.empty)

pub returns-in-Frames-clause-runs : goal.returns-in-Frames-clause-runs
returns-in-Frames-clause-runs g c =
    rw c.in-Frames.is (frames_runs
    (place_over g.C.Meaning.Rules.meaning c.args.keys.now (g.D.Disk.seen c.args.disk.now).size)
    (seen_of c.args.self.now) c.in-Frames.n _ (g.D.Disk.seen c.args.disk.now) c.requires.can.empty)

pub returns-in-Patience-clause-runs : goal.returns-in-Patience-clause-runs
returns-in-Patience-clause-runs g c =
    rw c.in-Patience.is (patience_runs
    (place_over g.C.Meaning.Rules.meaning c.args.keys.now (g.D.Disk.seen c.args.disk.now).size)
    (seen_of c.args.self.now) c.in-Patience.kind c.in-Patience.ticks c.set_patience.new.patience
    _ (g.D.Disk.seen c.args.disk.now) c.set_patience.ensures.value c.requires.can.empty)

pub returns-in-Grant-clause-runs : goal.returns-in-Grant-clause-runs
returns-in-Grant-clause-runs g c =
    rw c.in-Grant.is (grant_runs
    (place_over g.C.Meaning.Rules.meaning c.args.keys.now (g.D.Disk.seen c.args.disk.now).size)
    (seen_of c.args.self.now) c.in-Grant.n _ (g.D.Disk.seen c.args.disk.now) c.requires.can.empty)

pub returns-in-Boot-clause-runs : goal.returns-in-Boot-clause-runs
returns-in-Boot-clause-runs g c = rw c.in-Boot.is (c.boot.ensures.runs c.args.keys.now)

pub returns-in-Happens-clause-runs : goal.returns-in-Happens-clause-runs
returns-in-Happens-clause-runs g c = rw c.in-Happens.is (c.happen.ensures.runs c.args.keys.now)

pub returns-in-Image-clause-within : goal.returns-in-Image-clause-within
returns-in-Image-clause-within g c =
    c.image.ensures.within (g.D.Disk.seen c.args.disk.now).size c.requires.can.counted.within

pub returns-in-Image-clause-runs : goal.returns-in-Image-clause-runs
returns-in-Image-clause-runs g c =
    rw c.in-Image.is (on_ok c.image.result (λ runs. (runs (g.D.Disk.seen c.args.disk.now).size
    (g.D.Disk.seen c.args.disk.now))) c.image.ensures.runs)

pub returns-in-Raw-clause-within : goal.returns-in-Raw-clause-within
returns-in-Raw-clause-within g c =
    c.raw.ensures.within (g.D.Disk.seen c.args.disk.now).size c.requires.can.counted.within

pub returns-in-Raw-clause-runs : goal.returns-in-Raw-clause-runs
returns-in-Raw-clause-runs g c =
    rw c.in-Raw.is (c.raw.ensures.runs c.args.keys.now (g.D.Disk.seen c.args.disk.now).size
    (g.D.Disk.seen c.args.disk.now))

pub returns-in-Boot-clause-counted : goal.returns-in-Boot-clause-counted
returns-in-Boot-clause-counted g c = ap (λ (p : Parsed). p.lines) (c.boot.ensures.runs c.args.keys.now).parsed

pub returns-in-Happens-clause-counted : goal.returns-in-Happens-clause-counted
returns-in-Happens-clause-counted g c = ap (λ (p : Parsed). p.lines) (c.happen.ensures.runs c.args.keys.now).parsed

pub raw-requires-clause-empty : goal.raw-requires-clause-empty
raw-requires-clause-empty g c = c.requires.can.empty

pub image-requires-clause-empty : goal.image-requires-clause-empty
image-requires-clause-empty g c = c.requires.can.empty

pub boot-requires-clause-empty : goal.boot-requires-clause-empty
boot-requires-clause-empty g c = c.requires.can.empty

pub boot-requires-clause-within : goal.boot-requires-clause-within
boot-requires-clause-within g c = c.requires.can.counted.within
