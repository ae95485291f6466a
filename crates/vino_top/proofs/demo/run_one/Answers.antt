-- The line went on, and what it left behind is tallied.
use Rattle.std.proofs.Common.{◌≤◌, List, length, sym, subst}
use Rattle.kernel_data.specs.declared.Note.{Note}
use Rattle.kernel_data.specs.Bare.{notes_with}
use Rattle.vino_top.specs.Run.{left_in}
use Rattle.vino_top.specs.Standing.{seen_of}
use Rattle.vino_top.specs.Demos.{demo_place}
use Rattle.vino_top.proofs.DemoLemmas.{demo_takes}
use Rattle.vino_top.proofs.demo.run_one.Goals as goal

pub returns-clause-ok : goal.returns-clause-ok
returns-clause-ok g c =
    demo_takes (demo_place (g.D.Disk.seen c.args.disk.now).size) c.args.text.now (seen_of c.args.run.now.session)
    (seen_of c.run_line.new.self)
    _ _ (left_in c.run_line.new.out) c.as_slice.result.now (notes_with c.parts.result.0.now c.parts.result.1.now) _ _
    c.run_line.ensures.counted c.in_ok-run_line.ensures.ok c.as_slice.ensures.value
    (sym c.parts.ensures.value) c.as_slice.ensures.few (subst
    (λ (ns : List Note). length ns ≤ 530) c.parts.ensures.value c.parts.ensures.few_notes)
    (c.add.ensures c.parts.result.1.now)
