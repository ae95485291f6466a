use Rattle.std.proofs.Common.{◌∙◌, ap}
use Rattle.kernel_model.specs.declared.Need.{Need}
use Rattle.kernel_model.specs.Locks.{Touched, touch}
use Rattle.kernel_model.specs.Access.{accessed}
use Rattle.kernel_model.specs.Machine.{Machine}
use Rattle.kernel_model.specs.Levels as levels
use Rattle.audit_machine.specs.Machine.{machine_of}
use Rattle.audit_levels.specs.Levels.{level_of}
use Rattle.audit_levels.proofs.accessors.put_access.Goals as goal

pub returns : goal.returns
returns c = λ bytes.
    let l = level_of bytes c.args.l.now in
    let with : Touched → Machine → levels.Level = λ t m. record l { touched = t; machine = m } in
    let touching : Need → Touched = λ n. touch n.object n.mode l.touched in
    ap (λ (t : Touched). with t (machine_of c.put_result.new.machine))
    (c.in_ok-touch.ensures ∙ ap touching c.in_ok-need.ensures)
    ∙ ap (λ (m : Machine). with (touching (accessed c.args.id (l.machine.regs 0) l.owner)) m)
    (c.put_result.ensures 0)
