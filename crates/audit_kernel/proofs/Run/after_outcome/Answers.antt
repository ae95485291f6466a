use Rattle.std.proofs.Common.{List, map, refl, sym, ap, ◌∙◌, ◌∷◌, []}
use Rattle.std.proofs.lemmas.List.{map-append}
use Rattle.kernel_model.specs.declared.Note.{Note}
use Rattle.kernel_model.specs.Kernel as model
use Rattle.audit_levels.specs.Levels.{config_of, effect_of, outcome_of}
use Rattle.audit_levels.specs.declared.Effect.{Effect}
use Rattle.audit_pieces.specs.Stores.{page_of}
use Rattle.audit_replay.specs.declared.Mark.{Mark}
use Rattle.audit_replay.specs.declared.Mark.TheVariants.{Stepped}
use Rattle.audit_replay.specs.Traces.{mark_of}
use Rattle.audit_kernel.specs.Runs.{run_of}
use Rattle.audit_kernel.specs.Steps.{graft_call, leads_in}
use Rattle.audit_kernel.proofs.Stepping.{went, completed, dropped}
use Rattle.audit_kernel.proofs.Run.after_outcome.Goals as goal

pub returns-in_ok-put_marks-in-Went-clause-run : goal.returns-in_ok-put_marks-in-Went-clause-run
returns-in_ok-put_marks-in-Went-clause-run c = λ t leads pasts.
    let r = c.args.self.now in
    let ks = c.args.marks.items in
    let o = outcome_of c.args.outcome (config_of (page_of r.store) c.args.trace.config) in
    went c.args.p (graft_call c.args.number c.args.stage ks) t (map mark_of ks)
    (map mark_of c.put_last.new.items.items) o (run_of r) (run_of c.put_marks.new.self) (sym c.in-Went.is)
    (ap (λ (xs : List Mark). map mark_of xs) c.in_ok-put_last-in-Went.ensures
    ∙ map-append mark_of ks (Stepped ∷ []))
    c.in_ok-put_marks-in-Went.ensures.run

pub returns-in_ok-complete-in-Completed-clause-run :
    goal.returns-in_ok-complete-in-Completed-clause-run
returns-in_ok-complete-in-Completed-clause-run c = λ t leads pasts.
    let r = c.args.self.now in
    let ks = c.args.marks.items in
    let o = outcome_of c.args.outcome (config_of (page_of r.store) c.args.trace.config) in
    let call = graft_call c.args.number c.args.stage ks in
    completed c.args.p call t (map mark_of ks) o (run_of r) (run_of c.complete.new.self)
    c.in-Completed.registers c.in_ok-body-in-Completed.body.items (sym c.in-Completed.is)
    (c.in_ok-body-in-Completed.ensures c.args.number t
    (ap (λ (xs : List Mark). leads_in r c.args.p (graft_call c.args.number c.args.stage xs))
    c.deref.ensures.value ∙ leads))
    (c.in_ok-complete-in-Completed.ensures.run call.marks)

pub returns-in_ok-after_drop-in-Dropped-clause-run :
    goal.returns-in_ok-after_drop-in-Dropped-clause-run
returns-in_ok-after_drop-in-Dropped-clause-run c = λ t leads pasts.
    let r = c.args.self.now in
    let ks = c.args.marks.items in
    let o = outcome_of c.args.outcome (config_of (page_of r.store) c.args.trace.config) in
    let call = graft_call c.args.number c.args.stage ks in
    let w = c.in-Dropped in
    let with_notes : List Note → model.Run = λ ns. record (run_of r) { notes = ns } in
    dropped c.args.p call t (map mark_of ks) o (run_of r)
    (with_notes c.put_last-in-Dropped.new.items.items) (run_of c.after_drop.new.self) w.depth w.installer
    w.point w.cause (sym w.is) (ap with_notes c.in_ok-put_last-in-Dropped.ensures)
    (c.in_ok-after_drop-in-Dropped.ensures.run t o pasts refl
    (ap (λ (es : List Effect). map effect_of es) c.deref-in-Dropped.ensures.value))
