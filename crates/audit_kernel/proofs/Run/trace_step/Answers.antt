use Rattle.std.proofs.Common.{◌≡◌, true, List, map, sym, ap, ◌∙◌, ◌∷◌, []}
use Rattle.std.proofs.lemmas.List.{map-append}
use Rattle.kernel_model.specs.GraftStep.{micro}
use Rattle.kernel_model.specs.Levels.{is_going_on}
use Rattle.graft_loader.specs.Slots.{table_of}
use Rattle.audit_state.specs.Worlds.{world_of}
use Rattle.audit_levels.specs.Levels.{config_of, outcome_of}
use Rattle.audit_pieces.specs.Stores.{page_of}
use Rattle.audit_replay.specs.declared.Mark.{Mark}
use Rattle.audit_replay.specs.declared.Mark.TheVariants.{Stepped}
use Rattle.audit_replay.specs.Traces.{mark_of, trace_of}
use Rattle.audit_kernel.specs.Runs.{run_of}
use Rattle.audit_kernel.specs.Steps.{graft_call}
use Rattle.audit_kernel.proofs.Stepping.{going}
use Rattle.audit_kernel.proofs.Run.trace_step.Goals as goal

pub returns-in_ok-put_trace-clause-run : goal.returns-in_ok-put_trace-clause-run
returns-in_ok-put_trace-clause-run c =
    let r = c.args.self.now in
    let bytes = page_of r.store in
    let ks = c.args.marks.items in
    let t = trace_of bytes c.args.trace in
    let o = outcome_of c.in_ok-outcome.outcome (config_of bytes c.step_on.new.trace.config) in
    let x = micro (world_of r.setting.world) (table_of r.setting.images) c.args.p t.config in
    let goes : is_going_on c.in_ok-outcome.outcome.said ≡ true = sym c.is_going_on.ensures ∙ c.if-is_going_on.true in
    going c.args.p (graft_call c.args.number c.args.stage ks) t (map mark_of ks)
    (map mark_of c.step_on.new.history.items) o x (run_of r) (run_of c.put_trace.new.self) goes
    (c.in_ok-outcome.ensures.outcome bytes)
    (ap (λ (xs : List Mark). map mark_of xs) (c.in_ok-outcome.ensures.longer goes) ∙ map-append mark_of ks (Stepped ∷ []))
    c.in_ok-put_trace.ensures.run
