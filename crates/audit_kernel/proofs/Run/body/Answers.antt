use Rattle.std.proofs.Common.{◌≡◌, List, Option, None, Some, option_map, sym, ap, ◌∙◌}
use Rattle.kernel_model.specs.History as history
use Rattle.kernel_model.specs.Levels.{answer_of}
use Rattle.audit_levels.specs.declared.Level.{Level}
use Rattle.audit_levels.specs.Levels.{levels_of}
use Rattle.audit_pieces.specs.Stores.{page_of}
use Rattle.audit_replay.specs.declared.Trace.{Trace}
use Rattle.audit_replay.specs.Traces.{trace_of}
use Rattle.audit_kernel.proofs.Run.body.Goals as goal

pub returns-in_ok-body-in-Some : goal.returns-in_ok-body-in-Some
returns-in_ok-body-in-Some c = λ n t told.
    let bytes = page_of c.args.self.now.store in
    let rs = c.args.registers in
    let u : history.Trace = trace_of bytes c.in-Some.trace in
    let same : Some u ≡ Some t =
    sym (ap (λ (o : Option Trace). option_map (trace_of bytes) o) c.in-Some.is)
    ∙ c.in_ok-lead.ensures n ∙ told in
    let is : u ≡ t = ap (λ (o : Option history.Trace). elim o as (λ _. history.Trace) [ None ↦ u | Some x ↦ x ]) same in
    c.in_ok-body-in-Some.ensures bytes
    ∙ ap (λ (ls : List Level). (answer_of rs (levels_of bytes ls)).body) c.deref.ensures.value
    ∙ ap (λ (x : history.Trace). (answer_of rs x.config.levels).body) is
