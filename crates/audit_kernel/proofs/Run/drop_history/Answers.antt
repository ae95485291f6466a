use Rattle.std.proofs.Common.{◌≡◌, Option, Some, None, map, option_map, sym, ap, ◌∙◌}
use Rattle.kernel_model.specs.AllCalls.{all_calls}
use Rattle.kernel_model.specs.Events.{drop_marked}
use Rattle.kernel_model.specs.History as history
use Rattle.audit_pieces.specs.Stores.{page_of}
use Rattle.audit_replay.specs.declared.Trace.{Trace}
use Rattle.audit_replay.specs.Traces.{mark_of, trace_of}
use Rattle.audit_kernel.specs.Steps.{graft_call, leads_in, with_flight}
use Rattle.audit_kernel.proofs.Run.drop_history.Goals as goal

pub returns-in_ok-put_marks-in-None-clause-run : goal.returns-in_ok-put_marks-in-None-clause-run
returns-in_ok-put_marks-in-None-clause-run c =
    let r = c.args.self.now in
    let ks = c.args.history.marks.items in
    let call = graft_call c.args.number c.args.stage ks in
    let where_it_leads : None ≡ leads_in r c.args.p call =
    sym (ap (λ (t : Option Trace). option_map (trace_of (page_of r.store)) t) c.in-None.is) ∙ c.requires.here in
    c.in_ok-put_marks-in-None.ensures.run
    ∙ ap (λ (t : Option history.Trace). drop_marked all_calls c.args.p call (Some (map mark_of ks)) t
    (Some c.args.d) c.args.cause (with_flight c.args.p call r)) where_it_leads

pub returns-in_ok-drop_trace-in-Some-clause-run : goal.returns-in_ok-drop_trace-in-Some-clause-run
returns-in_ok-drop_trace-in-Some-clause-run c =
    let r = c.args.self.now in
    let bytes = page_of r.store in
    let ks = c.args.history.marks.items in
    let call = graft_call c.args.number c.args.stage ks in
    let where_it_leads : Some (trace_of bytes c.in-Some.trace) ≡ leads_in r c.args.p call =
    sym (ap (λ (t : Option Trace). option_map (trace_of bytes) t) c.in-Some.is) ∙ c.requires.here in
    c.in_ok-drop_trace-in-Some.ensures.run
    ∙ ap (λ (t : Option history.Trace). drop_marked all_calls c.args.p call (Some (map mark_of ks)) t
    (Some c.args.d) c.args.cause (with_flight c.args.p call r)) where_it_leads
