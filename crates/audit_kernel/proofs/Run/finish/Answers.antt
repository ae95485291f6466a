use Rattle.std.proofs.Common.{[], List, ◌++◌, ap, ◌∙◌}
use Rattle.kernel_model.specs.declared.Note.{Note}
use Rattle.kernel_model.specs.AllCalls.{all_calls}
use Rattle.kernel_model.specs.Kernel as model
use Rattle.graft_loader.specs.Slots.{table_of}
use Rattle.audit_state.specs.Worlds.{world_of}
use Rattle.audit_needs.specs.Stages.{stage_of}
use Rattle.audit_pieces.specs.Ends.{answer_of, after_of, gave_of}
use Rattle.audit_pieces.specs.Stores.{objects_of, blocks_of}
use Rattle.audit_kernel.specs.Runs.{kernel_of, call_at}
use Rattle.audit_kernel.proofs.Finishing.{put_call, finished}
use Rattle.audit_kernel.proofs.Run.finish.Goals as goal

pub returns-clause-kept : goal.returns-clause-kept
returns-clause-kept c = c.in_ok-run_all_again.ensures.kept

pub returns-clause-run : goal.returns-clause-run
returns-clause-run c = λ marks.
    let r = c.args.self.now in
    let call : model.Call = record {
      number = c.args.number;
      stage = stage_of c.args.stage;
      marks = marks;
    } in
    let q = all_calls.piece (world_of r.setting.world) (table_of r.setting.images)
    (objects_of r.store) (blocks_of r.store) c.args.p (stage_of c.args.stage)
    (answer_of c.args.answer.now) [] in
    let is = c.in_ok-end.ensures in
    let t = c.piece_of.new.stage in
    let after = after_of c.in_ok-end.end.after t in
    let told = c.in_ok-tell_end.ensures t
    ∙ ap (λ (ns : List Note). ns ++ model.after_note c.args.number after) c.in_ok-tell_given.ensures in
    let put = put_call r.flights.items c.put.new.flights.items c.args.p c.flight_after-flight.result
    (model.call_after call after) c.in_ok-put.ensures.put (c.flight_after-flight.ensures marks) in
    finished (kernel_of r) r.notes.items c.tell_end.new.notes.items (blocks_of r.store) c.args.p call q
    (objects_of c.piece_of.new.store) (blocks_of c.piece_of.new.store) (gave_of c.in_ok-end.end)
    after (call_at c.run_all_again.new.flights.items) is.objects is.blocks is.gave is.after told
    (λ x. c.in_ok-run_all_again.ensures.call x ∙ put x)
