use Rattle.std.proofs.Common.{◌∙◌, [], ap, sym}
use Rattle.std.specs.Prelude.{option_map}
use Rattle.kernel_model.specs.declared.BareNote.{BareNote}
use Rattle.kernel_model.specs.Bare.{note_with}
use Rattle.running_kernel.specs.Views.{placed_of}
use Rattle.kernel_core.proofs.LastLemmas.{graft_said, graft_unsaid, last_graft, last_none, last_waits}
use Rattle.kernel_core.proofs.last.say_last.Goals as goal

pub returns-in_default : goal.returns-in_default
returns-in_default g c =
    record {
      said = λ d. last_none g.C.Meaning.Rules.meaning (placed_of c.args.running.now) c.args.p
          c.args.notes.now d (sym c.in_default.is ∙ c.call_number.ensures);
    }

pub returns-then-waits : goal.returns-then-waits
returns-then-waits g c = record {
  said =
      λ d. last_waits g.C.Meaning.Rules.meaning (placed_of c.args.running.now) c.args.p
      c.in-Some.number c.args.notes.now c.say_wait.new.notes d (sym c.in-Some.is
      ∙ c.call_number.ensures) (sym c.waits.ensures ∙ c.if-waits.true) (c.say_wait.ensures.said d);
}

pub returns-in-Some-graft_note : goal.returns-in-Some-graft_note
returns-in-Some-graft_note g c = record {
  said =
      λ d. last_graft g.C.Meaning.Rules.meaning (placed_of c.args.running.now)
      c.args.p c.in-Some.number c.args.notes.now c.push.new.self d
      (sym c.in-Some.is ∙ c.call_number.ensures) (sym c.waits.ensures ∙ c.if-waits.false)
      (graft_said (placed_of c.args.running.now) c.in-Some.number
      ((placed_of c.args.running.now).levels c.args.p)
      (note_with c.in-Some-graft_note.note []) c.args.notes.now c.push.new.self d
      (sym (ap (option_map (λ (n : BareNote). note_with n [])) c.in-Some-graft_note.is)
      ∙ c.graft_note.ensures) c.push.ensures);
}

pub returns-in_default-graft_note : goal.returns-in_default-graft_note
returns-in_default-graft_note g c = record {
  said =
      λ d. last_graft g.C.Meaning.Rules.meaning (placed_of c.args.running.now)
      c.args.p c.in-Some.number c.args.notes.now c.args.notes.now d
      (sym c.in-Some.is ∙ c.call_number.ensures) (sym c.waits.ensures ∙ c.if-waits.false)
      (graft_unsaid (placed_of c.args.running.now) c.in-Some.number
      ((placed_of c.args.running.now).levels c.args.p) c.args.notes.now d
      (sym (ap (option_map (λ (n : BareNote). note_with n [])) c.in_default-graft_note.is)
      ∙ c.graft_note.ensures));
}
