use Rattle.std.proofs.Common.{◌++◌, [], ◌∷◌, ◌∙◌, arith, ap, take, sym, refl}
use Rattle.kernel_model.specs.declared.Note.{Note}
use Rattle.kernel_model.specs.Bare.{note_with, notes_with}
use Rattle.kernel_steps.proofs.NotingLemmas.{added_full, added_more, as_many, fit_added, none_behind, notes_added}
use Rattle.kernel_steps.proofs.notes.Notes.push.Goals as goal

pub push-requires : goal.push-requires
push-requires c =
    let rows = c.self.invariant.0.rows in
    omega (arith, c.if-len-lt-NOTES.true, rows)

pub returns-then-len-lt-NOTES : goal.returns-then-len-lt-NOTES
returns-then-len-lt-NOTES c =
    let l = c.self.inside.list.items in
    let b = take c.self.inside.size c.self.inside.bytes.items in
    let w = c.without_bytes.result in
    let many = as_many l b in
    added_more c.args.self.now (notes_with l b) (notes_with c.push.new.self.items b)
    (note_with c.args.note []) c.self.view_is
    (ap (λ xs. notes_with xs b) c.push.ensures.items
    ∙ ap (λ bs. notes_with (l ++ w ∷ []) bs) (sym (none_behind b))
    ∙ notes_added l b w [] c.self.invariant.0.given c.without_bytes.ensures.count
    ∙ ap (λ (n : Note). notes_with l b ++ n ∷ []) c.without_bytes.ensures.same)
    (omega (arith, many, c.if-len-lt-NOTES.true))

pub returns-else-len-lt-NOTES : goal.returns-else-len-lt-NOTES
returns-else-len-lt-NOTES c =
    let l = c.self.inside.list.items in
    let b = take c.self.inside.size c.self.inside.bytes.items in
    let many = as_many l b in
    added_full c.args.self.now (notes_with l b) (note_with c.args.note []) c.self.view_is
    (omega (arith, many, c.if-len-lt-NOTES.false))

pub invariant_of-self : goal.invariant_of-self
invariant_of-self c =
    let l = c.self.inside.list.items in
    let b = take c.self.inside.size c.self.inside.bytes.items in
    let few = c.if-len-lt-NOTES.true in (
      fit_added l c.push.new.self.items b b [] c.without_bytes.result _ _ _ _ c.self.invariant.0 (omega arith)
          c.without_bytes.ensures.count (omega arith) c.push.ensures.items (sym (none_behind b)) c.push.ensures.room refl,
      c.self.invariant.1,
    )
