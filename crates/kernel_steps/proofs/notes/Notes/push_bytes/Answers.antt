use Rattle.std.proofs.Common.{◌≡◌, ◌+◌, take, length, length-take-le, refl, sym, subst, ℕ, List, Option, ◌++◌}
use Rattle.std.proofs.Common.{[], ◌∷◌, ◌∙◌, arith, ap}
use Rattle.kernel_model.specs.declared.BareNote.{BareNote}
use Rattle.kernel_model.specs.declared.BareNote.TheVariants as bare
use Rattle.kernel_model.specs.declared.Note.TheVariants.{Gave}
use Rattle.kernel_model.specs.Bare.{notes_with}
use Rattle.kernel_model.specs.Kernel.{gave_note}
use Rattle.kernel_steps.specs.Refines.{Adds}
use Rattle.kernel_steps.proofs.NotingLemmas.{added_full, added_more, as_many, notes_added, given_whole, fit_added}
use Rattle.kernel_steps.proofs.notes.Notes.push_bytes.Goals as goal

pub push-requires : goal.push-requires
push-requires c =
    let rows = c.self.invariant.0.rows in
    omega (arith, c.if-len-lt-NOTES.true, rows)

pub put_behind-requires-clause-fits : goal.put_behind-requires-clause-fits
put_behind-requires-clause-fits c =
    let l = c.self.inside.list.items in
    let few = c.self.invariant.0.few_bytes in
    let size = length-take-le c.self.inside.size c.self.inside.bytes.items c.self.invariant.1 in
    omega (arith, few, size, c.if-len-lt-NOTES.true)

pub returns-then-len-lt-NOTES : goal.returns-then-len-lt-NOTES
returns-then-len-lt-NOTES c =
    let l = c.self.inside.list.items in
    let b = take c.self.inside.size c.self.inside.bytes.items in
    let more = c.in-Some.bytes.now in
    let w : BareNote = bare.Gave c.args.number (length more) in
    let many = as_many l b in
    let bytes = c.put_behind.new.bytes.items in
    let size = c.self.inside.size + length more in
    let new = notes_with c.push.new.self.items (take size bytes) in
    let whole : take size bytes ≡ b ++ more =
    given_whole bytes b more c.self.inside.size c.args.gave.now c.in-Some.ensures.some c.put_behind.ensures.bytes in
    subst (λ (o : Option (List ℕ)). Adds (gave_note c.args.number o) c.args.self.now new) (sym c.in-Some.ensures.some)
    (added_more c.args.self.now (notes_with l b) new (Gave c.args.number more) c.self.view_is
    (ap (λ xs. notes_with xs (take size bytes)) c.push.ensures.items
    ∙ ap (λ bs. notes_with (l ++ w ∷ []) bs) whole
    ∙ notes_added l b w more c.self.invariant.0.given refl)
    (omega (arith, many, c.if-len-lt-NOTES.true)))

pub returns-else-len-lt-NOTES : goal.returns-else-len-lt-NOTES
returns-else-len-lt-NOTES c =
    let l = c.self.inside.list.items in
    let b = take c.self.inside.size c.self.inside.bytes.items in
    let more = c.in-Some.bytes.now in
    let many = as_many l b in
    subst (λ (o : Option (List ℕ)). Adds (gave_note c.args.number o) c.args.self.now
    c.args.self.now) (sym c.in-Some.ensures.some)
    (added_full c.args.self.now (notes_with l b) (Gave c.args.number more) c.self.view_is
    (omega (arith, many, c.if-len-lt-NOTES.false)))

pub invariant_of-self : goal.invariant_of-self
invariant_of-self c =
    let l = c.self.inside.list.items in
    let b = take c.self.inside.size c.self.inside.bytes.items in
    let more = c.in-Some.bytes.now in
    let w : BareNote = bare.Gave c.args.number (length more) in
    let bytes = c.put_behind.new.bytes.items in
    let size = c.self.inside.size + length more in
    let whole : take size bytes ≡ b ++ more =
    given_whole bytes b more c.self.inside.size c.args.gave.now c.in-Some.ensures.some c.put_behind.ensures.bytes in
    let few = c.if-len-lt-NOTES.true in
    let most = c.in-Some.ensures.few in
    let far = c.put_behind.ensures.size in (
      fit_added l c.push.new.self.items b (take size bytes) more w _ _ _ _ c.self.invariant.0 (omega arith) refl
          c.in-Some.ensures.few c.push.ensures.items whole c.push.ensures.room c.put_behind.ensures.room,
      omega arith,
    )
