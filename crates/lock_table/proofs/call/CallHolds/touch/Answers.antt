use Rattle.std.proofs.Common.{◌∙◌, ◌==◌, ◌++◌, [], ◌∷◌, ap, cond, true, length, List}
use Rattle.lock_table.specs.declared.Holds.{Holds}
use Rattle.lock_table.specs.Masks.{is_used, holds_at}
use Rattle.lock_table.proofs.NotedLemmas.{whole, noted_touch}
use Rattle.lock_table.proofs.call.CallHolds.touch.Goals as goal

pub invariant_of-self : goal.invariant_of-self
invariant_of-self c =
    let noted = whole c.touch_at.new.masks c.self.inside.masks.items c.note.new.numbers.items _
    (c.touch_at.auto.masks ∙ c.deref_mut.ensures.len)
    (c.touch_at.auto.masks ∙ ap length c.deref_mut.ensures.value ∙ c.self.invariant.0)
    (noted_touch c.self.inside.masks.items c.touch_at.new.masks c.self.inside.numbers.items
    c.note.new.numbers.items c.args.number c.self.invariant.1
    (λ i. c.touch_at.ensures.used i ∙ ap (λ (xs : List Holds). cond (i == c.args.number) true
    (is_used (holds_at xs i))) c.deref_mut.ensures.value)
    (c.note.ensures ∙ ap (λ (xs : List Holds). cond (is_used (holds_at xs c.args.number))
    c.self.inside.numbers.items (c.self.inside.numbers.items ++ c.args.number ∷ []))
    c.deref.ensures.value)) in
    (noted.0, noted.1, c.self.invariant.2)
