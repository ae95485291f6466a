use Rattle.std.proofs.Common.{◌∙◌, ap, filter, length, List}
use Rattle.lock_table.specs.declared.Holds.{Holds}
use Rattle.lock_table.specs.Masks.{released, levels_at, is_used, holds_at}
use Rattle.lock_table.proofs.Places.{written}
use Rattle.lock_table.proofs.NotedLemmas.{whole, noted_release}
use Rattle.lock_table.proofs.call.CallHolds.release_from.Goals as goal

pub invariant_of-self : goal.invariant_of-self
invariant_of-self c =
    let noted = whole c.release_all.new.masks c.self.inside.masks.items c.forget_unused.new.numbers.items _
    (c.release_all.auto.masks ∙ c.deref_mut.ensures.len)
    (c.release_all.auto.masks ∙ ap length c.deref_mut.ensures.value ∙ c.self.invariant.0)
    (noted_release c.self.inside.masks.items c.release_all.new.masks c.self.inside.numbers.items
    c.forget_unused.new.numbers.items c.args.by.level c.self.invariant.1
    (λ n e. c.release_all.ensures.released n e ∙ ap (λ (xs : List Holds). released c.args.by.level
    (levels_at xs n) e) c.deref_mut.ensures.value)
    (c.forget_unused.ensures ∙ ap (λ (xs : List Holds). filter (λ n. is_used (holds_at xs n))
    c.self.inside.numbers.items)
    (c.deref-2.ensures.value ∙ written c.release_all.new.masks c.self.inside.masks.items _
    (c.release_all.auto.masks ∙ c.deref_mut.ensures.len)))) in
    (noted.0, noted.1, c.self.invariant.2)
