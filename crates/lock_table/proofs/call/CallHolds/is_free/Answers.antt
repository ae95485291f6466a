use Rattle.std.proofs.Common.{◌∙◌, ap, sym, arith}
use Rattle.std.proofs.lemmas.Bool.Decides.{nat_tests}
use Rattle.lock_table.specs.Masks.{levels_at}
use Rattle.lock_table.proofs.NotedLemmas.{none_noted, some_noted}
use Rattle.lock_table.proofs.call.CallHolds.is_free.Goals as goal

pub returns-clause-free : goal.returns-clause-free
returns-clause-free c = λ empty n e.
    ap (λ xs. levels_at xs n e) (sym c.self.view_is)
    ∙ none_noted c.self.inside.masks.items c.self.inside.numbers.items c.self.invariant.1
    (grind (arith, nat_tests, c.is_empty.ensures, empty)) n e

pub returns-clause-held : goal.returns-clause-held
returns-clause-held c = λ kept.
    rw (sym c.self.view_is)
    (some_noted c.self.inside.masks.items c.self.inside.numbers.items c.self.invariant.1
    c.self.invariant.0 (grind (arith, nat_tests, c.is_empty.ensures, kept)))
