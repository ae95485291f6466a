use Rattle.std.proofs.Common.{◌∙◌, ◌<◌, ℕ, ap, length, List, arith}
use Rattle.std.proofs.lemmas.Bool.Decides.{nat_tests}
use Rattle.lock_table.specs.declared.Holds.{Holds}
use Rattle.lock_table.specs.Numbers.{number_of}
use Rattle.lock_table.specs.Masks.{masks_of, conflicting_level}
use Rattle.lock_table.proofs.Places.{element}
use Rattle.lock_table.proofs.Views.{level_view}
use Rattle.lock_table.proofs.table.LockTable.level_of.Goals as goal

pub returns-in-Some : goal.returns-in-Some
returns-in-Some c =
    let inside : c.args.p < length c.deref.result.now = grind (arith, nat_tests, c.in-Some.ensures.lookup.0) in
    let size = ap length c.deref.ensures.value in
    c.level_of.ensures
    ∙ ap (λ (n : ℕ). conflicting_level c.in-Some.call.now n c.args.wanted) c.object_number.ensures.value
    ∙ ap (λ (xs : List Holds). conflicting_level xs (number_of c.args.o) c.args.wanted)
    (element c.deref.result.now c.args.p c.in-Some.call.now inside c.in-Some.ensures.lookup.1)
    ∙ ap (λ (calls : List (List Holds)). conflicting_level (masks_of calls c.args.p)
    (number_of c.args.o) c.args.wanted) (c.deref.ensures.value ∙ c.self.view_is)
    ∙ level_view c.args.self.now c.args.p c.args.o c.args.wanted
    (omega (arith, inside, size, c.self.invariant.0)) c.requires.range
