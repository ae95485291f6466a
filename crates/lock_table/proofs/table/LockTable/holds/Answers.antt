use Rattle.std.proofs.Common.{◌∙◌, ◌<◌, ◌≤◌, ℕ, sym, ap, length, List, arith}
use Rattle.std.proofs.lemmas.Bool.Decides.{nat_tests}
use Rattle.lock_table.specs.declared.Holds.{Holds}
use Rattle.lock_table.specs.Numbers.{number_of}
use Rattle.lock_table.specs.Masks.{held_by, levels_at, masks_of, no_holds}
use Rattle.lock_table.proofs.Places.{element}
use Rattle.lock_table.proofs.Used.{free_levels, no_holds-unused}
use Rattle.lock_table.proofs.Views.{holding_view, nothing_beyond}
use Rattle.lock_table.proofs.table.LockTable.holds.Goals as goal

pub returns-in-Some : goal.returns-in-Some
returns-in-Some c d =
    let inside : c.args.p < length c.deref.result.now = grind (arith, nat_tests, c.in-Some.ensures.lookup.0) in
    let size = ap length c.deref.ensures.value in
    ap (λ (h : Holds). held_by h d) c.holds.ensures
    ∙ ap (λ (n : ℕ). levels_at c.in-Some.call.now n d) c.object_number.ensures.value
    ∙ ap (λ (xs : List Holds). levels_at xs (number_of c.args.o) d)
    (element c.deref.result.now c.args.p c.in-Some.call.now inside c.in-Some.ensures.lookup.1)
    ∙ ap (λ (calls : List (List Holds)). levels_at (masks_of calls c.args.p) (number_of c.args.o) d)
    (c.deref.ensures.value ∙ c.self.view_is)
    ∙ holding_view c.args.self.now c.args.p d c.args.o
    (omega (arith, inside, size, c.self.invariant.0)) c.requires.range

pub returns-in-None : goal.returns-in-None
returns-in-None c d =
    let out : length c.deref.result.now ≤ c.args.p = grind (arith, nat_tests, c.in-None.ensures.lookup) in
    let size = ap length c.deref.ensures.value in
    free_levels no_holds no_holds-unused d ∙ sym (nothing_beyond c.args.self.now c.args.p d c.args.o
    (omega (arith, out, size, c.self.invariant.0)))
