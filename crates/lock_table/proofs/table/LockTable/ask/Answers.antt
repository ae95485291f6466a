use Rattle.std.proofs.Common.{◌==◌, ◌&&◌, not, ◌∙◌, ℕ, ap, List, find}
use Rattle.kernel_model.specs.World.{processes}
use Rattle.lock_table.specs.declared.Holds.{Holds}
use Rattle.lock_table.specs.declared.Takers.{Takers}
use Rattle.lock_table.specs.Numbers.{number_of}
use Rattle.lock_table.specs.Takers.{is_against, takers_at}
use Rattle.lock_table.proofs.Views.{ask_view, is_other_hindering}
use Rattle.lock_table.proofs.TakerLemmas.{asked}
use Rattle.lock_table.proofs.table.LockTable.ask.Goals as goal

pub returns : goal.returns
returns c =
    c.lowest_other.ensures ∙
    ap (λ (n : ℕ). find (λ q. not (q == c.args.p) && is_against (takers_at c.deref.result.now n)
    c.args.mode q) processes) c.object_number.ensures.value ∙
    ap (λ (takers : List Takers). find (λ q. not (q == c.args.p) && is_against
    (takers_at takers (number_of c.args.o)) c.args.mode q) processes) c.deref.ensures.value ∙
    asked c.self.inside.takers.items c.self.inside.calls.items c.args.p (number_of c.args.o)
    c.args.mode c.self.invariant.3 ∙
    ap (λ (calls : List (List Holds)). find (is_other_hindering calls c.args.p (number_of c.args.o)
    c.args.mode) processes) c.self.view_is ∙
    ask_view c.args.self.now c.args.p c.args.o c.args.mode c.requires.range
