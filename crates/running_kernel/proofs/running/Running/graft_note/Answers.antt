use Rattle.std.proofs.Common.{◌≡◌, ◌∙◌, length, ap, sym, Some}
use Rattle.std.specs.Option.{option_copied}
use Rattle.kernel_data.specs.declared.Note.TheVariants.{InGraft}
use Rattle.lock_table.specs.Masks.{held}
use Rattle.call_pieces.specs.Stores.{objects_of}
use Rattle.graft_levels.specs.Chains.{first_level}
use Rattle.running_kernel.specs.declared.running.Flight.{Flight}
use Rattle.running_kernel.specs.Views.{flight_of}
use Rattle.running_kernel.proofs.QueryLemmas.{note_of_first}
use Rattle.running_kernel.proofs.running.Running.graft_note.Goals as goal

pub returns-in-Some : goal.returns-in-Some
returns-in-Some g c =
    let x = c.args.self.now in
    let fl : c.flight.result.now ≡ flight_of x.calls.items c.args.p = c.flight.ensures
    ∙ ap (λ fs. flight_of fs c.args.p) c.deref.ensures.value in
    let ch = (flight_of x.calls.items c.args.p).chain in
    let l = c.in-Some.level.now in
    ap (λ n. Some n) c.note_of.ensures
    ∙ ap (λ n. Some (InGraft c.args.number l.owner l.point n)) (c.count.ensures.value
    ∙ ap (λ (f : Flight). length f.chain.levels) fl)
    ∙ note_of_first c.args.number c.args.p x.store.ram (held x.locks) l ch.levels ch.undo (objects_of x.store).things
    (sym (ap option_copied c.in-Some.is) ∙ c.innermost.ensures ∙ ap (λ (f : Flight). first_level f.chain.levels) fl)
