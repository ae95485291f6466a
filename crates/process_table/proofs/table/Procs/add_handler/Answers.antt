use Rattle.std.proofs.Common.{◌≡◌, true, sym, ◌∙◌}
use Rattle.kernel_model.specs.Handlers.{has_room}
use Rattle.process_table.proofs.Handlers.{added, low_added, room}
use Rattle.process_table.proofs.Tables.{handled}
use Rattle.process_table.proofs.table.Procs.add_handler.Goals as goal

pub put_last-requires : goal.put_last-requires
put_last-requires c =
    let has : has_room c.args.q c.args.pt c.self.inside.handlers.items ≡ true =
    rw c.as_slice.ensures.value at (sym c.fits.ensures ∙ c.if-not-fits.false) in
    room _ _ _ c.requires.first c.requires.last has c.self.invariant.sound.handlers

pub invariant_of-self : goal.invariant_of-self
invariant_of-self c =
    let has : has_room c.args.q c.args.pt c.self.inside.handlers.items ≡ true =
    rw c.as_slice.ensures.value at (sym c.fits.ensures ∙ c.if-not-fits.false) in
    rw c.put_last.ensures
    (handled _ _ c.self.invariant (added _ _ _ c.requires.first c.requires.last has c.self.invariant.sound.handlers)
    (low_added _ _ _ c.requires.process c.self.invariant.sound.processes))
