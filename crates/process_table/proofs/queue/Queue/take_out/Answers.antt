use Rattle.std.proofs.Common.{◌≡◌, ◌<◌, true, length, sym, subst, arith}
use Rattle.kernel_model.specs.Policies.{lives}
use Rattle.process_table.proofs.Flags.{flagged, flags_left}
use Rattle.process_table.proofs.queue.Queue.take_out.Goals as goal

pub put_flag-requires : goal.put_flag-requires
put_flag-requires c =
    let rows = c.self.inside.rows.items in
    flagged c.self.inside.alive rows c.args.p
    (subst (λ rs. lives rs c.args.p ≡ true) (sym c.self.view_is) c.requires) c.self.invariant

pub invariant_of-self : goal.invariant_of-self
invariant_of-self c =
    let rows = c.self.inside.rows.items in
    let flags = c.self.inside.alive in
    let has : c.args.p < length flags = flagged flags rows c.args.p
    (subst (λ rs. lives rs c.args.p ≡ true) (sym c.self.view_is) c.requires) c.self.invariant in
    rw (c.take_out.ensures, c.put_flag.ensures) (flags_left flags rows c.args.p
    (omega (arith, has, c.self.invariant.count)) c.self.invariant)
