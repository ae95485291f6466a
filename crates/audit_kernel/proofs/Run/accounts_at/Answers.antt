use Rattle.std.proofs.Common.{Some, None, option_map, option_copied, sym, ap, ◌∙◌}
use Rattle.audit_levels.specs.Levels.{config_of}
use Rattle.audit_pieces.specs.Stores.{objects_of, page_of}
use Rattle.audit_kernel.specs.Runs.{kernel_of}
use Rattle.audit_kernel.proofs.Seeing.{amounts_in_place}
use Rattle.audit_kernel.proofs.Run.accounts_at.Goals as goal

pub returns-in-None : goal.returns-in-None
unfolding objects_of
returns-in-None c =
    let bytes = page_of c.args.self.now.store in
    amounts_in_place c.args.object (kernel_of c.args.self.now) None
    (ap (λ x. option_map (config_of bytes) (option_copied x)) (sym c.in-None.is) ∙ c.first_changer.ensures)

pub returns-in-Some : goal.returns-in-Some
returns-in-Some c =
    let bytes = page_of c.args.self.now.store in
    amounts_in_place c.args.object (kernel_of c.args.self.now) (Some (config_of bytes c.in-Some.config.now))
    (ap (λ x. option_map (config_of bytes) (option_copied x)) (sym c.in-Some.is) ∙ c.first_changer.ensures)
