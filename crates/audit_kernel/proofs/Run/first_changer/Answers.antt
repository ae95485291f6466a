use Rattle.std.proofs.Common.{option_map, option_copied, refl, sym, ap, ◌∙◌}
use Rattle.kernel_model.specs.AllCalls.{all_calls}
use Rattle.kernel_model.specs.Blocking as blocking
use Rattle.audit_levels.specs.Levels.{config_of}
use Rattle.audit_pieces.specs.Stores.{page_of}
use Rattle.audit_kernel.specs.Runs.{kernel_of}
use Rattle.audit_kernel.proofs.Seeing.{seen_here, seen_behind}
use Rattle.audit_kernel.proofs.Run.first_changer.Goals as goal

pub loop-p-init : goal.loop-p-init
loop-p-init c = refl

pub loop-p-preserved : goal.loop-p-preserved
loop-p-preserved c =
    let bytes = page_of c.args.self.now.store in
    seen_behind c.args.object (blocking.config_of all_calls (kernel_of c.args.self.now)) c.loop-p.p
    c.loop-p-test.true
    (ap (λ x. option_map (config_of bytes) (option_copied x)) (sym c.in-None.is) ∙ c.changer.ensures)
    c.loop-p.invariant

pub returns-in-Some : goal.returns-in-Some
returns-in-Some c =
    let bytes = page_of c.args.self.now.store in
    seen_here c.args.object (blocking.config_of all_calls (kernel_of c.args.self.now)) c.loop-p.p _
    c.loop-p-test.true
    (ap (λ x. option_map (config_of bytes) (option_copied x)) (sym c.in-Some.is) ∙ c.changer.ensures)
    c.loop-p.invariant
