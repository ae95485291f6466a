use Rattle.std.proofs.Common.{refl, ◌∙◌, ap, ◌++◌}
use Rattle.script_model.specs.Text.{line, boot_text}
use Rattle.audit_state.specs.declared.World.{World}
use Rattle.audit_session.proofs.Booting.{same_world, boot_leaves}
use Rattle.audit_session.proofs.Running.{on_ok}
use Rattle.audit_session.proofs.Session.boot.Goals as goal

pub returns : goal.returns
returns c =
    let w : World = record {
      frames = c.args.self.now.setup.frames;
      patience = c.in_ok-patience.patience;
      grant = c.args.self.now.setup.grant;
    } in
    on_ok c.add_boot.result
    (λ said. boot_leaves c.args.self.now _ w c.in_ok-begun.begun c.add_boot.new.self c.requires.first c.rows_are.ensures
    refl (same_world w c.args.self.now.setup refl (c.in_ok-patience.ensures ∙ c.deref.ensures.value) refl)
    c.in_ok-begun.ensures.kernel c.in_ok-begun.ensures.blocks c.in_ok-begun.ensures.kept
    (said ∙ ap (λ xs. xs ++ line (boot_text c.args.self.now.setup.frames 64 3)) c.requires.empty))
    c.add_boot.ensures
