use Rattle.std.proofs.Common.{◌≡◌, ℕ, List, [], ◌∷◌, ap, ◌∙◌}
use Rattle.kernel_model.specs.Policies as model
use Rattle.audit_state.specs.Things.{things_of}
use Rattle.audit_state.specs.Worlds.{world_of}
use Rattle.audit_state.proofs.Things.ahead_args.Goals as goal

pub returns : goal.returns
returns c = λ bytes.
    let v = world_of c.args.world.now in
    let w = things_of bytes c.args.self.now in
    let file : c.file-file.result ≡ w.file c.args.q c.args.pt =
    c.file-file.ensures bytes ∙ ap (λ (n : ℕ). w.file c.args.q n) c.from.ensures in
    let d = model.ahead_default v (w.pol 0) (w.file c.args.q c.args.pt) in
    let blocks = model.open_blocks v (w.file c.args.q c.args.pt) in
    ap (λ (x : ℕ × ℕ). x.0 ∷ x.1 ∷ c.open_blocks.result ∷ c.from-2.result ∷ [])
    (c.ahead_default-default.ensures bytes ∙ ap (model.ahead_default v (w.pol 0)) file)
    ∙ ap (λ (n : ℕ). d.0 ∷ d.1 ∷ n ∷ c.from-2.result ∷ [])
    (c.open_blocks.ensures ∙ ap (model.open_blocks v) file)
    ∙ ap (λ (n : ℕ). d.0 ∷ d.1 ∷ blocks ∷ n ∷ []) c.from-2.ensures
