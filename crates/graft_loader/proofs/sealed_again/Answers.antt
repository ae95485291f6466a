use Rattle.std.proofs.Common.{◌≡◌, ℕ, Bool, List, refl, ap, ◌∙◌}
use Rattle.graft_code.specs.declared.Instr.{Instr}
use Rattle.graft_code.specs.Images.{sealed_under}
use Rattle.graft_loader.proofs.sealed_again.Goals as goal

pub returns-in-Ok-clause-ok : goal.returns-in-Ok-clause-ok
returns-in-Ok-clause-ok c =
    let keys = c.args.keys.now in
    let image = c.args.image.now in
    let bytes_are : c.in-Ok.bytes.items ≡ sealed_under keys image =
    c.in-Ok.ensures
    ∙ ap (λ (code : List Instr). sealed_under keys (record {
      code = code;
      body = c.body.result.now;
      keep = c.keep.result;
    })) (c.code-2.ensures.code ∙ c.code.ensures.code)
    ∙ ap (λ (body : List ℕ). sealed_under keys
    (record { code = image.code; body = body; keep = c.keep.result })) c.body.ensures.body
    ∙ ap (λ (keep : Bool). sealed_under keys
    (record { code = image.code; body = image.body; keep = keep })) c.keep.ensures in
    rw bytes_are refl
