use Rattle.std.proofs.Common.{◌≡◌, ℕ, ◌+◌, List, length, drop, sym, ap, subst, ◌∙◌}
use Rattle.vino_host.specs.Plugins.{image_of, is_whole, content_of}
use Rattle.vino_host.proofs.Storing.{image_back, whole, behind_image}
use Rattle.vino_host.proofs.loading.store.Goals as goal

pub returns-clause-loaded : goal.returns-clause-loaded
returns-clause-loaded c h =
    let u = c.room_for-needed.ensures.usable in
    ap (λ (xs : List ℕ). image_of xs) c.put_image.ensures
    ∙ image_back c.args.image.now c.args.plugin.now u.code_len u.body_len u.code_fits

pub returns-clause-whole : goal.returns-clause-whole
returns-clause-whole c h =
    let u = c.room_for-needed.ensures.usable in
    ap (λ (xs : List ℕ). is_whole xs) c.put_image.ensures
    ∙ whole c.args.image.now c.args.plugin.now u.code_len u.body_len

pub returns-clause-behind : goal.returns-clause-behind
returns-clause-behind c h =
    let u = c.room_for-needed.ensures.usable in
    subst (λ (p : List ℕ). drop (32 + length (content_of p)) p
    ≡ drop (32 + length (content_of p)) c.args.plugin.now) (sym c.put_image.ensures)
    (behind_image c.args.image.now c.args.plugin.now u.code_len u.body_len)
