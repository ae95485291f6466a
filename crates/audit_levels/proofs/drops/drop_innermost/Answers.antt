use Rattle.std.proofs.Common.{◌≡◌, List, map, length, sym, ap, ◌∙◌}
use Rattle.std.proofs.lemmas.List.{length-map}
use Rattle.audit_state.specs.Worlds.{world_of}
use Rattle.audit_levels.specs.declared.Effect.{Effect}
use Rattle.audit_levels.specs.Levels.{level_of, levels_of, now_of, effect_of}
use Rattle.audit_levels.proofs.Dropping.{dropped_is}
use Rattle.audit_levels.proofs.drops.drop_innermost.Goals as goal

pub returns : goal.returns
returns c = λ bytes.
    let config = c.args.config.now in
    let ls = levels_of bytes config.levels.items in
    let depth : c.in_ok-depth.depth ≡ length ls =
    c.in_ok-depth.ensures ∙ ap length c.deref.ensures.value
    ∙ sym (length-map config.levels.items (level_of bytes)) in
    dropped_is (world_of c.args.place.now.world.now) (now_of bytes config) (level_of bytes c.args.l) ls
    (levels_of bytes c.answer_by_default.new.levels.items) c.args.cause c.in_ok-depth.depth _
    (map effect_of c.in_ok-effects.effects.items) depth c.in_ok-remove.ensures
    (c.in_ok-answer_by_default.ensures bytes) (ap (λ (es : List Effect). map effect_of es)
    c.in_ok-effects.ensures)
