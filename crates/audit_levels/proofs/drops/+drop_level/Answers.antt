use Rattle.std.proofs.Common.{◌≡◌, ◌==◌, false, List, length, arith, sym, ap, ◌∙◌, refl}
use Rattle.std.proofs.lemmas.Bool.Decides.{nat_tests}
use Rattle.std.proofs.lemmas.List.{length-map}
use Rattle.kernel_model.specs.Levels as model
use Rattle.audit_state.specs.Worlds.{world_of}
use Rattle.audit_levels.specs.declared.Level.{Level}
use Rattle.audit_levels.specs.Levels.{level_of, levels_of, now_of}
use Rattle.audit_levels.proofs.Going.{if_ok}
use Rattle.audit_levels.proofs.Descending.{dropped_here, dropped_outside}
use Rattle.audit_levels.proofs.drops.+drop_level.Goals as goal

pub returns-in_default : goal.returns-in_default
returns-in_default t c = λ bytes.
    let w = now_of bytes c.args.config.now in
    let v = world_of c.args.place.now.world.now in
    c.goes_on.ensures (record { now = w; levels = levels_of bytes c.take_first.new.items.items })
    ∙ ap (λ (ls : List Level). model.goes_on w (levels_of bytes ls))
    (c.in_default.ensures.same refl ∙ c.in_default.ensures.none refl)
    ∙ sym (ap (λ (ls : List Level). model.drop_level v w (levels_of bytes ls) c.args.d c.args.cause)
    (c.in_default.ensures.none refl))

pub returns-then-len-from : goal.returns-then-len-from
returns-then-len-from t c =
    if_ok c.drop_innermost.result
    (λ o said bytes.
    let v = world_of c.args.place.now.world.now in
    let w = now_of bytes c.args.config.now in
    let inner = c.take_first.new.items.items in
    let many = length-map inner (level_of bytes) in
    let here : length (levels_of bytes inner) ≡ c.args.d = omega (arith, many) in
    said bytes
    ∙ dropped_here v w (level_of bytes c.in-Some.l) (levels_of bytes inner) c.args.d c.args.cause here
    ∙ sym (ap (λ (ls : List Level). model.drop_level v w (levels_of bytes ls) c.args.d c.args.cause)
    c.in-Some.ensures.some))
    c.drop_innermost.ensures

pub returns-else-len-from : goal.returns-else-len-from
returns-else-len-from t c =
    if_ok c.drop_level.result
    (λ o said bytes.
    let v = world_of c.args.place.now.world.now in
    let w = now_of bytes c.args.config.now in
    let inner = c.take_first.new.items.items in
    let many = length-map inner (level_of bytes) in
    let other : (length (levels_of bytes inner) == c.args.d) ≡ false = grind (arith, nat_tests, many) in
    said bytes
    ∙ dropped_outside v w (level_of bytes c.in-Some.l) (levels_of bytes inner) c.args.d c.args.cause other
    ∙ sym (ap (λ (ls : List Level). model.drop_level v w (levels_of bytes ls) c.args.d c.args.cause)
    c.in-Some.ensures.some))
    c.drop_level.ensures
