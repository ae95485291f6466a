use Rattle.std.proofs.Common.{◌≡◌, ℕ, List, map, drop}
use Rattle.kernel_model.specs.History as model
use Rattle.audit_levels.specs.Levels.{config_of, effect_of}
use Rattle.audit_replay.proofs.effects.make_all_again.Given as goal

-- what is left to be made again leads where all of it leads
abbrev pub invariant-loop-effect : goal.invariant-loop-effect
invariant-loop-effect l =
    (bytes : ℕ → List ℕ) →
    model.effects_on l.q (map effect_of (drop l.effect-index l.effects)) (config_of bytes l.config)
    ≡ model.effects_on l.q (map effect_of l.effects) (config_of bytes l.fn.config)
