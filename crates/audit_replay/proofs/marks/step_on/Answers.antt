use Rattle.std.proofs.Common.{◌≡◌, ℕ, suc, List, [], ◌∷◌, length, map, sym, ap, ◌∙◌, arith}
use Rattle.std.proofs.lemmas.List.{map-append, length-map}
use Rattle.kernel_model.specs.History as model
use Rattle.kernel_model.specs.GraftStep.{micro}
use Rattle.graft_loader.specs.Slots.{table_of}
use Rattle.audit_state.specs.Worlds.{world_of}
use Rattle.audit_levels.specs.declared.Effect.{Effect}
use Rattle.audit_levels.specs.Levels.{level_of, levels_of, config_of, outcome_of, effect_of}
use Rattle.audit_replay.specs.declared.Mark.{Mark}
use Rattle.audit_replay.specs.declared.Mark.TheVariants.{Stepped}
use Rattle.audit_replay.specs.Traces.{trace_of, mark_of}
use Rattle.audit_replay.proofs.Going.{goes_on}
use Rattle.audit_replay.proofs.Stepping.{stepped_on}
use Rattle.audit_replay.proofs.marks.step_on.Goals as goal

pub returns-clause-kept : goal.returns-clause-kept
returns-clause-kept c = λ on bytes first here.
    let v = world_of c.args.place.now.world.now in
    let images = table_of c.args.place.now.images.now in
    let p = c.args.place.now.process in
    let old = c.args.history.now.items in
    let t = trace_of bytes c.args.trace.now in
    let levels = c.args.trace.now.config.levels.items in
    let config = config_of bytes c.micro.new.config in
    let outcome = c.in_ok-outcome.outcome in
    let with : ℕ → List Effect → model.Trace = λ n es. record {
      config = config;
      marks = suc t.marks;
      pasts = model.pasts_after t.marks n (length config.levels)
          (model.with_effects (map effect_of es) t.pasts);
    } in
    let many = length-map levels (level_of bytes) in
    let before : c.len-before.result ≡ length (levels_of bytes levels) = omega (arith, many) in
    let after = c.in_ok-go_on.ensures bytes
    ∙ ap (λ (n : ℕ). with n c.deref.result.now) before
    ∙ ap (with (length (levels_of bytes levels))) c.deref.ensures.value in
    let next = stepped_on t (outcome_of outcome config) (micro v images p t.config)
    (trace_of bytes c.go_on.new.trace) on after (c.in_ok-outcome.ensures bytes) in
    let marks = ap (λ (ks : List Mark). map mark_of ks) c.in_ok-put_last.ensures
    ∙ map-append mark_of old (Stepped ∷ []) in
    ap (λ (ks : List model.Mark). model.marks_on v images p ks first) marks
    ∙ goes_on v images p (map mark_of old) model.Stepped first t (trace_of bytes c.go_on.new.trace)
    here (sym next)
