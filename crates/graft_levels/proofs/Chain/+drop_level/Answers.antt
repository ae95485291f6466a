use Rattle.std.proofs.Common.{◌≡◌, ◌∷◌, length, ap, subst, sym, ◌∙◌}
use Rattle.kernel_model.specs.Objects.{Objects}
use Rattle.kernel_model.specs.Locks.{release_from}
use Rattle.kernel_model.specs.Sound.{ImagesAreLoaded}
use Rattle.lock_table.specs.Masks.{held}
use Rattle.kernel_state.specs.Table.{accounts_of}
use Rattle.kernel_state.specs.Stores.{world_of_store}
use Rattle.graft_levels.specs.Chains.{came}
use Rattle.graft_levels.specs.Calls.{AreInside}
use Rattle.graft_levels.proofs.Placing.{elsewhere_twice}
use Rattle.graft_levels.proofs.Dropping.{dropped_here, dropped_further}
use Rattle.graft_levels.proofs.Chain.+drop_level.Goals as goal

pub returns-then-count-d-clause-step : goal.returns-then-count-d-clause-step
returns-then-count-d-clause-step g t c =
    ap came (dropped_here _ _ c.args.p c.args.d c.count.result c.args.store.now.ram
    (held c.args.locks.now) c.in-Some.level c.pop.new.self c.args.self.now.levels
    c.args.self.now.undo c.args.cause
    c.in-Some.ensures.level c.count.ensures.value c.if-count-d.true)
    ∙ c.drop_innermost.ensures.step

pub returns-then-count-d-clause-inside : goal.returns-then-count-d-clause-inside
returns-then-count-d-clause-inside g t c = λ images h.
    c.drop_innermost.ensures.kept.inside images (subst (λ hs. AreInside images
    (accounts_of c.args.store.now.accounts) c.args.p hs) c.in-Some.ensures.level h)

pub returns-clause-step : goal.returns-clause-step
returns-clause-step g t c =
    ap came
    (dropped_further (world_of_store c.args.store.now) (world_of_store c.end_level.new.store) _
    _ c.args.p c.args.d c.count.result c.args.store.now.ram c.end_level.new.store.ram
    (held c.args.locks.now) (held c.end_level.new.locks) c.in-Some.level
    c.end_level.new.chain.levels c.args.self.now.levels c.args.self.now.undo
    c.end_level.new.chain.undo c.args.cause
    c.end_level.ensures.elsewhere.world
    (c.in-Some.ensures.level ∙ ap (λ gs. c.in-Some.level ∷ gs) (sym c.end_level.ensures.levels))
    (c.count.ensures.value ∙ ap length (sym c.end_level.ensures.levels))
    c.if-count-d.false c.requires.level c.end_level.ensures.objects c.end_level.ensures.memory
    (c.end_level.ensures.locks ∙ ap (λ n. release_from c.args.p n (held c.args.locks.now))
    (sym c.count.ensures.value)) c.end_level.ensures.log)
    ∙ c.drop_level.ensures.step

pub returns-clause-inside : goal.returns-clause-inside
returns-clause-inside g t c = λ images h.
    let same : accounts_of c.end_level.new.store.accounts ≡ accounts_of c.args.store.now.accounts =
    ap (λ (x : Objects). x.accounts) c.end_level.ensures.objects in
    c.drop_level.ensures.inside images
    (subst (λ hs. AreInside images (accounts_of c.end_level.new.store.accounts) c.args.p hs)
    (sym c.end_level.ensures.levels)
    (subst (λ a. AreInside images a c.args.p c.pop.new.self) (sym same) ((subst (λ hs. AreInside
    images (accounts_of c.args.store.now.accounts) c.args.p hs) c.in-Some.ensures.level h).1)))

pub returns-clause-elsewhere : goal.returns-clause-elsewhere
returns-clause-elsewhere g t c =
    elsewhere_twice _ _ _ _ _ _ _ c.end_level.ensures.elsewhere c.drop_level.ensures.elsewhere

pub returns-clause-loaded : goal.returns-clause-loaded
returns-clause-loaded g t c = λ images h.
    let same : accounts_of c.end_level.new.store.accounts ≡ accounts_of c.args.store.now.accounts =
    ap (λ (x : Objects). x.accounts) c.end_level.ensures.objects in
    c.drop_level.ensures.loaded images (subst (ImagesAreLoaded images) (sym same) h)
