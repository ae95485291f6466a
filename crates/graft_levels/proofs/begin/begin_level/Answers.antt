use Rattle.std.proofs.Common.{ℕ, ◌<◌, length, ap, arith, inl, ◌∙◌}
use Rattle.kernel_model.specs.Levels.{base_of}
use Rattle.kernel_state.specs.Tables.{segment_at}
use Rattle.kernel_state.specs.Sound.{segment_number}
use Rattle.kernel_state.specs.Stores.{objects_of}
use Rattle.kernel_state.specs.Table.{accounts_of}
use Rattle.graft_levels.proofs.Beginning.{begun_levels, begun_inside, first_is, kept_within, same_objects, memory_fits}
use Rattle.graft_levels.proofs.Writing.{base_outside}
use Rattle.graft_levels.proofs.begin.begin_level.Goals as goal

pub returns-clause-objects : goal.returns-clause-objects
returns-clause-objects g c =
    same_objects c.args.store.now c.fill.new.ram c.stores_are_whole.ensures.frames
    c.stores_are_whole.ensures.memory c.fill.ensures.size
    (λ a lt. c.fill.ensures.outside a (inl (omega (arith, lt, c.base_of-base.ensures.low))))

pub invariant_of-store-clause-fits : goal.invariant_of-store-clause-fits
invariant_of-store-clause-fits g c = memory_fits c.args.store.now c.fill.new.ram

pub returns-clause-levels : goal.returns-clause-levels
returns-clause-levels g c = λ images t loaded.
    let q = c.args.at.now.installer in
    let pt = c.args.at.now.point in
    let kept = segment_at c.args.store.now.kept (segment_number q pt) in
    begun_levels images c.first_bytes-bytes.result.now (objects_of c.args.store.now) c.args.p
    c.base_of-base.result c.args.at.now.installer c.args.at.now.point
    c.args.at.now.args c.args.feed.now c.args.store.now.ram c.fill.new.ram t c.new.result
    c.args.chain.now.levels c.push.new.self c.args.chain.now.undo c.begin_level.new.self _ _
    c.push.ensures c.begin_level.ensures
    (c.base_of-base.ensures.value ∙ ap (base_of c.args.p) c.count.ensures.value)
    (c.new.ensures.machine c.fill.new.ram) c.first_bytes-bytes.ensures.few c.requires.short
    c.fill.ensures.segment c.fill.ensures.outside
    (λ i. c.first_bytes-bytes.ensures.value i
    ∙ ap (λ (f : ℕ → ℕ). f i) (first_is images c.args.image.now (objects_of c.args.store.now) q pt
    kept loaded (kept_within q pt c.args.store.now.kept c.requires.owner c.requires.point)))

pub returns-clause-inside : goal.returns-clause-inside
returns-clause-inside g c = λ images loaded h.
    begun_inside images c.args.image.now (accounts_of c.args.store.now.accounts)
    c.args.p c.base_of-base.result c.args.at.now.installer c.args.at.now.point
    c.args.at.now.args c.new.result
    c.args.chain.now.levels c.push.new.self _ _ c.push.ensures
    (c.base_of-base.ensures.value ∙ ap (base_of c.args.p) c.count.ensures.value)
    c.first_bytes-bytes.ensures.usable.boxed c.new.ensures.inside loaded h

pub returns-clause-memory : goal.returns-clause-memory
returns-clause-memory g c = λ a apart.
    let n = length c.args.chain.now.levels in
    let begun : n < length c.push.new.self = omega (arith, ap length c.push.ensures) in
    c.fill.ensures.outside a (base_outside c.args.p n c.base_of-base.result a
    (c.base_of-base.ensures.value ∙ ap (base_of c.args.p) c.count.ensures.value) (apart begun))
