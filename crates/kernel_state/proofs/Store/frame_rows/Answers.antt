use Rattle.std.proofs.Common.{◌∙◌, ℕ, List, refl, ap, map}
use Rattle.std.proofs.lemmas.List.{take_all}
use Rattle.buffer_cache.specs.Frames.{row_at}
use Rattle.kernel_state.specs.Stores.{objects_of}
use Rattle.kernel_state.proofs.Rows.{rows_shown}
use Rattle.kernel_state.proofs.Store.frame_rows.Goals as goal

pub returns-clause-shown : goal.returns-clause-shown
returns-clause-shown g c =
    let s = c.args.self.now in
    rows_shown s.cache s.ram (objects_of s) s.cache.order c.loop-f.rows c.lru-f-items.ensures.sound (λ f. refl)
    (c.loop-f.invariant ∙ ap (λ (xs : List ℕ). map (row_at s.cache.rows) xs)
    ((take_all c.loop-f.f-index c.lru-f-items.result.now c.loop-f-test.false)
    ∙ c.lru-f-items.ensures.value))
