use Rattle.std.proofs.Common.{◌∙◌, ℕ, List, ap, map, filter}
use Rattle.std.proofs.lemmas.List.{take_all}
use Rattle.kernel_data.specs.Policies.{is_owned, frames_of}
use Rattle.buffer_cache.specs.Frames.{row_at}
use Rattle.kernel_state.specs.Stores.{cache_of}
use Rattle.kernel_state.proofs.Rows.{frames_are}
use Rattle.kernel_state.proofs.Store.owned_rows.Goals as goal

pub returns-clause-rows : goal.returns-clause-rows
returns-clause-rows g c =
    let s = c.args.self.now in
    c.loop-f.invariant.are ∙ ap (λ (xs : List ℕ). map (row_at s.cache.rows)
    (filter (λ f. is_owned (cache_of s) c.args.q f) xs))
    ((take_all c.loop-f.f-index c.lru-f-items.result.now c.loop-f-test.false) ∙ c.lru-f-items.ensures.value)

pub returns-clause-frames : goal.returns-clause-frames
returns-clause-frames g c =
    let s = c.args.self.now in
    frames_are s.cache (frames_of (cache_of s) c.args.q) c.loop-f.rows c.lru-f-items.ensures.sound
    (returns-clause-rows g c)
