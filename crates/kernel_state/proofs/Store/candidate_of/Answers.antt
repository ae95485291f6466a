use Rattle.std.proofs.Common.{refl}
use Rattle.kernel_data.specs.Policies.{frames_of}
use Rattle.kernel_state.specs.Stores.{cache_of, policies_of}
use Rattle.kernel_state.proofs.Rows.{candidate_is, evicted_used, no_rows}
use Rattle.kernel_state.proofs.Accessing.{stands_owned, none_owned}
use Rattle.kernel_state.proofs.Store.candidate_of.Goals as goal

pub returns-clause-value : goal.returns-clause-value
returns-clause-value g c =
    let s = c.args.self.now in
    candidate_is s.cache s.ram (frames_of (cache_of s) c.args.q) c.owned_rows-rows.result c.as_slice-2.result.now
    (policies_of s 1)
    (policies_of s 1) c.victim.result
    c.lru.ensures.sound c.owned_rows-rows.ensures.rows c.as_slice-2.ensures.value
    refl c.victim.ensures.candidate

pub returns-clause-in_cache : goal.returns-clause-in_cache
returns-clause-in_cache g c =
    let s = c.args.self.now in
    evicted_used s.cache c.victim.result (frames_of (cache_of s) c.args.q) c.owned_rows-rows.result
    c.as_slice-2.result.now c.lru.ensures.sound c.owned_rows-rows.ensures.rows
    c.as_slice-2.ensures.value c.victim.ensures.stands

pub returns-clause-owned : goal.returns-clause-owned
returns-clause-owned g c =
    stands_owned (cache_of c.args.self.now) c.args.q c.victim.result c.owned_rows-rows.result
    c.as_slice-2.result.now c.owned_rows-rows.ensures.frames c.as_slice-2.ensures.value
    c.victim.ensures.stands

pub returns-then-is_empty-clause-none : goal.returns-then-is_empty-clause-none
returns-then-is_empty-clause-none g c =
    none_owned (cache_of c.args.self.now) c.args.q c.owned_rows-rows.result c.owned_rows-rows.ensures.frames
    (no_rows c.owned_rows-rows.result c.as_slice.result.now c.is_empty.result
    c.as_slice.ensures.value c.is_empty.ensures c.if-is_empty.true)
