use Rattle.std.proofs.Common.{refl}
use Rattle.kernel_state.specs.Stores.{cache_of, policies_of}
use Rattle.kernel_state.proofs.Rows.{none_used, candidate_is, evicted_used, no_candidate, no_rows}
use Rattle.kernel_state.proofs.Store.evicted.Goals as goal

pub returns-then-is_empty : goal.returns-then-is_empty
returns-then-is_empty g c =
    let s = c.args.self.now in
    let none = no_rows c.args.rows.now c.args.rows.now c.is_empty.result refl c.is_empty.ensures c.if-is_empty.true in
    record {
      value = no_candidate s.cache (cache_of s) (policies_of s 1) s.cache.order c.args.rows.now c.requires none;
      in_cache = tt;
      none = λ f. none_used s.cache f s.cache.order c.args.rows.now c.lru.ensures.sound refl c.requires none;
    }

pub returns : goal.returns
returns g c =
    let s = c.args.self.now in
    record {
      value =
          candidate_is s.cache s.ram s.cache.order c.args.rows.now c.args.rows.now (policies_of s 1)
          (policies_of s 1) c.victim.result c.lru.ensures.sound c.requires refl refl
          c.victim.ensures.candidate;
      in_cache =
          evicted_used s.cache c.victim.result s.cache.order c.args.rows.now c.args.rows.now
          c.lru.ensures.sound c.requires refl c.victim.ensures.stands;
      none = tt;
    }
