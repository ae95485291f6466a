use Rattle.std.proofs.Common.{◌≡◌, ℕ, Option, Some, None, rules, sym, ap, subst}
use Rattle.kernel_model.specs.Needs.{frame_of_block}
use Rattle.kernel_model.specs.Fetch.{fetch_ahead_by}
use Rattle.kernel_state.specs.Stores.{world_of_store, cache_of, policies_of}
use Rattle.kernel_state.specs.Joined.{extends_none}
use Rattle.call_needs.specs.Fetching.{FetchDone, fetch_ahead_of, store_moment}
use Rattle.call_needs.specs.Planning.{IsPlaceOf}
use Rattle.call_needs.proofs.FetchLaws.{fetch_held}
use Rattle.call_needs.proofs.fetches.fetch_ahead.Goals as goal

pub returns-in-Held : goal.returns-in-Held
returns-in-Held g c =
    let s = c.args.store.now in
    let v = world_of_store s in
    let pol = policies_of s 1 in
    let held : frame_of_block (cache_of s) c.args.plan.block ≡ Some c.in-Held.f =
    subst (λ x. IsPlaceOf s c.args.plan.block x) c.in-Held.is c.requires.plan.place in
    record {
      does = search rules;
      some = fetch_held v (fetch_ahead_of s c.args.r.p c.args.plan.block c.args.r.answer) (cache_of s) c.in-Held.f
          c.args.log.now c.requires.ready.made
          (λ blocks w. ap (λ (x : Option ℕ). fetch_ahead_by x v pol c.args.r.p c.args.plan.block c.args.r.answer
          (cache_of s) blocks w) held);
      keeps = search rules;
      calls = extends_none (g.D.Disk.seen c.args.disk.now) c.args.log.now;
    }

pub returns-in-Missing : goal.returns-in-Missing
returns-in-Missing g c =
    let s = c.args.store.now in
    let v = world_of_store s in
    let pol = policies_of s 1 in
    let missing : frame_of_block (cache_of s) c.args.plan.block ≡ None =
    (subst (λ x. IsPlaceOf s c.args.plan.block x) c.in-Missing.is c.requires.plan.place).0 in
    subst (λ (x : Option ℕ). FetchDone (λ blocks w. fetch_ahead_by x v pol c.args.r.p c.args.plan.block
    c.args.r.answer (cache_of s) blocks w)
    (store_moment s (g.D.Disk.seen c.args.disk.now) c.args.log.now)
    (store_moment c.load.new.store (g.D.Disk.seen c.load.new.disk) c.load.new.log) c.load.result)
    (sym missing) c.load.ensures
