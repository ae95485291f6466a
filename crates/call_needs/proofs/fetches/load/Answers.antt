use Rattle.std.proofs.Common.{rules, List, Bool, true, [], ◌∷◌, ℕ, refl, ◌++◌, length, sym, ◌∙◌, ap, subst}
use Rattle.kernel_model.specs.World.{Blocks}
use Rattle.kernel_model.specs.Fetch.{Fetched}
use Rattle.kernel_state.specs.Stores.{world_of_store, cache_of, policies_of}
use Rattle.call_needs.specs.Fetching.{FetchLeft, blocks_after, load_of}
use Rattle.kernel_state.specs.Calls.{Knows}
use Rattle.kernel_state.specs.Joined.{extends_then}
use Rattle.call_needs.proofs.FetchLaws.{fetch_some, fetch_alike, read_is, read_failed}
use Rattle.call_needs.proofs.fetches.load.Goals as goal

pub returns-in-Ok : goal.returns-in-Ok
returns-in-Ok g c =
    let s = c.args.store.now in
    let v = world_of_store s in
    let pol = policies_of s 1 in
    let place = c.place in
    let bytes : List ℕ = g.D.Disk.lent c.read.new.disk in
    let is = λ (blocks : Blocks) (rest : List Bool). read_is v pol c.args.w.p c.args.w.b c.args.w.answer
    (cache_of s) blocks (place.new.log ++ rest) (place.ensures.first rest) in
    record {
      does = λ blocks rest tells.
          let read = c.in-Ok.ensures.known blocks tells in
          record {
            outcome = subst (λ (x : Fetched). FetchLeft x blocks place.result
                (cache_of place.new.store) (length place.new.log)) (sym (is blocks rest))
                (place.ensures.outcome blocks rest (sym read.1));
            tells = subst (λ (x : Fetched). Knows (g.D.Disk.seen place.new.disk).known
                (blocks_after x blocks)) (sym (is blocks rest))
                (place.ensures.tells blocks rest (sym read.1) read.0);
          };
      some = fetch_alike v (load_of s c.args.w.p c.args.w.b c.args.w.answer) place.result
          (cache_of place.new.store) place.new.log bytes c.block.ensures.whole
          (λ rest.
          subst (λ (x : Fetched). FetchLeft x (λ b. bytes) place.result (cache_of place.new.store)
          (length place.new.log)) (sym (is (λ b. bytes) rest))
          (place.ensures.outcome (λ b. bytes) rest refl));
      keeps = place.ensures.keeps;
      calls = extends_then (g.D.Disk.seen c.args.disk.now) (g.D.Disk.seen c.read.new.disk)
          (g.D.Disk.seen place.new.disk) c.args.log.now c.read.new.self place.new.log
          c.in-Ok.ensures.calls place.ensures.calls;
    }

pub returns-in-Err : goal.returns-in-Err
returns-in-Err g c =
    let s = c.args.store.now in
    let v = world_of_store s in
    let pol = policies_of s 1 in
    record {
      does = search rules;
      some = fetch_some v (load_of s c.args.w.p c.args.w.b c.args.w.answer) _ (cache_of s) c.read.new.self
          (λ blocks rest. read_failed v pol c.args.w.p c.args.w.b c.args.w.answer (cache_of s) blocks
          c.in-Err.failed c.read.new.self rest
          (c.in-Err.ensures.noted ∙ ap (λ (w : List Bool). w ++ true ∷ []) c.requires.ready.made));
      keeps = search rules;
      calls = c.in-Err.ensures.calls;
    }
