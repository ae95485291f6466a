use Rattle.std.proofs.Common.{rules, ◌≡◌, ◌+◌, ◌++◌, ℕ, List, Option, None, Result, Ok, length}
use Rattle.std.proofs.Common.{slice_range, sym, ap, subst, ◌∙◌}
use Rattle.kernel_model.specs.declared.Refusal.{Refusal}
use Rattle.kernel_model.specs.Fetch.{bytes_of}
use Rattle.kernel_model.specs.StreamPoints.{stream_fetches}
use Rattle.call_pieces.specs.Stores.{world_of_store, objects_of, cache_of, queue_of}
use Rattle.call_pieces.specs.declared.Work.{Work}
use Rattle.call_pieces.specs.Needing.{block_meant}
use Rattle.call_pieces.specs.Fetching.{FetchLeft, FetchMatches, fetch_of, store_moment}
use Rattle.call_pieces.specs.Works.{call_of, answer_seen, registers_seen, stage_of}
use Rattle.call_pieces.specs.declared.Next.TheVariants.{Goes}
use Rattle.call_pieces.specs.Shared.{ServesWithQueue}
use Rattle.call_pieces.proofs.ServesLaws.{serves_refused}
use Rattle.stream_points.specs.Streams.{taken_of}
use Rattle.stream_points.proofs.StreamPieces.{take_came, take_left, taken_stage}
use Rattle.stream_points.proofs.streams.take_block.Goals as goal

pub returns-in-Err-clause-done : goal.returns-in-Err-clause-done
returns-in-Err-clause-done g c =
    let s = c.args.store.now in
    let w = c.args.work.now in
    let r = c.args.r in
    serves_refused (taken_of s w r) s (g.D.Disk.seen c.args.disk.now) c.args.log.now
    c.in-Err.refusal (stage_of w) c.requires.fresh
    (λ blocks io.
    ap (λ (x : Result ℕ Refusal). stream_fetches x (call_of w) (world_of_store s) (objects_of s)
    blocks r.p r.off r.len (answer_seen s.ram r.p r.answer) io)
    (sym c.in-Err.ensures.block))
    (search rules)

pub returns-in-Ok-fetch-clause-done : goal.returns-in-Ok-fetch-clause-done
returns-in-Ok-fetch-clause-done g c =
    let s = c.args.store.now in
    let w = c.args.work.now in
    let r = c.args.r in
    let b = c.in-Ok.plan.block in
    let f = c.in-Ok-fetch.f in
    let t = stage_of (record (c.carry_nothing.new.self) { piece = 1; carried = c.copy_bytes_of.new.to }) in
    let cache = cache_of c.fetch.new.store in
    let io = c.fetch.new.log in
    let known = (g.D.Disk.seen c.fetch.new.disk).known in
    let fetched = c.in-Ok-fetch.ensures in
    let seen = sym (registers_seen s.ram r.p r.answer) in
    let block : Ok b ≡ block_meant s r.p r.fd r.i r.off r.len = c.in-Ok.ensures.block in
    let taken : t ≡ taken_stage (call_of w) (slice_range (bytes_of cache f) r.off (r.off + r.len)) =
    ap (λ (x : Work). stage_of (record x { piece = 1; carried = c.copy_bytes_of.new.to }))
    c.carry_nothing.ensures
    ∙ ap (λ (bytes : List ℕ). taken_stage (call_of w) bytes) c.copy_bytes_of.ensures in
    subst (λ (x : Result ℕ Refusal). ServesWithQueue (λ blocks io. stream_fetches x (call_of w)
    (world_of_store s) (objects_of s) blocks r.p r.off r.len
    (answer_seen s.ram r.p r.answer) io) (queue_of s)
    (store_moment s (g.D.Disk.seen c.args.disk.now) c.args.log.now)
    (store_moment c.fetch.new.store (g.D.Disk.seen c.fetch.new.disk) c.fetch.new.log) None Goes t) block
    (record {
      does = λ blocks rest tells.
          take_came (call_of w) (objects_of s) (objects_of c.fetch.new.store) blocks r.off r.len f
          (length io) t _ cache known
          (subst (λ (a : Option (List ℕ)). FetchMatches (fetch_of s r.p b a blocks (io ++ rest))
          blocks (Ok f) cache known (length io)) seen (fetched.does blocks rest tells))
          fetched.keeps.objects taken;
      some = record {
        blocks = fetched.some.blocks;
        whole = fetched.some.whole;
        left = λ rest.
            take_left (call_of w) (objects_of s) (objects_of c.fetch.new.store)
            fetched.some.blocks r.off r.len f (length io) t _ cache
            (subst (λ (a : Option (List ℕ)). FetchLeft
            (fetch_of s r.p b a fetched.some.blocks (io ++ rest)) fetched.some.blocks (Ok f)
            cache (length io)) seen (fetched.some.outcome rest))
            fetched.keeps.objects taken;
      };
      keeps = search rules;
      calls = fetched.calls;
    })
