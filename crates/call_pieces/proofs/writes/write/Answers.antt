use Rattle.std.proofs.Common.{rules, ℕ, ◌++◌, length, Result, refl, sym, ap}
use Rattle.kernel_model.specs.declared.Refusal.{Refusal}
use Rattle.kernel_model.specs.FilePieces.{write_fetched, write_piece}
use Rattle.kernel_state.specs.Stores.{world_of_store, objects_of, cache_of}
use Rattle.call_needs.specs.Fetching.{fetch_of}
use Rattle.call_pieces.specs.Shared.{write_of}
use Rattle.call_pieces.proofs.ServesLaws.{last_refused}
use Rattle.call_pieces.proofs.WriteLaws.{write_came, write_at, fetch_failed}
use Rattle.call_pieces.proofs.writes.write.Goals as goal

pub returns-in-Ok-fetch : goal.returns-in-Ok-fetch
returns-in-Ok-fetch g c =
    let s = c.args.store.now in
    let r = c.args.r in
    let o = objects_of s in
    let bytes = c.args.bytes.now in
    let n = length c.fetch.new.log in
    let known = (g.D.Disk.seen c.fetch.new.disk).known in
    let fetched = c.in-Ok-fetch.ensures in
    record {
      does = λ t blocks rest tells.
          let io = c.fetch.new.log ++ rest in
          write_at _ c.in-Ok.plan.block (world_of_store s) o (objects_of c.patch.new.self) blocks r.p r.off n
          bytes r.answer io known _ c.in-Ok.ensures.block
          (write_came o (objects_of c.fetch.new.store) (objects_of c.patch.new.self) blocks r.off
          c.in-Ok-fetch.f n bytes (fetch_of s r.p c.in-Ok.plan.block r.answer blocks io)
          (cache_of c.fetch.new.store) known (fetched.does blocks rest tells) fetched.keeps.objects
          c.patch.ensures.objects);
      some = search rules;
      ends = refl;
      keeps = search rules;
      calls = fetched.calls;
    }

pub returns-in-Err-fetch : goal.returns-in-Err-fetch
returns-in-Err-fetch g c =
    let s = c.args.store.now in
    let r = c.args.r in
    let o = objects_of s in
    let bytes = c.args.bytes.now in
    let n = length c.fetch.new.log in
    let known = (g.D.Disk.seen c.fetch.new.disk).known in
    let failed = c.in-Err-fetch.ensures in
    record {
      does = λ t blocks rest tells.
          let io = c.fetch.new.log ++ rest in
          write_at _ c.in-Ok.plan.block (world_of_store s) o (objects_of c.fetch.new.store) blocks r.p r.off n
          bytes r.answer io known _ c.in-Ok.ensures.block
          (fetch_failed (write_fetched o blocks r.off bytes)
          (fetch_of s r.p c.in-Ok.plan.block r.answer blocks io) o (objects_of c.fetch.new.store) blocks
          c.in-Err-fetch.field-0 (cache_of c.fetch.new.store) known n refl
          (failed.does blocks rest tells) failed.keeps.kept);
      some = search rules;
      ends = refl;
      keeps = search rules;
      calls = failed.calls;
    }

pub returns-in-Err : goal.returns-in-Err
returns-in-Err g c =
    let s = c.args.store.now in
    let r = c.args.r in
    last_refused (write_of s r c.args.bytes.now) s (g.D.Disk.seen c.args.disk.now) c.args.log.now
    c.in-Err.refusal c.requires.ready.fresh
    (λ blocks w. ap (λ (x : Result ℕ Refusal). write_piece x (world_of_store s) (objects_of s) blocks
    r.p r.off c.args.bytes.now r.answer w) (sym c.in-Err.ensures.block))
    (search rules)
