use Rattle.std.proofs.Common.{rules, ℕ, ◌++◌, length, ap, sym, refl, Option, Some, Result, Ok, Err, ◌≡◌, ◌∙◌}
use Rattle.kernel_model.specs.declared.OpenRow.{OpenRow}
use Rattle.kernel_model.specs.declared.Refusal.{Refusal}
use Rattle.kernel_model.specs.FilePieces.{read_first_at, read_first, read_on}
use Rattle.kernel_model.specs.Needs.{file_block}
use Rattle.kernel_state.specs.Stores.{world_of_store, objects_of, cache_of}
use Rattle.call_needs.specs.Fetching.{fetch_of}
use Rattle.call_pieces.specs.Shared.{first_of, read_stage}
use Rattle.call_pieces.proofs.ReadLaws.{first_block, first_came, file_here, file_after, changed_file, goes_first}
use Rattle.call_pieces.proofs.ServesLaws.{serves_refused}
use Rattle.call_pieces.proofs.WriteLaws.{fetch_failed}
use Rattle.call_pieces.proofs.reads.first.Goals as goal

pub returns-in-Err-clause-done : goal.returns-in-Err-clause-done
returns-in-Err-clause-done g c =
    rw c.requires.nothing
    (let s = c.args.store.now in
    let r = c.args.r in
    let v = world_of_store s in
    let o = objects_of s in
    let block : Err c.in-Err.refusal ≡ file_block v (Some c.args.opened) r.i r.off r.len =
    c.in-Err.ensures.block
    ∙ ap (λ (x : Option OpenRow). file_block v x r.i r.off r.len) c.requires.file in
    serves_refused (first_of s r c.args.opened) s (g.D.Disk.seen c.args.disk.now) c.args.log.now
    c.in-Err.refusal (read_stage r 1) c.requires.ready.fresh
    (λ blocks w. ap (λ (x : Result ℕ Refusal). read_first_at x v o blocks r.p r.fd r.i r.off r.len
    c.args.opened r.answer w) (sym block))
    (search rules))

pub returns-in_default-clause-done : goal.returns-in_default-clause-done
returns-in_default-clause-done g c =
    rw c.requires.nothing
    (let s = c.args.store.now in
    let r = c.args.r in
    let v = world_of_store s in
    let o = objects_of s in
    let b = c.in-Ok.plan.block in
    let n = length c.fetch.new.log in
    let known = (g.D.Disk.seen c.fetch.new.disk).known in
    let block : Ok b ≡ file_block v (Some c.args.opened) r.i r.off r.len =
    c.in-Ok.ensures.block
    ∙ ap (λ (x : Option OpenRow). file_block v x r.i r.off r.len) c.requires.file in
    let failed = c.in_default.ensures in
    record {
      does = λ blocks rest tells.
          let io = c.fetch.new.log ++ rest in
          first_block (file_block v (Some c.args.opened) r.i r.off r.len) b v o
          (objects_of c.fetch.new.store) blocks r.p r.fd r.i r.off r.len n c.args.opened r.answer io
          known _ _ block
          (fetch_failed (read_first o blocks r.p r.fd r.i r.off r.len c.args.opened)
          (fetch_of s r.p b r.answer blocks io) o (objects_of c.fetch.new.store) blocks
          c.in_default.field-0 (cache_of c.fetch.new.store) known n refl
          (failed.does blocks rest tells) failed.keeps.kept);
      some = search rules;
      keeps = search rules;
      calls = failed.calls;
    })

pub returns-clause-done : goal.returns-clause-done
returns-clause-done g c =
    rw c.give.ensures
    (let s = c.args.store.now in
    let r = c.args.r in
    let v = world_of_store s in
    let o = objects_of s in
    let b = c.in-Ok.plan.block in
    let n = length c.fetch.new.log in
    let known = (g.D.Disk.seen c.fetch.new.disk).known in
    let block : Ok b ≡ file_block v (Some c.args.opened) r.i r.off r.len =
    c.in-Ok.ensures.block
    ∙ ap (λ (x : Option OpenRow). file_block v x r.i r.off r.len) c.requires.file in
    let fetched = c.in-Ok-fetch.ensures in
    let noted = changed_file (objects_of c.fetch.new.store) (objects_of c.read_on.new.self) r.p r.fd
    (read_on r.i) c.args.opened
    (file_after o (objects_of c.fetch.new.store) r.p r.fd (cache_of c.fetch.new.store) c.args.opened
    fetched.keeps.objects c.requires.file)
    c.read_on.ensures.objects in
    record {
      does = λ blocks rest tells.
          let io = c.fetch.new.log ++ rest in
          first_block (file_block v (Some c.args.opened) r.i r.off r.len) b v o
          (objects_of c.read_on.new.self) blocks r.p r.fd r.i r.off r.len n c.args.opened r.answer io
          known _ _ block
          (first_came o (objects_of c.fetch.new.store) (objects_of c.read_on.new.self) blocks r.p
          r.fd r.i r.off r.len c.in-Ok-fetch.f n c.args.opened (fetch_of s r.p b r.answer blocks io)
          (cache_of c.fetch.new.store) known _ (fetched.does blocks rest tells)
          fetched.keeps.objects noted refl);
      some = search rules;
      keeps = search rules;
      calls = fetched.calls;
    })

pub returns-clause-next : goal.returns-clause-next
returns-clause-next g c =
    λ _.
    let r = c.args.r in
    let mid = objects_of c.fetch.new.store in
    goes_first c.args.opened _ _
    (file_here mid (objects_of c.read_on.new.self) r.p r.fd _
    (changed_file mid (objects_of c.read_on.new.self) r.p r.fd (read_on r.i) c.args.opened
    (file_after (objects_of c.args.store.now) mid r.p r.fd (cache_of c.fetch.new.store) c.args.opened
    c.in-Ok-fetch.ensures.keeps.objects c.requires.file)
    c.read_on.ensures.objects))
