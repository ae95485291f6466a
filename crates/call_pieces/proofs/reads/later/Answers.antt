use Rattle.std.proofs.Common.{rules, arith, ◌≤◌, Option, IfSome, sym, subst, ◌++◌, Some, length, refl, ◌-◌, ◌+◌}
use Rattle.kernel_model.specs.declared.OpenRow.{OpenRow}
use Rattle.kernel_model.specs.World.{World, blocks_of}
use Rattle.kernel_model.specs.Needs.{ahead_block}
use Rattle.kernel_model.specs.FilePieces.{read_third, with_ahead}
use Rattle.kernel_state.specs.Stores.{world_of_store, objects_of, cache_of}
use Rattle.call_needs.specs.Fetching.{fetch_ahead_of}
use Rattle.call_pieces.specs.Shared.{read_stage}
use Rattle.call_pieces.proofs.ReadLaws.{file_here, file_after, changed_file, goes_later}
use Rattle.call_pieces.proofs.ReadLaws.{third_came, third_block, none_ahead, some_ahead}
use Rattle.call_pieces.proofs.WriteLaws.{fetch_failed}
use Rattle.call_pieces.proofs.reads.later.Goals as goal

pub set_ahead-requires-clause-within : goal.set_ahead-requires-clause-within
set_ahead-requires-clause-within g c =
    let r = c.args.r in
    let opened = c.args.opened in
    let mid = c.fetch_ahead.new.store in
    let some = c.requires.some in
    let within = c.requires.opened.within in
    subst (λ (x : Option OpenRow). IfSome x (λ o. opened.start + 1 + (opened.count - 1) ≤
    blocks_of (world_of_store mid) o.file))
    (sym (file_after (objects_of c.args.store.now) (objects_of mid) r.p r.fd (cache_of mid) opened
    c.in-Ok.ensures.keeps.objects c.requires.file))
    (subst (λ (v : World). opened.start + 1 + (opened.count - 1) ≤ blocks_of v opened.file)
    (sym c.in-Ok.ensures.keeps.world) (omega arith))

pub returns-clause-next : goal.returns-clause-next
returns-clause-next g c =
    λ _.
    let r = c.args.r in
    let mid = objects_of c.fetch_ahead.new.store in
    let t = objects_of c.set_ahead.new.self in
    goes_later c.args.opened _ _
    (file_here mid t r.p r.fd _
    (changed_file mid t r.p r.fd (with_ahead (c.args.opened.start + 1) (c.args.opened.count - 1))
    c.args.opened
    (file_after (objects_of c.args.store.now) mid r.p r.fd (cache_of c.fetch_ahead.new.store)
    c.args.opened c.in-Ok.ensures.keeps.objects c.requires.file)
    c.set_ahead.ensures.objects))
    refl c.if-count-eq0.false

pub returns-in_default-clause-done : goal.returns-in_default-clause-done
returns-in_default-clause-done g c =
    let r = c.args.r in
    let s = c.args.store.now in
    let v = world_of_store s in
    let o = objects_of s in
    let b = c.plan_ahead-plan.result.block in
    let n = length c.fetch_ahead.new.log in
    let known = (g.D.Disk.seen c.fetch_ahead.new.disk).known in
    let failed = c.in_default.ensures in
    record {
      does = λ blocks rest tells.
          let io = c.fetch_ahead.new.log ++ rest in
          third_block (ahead_block v (Some c.args.opened)) b v o (objects_of c.fetch_ahead.new.store)
          blocks r.p r.fd r.i r.off r.len n c.args.opened r.answer io known _ _
          c.plan_ahead-plan.ensures.block
          (fetch_failed (read_third o blocks r.p r.fd r.i r.off r.len c.args.opened)
          (fetch_ahead_of s r.p b r.answer blocks io) o (objects_of c.fetch_ahead.new.store) blocks
          c.in_default.field-0 (cache_of c.fetch_ahead.new.store) known n refl
          (failed.does blocks rest tells) failed.keeps.kept);
      some = search rules;
      keeps = search rules;
      calls = failed.calls;
    }

pub returns-then-count-eq0-clause-done : goal.returns-then-count-eq0-clause-done
returns-then-count-eq0-clause-done g c =
    let r = c.args.r in
    let s = c.args.store.now in
    let v = world_of_store s in
    let o = objects_of s in
    let b = c.plan_ahead-plan.result.block in
    let n = length c.fetch_ahead.new.log in
    let known = (g.D.Disk.seen c.fetch_ahead.new.disk).known in
    let fetched = c.in-Ok.ensures in
    let noted = changed_file (objects_of c.fetch_ahead.new.store) (objects_of c.set_ahead.new.self)
    r.p r.fd (with_ahead (c.args.opened.start + 1) (c.args.opened.count - 1)) c.args.opened
    (file_after o (objects_of c.fetch_ahead.new.store) r.p r.fd (cache_of c.fetch_ahead.new.store)
    c.args.opened fetched.keeps.objects c.requires.file)
    c.set_ahead.ensures.objects in
    record {
      does = λ blocks rest tells.
          let io = c.fetch_ahead.new.log ++ rest in
          third_block (ahead_block v (Some c.args.opened)) b v o (objects_of c.set_ahead.new.self)
          blocks r.p r.fd r.i r.off r.len n c.args.opened r.answer io known _ _
          c.plan_ahead-plan.ensures.block
          (third_came o (objects_of c.fetch_ahead.new.store) (objects_of c.set_ahead.new.self) blocks
          r.p r.fd r.i r.off r.len c.in-Ok.field-0 n c.args.opened
          (fetch_ahead_of s r.p b r.answer blocks io) (cache_of c.fetch_ahead.new.store) known _
          (fetched.does blocks rest tells) fetched.keeps.objects noted
          (none_ahead (read_stage r 2) (c.args.opened.count - 1) c.if-count-eq0.true));
      some = search rules;
      keeps = search rules;
      calls = fetched.calls;
    }

pub returns-clause-done : goal.returns-clause-done
returns-clause-done g c =
    let r = c.args.r in
    let s = c.args.store.now in
    let v = world_of_store s in
    let o = objects_of s in
    let b = c.plan_ahead-plan.result.block in
    let n = length c.fetch_ahead.new.log in
    let known = (g.D.Disk.seen c.fetch_ahead.new.disk).known in
    let fetched = c.in-Ok.ensures in
    let noted = changed_file (objects_of c.fetch_ahead.new.store) (objects_of c.set_ahead.new.self)
    r.p r.fd (with_ahead (c.args.opened.start + 1) (c.args.opened.count - 1)) c.args.opened
    (file_after o (objects_of c.fetch_ahead.new.store) r.p r.fd (cache_of c.fetch_ahead.new.store)
    c.args.opened fetched.keeps.objects c.requires.file)
    c.set_ahead.ensures.objects in
    record {
      does = λ blocks rest tells.
          let io = c.fetch_ahead.new.log ++ rest in
          third_block (ahead_block v (Some c.args.opened)) b v o (objects_of c.set_ahead.new.self)
          blocks r.p r.fd r.i r.off r.len n c.args.opened r.answer io known _ _
          c.plan_ahead-plan.ensures.block
          (third_came o (objects_of c.fetch_ahead.new.store) (objects_of c.set_ahead.new.self) blocks
          r.p r.fd r.i r.off r.len c.in-Ok.field-0 n c.args.opened
          (fetch_ahead_of s r.p b r.answer blocks io) (cache_of c.fetch_ahead.new.store) known _
          (fetched.does blocks rest tells) fetched.keeps.objects noted
          (some_ahead (read_stage r 2) (c.args.opened.count - 1) c.if-count-eq0.false));
      some = search rules;
      keeps = search rules;
      calls = fetched.calls;
    }
