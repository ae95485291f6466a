use Rattle.std.proofs.Common.{rules, ◌≡◌, ℕ, List, Bool, slice_index, ◌∙◌, Some, None, cond, refl}
use Rattle.std.proofs.Common.{sym, ap, subst, arith}
use Rattle.kernel_model.specs.World.{World}
use Rattle.kernel_model.specs.Objects.{FrameValue, at}
use Rattle.kernel_model.specs.Fetch.{bytes_of, cleaned}
use Rattle.kernel_model.specs.FilePieces.{with_cache}
use Rattle.kernel_state.specs.Calls.{Knows}
use Rattle.kernel_state.specs.Joined.{extends_none, extends_then}
use Rattle.std.specs.Result.{is_err}
use Rattle.kernel_state.specs.Stores.{world_of_store, objects_of, cache_of}
use Rattle.call_pieces.specs.Shared.{sync_of}
use Rattle.call_pieces.proofs.Logs.{last_failed}
use Rattle.call_pieces.proofs.LeftLaws.{some_of_all}
use Rattle.call_pieces.proofs.SyncLaws.{Midway, begins, past_clean, past_written, ends_failed}
use Rattle.call_pieces.proofs.SyncLaws.{ends_well, left_failed, left_well, of_err, of_ok}
use Rattle.call_pieces.proofs.syncs.sync.Goals as goal

pub loop-f-init : goal.loop-f-init
loop-f-init g c =
    let n = c.args.store.now.setup.frames in
    let s = objects_of c.args.store.now in
    let known = (g.D.Disk.seen c.args.disk.now).known in
    record {
      so_far = subst (λ (io : List Bool). Midway n 0 0 s s known known io) (sym c.requires.fresh) (begins n s known);
      calls = extends_none (g.D.Disk.seen c.args.disk.now) c.args.log.now;
      queue = refl;
      world = refl;
      disk = c.requires.disk;
      ram = refl;
    }

pub loop-f-preserved-in_default : goal.loop-f-preserved-in_default
loop-f-preserved-in_default g c =
    let l = c.loop-f.invariant in
    record {
      so_far =
          past_clean c.args.store.now.setup.frames c.loop-f.f c.loop-f.written
          (objects_of c.args.store.now) (objects_of c.loop-f.store)
          (g.D.Disk.seen c.args.disk.now).known
          (g.D.Disk.seen c.loop-f.disk).known c.loop-f.log c.loop-f-test.true l.so_far c.in_default.ensures.value;
      calls = l.calls;
      queue = l.queue;
      world = l.world;
      disk = l.disk;
      ram = l.ram;
    }

pub loop-f-preserved : goal.loop-f-preserved
loop-f-preserved g c =
    let l = c.loop-f.invariant in
    let w = c.write_back.ensures in
    let well = c.if-is_err.ensures.negation in
    let cache = cache_of c.loop-f.store in
    record {
      so_far =
          past_written c.args.store.now.setup.frames c.loop-f.f c.in-Some.b
          c.loop-f.written (objects_of c.args.store.now) (objects_of c.loop-f.store)
          (objects_of c.write_back.new.store)
          (g.D.Disk.seen c.args.disk.now).known (g.D.Disk.seen c.loop-f.disk).known
          (g.D.Disk.seen c.write_back.new.disk).known c.loop-f.log c.write_back.new.log
          (is_err c.write_back.result) c.loop-f-test.true l.so_far
          (sym c.in-Some.ensures.value) w.noted (sym c.if-is_err.ensures.value)
          (of_ok c.write_back.result ((x : FrameValue) → cache.frame c.loop-f.f ≡ Some x →
          objects_of c.write_back.new.store ≡ with_cache (cleaned c.loop-f.f x cache)
          (objects_of c.loop-f.store)) well w.cleaned)
          (λ blocks tells. subst (λ t. Knows (g.D.Disk.seen c.write_back.new.disk).known
          (cond t (at c.in-Some.b (bytes_of cache c.loop-f.f) blocks) blocks)) well
          (w.known blocks tells));
      calls = extends_then (g.D.Disk.seen c.args.disk.now) (g.D.Disk.seen c.loop-f.disk)
          (g.D.Disk.seen c.write_back.new.disk) c.args.log.now c.loop-f.log c.write_back.new.log l.calls w.calls;
      queue = w.queue ∙ l.queue;
      world = w.world ∙ l.world;
      disk = ap (λ (v : World). v.disk_size) w.world ∙ l.disk ∙ sym w.calls.size;
      ram = w.ram ∙ l.ram;
    }

pub returns-then-is_err : goal.returns-then-is_err
returns-then-is_err g c =
    let n = c.args.store.now.setup.frames in
    let s = objects_of c.args.store.now in
    let mid = objects_of c.loop-f.store in
    let after = objects_of c.write_back.new.store in
    let d = g.D.Disk.seen c.args.disk.now in
    let e = g.D.Disk.seen c.loop-f.disk in
    let l = c.loop-f.invariant in
    let w = c.write_back.ensures in
    let failed = is_err c.write_back.result in
    let kept = of_err c.write_back.result (after ≡ mid) (sym c.if-is_err.ensures.value) w.kept in
    record {
      done = record {
        does = λ t blocks rest tells.
            ends_failed n c.loop-f.f c.in-Some.b c.loop-f.written s mid after d.known e.known
            (g.D.Disk.seen c.write_back.new.disk).known c.loop-f.log c.write_back.new.log failed
            c.loop-f-test.true l.so_far (sym c.in-Some.ensures.value) w.noted
            (sym c.if-is_err.ensures.value) kept
            (λ bs known. subst (λ t. Knows (g.D.Disk.seen c.write_back.new.disk).known
            (cond t (at c.in-Some.b (bytes_of (cache_of c.loop-f.store) c.loop-f.f) bs) bs))
            c.if-is_err.ensures.negation (w.known bs known)) blocks rest tells;
        some = λ t. some_of_all (world_of_store c.args.store.now) (sync_of c.args.store.now) after None _
            c.write_back.new.log
            (left_failed n c.loop-f.f c.in-Some.b c.loop-f.written s mid after d.known e.known
            c.loop-f.log c.write_back.new.log failed c.loop-f-test.true l.so_far
            (sym c.in-Some.ensures.value) w.noted (sym c.if-is_err.ensures.value) kept);
        ends = refl;
        keeps = record {
          failed = λ fault.
              last_failed c.write_back.new.log c.loop-f.log failed w.noted
              (sym c.if-is_err.ensures.value);
          few = search rules;
          queue_is = w.queue ∙ l.queue;
          world = w.world ∙ l.world;
          memory = λ a beyond. ap (λ (ram : List ℕ). slice_index ram a) (w.ram ∙ l.ram);
        };
        calls = extends_then d e (g.D.Disk.seen c.write_back.new.disk) c.args.log.now c.loop-f.log
            c.write_back.new.log l.calls w.calls;
      };
      ram = w.ram ∙ l.ram;
    }

pub returns : goal.returns
returns g c =
    let n = c.args.store.now.setup.frames in
    let s = objects_of c.args.store.now in
    let after = objects_of c.loop-f.store in
    let d = g.D.Disk.seen c.args.disk.now in
    let e = g.D.Disk.seen c.loop-f.disk in
    let l = c.loop-f.invariant in
    record {
      done = record {
        does = λ t blocks rest tells.
            ends_well n c.loop-f.f c.loop-f.written s after d.known e.known c.loop-f.log (omega arith)
            l.so_far blocks rest tells;
        some = λ t. some_of_all (world_of_store c.args.store.now) (sync_of c.args.store.now) after None _
            c.loop-f.log
            (left_well n c.loop-f.f c.loop-f.written s after d.known e.known c.loop-f.log
            (omega arith) l.so_far);
        ends = refl;
        keeps = record {
          failed = λ fault. absurd (cc);
          few = search rules;
          queue_is = l.queue;
          world = l.world;
          memory = λ a beyond. ap (λ (ram : List ℕ). slice_index ram a) l.ram;
        };
        calls = l.calls;
      };
      ram = l.ram;
    }
