use Rattle.std.proofs.Common.{◌<◌, ◌∙◌, ap, sym, subst}
use Rattle.placed_laws.specs.Placed.{Placed}
use Rattle.running_kernel.specs.Views.{placed_of, levels_at, call_at}
use Rattle.placed_laws.proofs.Laws.{same_shown, drops_stand, held_stays, sound_in_place}
use Rattle.kernel_steps.proofs.PartLemmas.{levels_many}
use Rattle.kernel_steps.proofs.WholeLemmas.{call_is, did_drop, did_requeued, drop_change, has_call}
use Rattle.kernel_steps.proofs.WholeLemmas.{running_after_drop, some_by_more, stood_after_drop}
use Rattle.kernel_steps.proofs.WholeLemmas.{stood_requeued, requeue_keeps}
use Rattle.kernel_steps.proofs.steps.drop_level.Goals as goal

pub requeue-requires : goal.requeue-requires
requeue-requires g c =
    let a = c.args in
    let m = g.C.Meaning.Rules.meaning in
    let low = subst (λ n. a.d < n) (sym (levels_many a.running.now a.p)) c.requires.level in
    let some = some_by_more (levels_at a.running.now a.p) a.d low in
    let t = call_is (call_at a.running.now a.p) (has_call m (same_shown m g.C.Meaning.Rules.laws)
    (placed_of a.running.now) a.p c.requires.abstraction some) in
    record {
      process = c.requires.process;
      running =
          running_after_drop m (sound_in_place m g.C.Meaning.Rules.laws)
          (drops_stand m g.C.Meaning.Rules.laws) (held_stays m g.C.Meaning.Rules.laws) a.running.now
          c.drop_call.new.running a.p a.d t.0 a.cause a.trace.now.notes c.drop_call.new.trace.notes
          (g.D.Disk.seen a.disk.now) (g.D.Disk.seen c.drop_call.new.disk)
          c.requires.running c.requires.process c.requires.abstraction t.1 low some (c.drop_call.ensures t.0 t.1);
    }

pub returns : goal.returns
returns g c =
    let a = c.args in
    let m = g.C.Meaning.Rules.meaning in
    let x = placed_of a.running.now in
    let y = placed_of c.drop_call.new.running in
    let z = placed_of c.requeue.new.running in
    let low = subst (λ n. a.d < n) (sym (levels_many a.running.now a.p)) c.requires.level in
    let some = some_by_more (levels_at a.running.now a.p) a.d low in
    let t = call_is (call_at a.running.now a.p)
    (has_call m (same_shown m g.C.Meaning.Rules.laws) x a.p c.requires.abstraction some) in
    let t = call_is (call_at a.running.now a.p) (has_call m (same_shown m g.C.Meaning.Rules.laws)
    (placed_of a.running.now) a.p c.requires.abstraction some) in
    record {
      refines =
          did_drop m x z a.p a.d t.0 a.cause a.trace.now.notes c.drop_call.new.trace.notes
          (g.D.Disk.seen a.disk.now) (g.D.Disk.seen c.drop_call.new.disk) t.1 some
          (did_requeued (drop_change m a.p a.d t.0 a.cause) x y z a.p a.trace.now.notes
          c.drop_call.new.trace.notes (g.D.Disk.seen a.disk.now) (g.D.Disk.seen
          c.drop_call.new.disk) (c.drop_call.ensures t.0 t.1).refines c.requeue.ensures.value);
      running = c.requeue.ensures.running;
      abstraction =
          stood_requeued m a.p (placed_of c.drop_call.new.running) (placed_of c.requeue.new.running)
          c.requeue.ensures.value
          (stood_after_drop m (drops_stand m g.C.Meaning.Rules.laws) a.running.now
          c.drop_call.new.running a.p a.d t.0 a.cause a.trace.now.notes
          c.drop_call.new.trace.notes (g.D.Disk.seen a.disk.now)
          (g.D.Disk.seen c.drop_call.new.disk) c.requires.abstraction t.1 low some
          (c.drop_call.ensures t.0 t.1));
      world =
          ap (λ (z : Placed). z.world) (requeue_keeps a.p (placed_of c.drop_call.new.running)
          (placed_of c.requeue.new.running) c.requeue.ensures.value)
          ∙ (c.drop_call.ensures t.0 t.1).stepped.world;
      clock =
          ap (λ (z : Placed). z.clock) (requeue_keeps a.p (placed_of c.drop_call.new.running)
          (placed_of c.requeue.new.running) c.requeue.ensures.value)
          ∙ (c.drop_call.ensures t.0 t.1).stepped.clock;
    }
