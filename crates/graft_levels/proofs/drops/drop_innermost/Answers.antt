use Rattle.std.proofs.Common.{◌≡◌, arith, ap, subst, sym, ◌∙◌, length}
use Rattle.kernel_model.specs.Policies.{default_of}
use Rattle.kernel_model.specs.Levels.{answer_innermost}
use Rattle.kernel_model.specs.Objects.{Objects, with_accounts}
use Rattle.kernel_model.specs.Charges.{removed}
use Rattle.kernel_model.specs.Sound.{ImagesAreLoaded}
use Rattle.graft_levels.specs.Chains.{put_back_on, levels_in}
use Rattle.lock_table.specs.Masks.{held}
use Rattle.undo_calls.specs.UndoLevels.{innermost}
use Rattle.kernel_state.specs.Table.{accounts_of}
use Rattle.kernel_state.specs.Stores.{world_of_store, objects_of}
use Rattle.graft_levels.specs.Calls.{AreInside}
use Rattle.graft_levels.proofs.Conditions.{inside_removed, loaded_removed}
use Rattle.graft_levels.proofs.Dropping.{dropped, removed_after}
use Rattle.graft_levels.proofs.drops.drop_innermost.Goals as goal

pub returns : goal.returns
returns g c =
    record {
      step = (let w = objects_of c.args.store.now in
          let one = objects_of c.end_level.new.store in
          let u = objects_of (record (c.end_level.new.store) { accounts = c.remove.new.self }) in
          let v = world_of_store c.args.store.now in
          let g1 = c.args.inner.level in
          let state : u ≡ with_accounts (removed g1.owner g1.point w.accounts)
          (put_back_on (innermost c.args.chain.now.undo) w) =
          removed_after g1.owner g1.point (innermost c.args.chain.now.undo) w one
          (accounts_of c.remove.new.self) c.end_level.ensures.objects c.remove.ensures.value in
          dropped v w u c.args.inner.process c.count.result c.args.store.now.ram
          c.end_level.new.store.ram (held c.args.locks.now) (held c.end_level.new.locks) g1
          c.args.chain.now.levels c.give_answer.new.levels c.args.chain.now.undo
          c.end_level.new.chain.undo c.args.cause c.default_of-r0.result
          state
          (c.default_of-r0.ensures ∙ ap (λ x. default_of x one.things g1.owner g1.point)
          c.end_level.ensures.elsewhere.world ∙ ap (λ (x : Objects). default_of v x.things
          g1.owner g1.point) c.end_level.ensures.objects)
          c.end_level.ensures.memory c.end_level.ensures.locks c.end_level.ensures.log
          (c.count.ensures.value ∙ c.give_answer.ensures.count ∙ ap length c.end_level.ensures.levels)
          (c.give_answer.ensures.levels c.args.inner.process c.end_level.new.store.ram
          (held c.end_level.new.locks) c.end_level.new.chain.undo u.things
          ∙ ap (λ gs. answer_innermost g1.point c.default_of-r0.result.0 c.default_of-r0.result.1
          (levels_in c.args.inner.process c.end_level.new.store.ram (held c.end_level.new.locks)
          gs c.end_level.new.chain.undo u.things)) c.end_level.ensures.levels));
      kept = (record {
        placed = (let h = c.end_level.ensures.placed in
            let count = c.give_answer.ensures.count in
            record {
              process = h.process;
              few = omega (arith, h.few, count);
              as_many = h.as_many ∙ sym count;
              unheld = λ d o le. h.unheld d o (omega (arith, le, count));
              levels = c.give_answer.ensures.sound _ h.levels;
              undoable = h.undoable;
            });
        inside = (λ images h.
            let a = accounts_of c.end_level.new.store.accounts in
            let gs = c.args.chain.now.levels in
            let same : a ≡ accounts_of c.args.store.now.accounts =
            ap (λ (x : Objects). x.accounts) c.end_level.ensures.objects in
            c.give_answer.ensures.inside images (accounts_of c.remove.new.self) c.args.inner.process
            (subst (λ hs. AreInside images (accounts_of c.remove.new.self) c.args.inner.process hs)
            (sym c.end_level.ensures.levels)
            (subst (λ b. AreInside images b c.args.inner.process gs) (sym c.remove.ensures.value)
            (inside_removed images c.args.inner.level.owner c.args.inner.level.point
            c.args.inner.process a gs c.requires.placed.levels.1
            (subst (λ b. AreInside images b c.args.inner.process gs) (sym same) h.1)))));
        loaded = (λ images h.
            let same : accounts_of c.end_level.new.store.accounts
            ≡ accounts_of c.args.store.now.accounts =
            ap (λ (x : Objects). x.accounts) c.end_level.ensures.objects in
            subst (ImagesAreLoaded images) (sym c.remove.ensures.value)
            (loaded_removed images c.args.inner.level.owner c.args.inner.level.point (accounts_of
            c.end_level.new.store.accounts) (subst (ImagesAreLoaded images) (sym same) h)));
        elsewhere =
            record {
              world = c.end_level.ensures.elsewhere.world;
              living = c.end_level.ensures.elsewhere.living;
              others = c.end_level.ensures.elsewhere.others;
              memory = c.end_level.ensures.elsewhere.memory;
            };
        memory = c.end_level.ensures.memory;
      });
    }
