use Rattle.std.proofs.Common.{◌∷◌, true, false, ap, sym, refl, ◌∙◌}
use Rattle.kernel_model.specs.declared.Kind.TheVariants.{Locks}
use Rattle.kernel_model.specs.declared.Cause.TheVariants.{SpentLocks}
use Rattle.kernel_model.specs.Access.{accessed}
use Rattle.kernel_model.specs.GraftStep.{after_result}
use Rattle.kernel_model.specs.Levels.{drop_innermost}
use Rattle.kernel_model.specs.Objects.{with_accounts}
use Rattle.graft_levels.specs.Masks.{held}
use Rattle.graft_levels.specs.UndoLevels.{innermost}
use Rattle.kernel_state.specs.Table.{accounts_of}
use Rattle.kernel_state.specs.Stores.{world_of_store, objects_of}
use Rattle.graft_levels.specs.Chains.{put_back, came, level_of, outer_of, outer}
use Rattle.graft_calls.proofs.Charging.{not_paid, is_paid, unpaid}
use Rattle.graft_levels.proofs.Conditions.{inside_if, loaded_if}
use Rattle.graft_levels.proofs.Dropping.{pair, configs}
use Rattle.graft_calls.proofs.GoingOn.{gone_on}
use Rattle.graft_levels.proofs.Holding.{due_is}
use Rattle.graft_levels.proofs.Placing.{touched_placed, touched_elsewhere}
use Rattle.graft_calls.proofs.accessors.give.Goals as goal

pub returns-then-not-charge_lock : goal.returns-then-not-charge_lock
returns-then-not-charge_lock g c =
    record {
      step = (let s = c.args.store.now in
          let v = world_of_store s in
          let w = objects_of s in
          let l = level_of s c.args.locks.now c.args.chain.now c.args.inner.process c.args.inner.level in
          let ls = outer_of s c.args.locks.now c.args.chain.now c.args.inner.process in
          let due = c.is_lock_due-due.result in
          ap (λ b. came (after_result v w l ls l.machine c.args.call.id c.args.result_is b))
          (sym (c.is_lock_due-due.ensures ∙ due_is c.args.call.id
          (l.machine.regs 0) c.args.inner.process s.ram (held c.args.locks.now)
          (c.args.inner.level ∷ c.args.chain.now.levels) c.args.chain.now.undo w.things
          c.requires.call.placed.few c.requires.call.placed.unheld
          c.args.call.object (λ e. c.requires.call.access.object
          ∙ ap (λ n. (accessed n (l.machine.regs 0) c.args.inner.level.owner).object) e)))
          ∙ ap came (not_paid v w l ls l.machine c.args.call.id c.args.result_is due
          c.if-not-charge_lock.ensures.answer)
          ∙ ap (λ a. came (drop_innermost v (with_accounts a w) l ls SpentLocks))
          (sym (unpaid due false _ _ _ refl c.if-not-charge_lock.ensures.accounts))
          ∙ c.drop_innermost.ensures.step);
      kept = (record {
        placed = c.drop_innermost.ensures.kept.placed;
        inside = (λ images h.
            c.drop_innermost.ensures.kept.inside images
            (inside_if _ images Locks c.args.inner.level.owner c.args.inner.level.point
            c.args.inner.process (accounts_of c.args.store.now.accounts) (accounts_of
            c.charge_lock.new.accounts) (c.args.inner.level ∷ c.args.chain.now.levels)
            c.charge_lock.ensures.accounts h));
        loaded = (λ images h.
            c.drop_innermost.ensures.kept.loaded images
            (loaded_if _ images Locks c.args.inner.level.owner c.args.inner.level.point
            (accounts_of c.args.store.now.accounts) (accounts_of c.charge_lock.new.accounts)
            c.charge_lock.ensures.accounts h));
        elsewhere =
            (let e = c.drop_innermost.ensures.kept.elsewhere in
            record { world = e.world; living = e.living; others = e.others; memory = e.memory });
        memory = c.drop_innermost.ensures.kept.memory;
      });
    }

pub returns : goal.returns
returns g c =
    record {
      step = (let s = c.args.store.now in
          let v = world_of_store s in
          let w = objects_of s in
          let u = with_accounts (accounts_of c.charge_lock.new.accounts) w in
          let log = c.args.chain.now.undo in
          let l = level_of s c.args.locks.now c.args.chain.now c.args.inner.process c.args.inner.level in
          let ls = outer_of s c.args.locks.now c.args.chain.now c.args.inner.process in
          let due = c.is_lock_due-due.result in
          ap (λ b. came (after_result v w l ls l.machine c.args.call.id c.args.result_is b))
          (sym (c.is_lock_due-due.ensures
          ∙ due_is c.args.call.id (l.machine.regs 0) c.args.inner.process s.ram
          (held c.args.locks.now) (c.args.inner.level ∷ c.args.chain.now.levels) log w.things
          c.requires.call.placed.few c.requires.call.placed.unheld
          c.args.call.object (λ e. c.requires.call.access.object
          ∙ ap (λ n. (accessed n (l.machine.regs 0) c.args.inner.level.owner).object) e)))
          ∙ is_paid v w u l ls l.machine c.args.call.id c.args.result_is due true
          (accounts_of c.charge_lock.new.accounts) refl c.if-not-charge_lock.ensures.answer
          c.if-not-charge_lock.ensures.accounts refl
          ∙ pair _ _ _ _ refl (configs u u _ _ refl
          (sym (c.go_on.ensures.levels c.args.inner.process s.ram (held c.touch.new.self) log w.things
          ∙ gone_on c.args.call.id c.args.result_is c.args.inner.process c.count.result
          c.args.call.object c.args.call.mode s.ram (held c.args.locks.now)
          (held c.touch.new.self) c.args.inner.level c.args.chain.now.levels
          (innermost log) (outer log) (put_back (innermost log) w.things) c.count.ensures.value
          c.touch.ensures c.requires.call.access.object c.requires.call.access.mode))));
      kept = (record {
        placed = (let s = c.args.store.now in
            let h = touched_placed s (record s { accounts = c.charge_lock.new.accounts })
            c.args.locks.now c.touch.new.self c.args.inner.process c.count.result
            c.args.call.object c.args.call.mode
            c.args.inner.level c.args.chain.now.levels c.go_on.new.levels c.args.chain.now.undo
            c.args.chain.now.undo c.requires.call.placed
            (λ q. refl) c.go_on.ensures.count
            (c.go_on.ensures.sound _ c.requires.call.placed.levels) c.touch.ensures
            c.count.ensures.value refl c.requires.call.placed.undoable in
            record {
              process = h.process;
              few = h.few;
              as_many = h.as_many;
              unheld = h.unheld;
              levels = h.levels;
              undoable = h.undoable;
            });
        inside = (λ images h.
            c.go_on.ensures.inside images (accounts_of c.charge_lock.new.accounts) c.args.inner.process
            (inside_if _ images Locks c.args.inner.level.owner c.args.inner.level.point
            c.args.inner.process (accounts_of c.args.store.now.accounts) (accounts_of
            c.charge_lock.new.accounts) (c.args.inner.level ∷ c.args.chain.now.levels)
            c.charge_lock.ensures.accounts h));
        loaded = (λ images h.
            loaded_if _ images Locks c.args.inner.level.owner c.args.inner.level.point
            (accounts_of c.args.store.now.accounts) (accounts_of c.charge_lock.new.accounts)
            c.charge_lock.ensures.accounts h);
        elsewhere =
            touched_elsewhere c.args.store.now _ c.args.locks.now c.touch.new.self
            c.args.inner.process c.count.result c.args.call.object c.args.call.mode refl
            (λ q. refl) refl c.touch.ensures;
        memory = refl;
      });
    }
