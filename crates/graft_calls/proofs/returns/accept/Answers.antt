use Rattle.std.proofs.Common.{◌≡◌, ◌==◌, ◌||◌, ◌∷◌, ℕ, List, Some, length, slice_index, arith}
use Rattle.std.proofs.Common.{refl, sym, ◌∙◌, ap, subst}
use Rattle.kernel_model.specs.declared.Kind.TheVariants.{Records}
use Rattle.kernel_model.specs.Access.{set_segment}
use Rattle.kernel_model.specs.Charges.{charge, funds}
use Rattle.kernel_model.specs.GraftStep.{after_answer, is_record_spent}
use Rattle.kernel_model.specs.Levels.{image_of, keeps_in, base_of}
use Rattle.kernel_model.specs.Meaning.{Answer}
use Rattle.kernel_model.specs.Objects.{Objects}
use Rattle.kernel_model.specs.Policies.{lives}
use Rattle.kernel_model.specs.Runs.{segment_of}
use Rattle.kernel_model.specs.Sound.{ImagesAreLoaded}
use Rattle.kernel_state.specs.Stores.{world_of_store, objects_of, queue_of, body_at}
use Rattle.graft_levels.specs.Masks.{held}
use Rattle.graft_levels.specs.UndoLevels.{records_of, segment_logged}
use Rattle.kernel_state.specs.Table.{accounts_of}
use Rattle.graft_levels.specs.Slots.{table_of}
use Rattle.graft_levels.specs.Chains.{came, level_of, outer_of, levels_in, kept_bytes, kept_on}
use Rattle.graft_levels.specs.Calls.{AreInside}
use Rattle.graft_levels.proofs.Completing.{unanswered, outermost_answers}
use Rattle.graft_levels.proofs.Conditions.{inside_charged, loaded_charged}
use Rattle.graft_levels.proofs.Dropping.{pair, configs}
use Rattle.graft_calls.proofs.KeptSegments.{kept_undoable, kept_then, not_kept, record_is}
use Rattle.graft_calls.proofs.Looking.{more_undoable}
use Rattle.graft_levels.proofs.Placing.{completed_placed}
use Rattle.graft_calls.proofs.Recording.{record_count_is, record_length}
use Rattle.graft_levels.proofs.Undoing.{all_kept}
use Rattle.graft_calls.proofs.returns.accept.Goals as goal

pub returns-then-not-keeps-clause-comes : goal.returns-then-not-keeps-clause-comes
returns-then-not-keeps-clause-comes g c =
    record {
      step = (let s = c.args.store.now in
          let l = level_of s c.args.locks.now c.args.chain.now c.args.inner.process c.args.inner.level in
          let ls = outer_of s c.args.locks.now c.args.chain.now c.args.inner.process in
          ap (λ b. came (after_answer (world_of_store s) (objects_of s) l ls b))
          (sym c.if-not-keeps.ensures) ∙ c.complete.ensures.step (objects_of s) s.ram);
      kept = (record {
        placed = (let s = c.args.store.now in
            let h = c.requires.placed in
            let log = c.args.chain.now.undo in
            completed_placed s s c.args.locks.now c.complete.new.locks c.args.inner.process
            c.args.inner.level c.args.chain.now.levels c.complete.new.chain.levels log log
            c.complete.new.chain.undo
            h refl c.complete.ensures.count (c.complete.ensures.sound (queue_of s) h.levels.2)
            (λ d o le. c.complete.ensures.unheld d o le h.unheld) refl h.undoable
            c.complete.ensures.log);
        inside =
            (λ table h. c.complete.ensures.inside table (accounts_of c.args.store.now.accounts)
            c.args.inner.process h.1);
        loaded = λ table h. h;
        elsewhere =
            record {
              world = refl;
              living = λ q. refl;
              others = c.complete.ensures.others;
              memory = λ a beyond. refl;
            };
        memory = refl;
      });
    }

pub returns-then-not-keeps-clause-answer : goal.returns-then-not-keeps-clause-answer
returns-then-not-keeps-clause-answer g c = λ registers is.
    let s = c.args.store.now in
    outermost_answers c.args.inner.process s.ram (held c.args.locks.now) c.args.inner.level
    c.args.chain.now.levels c.args.chain.now.undo (objects_of s).things registers
    (c.complete.ensures.outermost registers is)

pub returns-then-is_record_spent-clause-comes : goal.returns-then-is_record_spent-clause-comes
returns-then-is_record_spent-clause-comes g c =
    record {
      step = (let s = c.args.store.now in
          let v = world_of_store s in
          let w = objects_of s in
          let log = c.args.chain.now.undo in
          let l = level_of s c.args.locks.now c.args.chain.now c.args.inner.process c.args.inner.level in
          let ls = outer_of s c.args.locks.now c.args.chain.now c.args.inner.process in
          let keeps = keeps_in (image_of (table_of c.args.images.now) (w.accounts.graft l.owner l.point)) in
          let spent = funds w.accounts l.owner l.point Records == 0 || length (records_of log) == 64 in
          let same : is_record_spent w.accounts l ls ≡ spent =
          ap (λ n. funds w.accounts l.owner l.point Records == 0 || n == 64)
          (record_count_is c.args.inner.process s.ram (held c.args.locks.now) (c.args.inner.level
          ∷ c.args.chain.now.levels) log w.things c.requires.placed.as_many) in
          ap came (not_kept v w l ls keeps spent (sym c.if-not-keeps.ensures) same
          c.if-is_record_spent.ensures) ∙ c.drop_innermost.ensures.step);
      kept = (record {
        placed = c.drop_innermost.ensures.kept.placed;
        inside = c.drop_innermost.ensures.kept.inside;
        loaded = c.drop_innermost.ensures.kept.loaded;
        elsewhere = c.drop_innermost.ensures.kept.elsewhere;
        memory = c.drop_innermost.ensures.kept.memory;
      });
    }

pub returns-then-is_record_spent-clause-answer : goal.returns-then-is_record_spent-clause-answer
returns-then-is_record_spent-clause-answer g c =
    λ registers is. absurd (unanswered _ _ _ _ registers tt c.drop_innermost.ensures.step is)

pub returns-clause-comes : goal.returns-clause-comes
returns-clause-comes g c =
    record {
      step = (let s = c.args.store.now in
          let v = world_of_store s in
          let w = objects_of s in
          let u = objects_of c.keep.new.store in
          let p = c.args.inner.process in
          let gs = c.args.chain.now.levels in
          let log = c.args.chain.now.undo in
          let l = level_of s c.args.locks.now c.args.chain.now p c.args.inner.level in
          let ls = outer_of s c.args.locks.now c.args.chain.now p in
          let keeps = keeps_in (image_of (table_of c.args.images.now) (w.accounts.graft l.owner l.point)) in
          let spent = funds w.accounts l.owner l.point Records == 0 || length (records_of log) == 64 in
          let same : is_record_spent w.accounts l ls ≡ spent =
          ap (λ n. funds w.accounts l.owner l.point Records == 0 || n == 64)
          (record_count_is p s.ram (held c.args.locks.now) (c.args.inner.level ∷ gs) log
          w.things c.requires.placed.as_many) in
          let state : u ≡ kept_on l.owner l.point (base_of p (length gs)) s.ram w =
          c.keep.ensures.objects ∙ ap (λ b. kept_on l.owner l.point b s.ram w)
          (c.base_of-base.ensures.value ∙ ap (base_of p) c.count.ensures.value) in
          kept_then v w u p s.ram (held c.args.locks.now) c.args.inner.level gs log c.keep.new.undo
          (segment_logged l.owner l.point (kept_bytes s.kept l.owner l.point)) keeps spent
          (sym c.if-not-keeps.ensures) same c.if-is_record_spent.ensures
          (omega (arith, c.requires.placed.as_many)) c.keep.ensures.log (record_is l.owner l.point
          s.kept c.args.inner.level.is_owner c.args.inner.level.is_point) state
          ∙ c.complete-2.ensures.step u s.ram
          ∙ pair _ _ _ _ refl (configs _ _ _ _ refl (ap (λ (m : List ℕ). levels_in p
          m (held c.complete-2.new.locks) c.complete-2.new.chain.levels
          c.complete-2.new.chain.undo u.things) (sym c.keep.ensures.memory))));
      kept = (record {
        placed = (let s = c.args.store.now in
            let u = c.keep.new.store in
            let w = objects_of s in
            let h = c.requires.placed in
            let log = c.args.chain.now.undo in
            let q = c.args.inner.level.owner in
            let pt = c.args.inner.level.point in
            let logged = segment_logged q pt (kept_bytes s.kept q pt) in
            let things : (objects_of u).things ≡ set_segment q pt
            (Some (segment_of c.base_of-base.result (λ a. slice_index s.ram a))) w.things =
            ap (λ (x : Objects). x.things) c.keep.ensures.objects in
            completed_placed s u c.args.locks.now c.complete-2.new.locks c.args.inner.process
            c.args.inner.level c.args.chain.now.levels c.complete-2.new.chain.levels log
            c.keep.new.undo c.complete-2.new.chain.undo
            h c.keep.ensures.queue c.complete-2.ensures.count
            (c.complete-2.ensures.sound (queue_of s) h.levels.2)
            (λ d o le. c.complete-2.ensures.unheld d o le h.unheld)
            (ap length c.keep.ensures.log ∙ record_length logged log)
            (more_undoable logged log c.keep.new.undo _ c.keep.ensures.log
            (c.args.inner.level.is_owner, c.args.inner.level.is_point)
            (all_kept log _ _ (kept_undoable q pt _ w.things _ things) h.undoable))
            c.complete-2.ensures.log);
        inside = (λ table h.
            let a = accounts_of c.args.store.now.accounts in
            let same : accounts_of c.keep.new.store.accounts
            ≡ charge Records c.args.inner.level.owner c.args.inner.level.point a =
            ap (λ (x : Objects). x.accounts) c.keep.ensures.objects in
            c.complete-2.ensures.inside table (accounts_of c.keep.new.store.accounts) c.args.inner.process
            (subst (λ b. AreInside table b c.args.inner.process c.args.chain.now.levels) (sym same)
            (inside_charged table Records c.args.inner.level.owner c.args.inner.level.point
            c.args.inner.process a c.args.chain.now.levels h.1)));
        loaded = (λ table h.
            let a = accounts_of c.args.store.now.accounts in
            let same : accounts_of c.keep.new.store.accounts
            ≡ charge Records c.args.inner.level.owner c.args.inner.level.point a =
            ap (λ (x : Objects). x.accounts) c.keep.ensures.objects in
            subst (ImagesAreLoaded table) (sym same) (loaded_charged table Records
            c.args.inner.level.owner c.args.inner.level.point a h));
        elsewhere =
            record {
              world = c.keep.ensures.world;
              living = λ q. ap (λ rows. lives rows q) c.keep.ensures.queue;
              others = c.complete-2.ensures.others;
              memory = λ a beyond. ap (λ (m : List ℕ). slice_index m a) c.keep.ensures.memory;
            };
        memory = c.keep.ensures.memory;
      });
    }

pub returns-clause-answer : goal.returns-clause-answer
returns-clause-answer g c = λ registers is.
    let s = c.args.store.now in
    outermost_answers c.args.inner.process s.ram (held c.args.locks.now) c.args.inner.level
    c.args.chain.now.levels c.args.chain.now.undo (objects_of s).things registers
    (c.complete-2.ensures.outermost registers is)
    ∙ ap (λ (m : List ℕ). let a : Answer = record {
      registers = registers;
      body = body_at m c.args.inner.process registers;
    } in a) (sym c.keep.ensures.memory)
