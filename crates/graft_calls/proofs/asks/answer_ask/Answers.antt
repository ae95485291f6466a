use Rattle.std.proofs.Common.{◌≡◌, [], ◌∷◌, Option, Some, None, true, length, refl, ap, sym, subst, arith, ◌∙◌}
use Rattle.std.specs.Option.{is_some}
use Rattle.kernel_model.specs.Objects.{Objects, GraftValue}
use Rattle.kernel_model.specs.Levels.{new_level}
use Rattle.kernel_model.specs.Policies.{args_by, kind_of}
use Rattle.kernel_model.specs.Locks.{Touched, untouched}
use Rattle.kernel_model.specs.Sound.{ImagesAreLoaded}
use Rattle.graft_levels.specs.Masks.{held}
use Rattle.kernel_state.specs.Table.{accounts_of}
use Rattle.kernel_state.specs.Stores.{world_of_store, objects_of, queue_of}
use Rattle.graft_levels.specs.Slots.{table_of}
use Rattle.graft_levels.specs.Chains.{came, levels_in, levels_of}
use Rattle.graft_levels.specs.Calls.{AreInside}
use Rattle.graft_calls.proofs.Asking.{stands_by, asked_begins}
use Rattle.graft_levels.proofs.Conditions.{stands_loaded}
use Rattle.graft_levels.proofs.Dropping.{pair, configs}
use Rattle.graft_levels.proofs.Needing.{nothing_held, begun_placed}
use Rattle.graft_levels.proofs.Placing.{levels_placed}
use Rattle.graft_levels.proofs.Views.{level_count}
use Rattle.graft_calls.proofs.asks.answer_ask.Goals as goal

pub returns-then-is_none-clause-in_place : goal.returns-then-is_none-clause-in_place
returns-then-is_none-clause-in_place g c =
    let h = c.requires.in_place in
    record {
      placed =
          levels_placed c.args.store.now c.args.locks.now c.args.p c.args.chain.now.levels
          c.give_answer.new.levels c.args.chain.now.undo h.placed c.give_answer.ensures.count
          (c.give_answer.ensures.sound (queue_of c.args.store.now) h.placed.levels);
      inside =
          c.give_answer.ensures.inside (table_of c.args.images.now)
          (accounts_of c.args.store.now.accounts) c.args.p h.inside;
      loaded = h.loaded;
    }

pub image_of-image-requires : goal.image_of-image-requires
image_of-image-requires g c =
    let a = accounts_of c.args.store.now.accounts in
    let some : is_some (a.graft c.args.asked.process c.args.asked.point) ≡ true =
    stands_by (a.graft c.args.asked.process c.args.asked.point) c.graft.result c.graft.ensures
    c.if-is_none.ensures in
    stands_loaded (table_of c.args.images.now) a c.args.asked.process c.args.asked.point
    (a.graft c.args.asked.process c.args.asked.point) refl some c.requires.in_place.loaded

pub returns-clause-step : goal.returns-clause-step
returns-clause-step g c =
    let s = c.args.store.now in
    let v = world_of_store s in
    let w = objects_of s in
    let images = table_of c.args.images.now in
    let a = accounts_of s.accounts in
    let t = held c.args.locks.now in
    let gs = c.args.chain.now.levels in
    let ls = levels_of s c.args.locks.now c.args.chain.now c.args.p in
    let some : is_some (a.graft c.args.asked.process c.args.asked.point) ≡ true =
    stands_by (a.graft c.args.asked.process c.args.asked.point) c.graft.result c.graft.ensures
    c.if-is_none.ensures in
    let none : t c.args.p (length gs) ≡ untouched = nothing_held t c.args.p (length gs)
    (λ o. c.requires.in_place.placed.unheld (length gs) o (omega arith)) in
    ap came (asked_begins v images w c.args.p c.args.asked.process c.args.asked.point ls
    (a.graft c.args.asked.process c.args.asked.point) some)
    ∙ pair _ _ _ _ refl (configs w _ _ _ (sym c.begin_level.ensures.objects)
    (ap (λ n. new_level images w c.args.p n c.args.asked.process c.args.asked.point
    (args_by (kind_of c.args.asked.point) v w.things c.args.asked.process c.args.asked.point) []
    untouched ∷ ls) (level_count c.args.p s.ram t gs c.args.chain.now.undo w.things)
    ∙ ap (λ x. new_level images w c.args.p (length gs) c.args.asked.process c.args.asked.point
    x [] untouched ∷ ls) (sym c.args_of-args.ensures)
    ∙ ap (λ (x : Touched). new_level images w c.args.p (length gs) c.args.asked.process
    c.args.asked.point c.args_of-args.result [] x ∷ ls) (sym none)
    ∙ sym (c.begin_level.ensures.levels images t c.image_of-image.ensures)
    ∙ ap (λ (x : Objects). levels_in c.args.p c.begin_level.new.store.ram t
    c.begin_level.new.chain.levels c.begin_level.new.chain.undo x.things)
    (sym c.begin_level.ensures.objects)))

pub returns-clause-in_place : goal.returns-clause-in_place
returns-clause-in_place g c =
    let h = c.requires.in_place in
    let a = accounts_of c.args.store.now.accounts in
    let some : is_some (a.graft c.args.asked.process c.args.asked.point) ≡ true =
    stands_by (a.graft c.args.asked.process c.args.asked.point) c.graft.result c.graft.ensures
    c.if-is_none.ensures in
    let room = c.requires.room (λ (e : a.graft c.args.asked.process c.args.asked.point ≡ None). is_nothing _ e some) in
    record {
      placed =
          begun_placed c.args.store.now c.begin_level.new.store c.args.locks.now c.args.locks.now
          c.args.p c.args.chain.now.levels c.begin_level.new.chain.levels
          c.args.chain.now.undo c.begin_level.new.chain.undo h.placed room
          c.begin_level.ensures.objects c.begin_level.ensures.count c.begin_level.ensures.log
          (c.begin_level.ensures.levels_sound h.placed.levels c.requires.lives c.requires.free)
          (λ d o le. h.placed.unheld d o (omega (arith, le)));
      inside =
          subst (λ (x : Objects). AreInside (table_of c.args.images.now) x.accounts c.args.p
          c.begin_level.new.chain.levels) (sym c.begin_level.ensures.objects)
          (c.begin_level.ensures.inside (table_of c.args.images.now) c.image_of-image.ensures h.inside);
      loaded =
          subst (λ (x : Objects). ImagesAreLoaded (table_of c.args.images.now) x.accounts)
          (sym c.begin_level.ensures.objects) h.loaded;
    }
  where
    is_nothing : (x : Option GraftValue) → x ≡ None → is_some x ≡ true → ⊥
    is_nothing None e some = grind (arith, some)
    is_nothing (Some y) e some = grind (arith, e)

pub returns-clause-elsewhere : goal.returns-clause-elsewhere
returns-clause-elsewhere g c = c.begin_level.ensures.elsewhere c.args.locks.now

pub returns-then-is_none-clause-memory : goal.returns-then-is_none-clause-memory
returns-then-is_none-clause-memory g c = λ a apart. refl

pub returns-clause-memory : goal.returns-clause-memory
returns-clause-memory g c = c.begin_level.ensures.memory
