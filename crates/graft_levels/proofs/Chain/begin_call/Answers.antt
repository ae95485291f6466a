use Rattle.std.proofs.Common.{◌≡◌, [], ◌∷◌, List, length, ap, sym, subst, refl, arith, ◌∙◌}
use Rattle.std.proofs.lemmas.Bool.Decides.{nat_tests}
use Rattle.kernel_model.specs.Locks.{LockTable, Touched, touch_all, untouched}
use Rattle.kernel_model.specs.Levels.{Level, new_level}
use Rattle.kernel_model.specs.Objects.{Objects}
use Rattle.lock_table.specs.Masks.{held}
use Rattle.kernel_state.specs.Table.{accounts_of}
use Rattle.kernel_state.specs.Stores.{objects_of}
use Rattle.graft_loader.specs.Slots.{table_of}
use Rattle.graft_levels.specs.declared.GraftLevel.{GraftLevel}
use Rattle.graft_levels.specs.Chains.{levels_in, is_running_in}
use Rattle.graft_levels.specs.Calls.{AreInside}
use Rattle.kernel_model.specs.Sound.{ImagesAreLoaded}
use Rattle.graft_levels.proofs.Conditions.{stands_loaded}
use Rattle.graft_levels.proofs.Dropping.{configs}
use Rattle.graft_levels.proofs.Needing.{needs_here, needs_apart, nothing_held, begun_placed, locks_elsewhere}
use Rattle.graft_levels.proofs.Chain.begin_call.Goals as goal

pub returns-clause-value : goal.returns-clause-value
returns-clause-value g c =
    let s = c.args.store.now in
    let w = objects_of s in
    let images = table_of c.args.images.now in
    let q = c.args.ask.at.now.installer in
    let pt = c.args.ask.at.now.point in
    let gs = c.args.self.now.levels in
    let r = held c.touch_needs.new.locks in
    let none : held c.args.locks.now c.args.p 0 ≡ untouched =
    nothing_held (held c.args.locks.now) c.args.p 0
    (λ o. c.requires.placed.unheld 0 o (omega (arith, ap length c.requires.none))) in
    let touched : r c.args.p 0 ≡ touch_all c.args.ask.needs.now untouched =
    ap (λ (x : LockTable). x c.args.p 0) c.touch_needs.ensures
    ∙ needs_here c.args.p 0 c.args.ask.needs.now (held c.args.locks.now)
    ∙ ap (touch_all c.args.ask.needs.now) none in
    configs _ w _ _ c.begin_level.ensures.objects
    (ap (λ (x : Objects). levels_in c.args.p c.begin_level.new.store.ram r
    c.begin_level.new.chain.levels c.begin_level.new.chain.undo x.things)
    c.begin_level.ensures.objects
    ∙ c.begin_level.ensures.levels images r c.image_of-image.ensures
    ∙ ap (λ (x : List GraftLevel). new_level images w c.args.p (length x) q pt
    c.args.ask.at.now.args c.args.ask.feed.now (r c.args.p (length x)) ∷ levels_in c.args.p
    s.ram r x c.args.self.now.undo w.things) c.requires.none
    ∙ ap (λ (x : Touched). let ls : List Level = new_level images w c.args.p 0 q pt
    c.args.ask.at.now.args c.args.ask.feed.now x ∷ [] in ls) touched)

pub returns-clause-in_place : goal.returns-clause-in_place
returns-clause-in_place g c =
    let s = c.args.store.now in
    let few = ap length c.requires.none in
    let q = c.args.ask.at.now.installer in
    let pt = c.args.ask.at.now.point in
    record {
      placed =
          begun_placed s c.begin_level.new.store c.args.locks.now c.touch_needs.new.locks c.args.p
          c.args.self.now.levels
          c.begin_level.new.chain.levels c.args.self.now.undo c.begin_level.new.chain.undo
          c.requires.placed (omega (arith, few)) c.begin_level.ensures.objects
          c.begin_level.ensures.count
          c.begin_level.ensures.log
          (c.begin_level.ensures.levels_sound c.requires.placed.levels c.requires.lives
          (ap (λ (x : List GraftLevel). is_running_in x q pt) c.requires.none))
          (λ d o le. ap (λ (x : LockTable). x c.args.p d o) c.touch_needs.ensures
          ∙ ap (λ (x : Touched). x o) (needs_apart c.args.p 0 c.args.p d c.args.ask.needs.now
          (held c.args.locks.now) (grind (arith, nat_tests, le)))
          ∙ c.requires.placed.unheld d o (omega (arith, few, le)));
      loaded =
          subst (λ (x : Objects). ImagesAreLoaded (table_of c.args.images.now) x.accounts)
          (sym c.begin_level.ensures.objects) c.requires.loaded;
      inside =
          subst (λ (x : Objects). AreInside (table_of c.args.images.now) x.accounts c.args.p
          c.begin_level.new.chain.levels) (sym c.begin_level.ensures.objects)
          (c.begin_level.ensures.inside (table_of c.args.images.now) c.image_of-image.ensures
          (subst (λ (x : List GraftLevel). AreInside (table_of c.args.images.now)
          (accounts_of s.accounts) c.args.p x) (sym c.requires.none) tt));
    }

pub returns-clause-elsewhere : goal.returns-clause-elsewhere
returns-clause-elsewhere g c =
    locks_elsewhere c.args.store.now c.begin_level.new.store c.args.locks.now
    c.touch_needs.new.locks c.args.p (c.begin_level.ensures.elsewhere c.args.locks.now)
    (λ q d apart. ap (λ (x : LockTable). x q d) c.touch_needs.ensures ∙ needs_apart c.args.p 0 q d
    c.args.ask.needs.now (held c.args.locks.now) (grind (arith, nat_tests, apart)))

pub image_of-image-requires : goal.image_of-image-requires
image_of-image-requires g c =
    stands_loaded (table_of c.args.images.now) (accounts_of c.args.store.now.accounts)
    c.args.ask.at.now.installer c.args.ask.at.now.point _ refl c.requires.stands
    c.requires.loaded
