-- A level goes on with the result of an accessor.
use Rattle.std.proofs.Common.{◌≡◌, ℕ, ◌<◌, List, ◌∷◌, length, arith, refl, ◌∙◌, ap}
use Rattle.std.proofs.lemmas.Bool.Decides.{nat_tests}
use Rattle.kernel_model.specs.declared.Inverse.{Inverse}
use Rattle.kernel_model.specs.declared.Object.{Object}
use Rattle.kernel_model.specs.declared.Mode.{Mode}
use Rattle.kernel_model.specs.Machine.{Machine}
use Rattle.kernel_model.specs.Objects.{Things}
use Rattle.kernel_model.specs.Policies.{Victim}
use Rattle.kernel_model.specs.Locks.{LockTable, touch, with_touch}
use Rattle.kernel_model.specs.GraftStep.{after_access}
use Rattle.kernel_model.specs.Access.{accessed, bare_found, undo}
use Rattle.kernel_model.specs.Levels.{answered, with_machine, base_of}
use Rattle.kernel_model.specs.Runs.{on_segment}
use Rattle.graft_levels.specs.Cpu.{machine_of}
use Rattle.graft_calls.proofs.Recording.{record_more, record_outer}
use Rattle.graft_levels.specs.UndoLevels.{Logged, bare, innermost, recorded}
use Rattle.graft_levels.specs.declared.GraftLevel.{GraftLevel}
use Rattle.graft_levels.specs.Chains.{put_back, level_in, levels_in, outer}
use Rattle.graft_levels.proofs.Views.{levels_alike, glued}
use Rattle.graft_levels.proofs.Holding.{touched_here, touched_apart}

-- a level that touched an object, and the levels outside it
pub touched_levels : (p n : ℕ) (o : Object) (mode : Mode) (ram : List ℕ) (t : LockTable)
    (g : GraftLevel) (gs : List GraftLevel) (is : List Logged) (log : List (List Logged))
    (w : Things) (m : Machine) →
    n ≡ length gs →
    record (level_in p (length gs) ram (with_touch p n o mode t) g is w) { machine = m }
    ∷ levels_in p ram (with_touch p n o mode t) gs log w
    ≡ record (level_in p (length gs) ram t g is w) {
      machine = m;
      touched = touch o mode (t p (length gs));
    } ∷ levels_in p ram t gs log w
touched_levels p n o mode ram t g gs is log w m count =
    glued (record (level_in p (length gs) ram (with_touch p n o mode t) g is w) { machine = m }) _ _ _ _ refl
    (ap (λ k. with_touch p k o mode t p (length gs)) count ∙ touched_here p (length gs) o mode t)
    (levels_alike p ram ram (with_touch p n o mode t) t gs log w (λ e lt. touched_apart p n p e o
    mode t (grind (arith, nat_tests, count, lt))) (λ e cpu lt. refl))

-- the levels after an accessor
pub gone_on : (id x p n : ℕ) (o : Object) (mode : Mode) (ram : List ℕ) (t r : LockTable) (g :
    GraftLevel) (gs : List GraftLevel) (is : List Logged) (log : List (List Logged)) (w : Things) →
    let l = level_in p (length gs) ram t g is w in
    n ≡ length gs → r ≡ with_touch p n o mode t →
    o ≡ (accessed id (l.machine.regs 0) g.owner).object →
    mode ≡ (accessed id (l.machine.regs 0) g.owner).mode →
    with_machine (answered Victim x 0 l.machine) (level_in p (length gs) ram r g is w) ∷ levels_in p
    ram r gs log w ≡ after_access l l.machine id x ∷ levels_in p ram t gs log w
gone_on id x p n o mode ram t r g gs is log w count held object mode_is =
    let l = level_in p (length gs) ram t g is w in
    let m = answered Victim x 0 l.machine in
    ap (λ (y : LockTable). record (level_in p (length gs) ram y g is w) { machine = m }
    ∷ levels_in p ram y gs log w) held
    ∙ touched_levels p n o mode ram t g gs is log w m count
    ∙ ap (λ y. record l { machine = m; touched = touch y mode (t p (length gs)) } ∷ levels_in p ram t gs log w) object
    ∙ ap (λ y. record l {
      machine = m;
      touched = touch (accessed id (l.machine.regs 0) g.owner).object y (t p (length gs));
    } ∷ levels_in p ram t gs log w) mode_is

-- the levels after an accessor that made a change, which i undoes
pub recorded_on :
    (id x p n : ℕ) (o : Object) (mode : Mode) (ram mem : List ℕ) (t r : LockTable) (g : GraftLevel)
    (gs hs : List GraftLevel) (log rest : List (List Logged)) (i : Inverse) (w u : Things) →
    let l = level_in p (length gs) ram t g (innermost log) (put_back (innermost log) w) in
    ((q : ℕ) (bytes : List ℕ) (table : LockTable) (records : List (List Logged)) (things : Things) →
    let k = level_in q (length gs) bytes table g (innermost records) (put_back (innermost records) things) in
    levels_in q bytes table hs records things ≡ with_machine (answered Victim x 0 k.machine) k
    ∷ levels_in q bytes table gs (outer records) (put_back (innermost records) things)) →
    mem ≡ ram → 0 < length log → rest ≡ recorded (bare i) log → undo (bare_found i) u ≡ w →
    n ≡ length gs → r ≡ with_touch p n o mode t →
    o ≡ (accessed id (l.machine.regs 0) g.owner).object → mode ≡ (accessed id (l.machine.regs 0) g.owner).mode →
    levels_in p mem r hs rest u ≡ record (after_access l l.machine id x) {
      records =
          bare_found i ∷ l.records;
    } ∷ levels_in p ram t gs (outer log) (put_back (innermost log) w)
recorded_on id x p n o mode ram mem t r g gs hs log rest i w u view memory some more back count held object mode_is =
    let m = on_segment (base_of p (length gs)) (machine_of g.machine ram) in
    ap (λ y. levels_in p y r hs rest u) memory ∙ ap (λ y. levels_in p ram r hs y u) more
    ∙ view p ram r (recorded (bare i) log) u
    ∙ ap (λ y. with_machine (answered Victim x 0 m) (level_in p (length gs) ram r g y
    (put_back y u)) ∷ levels_in p ram r gs (outer (recorded (bare i) log)) (put_back y u))
    (record_more (bare i) log some)
    ∙ ap (λ y. with_machine (answered Victim x 0 m) (level_in p (length gs) ram r g
    (bare i ∷ innermost log) (put_back (bare i ∷ innermost log) u)) ∷ levels_in p ram r gs y
    (put_back (bare i ∷ innermost log) u)) (record_outer (bare i) log)
    ∙ ap (λ y. with_machine (answered Victim x 0 m)
    (level_in p (length gs) ram r g (bare i ∷ innermost log) (put_back (innermost log) y))
    ∷ levels_in p ram r gs (outer log) (put_back (innermost log) y)) back
    ∙ gone_on id x p n o mode ram t r g gs (bare i ∷ innermost log) (outer log)
    (put_back (innermost log) w) count held object mode_is
