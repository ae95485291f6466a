-- An ask that is refused, or answered.
use Rattle.std.specs.Option.{is_some}
use Rattle.std.proofs.Common.{◌≡◌, ℕ, suc, ◌==◌, ◌&&◌, ◌||◌, Bool, true, false, cond, List}
use Rattle.std.proofs.Common.{[], ◌∷◌, Option, Some, None, length, arith, refl, sym, ◌∙◌, ap}
use Rattle.std.proofs.Common.{option_map}
use Rattle.kernel_state.specs.declared.GraftRow.{GraftRow}
use Rattle.kernel_state.specs.Table.{row_of}
use Rattle.std.proofs.lemmas.Bool.Decides.{nat_tests}
use Rattle.kernel_model.specs.declared.Need.{Need}
use Rattle.kernel_model.specs.declared.Mode.{Mode}
use Rattle.kernel_model.specs.declared.Object.{Object}
use Rattle.kernel_model.specs.declared.Cause.{Cause}
use Rattle.kernel_model.specs.declared.Cause.TheVariants.{BadArgument, Reentered, TooDeep}
use Rattle.kernel_model.specs.Access.{asked_objects, asked_graft}
use Rattle.kernel_model.specs.Objects.{Objects, Things, GraftValue}
use Rattle.kernel_model.specs.World.{World, ImageTable}
use Rattle.kernel_model.specs.Policies.{kind_of, args_by}
use Rattle.kernel_model.specs.Locks.{LockTable, touch_all, with_touch, touch, untouched}
use Rattle.kernel_model.specs.Levels.{Level, with_touched, touch_outermost, goes_on, new_level}
use Rattle.kernel_model.specs.GraftStep.{ask_refusal, is_vain_ask, is_running, after_ask, ask_answered}
use Rattle.graft_levels.specs.UndoLevels.{Logged, innermost}
use Rattle.graft_levels.specs.declared.GraftLevel.{GraftLevel}
use Rattle.graft_levels.specs.Chains.{put_back, level_in, levels_in, outer, is_running_in, came}
use Rattle.graft_levels.specs.Calls.{needs_touched}
use Rattle.graft_levels.proofs.Holding.{touched_here, touched_apart}
use Rattle.graft_levels.proofs.Needing.{needs_here, needs_apart}
use Rattle.graft_levels.proofs.Views.{level_count, levels_alike, glued}

-- ---- refusals

running_is : (p : ℕ) (ram : List ℕ) (t : LockTable) (gs : List GraftLevel)
    (log : List (List Logged)) (w : Things) (q pt : ℕ) →
    is_running (levels_in p ram t gs log w) q pt ≡ is_running_in gs q pt
running_is p ram t [] log w q pt = refl
running_is p ram t (g ∷ gs) log w q pt =
    ap (λ b. (g.owner == q && g.point == pt) || b)
    (running_is p ram t gs (outer log) (put_back (innermost log) w) q pt)

-- whether an ask is refused, by what the code looks at
pub refused_is : (s : Objects) (q pt id p : ℕ) (ram : List ℕ) (t : LockTable) (g : GraftLevel)
    (gs : List GraftLevel) (log : List (List Logged)) (w : Things) (vain running deep : Bool) →
    vain ≡ is_vain_ask (kind_of pt) s.things q pt → running ≡ is_running_in (g ∷ gs) q pt →
    deep ≡ (is_some (s.accounts.graft q pt) && length gs == 3) →
    cond vain (Some (BadArgument id)) (cond running (Some Reentered)
    (cond deep (Some TooDeep) None)) ≡ ask_refusal s q pt id (levels_in p ram t (g ∷ gs) log w)
refused_is s q pt id p ram t g gs log w vain running deep is_vain is_in is_deep =
    let ls = levels_in p ram t (g ∷ gs) log w in
    let count : (length gs == 3) ≡ (length ls == 4) = let many =
    level_count p ram t (g ∷ gs) log w in
    grind (arith, nat_tests, many) in
    ap (λ b. cond b (Some (BadArgument id)) (cond running (Some Reentered) (cond deep (Some TooDeep) None))) is_vain
    ∙ ap (λ b. cond (is_vain_ask (kind_of pt) s.things q pt) (Some (BadArgument id))
    (cond b (Some Reentered) (cond deep (Some TooDeep) None))) (is_in
    ∙ sym (running_is p ram t (g ∷ gs) log w q pt))
    ∙ ap (λ b. cond (is_vain_ask (kind_of pt) s.things q pt) (Some (BadArgument id))
    (cond (is_running ls q pt) (Some Reentered) (cond b (Some TooDeep) None)))
    (is_deep ∙ ap (λ b. is_some (s.accounts.graft q pt) && b) count)

-- ---- touches

needs_levels : (p : ℕ) (ram : List ℕ) (t : LockTable) (ns : List Need) (g : GraftLevel)
    (gs : List GraftLevel) (log : List (List Logged)) (w : Things) →
    levels_in p ram (needs_touched p (length gs) ns t) (g ∷ gs) log w
    ≡ with_touched ns (level_in p (length gs) ram t g (innermost log) (put_back (innermost log) w))
    ∷ levels_in p ram t gs (outer log) (put_back (innermost log) w)
needs_levels p ram t ns g gs log w =
    glued (level_in p (length gs) ram (needs_touched p (length gs) ns t) g (innermost log)
    (put_back (innermost log) w)) _ (touch_all ns (t p (length gs))) _ _ refl
    (needs_here p (length gs) ns t)
    (levels_alike p ram ram (needs_touched p (length gs) ns t) t gs (outer log)
    (put_back (innermost log) w) (λ e lt. needs_apart p (length gs) p e ns t
    (grind (arith, nat_tests, lt))) (λ e cpu lt. refl))

outermost_levels : (p : ℕ) (ram : List ℕ) (t : LockTable) (o : Object) (g : GraftLevel)
    (gs : List GraftLevel) (log : List (List Logged)) (w : Things) →
    levels_in p ram (with_touch p 0 o Mode.Exclusive t) (g ∷ gs) log w
    ≡ touch_outermost o (levels_in p ram t (g ∷ gs) log w)
outermost_levels p ram t o g [] log w =
    let l = level_in p 0 ram (with_touch p 0 o Mode.Exclusive t) g (innermost log) (put_back (innermost log) w) in
    glued l _ (touch o Mode.Exclusive (t p 0)) _ _ refl (touched_here p 0 o Mode.Exclusive t) refl
outermost_levels p ram t o g (k ∷ ks) log w =
    let l = level_in p (suc (length ks)) ram (with_touch p 0 o Mode.Exclusive t) g (innermost log)
    (put_back (innermost log) w) in
    glued l _ (t p (suc (length ks))) _ _ refl
    (touched_apart p 0 p (suc (length ks)) o Mode.Exclusive t (grind (arith, nat_tests)))
    (outermost_levels p ram t o k ks (outer log) (put_back (innermost log) w))

-- the levels once an ask touched what it needs
pub asked_levels : (id r0 p n : ℕ) (ram : List ℕ) (t r : LockTable) (g : GraftLevel) (gs hs : List
    GraftLevel) (log : List (List Logged)) (w : Things) → hs ≡ g ∷ gs → n ≡ length gs →
    r ≡ with_touch p 0 (asked_graft id r0 g.owner).object Mode.Exclusive
    (needs_touched p n (asked_objects id r0 g.owner) t) →
    levels_in p ram r hs log w
    ≡ touch_outermost (asked_graft id r0 g.owner).object
    (with_touched (asked_objects id r0 g.owner)
    (level_in p (length gs) ram t g (innermost log) (put_back (innermost log) w)) ∷ levels_in p
    ram t gs (outer log) (put_back (innermost log) w))
asked_levels id r0 p n ram t r g gs hs log w all count held =
    let o = (asked_graft id r0 g.owner).object in
    let ns = asked_objects id r0 g.owner in
    ap (λ xs. levels_in p ram r xs log w) all
    ∙ ap (λ x. levels_in p ram x (g ∷ gs) log w) (held
    ∙ ap (λ k. with_touch p 0 o Mode.Exclusive (needs_touched p k ns t)) count)
    ∙ outermost_levels p ram (needs_touched p (length gs) ns t) o g gs log w
    ∙ ap (touch_outermost o) (needs_levels p ram t ns g gs log w)

-- where they touch nothing
pub asked_apart : (id r0 q p n c d : ℕ) (t r : LockTable) → r ≡ with_touch p 0
    (asked_graft id r0 q).object Mode.Exclusive (needs_touched p n (asked_objects id r0 q) t) →
    (c == p && d == 0) ≡ false → (c == p && d == n) ≡ false → r c d ≡ t c d
asked_apart id r0 q p n c d t r held first second =
    ap (λ (x : LockTable). x c d) held ∙ touched_apart p 0 c d (asked_graft id r0 q).object
    Mode.Exclusive (needs_touched p n (asked_objects id r0 q) t) first
    ∙ needs_apart p n c d (asked_objects id r0 q) t second

-- ---- answers

-- a graft that has a row stands
pub stands_by : (x : Option GraftValue) (r : Option GraftRow) → r ≡ option_map row_of x →
    is_some r ≡ true → is_some x ≡ true
stands_by None r is none = absurd (grind (arith, is, none))
stands_by (Some g) r is none = refl

-- where a graft stands a level begins
pub asked_begins : (v : World) (images : ImageTable) (w : Objects) (p q pt : ℕ) (ls : List Level)
    (x : Option GraftValue) → is_some x ≡ true →
    ask_answered v images w p q pt ls x ≡ goes_on w (new_level images w p (length ls) q pt
    (args_by (kind_of pt) v w.things q pt) [] untouched ∷ ls)
asked_begins v images w p q pt ls None some = absurd (cc)
asked_begins v images w p q pt ls (Some g) some = refl

-- an ask that isn't refused
pub asked_on : (v : World) (images : ImageTable) (w : Objects) (p : ℕ) (l : Level) (ls : List Level)
    (id pt : ℕ) (refusal : Option Cause) → refusal ≡ None →
    came (after_ask v images w p l ls l.machine id pt refusal)
    ≡ came (ask_answered v images w p l.owner pt (touch_outermost (asked_graft id (l.machine.regs 0)
    l.owner).object (with_touched (asked_objects id (l.machine.regs 0) l.owner) l ∷ ls))
    (w.accounts.graft l.owner pt))
asked_on v images w p l ls id pt refusal is = ap (λ r. came (after_ask v images w p l ls l.machine id pt r)) is
