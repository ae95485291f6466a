-- What is said of a drop, and the graft call after it.
use Rattle.std.proofs.Common.{◌≡◌, ◌≢◌, ℕ, ◌<◌, ◌==◌, Bool, true, false, List, [], ◌∷◌, length}
use Rattle.std.proofs.Common.{arith, refl, sym, ◌∙◌, ap}
use Rattle.std.proofs.lemmas.Bool.Decides.{nat_tests}
use Rattle.kernel_model.specs.declared.Cause.{Cause}
use Rattle.kernel_model.specs.declared.Micro.{Micro}
use Rattle.kernel_model.specs.Objects.{Objects, Accounts, with_accounts}
use Rattle.kernel_model.specs.World.{World}
use Rattle.kernel_model.specs.Charges.{removed}
use Rattle.kernel_model.specs.Policies.{default_of}
use Rattle.kernel_model.specs.Locks.{LockTable, release_from}
use Rattle.kernel_model.specs.Levels.{Level, Config, answer_innermost, drop_innermost, drop_level, Outcome}
use Rattle.undo_calls.specs.UndoLevels.{Logged, innermost}
use Rattle.graft_levels.specs.declared.GraftLevel.{GraftLevel}
use Rattle.graft_levels.specs.Chains.{put_back, put_back_on, level_in, levels_in, outer, came}
use Rattle.graft_levels.proofs.Views.{level_count, levels_released}

-- two pairs
pub pair : {A B : Type 0} (a b : A) (c d : B) → a ≡ b → c ≡ d → ◌≡◌ {A = A × B} (a, c) (b, d)
pair {A} {B} a b c d first second =
    ap (λ x. let y : A × B = (x, c) in y) first ∙ ap (λ x. let y : A × B = (b, x) in y) second

-- two graft calls
pub configs : (w u : Objects) (ls ks : List Level) → w ≡ u → ls ≡ ks →
    ◌≡◌ {A = Config} (record { now = w; levels = ls }) (record { now = u; levels = ks })
configs w u ls ks now levels =
    ap (λ (x : Objects). let c : Config = record { now = x; levels = ls } in c) now
    ∙ ap (λ (x : List Level). let c : Config = record { now = u; levels = x } in c) levels

-- a level is dropped: u is the state then, with levels hs and their log
pub dropped :
    (v : World) (w u : Objects) (p n : ℕ) (ram mem : List ℕ) (t r : LockTable) (g : GraftLevel)
    (gs hs : List GraftLevel) (log rest : List (List Logged)) (cause : Cause) (d : ℕ × ℕ) →
    u ≡ with_accounts (removed g.owner g.point w.accounts) (put_back_on (innermost log) w) →
    d ≡ default_of v (put_back (innermost log) w.things) g.owner g.point →
    mem ≡ ram → r ≡ release_from p (length gs) t → rest ≡ outer log → n ≡ length gs →
    levels_in p mem r hs rest u.things ≡ answer_innermost g.point d.0 d.1 (levels_in p mem r gs rest u.things) →
    came (drop_innermost v w
    (level_in p (length gs) ram t g (innermost log) (put_back (innermost log) w.things))
    (levels_in p ram t gs (outer log) (put_back (innermost log) w.things)) cause)
    ≡ (Micro.Dropped n g.owner g.point cause, record { now = u; levels = levels_in p mem r hs rest u.things })
dropped v w u p n ram mem t r g gs hs log rest cause d state default memory locks left count levels =
    let kept = put_back (innermost log) w.things in
    let ls = levels_in p ram t gs (outer log) kept in
    let outside : levels_in p mem r gs rest u.things ≡ ls =
    ap (λ m. levels_in p m r gs rest u.things) memory ∙ ap (λ x. levels_in p ram x gs rest u.things) locks
    ∙ ap (λ x. levels_in p ram (release_from p (length gs) t) gs x u.things) left
    ∙ ap (λ (x : Objects). levels_in p ram (release_from p (length gs) t) gs (outer log) x.things) state
    ∙ levels_released p ram t gs (outer log) kept in
    pair _ _ _ _ (ap (λ k. Micro.Dropped k g.owner g.point cause) (level_count p ram t gs (outer log) kept ∙ sym count))
    (configs _ _ _ _ (sym state)
    (ap (λ (e : ℕ × ℕ). answer_innermost g.point e.0 e.1 ls) (sym default)
    ∙ ap (answer_innermost g.point d.0 d.1) (sym outside) ∙ sym levels))

-- a graft is taken out once records were undone
pub removed_after : (q pt : ℕ) (is : List Logged) (w one : Objects) (a : Accounts) →
    one ≡ put_back_on is w → a ≡ removed q pt one.accounts →
    with_accounts a one ≡ with_accounts (removed q pt w.accounts) (put_back_on is w)
removed_after q pt is w one a undone is_removed =
    ap (λ x. with_accounts x one) is_removed
    ∙ ap (λ (x : Objects). with_accounts (removed q pt x.accounts) x) undone

-- the drop of a level goes by accounts and levels alone
chosen : (b : Bool) (v : World) (w u : Objects) (l : Level) (ls : List Level) (d : ℕ)
    (cause : Cause) → w.accounts ≡ u.accounts →
    (b ≡ false → drop_level v w ls d cause ≡ drop_level v u ls d cause) →
    elim b as (λ _. Outcome) [ true ↦ drop_innermost v w l ls cause | false ↦ drop_level v w ls d cause ]
    ≡ elim b as (λ _. Outcome) [ true ↦ drop_innermost v u l ls cause | false ↦ drop_level v u ls d cause ]
chosen true v w u l ls d cause same rest =
    ap (λ a. drop_innermost v (record { accounts = a; things = w.things }) l ls cause) same
chosen false v w u l ls d cause same rest = rest refl

same_drop : (v : World) (w u : Objects) (ls : List Level) (d : ℕ) (cause : Cause) →
    w.accounts ≡ u.accounts → d < length ls → drop_level v w ls d cause ≡ drop_level v u ls d cause
same_drop v w u [] d cause same lt = absurd (omega arith)
same_drop v w u (l ∷ ls) d cause same lt =
    chosen (length ls == d) v w u l ls d cause same
    (λ no. same_drop v w u ls d cause same (grind (arith, nat_tests, lt, no)))

-- a level inside the one that is dropped ends: the drop goes on with those that are left
pub dropped_further :
    (v next : World) (w one : Objects) (p d n : ℕ) (ram mem : List ℕ) (t r : LockTable)
    (g : GraftLevel) (gs hs : List GraftLevel) (log rest : List (List Logged)) (cause : Cause) →
    next ≡ v → hs ≡ g ∷ gs → n ≡ length gs → n ≢ d → d < length hs →
    one ≡ put_back_on (innermost log) w → mem ≡ ram → r ≡ release_from p n t →
    rest ≡ outer log →
    drop_level v w (levels_in p ram t hs log w.things) d cause
    ≡ drop_level next one (levels_in p mem r gs rest one.things) d cause
dropped_further v next w one p d n ram mem t r g gs hs log rest cause world all count other within
    state memory locks left =
    let kept = put_back (innermost log) w.things in
    let ls = levels_in p ram t gs (outer log) kept in
    let many : length ls ≡ length gs = level_count p ram t gs (outer log) kept in
    let no : (length ls == d) ≡ false = grind (arith, nat_tests, many, count, other) in
    let inner : d < length ls = let e = ap length all in grind (arith, many, count, other, within, e) in
    let l = level_in p (length gs) ram t g (innermost log) kept in
    let outside : levels_in p mem r gs rest one.things ≡ ls =
    ap (λ m. levels_in p m r gs rest one.things) memory ∙ ap (λ x. levels_in p ram x gs rest
    one.things) (locks ∙ ap (λ k. release_from p k t) count)
    ∙ ap (λ x. levels_in p ram (release_from p (length gs) t) gs x one.things) left
    ∙ ap (λ (x : Objects). levels_in p ram (release_from p (length gs) t) gs (outer log) x.things) state
    ∙ levels_released p ram t gs (outer log) kept in
    ap (λ x. drop_level v w (levels_in p ram t x log w.things) d cause) all
    ∙ ap (λ b. elim b as (λ _. Outcome) [ true ↦ drop_innermost v w l ls cause | false ↦ drop_level v w ls d cause ]) no
    ∙ same_drop v w one ls d cause (ap (λ (x : Objects). x.accounts) (sym state)) inner
    ∙ ap (λ ks. drop_level v one ks d cause) (sym outside)
    ∙ ap (λ x. drop_level x one (levels_in p mem r gs rest one.things) d cause) (sym world)

-- it is the innermost one that is dropped
pub dropped_here : (v : World) (w : Objects) (p d n : ℕ) (ram : List ℕ) (t : LockTable)
    (g : GraftLevel) (gs hs : List GraftLevel) (log : List (List Logged)) (cause : Cause) →
    hs ≡ g ∷ gs → n ≡ length gs → n ≡ d →
    drop_level v w (levels_in p ram t hs log w.things) d cause
    ≡ drop_innermost v w (level_in p (length gs) ram t g (innermost log) (put_back (innermost log)
    w.things)) (levels_in p ram t gs (outer log) (put_back (innermost log) w.things)) cause
dropped_here v w p d n ram t g gs hs log cause all count this =
    let kept = put_back (innermost log) w.things in
    let ls = levels_in p ram t gs (outer log) kept in
    let many : length ls ≡ length gs = level_count p ram t gs (outer log) kept in
    let yes : (length ls == d) ≡ true = grind (arith, nat_tests, many, count, this) in
    let l = level_in p (length gs) ram t g (innermost log) kept in
    ap (λ x. drop_level v w (levels_in p ram t x log w.things) d cause) all
    ∙ ap (λ b. elim b as (λ _. Outcome) [
      | true ↦ drop_innermost v w l ls cause
      | false ↦ drop_level v w ls d cause
    ]) yes
