-- What the levels of a chain are once locks, memory or records changed.
use Rattle.std.proofs.Common.{◌≡◌, ◌≢◌, ℕ, suc, ◌<◌, ◌≤◌, ◌==◌, ◌&&◌, true, false, cond, nat_le}
use Rattle.std.proofs.Common.{List, [], ◌∷◌, length, arith, refl, ◌∙◌, ap}
use Rattle.std.proofs.lemmas.Bool.Decides.{nat_tests}
use Rattle.kernel_model.specs.declared.Object.{Object}
use Rattle.kernel_model.specs.declared.Held.{Held}
use Rattle.kernel_model.specs.Machine.{Machine}
use Rattle.kernel_model.specs.Objects.{Things}
use Rattle.kernel_model.specs.Locks.{LockTable, Touched, release_from, untouched}
use Rattle.kernel_model.specs.Levels.{Level, base_of}
use Rattle.kernel_model.specs.Runs.{on_segment}
use Rattle.undo_calls.specs.UndoLevels.{Logged, innermost}
use Rattle.graft_machine.specs.Cpu.{Cpu, machine_of}
use Rattle.graft_levels.specs.declared.GraftLevel.{GraftLevel}
use Rattle.graft_levels.specs.Chains.{put_back, level_in, levels_in, outer}

-- there are as many levels as the chain has
pub level_count : (p : ℕ) (ram : List ℕ) (t : LockTable) (gs : List GraftLevel)
    (log : List (List Logged)) (w : Things) → length (levels_in p ram t gs log w) ≡ length gs
level_count p ram t [] log w = refl
level_count p ram t (g ∷ gs) log w = ap suc (level_count p ram t gs (outer log) (put_back (innermost log) w))

-- two levels, and the levels outside them
pub glued : (l : Level) (m : Machine) (x : Touched) (ls ks : List Level) → l.machine ≡ m →
    l.touched ≡ x → ls ≡ ks → l ∷ ls ≡ record l { machine = m; touched = x } ∷ ks
glued l m x ls ks machine touched rest =
    ap (λ (n : Machine). record l { machine = n } ∷ ls) machine
    ∙ ap (λ (y : Touched). record l { machine = m; touched = y } ∷ ls) touched
    ∙ ap (λ k. record l { machine = m; touched = x } ∷ k) rest

-- levels are the same where what they hold and their segments are
pub levels_alike : (p : ℕ) (ram mem : List ℕ) (t u : LockTable) (gs : List GraftLevel)
    (log : List (List Logged)) (w : Things) →
    ((e : ℕ) → e < length gs → t p e ≡ u p e) →
    ((e : ℕ) (cpu : Cpu) → e < length gs → on_segment (base_of p e)
    (machine_of cpu ram) ≡ on_segment (base_of p e) (machine_of cpu mem)) →
    levels_in p ram t gs log w ≡ levels_in p mem u gs log w
levels_alike p ram mem t u [] log w holds segments = refl
levels_alike p ram mem t u (g ∷ gs) log w holds segments =
    glued (level_in p (length gs) ram t g (innermost log) (put_back (innermost log) w)) _ _ _ _
    (segments (length gs) g.machine (omega arith)) (holds (length gs) (omega arith))
    (levels_alike p ram mem t u gs (outer log) (put_back (innermost log) w)
    (λ e lt. holds e (omega arith)) (λ e cpu lt. segments e cpu (omega arith)))

-- what is let go of further inward is nothing to them
pub released_apart : (p n e : ℕ) (t : LockTable) → e < n → release_from p n t p e ≡ t p e
released_apart p n e t lt =
    let no : (p == p && nat_le n e) ≡ false = grind (arith, nat_tests) in
    ap (λ b. cond b untouched (t p e)) no

pub levels_released : (p : ℕ) (ram : List ℕ) (t : LockTable) (gs : List GraftLevel)
    (log : List (List Logged)) (w : Things) →
    levels_in p ram (release_from p (length gs) t) gs log w ≡ levels_in p ram t gs log w
levels_released p ram t gs log w =
    levels_alike p ram ram (release_from p (length gs) t) t gs log w
    (λ e lt. released_apart p (length gs) e t lt) (λ e cpu lt. refl)

-- nothing is held from that level inward
pub released_free : (p n d : ℕ) (o : Object) (t u : LockTable) → u ≡ release_from p n t → n ≤ d → u p d o ≡ Held.Free
released_free p n d o t u is le =
    let yes : (p == p && nat_le n d) ≡ true = grind (arith, nat_tests) in
    ap (λ (r : LockTable). r p d o) is ∙ ap (λ b. cond b untouched (t p d) o) yes

-- other processes hold what they held
pub released_others : (p n q d : ℕ) (t u : LockTable) → u ≡ release_from p n t → q ≢ p → u q d ≡ t q d
released_others p n q d t u is apart =
    let no : (q == p && nat_le n d) ≡ false = grind (arith, nat_tests, apart) in
    ap (λ (r : LockTable). r q d) is ∙ ap (λ b. cond b untouched (t q d)) no
