-- What is asked of a running kernel is what the kernel in place has.
use Rattle.std.proofs.Common.{◌≡◌, ℕ, suc, ◌≤◌, ◌<◌, ◌==◌, nat_lt, Bool, true, false, cond, not}
use Rattle.std.proofs.Common.{List, [], ◌∷◌, map, length, refl, ap, sym, ◌∙◌, arith, Option, Some}
use Rattle.std.proofs.Common.{None}
use Rattle.std.specs.Prelude.{◌||◌, ◌&&◌, find, is_some, option_map, IfSome}
use Rattle.std.specs.List.{list_any}
use Rattle.std.proofs.lemmas.Bool.Decides.{nat_tests}
use Rattle.kernel_data.specs.declared.Mode.{Mode}
use Rattle.kernel_data.specs.declared.Note.TheVariants.{InGraft}
use Rattle.kernel_data.specs.declared.Object.{Object}
use Rattle.kernel_model.specs.Events.{in_order}
use Rattle.kernel_data.specs.declared.Held.{Held}
use Rattle.kernel_model.specs.Locks.{LockTable, Touched, conflicts, outermost_holding}
use Rattle.kernel_data.specs.Objects.{Things}
use Rattle.graft_levels.specs.UndoLevels.{Logged, innermost}
use Rattle.lock_table.specs.declared.Holds.{Holds}
use Rattle.lock_table.specs.Masks.{held}
use Rattle.lock_table.specs.Numbers.{is_in_range}
use Rattle.graft_levels.specs.declared.GraftLevel.{GraftLevel}
use Rattle.graft_levels.specs.Chains.{put_back, first_level, levels_in, outer}
use Rattle.placed_laws.specs.Placed.{bare, has_some}
use Rattle.placed_laws.specs.PlacedSteps.{is_placed_at_piece}
use Rattle.running_kernel.specs.declared.running.InFlight.{InFlight}
use Rattle.running_kernel.specs.declared.order.Waiting.{Waiting}
use Rattle.running_kernel.specs.Orders.{order_of, numbers_of, has_number}
use Rattle.running_kernel.specs.Queries.{note_in_graft}
use Rattle.running_kernel.specs.Views.{call_in_place}
use Rattle.running_kernel.proofs.ViewLemmas.{none_held}

-- who stands in the order
pub order_has : (p : ℕ) (ws : List Waiting) → in_order p (order_of ws) ≡ list_any (λ (w : Waiting). w.process == p) ws
order_has p [] = refl
order_has p (w ∷ ws) = ap (λ b. (w.process == p) || b) (order_has p ws)

pub order_numbers : (p : ℕ) (ws : List Waiting) → in_order p (order_of ws) ≡ has_number p (numbers_of ws)
order_numbers p [] = refl
order_numbers p (w ∷ ws) = ap (λ b. (w.process == p) || b) (order_numbers p ws)

-- there are levels in place where there are some in the chain
pub some_in_place : (p : ℕ) (ram : List ℕ) (t : LockTable)
    (gs : List GraftLevel) (log : List (List Logged)) (w : Things) →
    not (length gs == 0) ≡ has_some (map bare (levels_in p ram t gs log w))
some_in_place p ram t [] log w = refl
some_in_place p ram t (g ∷ gs) log w = grind (arith, nat_tests)

-- how many there are
pub many_bare : (p : ℕ) (ram : List ℕ) (t : LockTable) (gs : List GraftLevel) (log : List
    (List Logged)) (w : Things) → length (map bare (levels_in p ram t gs log w)) ≡ length gs
many_bare p ram t [] log w = refl
many_bare p ram t (g ∷ gs) log w = ap suc (many_bare p ram t gs (outer log) (put_back (innermost log) w))

-- the note of a call whose innermost level is this
pub note_of_first : (n p : ℕ) (ram : List ℕ) (t : LockTable) (g : GraftLevel) (gs : List GraftLevel)
    (log : List (List Logged)) (w : Things) → Some g ≡ first_level gs →
    Some (InGraft n g.owner g.point (length gs)) ≡ note_in_graft n (map bare (levels_in p ram t gs log w))
note_of_first n p ram t g [] log w is = grind (arith, is)
note_of_first n p ram t g (h ∷ gs) log w is =
    ap (λ (k : GraftLevel). Some (InGraft n k.owner k.point (suc (length gs)))) (same_level g h is)
    ∙ ap (λ k. Some (InGraft n h.owner h.point (suc k)))
    (sym (many_bare p ram t gs (outer log) (put_back (innermost log) w)))
  where
    same_level : (a b : GraftLevel) → Some a ≡ Some b → a ≡ b
    same_level a b e = cc

-- what isn't in its range nobody holds
none_held_there : (t : List (List Holds)) (q d : ℕ) (o : Object) → is_in_range o ≡ false → held t q d o ≡ Held.Free
none_held_there t q d o h = grind (arith, nat_tests, h)

-- where nothing is held, nothing conflicts
free_of : (f : ℕ → Touched) (o : Object) (mode : Mode) → ((d : ℕ) → f d o ≡ Held.Free) →
    outermost_holding o mode f ≡ None
free_of f o mode free = rw (free 0, free 1, free 2, free 3) refl

pub none_in_the_way : (t : List (List Holds)) (q : ℕ) (o : Object) (mode : Mode) →
    is_in_range o ≡ false → outermost_holding o mode (held t q) ≡ None
none_in_the_way t q o mode h = free_of (held t q) o mode (λ d. none_held_there t q d o h)

-- and processes that can't be hold nothing
pub nobody_in_the_way : (t : List (List Holds)) (q : ℕ) (o : Object) (mode : Mode) → 16 ≤ q →
    outermost_holding o mode (held t q) ≡ None
nobody_in_the_way t q o mode h = free_of (held t q) o mode (λ d. ap (λ f. f o) (none_held t q d h))

-- a level that is in the way is there
in_the_way : (f : ℕ → Touched) (o : Object) (mode : Mode) (d : ℕ) →
    outermost_holding o mode f ≡ Some d → conflicts (f d o) mode ≡ true
in_the_way f o mode d h = found_by (λ e. conflicts (f e o) mode) (0 ∷ 1 ∷ 2 ∷ 3 ∷ []) d h
  where
    found_by : (test : ℕ → Bool) (ns : List ℕ) (n : ℕ) → find test ns ≡ Some n → test n ≡ true
    found_by test [] n h = grind (arith, h)
    found_by test (k ∷ ns) n h = by_test (test k) refl (found_by test ns n)
      where
        same : (a b : ℕ) → Some a ≡ Some b → a ≡ b
        same a b e = cc

        by_test : (b : Bool) → test k ≡ b → (find test ns ≡ Some n → test n ≡ true) → test n ≡ true
        by_test true is further = ap test (sym (same k n (sym (ap (λ t. cond t (Some k) (find test ns)) is) ∙ h))) ∙ is
        by_test false is further = further (sym (ap (λ t. cond t (Some k) (find test ns)) is) ∙ h)

pub level_there : (t : List (List Holds)) (q many : ℕ) (o : Object) (mode : Mode) (d : ℕ) →
    ((e : ℕ) (b : Object) → many ≤ e → held t q e b ≡ Held.Free) →
    outermost_holding o mode (held t q) ≡ Some d → (b : Bool) → nat_lt d many ≡ b → d < many
level_there t q many o mode d unheld h true is = grind (arith, nat_tests, is)
level_there t q many o mode d unheld h false is =
    absurd (contrary (sym (in_the_way (held t q) o mode d h)
    ∙ ap (λ k. conflicts k mode) (unheld d o (grind (arith, nat_tests, is)))))
  where
    contrary : true ≡ conflicts Held.Free mode → ⊥
    contrary e = grind (arith, e)

-- what holds of a level, if there is one
pub level_is : {A : Type 0} (result : Option ℕ) (q : ℕ) (gs : List A) → q < 16 →
    ((d : ℕ) → result ≡ Some d → d < length gs) → IfSome result (λ d. (q < 16) × (d < length gs))
level_is None q gs small h = tt
level_is (Some d) q gs small h = (small, h d refl)

-- whether the next step is a piece
pub at_piece_is : (o : Option InFlight) (p : ℕ) (ram : List ℕ) (t : LockTable) (gs : List
    GraftLevel) (log : List (List Logged)) (w : Things) → (b : Bool) → (length gs == 0) ≡ b →
    is_placed_at_piece (option_map call_in_place o) (map bare (levels_in p ram t gs log w)) ≡ (is_some o && b)
at_piece_is None p ram t gs log w b h = refl
at_piece_is (Some f) p ram t [] log w b h = h
at_piece_is (Some f) p ram t (g ∷ gs) log w b h = grind (arith, nat_tests, h)
