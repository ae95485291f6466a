-- Which numbers processes have in a sound store.
use Rattle.std.specs.Prelude.{◌≡◌, ℕ, zero, suc, ◌+◌, ◌<◌, Bool, true, false, cond, ◌==◌, nat_lt}
use Rattle.std.specs.Prelude.{List, [], ◌∷◌, Option, Some, None}
use Rattle.std.specs.List.{AllByRecursion}
use Rattle.std.proofs.Common.{arith, refl, subst}
use Rattle.std.proofs.lemmas.Bool.{or_left, or_right, eq-eqb}
use Rattle.kernel_model.specs.declared.QueueRow.{QueueRow}
use Rattle.kernel_model.specs.World.{World}
use Rattle.kernel_model.specs.Objects.{Objects, PolValue, FrameValue}
use Rattle.kernel_model.specs.Policies.{lives, least, process_in, next_process, turn_key, or_zero}
use Rattle.kernel_model.specs.Needs.{free_process, owner_asked}
use Rattle.kernel_model.specs.Sound.{IsSoundStore}

-- a process that lives, or the next
free_step : (alive : Bool) (o : Option ℕ) (p m c : ℕ) → (o ≡ Some c → c < m) → p < m →
    elim alive as (λ _. Option ℕ) [ true ↦ o | false ↦ Some p ] ≡ Some c → c < m
free_step true o p m c k l e = k e
free_step false o p m c k l e = let same : p ≡ c = cc in omega arith

-- the number for a new process is one of those that were looked at
pub free_process_below : (queue : List QueueRow) (n p c : ℕ) → free_process queue n p ≡ Some c →
    c < p + n
free_process_below queue zero p c e = cc
free_process_below queue (suc n) p c e =
    free_step (lives queue p) (free_process queue n (suc p)) p (p + suc n) c
    (λ rest. let l = free_process_below queue n (suc p) c rest in omega (arith, l)) (omega arith) e

-- what holds of two holds of either
either_holds : {A : Type 0} (P : A → Type 0) (test : Bool) (x y z : A) → P x → P y →
    cond test (Some x) (Some y) ≡ Some z → P z
either_holds P true x y z h k e = let same : x ≡ z = cc in subst P same h
either_holds P false x y z h k e = let same : y ≡ z = cc in subst P same k

-- what holds of the first, and of the one of least key among the rest
least_step : {A : Type 0} (P : A → Type 0) (key : A → ℕ) (x z : A) (o : Option A) →
    ((y : A) → o ≡ Some y → P y) → P x →
    elim o as (λ _. Option A) [
      | None ↦ Some x
      | Some y ↦ cond (nat_lt (key y) (key x)) (Some y) (Some x)
    ] ≡ Some z → P z
least_step P key x z None k h e = let same : x ≡ z = cc in subst P same h
least_step P key x z (Some y) k h e = either_holds P (nat_lt (key y) (key x)) y x z (k y refl) h e

-- what holds of each holds of the one of least key
pub least_holds : {A : Type 0} (P : A → Type 0) (key : A → ℕ) (xs : List A) (z : A) → AllByRecursion P xs →
    least key xs ≡ Some z → P z
least_holds P key [] z each e = cc
least_holds P key (x ∷ xs) z each e =
    least_step P key x z (least key xs) (λ y h. least_holds P key xs y each.1 h) each.0 e

-- each row is of a process below 16, if those that live are
pub rows_below : (rows : List QueueRow) → ((q : ℕ) → lives rows q ≡ true → q < 16) →
    AllByRecursion (λ (r : QueueRow). r.process < 16) rows
rows_below [] h = tt
rows_below (r ∷ rs) h = (
  h r.process (or_left (r.process == r.process) (lives rs r.process)
      (eq-eqb r.process r.process refl)),
  rows_below rs (λ q l. h q (or_right (r.process == q) (lives rs q) l)),
)

-- the process of a row, if there is one
process_below : (o : Option QueueRow) (c : ℕ) → ((r : QueueRow) → o ≡ Some r → r.process < 16) →
    process_in o ≡ Some c → c < 16
process_below None c k e = cc
process_below (Some r) c k e = let same : r.process ≡ c = cc in let l = k r refl in omega arith

-- the candidate for the processor
pub next_below : (v : World) (s : Objects) (pol : PolValue) (c : ℕ) → IsSoundStore v s →
    next_process pol s.things.queue ≡ Some c → c < 16
next_below v s pol c sound e =
    process_below (least (turn_key pol) s.things.queue) c
    (λ r h. least_holds (λ (x : QueueRow). x.process < 16) (turn_key pol) s.things.queue r
    (rows_below s.things.queue sound.numbers) h) e

-- the owner of a frame, or 0
owner_step : (x : Option FrameValue) → ((y : FrameValue) → x ≡ Some y → y.owner < 16) →
    or_zero (elim x as (λ _. Option ℕ) [ None ↦ None | Some y ↦ Some y.owner ]) < 16
owner_step None k = omega arith
owner_step (Some y) k = k y refl

-- the owner of a candidate for eviction
pub owner_below : (v : World) (s : Objects) (f : ℕ) → IsSoundStore v s →
    owner_asked s.things.cache f < 16
owner_below v s f sound =
    owner_step (s.things.cache.frame f) (λ y e. sound.numbers y.owner (sound.frames f y e).owner)
