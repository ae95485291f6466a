-- Instructions of a call, one after the other.
use Rattle.std.proofs.Common.{append_assoc, ◌≡◌, ℕ, zero, suc, ◌+◌, ◌-◌, ◌≤◌, ◌<◌, ◌&&◌, Bool}
use Rattle.std.proofs.Common.{true, false, cond, not, nat_lt, List, [], ◌++◌, Option, Some, None}
use Rattle.std.proofs.Common.{arith, refl, ap, sym, subst, ◌∙◌}
use Rattle.std.specs.Prelude.{is_some, option_map}
use Rattle.running_kernel.specs.declared.order.Blocking.{Blocking}
use Rattle.running_kernel.specs.Orders.{blocker_of}
use Rattle.std.proofs.lemmas.Bool.Decides.{nat_tests}
use Rattle.kernel_model.specs.declared.Note.{Note}
use Rattle.kernel_model.specs.declared.Note.TheVariants.{Ran}
use Rattle.kernel_model.specs.World.{Blocks}
use Rattle.kernel_model.specs.Meaning.{Meaning}
use Rattle.kernel_model.specs.Kernel.{Blocker}
use Rattle.kernel_model.specs.Events.{in_order}
use Rattle.kernel_model.specs.Sound.{HasWholeBlocks}
use Rattle.call_pieces.specs.Joined.{made_none, made_joined}
use Rattle.call_pieces.specs.Disks.{DiskSeen}
use Rattle.placed_laws.specs.Placed.{Placed, PlacedCall, PlacedRun, has_some, placed_blocker}
use Rattle.placed_laws.specs.Stretch.{IsStretched, Stretched, Stretches}
use Rattle.placed_laws.specs.PlacedSteps.{placed_joins, placed_noted, placed_step}
use Rattle.placed_laws.specs.PlacedEvents.{placed_settled, placed_steps}
use Rattle.kernel_steps.specs.Composing.{faults_joined}
use Rattle.kernel_steps.specs.Faults.{fault_notes}
use Rattle.kernel_steps.specs.Moments.{kernel_moment}
use Rattle.kernel_core.specs.EventParts.{steps_left, steps_said, taken_up, takes_up, HasReached}
use Rattle.kernel_core.specs.EventParts.{Leads, RefinesFromRest, RefinesToRest, Rests}
use Rattle.kernel_steps.specs.Refines.{Refines, RunMatches}
use Rattle.running_kernel.specs.Views.{run_of}
use Rattle.kernel_steps.specs.Composing.{run_is}

-- ---- what is left of a change

-- at the beginning all is left
pub come_first : (m : Meaning) (f : PlacedRun → PlacedRun) (x : Placed) (kept : List Note)
    (d : DiskSeen) → HasReached m f f (kernel_moment x kept d) (kernel_moment x kept d)
come_first m f x kept d =
    record {
      io = [];
      made = made_none d;
      now = λ blocks notes rest. run_of x blocks notes rest;
      came = λ blocks notes rest s tells k. (record { placed = refl; notes = k; blocks = tells; io = refl }, s);
      goes = λ blocks notes rest s tells k. refl;
      faulted = omega arith;
    }

-- what is left goes on with a part of it
pub come_on : (m : Meaning) (f left later g : PlacedRun → PlacedRun) (x y z : Placed) (a b c : List
    Note) (d e l : DiskSeen) → HasReached m f left (kernel_moment x a d) (kernel_moment y b e) →
    RefinesToRest m g (kernel_moment y b e) (kernel_moment z c l) →
    ((blocks : Blocks) (notes : List Note) (io : List Bool) →
    left (run_of y blocks notes io) ≡ later (g (run_of y blocks notes io))) →
    HasReached m f later (kernel_moment x a d) (kernel_moment z c l)
come_on m f left later g x y z a b c d e l h part same =
    let refines = part.refines in
    record {
      io = h.io ++ refines.io;
      made = made_joined d e l h.io refines.io h.made refines.made;
      now = λ blocks notes rest. g (h.now blocks notes (refines.io ++ rest));
      came = λ blocks notes rest s tells k.
          let one = h.came blocks notes (refines.io ++ rest) s tells k in
          let r = h.now blocks notes (refines.io ++ rest) in
          let is = run_is r y b e.known (refines.io ++ rest) one.0 in (
            subst (λ q. RunMatches (g q) z c l.known rest) (sym is)
                (refines.goes r.blocks r.notes rest one.1 one.0.blocks one.0.notes),
            subst (λ q. Rests m z (g q).blocks) (sym is)
                (part.rests r.blocks r.notes rest one.1 one.0.blocks one.0.notes),
          );
      goes = λ blocks notes rest s tells k.
          let one = h.came blocks notes (refines.io ++ rest) s tells k in
          let r = h.now blocks notes (refines.io ++ rest) in
          let is = run_is r y b e.known (refines.io ++ rest) one.0 in
          ap (λ io. f (run_of x blocks notes io)) (append_assoc h.io refines.io rest)
          ∙ h.goes blocks notes (refines.io ++ rest) s tells k
          ∙ ap left is ∙ same r.blocks r.notes (refines.io ++ rest) ∙ ap (λ q. later (g q)) (sym is);
      faulted = faults_joined (fault_notes a) (fault_notes b) (fault_notes c) h.io refines.io h.faulted refines.faulted;
    }

-- ---- a stretch

-- what is left goes on behind a stretch
pub come_far : (m : Meaning) (number p d left taken : ℕ) (f : PlacedRun → PlacedRun)
    (x y z : Placed) (a b : List Note) (k e : DiskSeen) → HasReached m f (steps_said m number p
    (d + left) taken) (kernel_moment x a k) (kernel_moment y b e) → Leads m p d y z →
    HasReached m f (steps_said m number p left (taken + d)) (kernel_moment x a k) (kernel_moment z b e)
come_far m number p d left taken f x y z a b k e h leads =
    record {
      io = h.io;
      made = h.made;
      now = λ blocks notes rest. record (h.now blocks notes rest) { placed = z };
      came = λ blocks notes rest s tells kept.
          let one = h.came blocks notes rest s tells kept in (
            record { placed = refl; notes = one.0.notes; blocks = one.0.blocks; io = one.0.io },
            leads.rests (h.now blocks notes rest).blocks one.1,
          );
      goes = λ blocks notes rest s tells kept.
          let one = h.came blocks notes rest s tells kept in
          let r = h.now blocks notes rest in
          h.goes blocks notes rest s tells kept
          ∙ ap (steps_said m number p (d + left) taken) (run_is r y b e.known rest one.0)
          ∙ ap (λ (q : ℕ × PlacedRun). placed_noted (Ran number q.0) q.1)
          (leads.steps left taken r.blocks r.notes rest one.1)
          ∙ ap (λ io. steps_said m number p left (taken + d) (run_of z r.blocks r.notes io)) (sym one.0.io);
      faulted = h.faulted;
    }

-- so it does with n in all, of which so many were taken before
pub come_stretched : (m : Meaning) (number p n d taken : ℕ) (going : Bool) (f : PlacedRun →
    PlacedRun) (x y z : Placed) (a b : List Note) (k e : DiskSeen) → going ≡ true → taken < n →
    d ≤ n - taken →
    HasReached m f (steps_left m number p (n - taken) taken going) (kernel_moment x a k)
    (kernel_moment y b e) → Leads m p d y z → HasReached m f (steps_left m number p
    (n - (taken + d)) (taken + d) true) (kernel_moment x a k) (kernel_moment z b e)
come_stretched m number p n d taken going f x y z a b k e goes less most h leads =
    let parts : n - taken ≡ d + (n - (taken + d)) = omega (arith, less, most) in
    come_far m number p d (n - (taken + d)) taken f x y z a b k e
    (subst (λ j. HasReached m f (steps_said m number p j taken) (kernel_moment x a k) (kernel_moment y b e)) parts
    (subst (λ t. HasReached m f (steps_left m number p (n - taken) taken t) (kernel_moment x a k)
    (kernel_moment y b e)) goes h)) leads

-- no instruction leads nowhere
pub leads_none : (m : Meaning) (p : ℕ) (x : Placed) → Leads m p 0 x x
leads_none m p x =
    record {
      steps =
          λ left taken blocks notes io s.
          ap (λ n. placed_steps m p n taken (run_of x blocks notes io)) (first left)
          ∙ ap (λ n. placed_steps m p left n (run_of x blocks notes io)) (second taken);
      rests = λ blocks s. s;
    }
  where
    first : (n : ℕ) → 0 + n ≡ n
    first n = omega arith

    second : (n : ℕ) → n ≡ n + 0
    second n = omega arith

-- a stretch leads on
pub leads_far : (m : Meaning) → Stretches m → (x y : Placed) (c : PlacedCall) (p n : ℕ) →
    x.call p ≡ Some c → in_order p x.order ≡ false → IsStretched x y p n → Leads m p n x y
leads_far m law x y c p n call away h =
    record {
      steps = λ left taken blocks notes io s. (from blocks notes io s).steps s.rests left taken;
      rests = λ blocks s.
          let after = from blocks [] [] s in
          record {
            kernel = after.run.kernel;
            stands = after.stands.kernel;
            rests = after.rests s.rests;
            whole = subst (HasWholeBlocks after.run.kernel.world) (sym after.stands.blocks) after.stands.whole;
          };
    }
  where
    from : (blocks : Blocks) (notes : List Note) (io : List Bool) (s : Rests m x blocks) →
        Stretched m (run_of x blocks notes io) y
        (record { kernel = s.kernel; blocks = blocks; notes = notes; io = io }) p n
    from blocks notes io s =
        law (run_of x blocks notes io) y (record { kernel = s.kernel; blocks = blocks; notes = notes; io = io }) c p n
        (record { kernel = s.stands; blocks = refl; notes = refl; io = refl; whole = s.whole }) call away h

-- what is left is done
pub come_last : (m : Meaning) (f left : PlacedRun → PlacedRun) (x y z : Placed) (a b c : List Note)
    (d e l : DiskSeen) → HasReached m f left (kernel_moment x a d) (kernel_moment y b e) →
    Refines left (kernel_moment y b e) (kernel_moment z c l) →
    RefinesFromRest m f (kernel_moment x a d) (kernel_moment z c l)
come_last m f left x y z a b c d e l h refines =
    record {
      io = h.io ++ refines.io;
      made = made_joined d e l h.io refines.io h.made refines.made;
      goes = λ blocks notes rest s tells k.
          let one = h.came blocks notes (refines.io ++ rest) s tells k in
          let r = h.now blocks notes (refines.io ++ rest) in
          let is = run_is r y b e.known (refines.io ++ rest) one.0 in
          subst (λ q. RunMatches q z c l.known rest)
          (sym (ap (λ io. f (run_of x blocks notes io)) (append_assoc h.io refines.io rest)
          ∙ h.goes blocks notes (refines.io ++ rest) s tells k ∙ ap left is))
          (refines.goes r.blocks r.notes rest one.0.blocks one.0.notes);
      faulted = faults_joined (fault_notes a) (fault_notes b) (fault_notes c) h.io refines.io h.faulted refines.faulted;
    }

-- ---- one instruction

module _ (m : Meaning) (x : Placed) (p : ℕ) where
  -- the call can't: it has no level, or stands in the order
  pub taken_none : (has_some (x.levels p) && not (in_order p x.order)) ≡ false →
      (takes_up m x p ≡ false) × ((blocks : Blocks) (notes : List Note) (io : List Bool) →
      taken_up m p (run_of x blocks notes io) ≡ run_of x blocks notes io)
  taken_none h = (
    ap (λ b. b && not (is_some (placed_blocker m x p))) h,
    λ blocks notes io. ap (λ b. elim b as (λ _. PlacedRun) [
      | false ↦ run_of x blocks notes io
      | true ↦ elim (placed_blocker m x p) [
        | Some b ↦ placed_settled m (placed_joins p (run_of x blocks notes io))
        | None ↦ placed_settled m (placed_step m p (run_of x blocks notes io))
      ]
    ]) h,
  )

  pub taken_by : (o : Option Blocker) → (has_some (x.levels p) && not (in_order p x.order)) ≡ true →
      placed_blocker m x p ≡ o →
      (takes_up m x p ≡ not (is_some o)) × ((blocks : Blocks) (notes : List Note) (io : List Bool) →
      taken_up m p (run_of x blocks notes io) ≡ elim o as (λ _. PlacedRun) [
        | Some b ↦ placed_settled m (placed_joins p (run_of x blocks notes io))
        | None ↦ placed_settled m (placed_step m p (run_of x blocks notes io))
      ])
  taken_by o h is = (
    ap (λ b. b && not (is_some (placed_blocker m x p))) h ∙ ap (λ q. not (is_some q)) is,
    λ blocks notes io. ap (λ b. elim b as (λ _. PlacedRun) [
      | false ↦ run_of x blocks notes io
      | true ↦ elim (placed_blocker m x p) [
        | Some b ↦ placed_settled m (placed_joins p (run_of x blocks notes io))
        | None ↦ placed_settled m (placed_step m p (run_of x blocks notes io))
      ]
    ]) h
        ∙ ap (λ q. elim q as (λ _. PlacedRun) [
          | Some b ↦ placed_settled m (placed_joins p (run_of x blocks notes io))
          | None ↦ placed_settled m (placed_step m p (run_of x blocks notes io))
        ]) is,
  )

  -- the instructions after one that was taken up or not
  pub steps_one : (number k taken : ℕ) (a : Bool) (o : Option Blocker) →
      (has_some (x.levels p) && not (in_order p x.order)) ≡ a → placed_blocker m x p ≡ o →
      (blocks : Blocks) (notes : List Note) (io : List Bool) →
      steps_said m number p (suc k) taken (run_of x blocks notes io)
      ≡ steps_left m number p k (cond (a && not (is_some o)) (taken + 1) taken)
      (a && not (is_some o)) (taken_up m p (run_of x blocks notes io))
  steps_one number k taken false o h is blocks notes io =
      let r = run_of x blocks notes io in
      ap (λ b. let s = elim b as (λ _. ℕ × PlacedRun) [
        | false ↦ (taken, r)
        | true ↦ elim (placed_blocker m x p) [
          | Some b ↦ (taken, placed_settled m (placed_joins p r))
          | None ↦ placed_steps m p k (suc taken) (placed_settled m (placed_step m p r))
        ]
      ] in placed_noted (Ran number s.0) s.1) h
      ∙ ap (placed_noted (Ran number taken)) (sym ((taken_none h).1 blocks notes io))
  steps_one number k taken true None h is blocks notes io =
      let r = run_of x blocks notes io in
      ap (λ b. let s = elim b as (λ _. ℕ × PlacedRun) [
        | false ↦ (taken, r)
        | true ↦ elim (placed_blocker m x p) [
          | Some b ↦ (taken, placed_settled m (placed_joins p r))
          | None ↦ placed_steps m p k (suc taken) (placed_settled m (placed_step m p r))
        ]
      ] in placed_noted (Ran number s.0) s.1) h
      ∙ ap (λ q. let s = elim q as (λ _. ℕ × PlacedRun) [
        | Some b ↦ (taken, placed_settled m (placed_joins p r))
        | None ↦ placed_steps m p k (suc taken) (placed_settled m (placed_step m p r))
      ] in placed_noted (Ran number s.0) s.1) is
      ∙ ap (λ t. steps_said m number p k t (placed_settled m (placed_step m p r))) one_more
      ∙ ap (steps_said m number p k (taken + 1)) (sym ((taken_by None h is).1 blocks notes io))
    where
      one_more : suc taken ≡ taken + 1
      one_more = omega arith
  steps_one number k taken true (Some b) h is blocks notes io =
      let r = run_of x blocks notes io in
      ap (λ t. let s = elim t as (λ _. ℕ × PlacedRun) [
        | false ↦ (taken, r)
        | true ↦ elim (placed_blocker m x p) [
          | Some b ↦ (taken, placed_settled m (placed_joins p r))
          | None ↦ placed_steps m p k (suc taken) (placed_settled m (placed_step m p r))
        ]
      ] in placed_noted (Ran number s.0) s.1) h
      ∙ ap (λ q. let s = elim q as (λ _. ℕ × PlacedRun) [
        | Some b ↦ (taken, placed_settled m (placed_joins p r))
        | None ↦ placed_steps m p k (suc taken) (placed_settled m (placed_step m p r))
      ] in placed_noted (Ran number s.0) s.1) is
      ∙ ap (placed_noted (Ran number taken)) (sym ((taken_by (Some b) h is).1 blocks notes io))

  -- the same by whether it was taken up
  pub steps_next : (number left k taken next : ℕ) (went : Bool) → left ≡ suc k →
      went ≡ takes_up m x p → next ≡ cond went (taken + 1) taken →
      (blocks : Blocks) (notes : List Note) (io : List Bool) →
      steps_left m number p left taken true (run_of x blocks notes io)
      ≡ steps_left m number p k next went (taken_up m p (run_of x blocks notes io))
  steps_next number left k taken next went left_is went_is next_is blocks notes io =
      ap (λ n. steps_said m number p n taken (run_of x blocks notes io)) left_is
      ∙ steps_one number k taken (has_some (x.levels p) && not (in_order p x.order))
      (placed_blocker m x p) refl refl blocks notes io
      ∙ ap (λ b. steps_left m number p k (cond b (taken + 1) taken) b
      (taken_up m p (run_of x blocks notes io))) (sym went_is)
      ∙ ap (λ t. steps_left m number p k t went (taken_up m p (run_of x blocks notes io))) (sym next_is)

-- with no instruction left, or where the call can't go on, the note is left
pub steps_over : (m : Meaning) (number p left taken : ℕ) (going : Bool) (r : PlacedRun) →
    (going && nat_lt 0 left) ≡ false →
    steps_left m number p left taken going r ≡ placed_noted (Ran number taken) r
steps_over m number p left taken false r h = refl
steps_over m number p zero taken true r h = refl
steps_over m number p (suc k) taken true r h = absurd (grind (arith, nat_tests, h))

-- ---- what tests tell

-- one of both doesn't hold
pub not_first : (a b : Bool) → a ≡ false → (a && not b) ≡ false
not_first a b h = ap (λ c. c && not b) h

pub not_second : (a b : Bool) → b ≡ true → (a && not b) ≡ false
not_second true b h = ap not h
not_second false b h = refl

-- both do
pub can_step : (a b : Bool) → a ≡ true → b ≡ false → (a && not b) ≡ true
can_step a b h k = ap (λ c. c && not b) h ∙ ap not k

-- a blocker that there is
pub some_is : (o : Option Blocker) → is_some o ≡ true → (b : Blocker) × (o ≡ Some b)
some_is None h = grind (arith, h)
some_is (Some b) h = (b, refl)

-- what the code found is what there is
pub blocker_told : (f : Option Blocking) (o : Option Blocker) → option_map blocker_of f ≡ o →
    is_some f ≡ true → is_some o ≡ true
blocker_told None o is h = grind (arith, h)
blocker_told (Some f) o is h = ap is_some (sym is)

pub no_blocker_told : (f : Option Blocking) (o : Option Blocker) → option_map blocker_of f ≡ o →
    is_some f ≡ false → o ≡ None
no_blocker_told None o is h = sym is
no_blocker_told (Some f) o is h = grind (arith, h)

-- the instructions that are left, by what was left before
pub steps_again : (m : Meaning) (number p k left next : ℕ) (went : Bool) (r : PlacedRun) →
    (went ≡ true → k ≡ left) →
    steps_left m number p k next went r ≡ steps_left m number p left next went r
steps_again m number p k left next true r same = ap (λ n. steps_left m number p n next true r) (same refl)
steps_again m number p k left next false r same = refl

-- what is left after one
pub one_less : (n taken next : ℕ) (went : Bool) → next ≡ cond went (taken + 1) taken → went ≡ true →
    n - taken - 1 ≡ n - next
one_less n taken next true is h = let e : next ≡ taken + 1 = is in omega (arith, e)
one_less n taken next false is h = grind (arith, h)

-- no more than were to be taken
pub still_few : (n taken next : ℕ) (went : Bool) → taken < n → next ≡ cond went (taken + 1) taken → next ≤ n
still_few n taken next true few is = let e : next ≡ taken + 1 = is in omega (arith, e, few)
still_few n taken next false few is = let e : next ≡ taken = is in omega (arith, e, few)

-- nothing is left: the call can't go on, or all were taken
pub all_taken : (n taken : ℕ) (going : Bool) → n ≤ taken → (going && nat_lt 0 (n - taken)) ≡ false
all_taken n taken true h = grind (arith, nat_tests, h)
all_taken n taken false h = refl

pub not_going : (n taken : ℕ) (going : Bool) → going ≡ false → (going && nat_lt 0 (n - taken)) ≡ false
not_going n taken going h = ap (λ b. b && nat_lt 0 (n - taken)) h
