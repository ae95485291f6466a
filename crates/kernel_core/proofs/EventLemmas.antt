-- A whole event.
use Rattle.std.proofs.Common.{◌≡◌, ℕ, suc, ◌≤◌, ◌<◌, ◌==◌, ◌&&◌, Bool, true, false, nat_le, List}
use Rattle.std.proofs.Common.{[], ◌∷◌, ◌++◌, length, Option, Some, None, Result, Ok, Err, arith}
use Rattle.std.proofs.Common.{refl, ap, sym, subst, ◌∙◌}
use Rattle.call_pieces.specs.EarlyFaults.{is_early_fault}
use Rattle.call_pieces.specs.QuickPieces.{is_disk_fault}
use Rattle.std.specs.Prelude.{◌+◌, cond, Contains, is_some, option_map, slice_index_or, ◌||◌}
use Rattle.std.proofs.lemmas.Bool.{eqb-true}
use Rattle.std.proofs.lemmas.Bool.Decides.{nat_tests}
use Rattle.kernel_model.specs.declared.Event.{Event}
use Rattle.kernel_model.specs.declared.Event.TheVariants.{Step, Sys}
use Rattle.kernel_model.specs.declared.Note.{Note}
use Rattle.kernel_model.specs.declared.Note.TheVariants.{Refused}
use Rattle.kernel_model.specs.declared.Refusal.{Refusal}
use Rattle.kernel_model.specs.declared.Refusal.TheVariants.{NoProcess, Busy, BadIndex}
use Rattle.kernel_model.specs.declared.SysCall.{SysCall}
use Rattle.kernel_model.specs.World.{World, Blocks}
use Rattle.kernel_model.specs.Policies.{lives}
use Rattle.kernel_model.specs.Meaning.{Meaning, Stage}
use Rattle.kernel_model.specs.Kernel.{Waiter, Run}
use Rattle.kernel_model.specs.Events.{MOST_STEPS, event, in_order}
use Rattle.kernel_model.specs.Sound.{HasWholeBlocks}
use Rattle.call_pieces.specs.Calls.{Knows, blocks_in}
use Rattle.call_pieces.specs.Disks.{DiskSeen}
use Rattle.placed_laws.specs.Notes.{EventsLeaveFewNotes}
use Rattle.placed_laws.specs.Agreeing.{SameShown}
use Rattle.placed_laws.specs.Keeping.{EventsStand}
use Rattle.placed_laws.specs.Placed.{Placed, PlacedCall, PlacedRun}
use Rattle.placed_laws.specs.PlacedSteps.{placed_noted}
use Rattle.placed_laws.specs.PlacedEvents.{placed_begun, placed_event_on, placed_last}
use Rattle.placed_laws.specs.PlacedEvents.{placed_last_note, placed_step_event, placed_sys_event}
use Rattle.placed_laws.specs.Stands.{StandsFor}
use Rattle.running_kernel.specs.declared.order.Waiting.{Waiting}
use Rattle.running_kernel.specs.declared.running.Running.{Running}
use Rattle.kernel_steps.specs.Composing.{did_as}
use Rattle.kernel_steps.specs.Kept.{kept_whole}
use Rattle.running_kernel.specs.Idle.{joined_in}
use Rattle.running_kernel.specs.Orders.{has_number, numbers_of, order_of}
use Rattle.kernel_steps.specs.Begins.{Begun, CallBegins}
use Rattle.kernel_core.specs.Starts.{Started, Starts}
use Rattle.kernel_steps.specs.Moments.{kernel_moment}
use Rattle.kernel_steps.specs.Runs.{RefinesAndKeeps}
use Rattle.kernel_core.specs.EventParts.{RefinesFromRest}
use Rattle.kernel_steps.specs.Faults.{fault_notes}
use Rattle.kernel_steps.specs.Refines.{first_notes, Adds, Refines}
use Rattle.running_kernel.specs.Views.{placed_of, run_of, IsRunning, HasAbstraction}
use Rattle.kernel_core.specs.EventRefines.{EventRefines}
use Rattle.kernel_core.proofs.LastLemmas.{did_note}
use Rattle.kernel_core.proofs.WentLemmas.{ordered_called}
use Rattle.running_kernel.proofs.QueryLemmas.{order_numbers}

-- ---- who isn't in the order

-- an entry of a process in the order
entry_of_process : (p : ℕ) (es : List Waiter) → in_order p es ≡ true → (e : Waiter) × Contains es e × (e.process ≡ p)
entry_of_process p [] h = grind (arith, h)
entry_of_process p (e ∷ es) h = by_test (e.process == p) refl (entry_of_process p es)
  where
    by_test : (b : Bool) → (e.process == p) ≡ b →
        (in_order p es ≡ true → (f : Waiter) × Contains es f × (f.process ≡ p)) →
        (f : Waiter) × Contains (e ∷ es) f × (f.process ≡ p)
    by_test true is further = (e, (0, omega arith, refl), eqb-true e.process p is)
    by_test false is further =
        let f = further (sym (ap (λ t. t || in_order p es) is) ∙ h) in
        (f.0, (suc f.1.0, omega (arith, f.1.1), f.1.2), f.2)

-- who has no call doesn't stand there
pub uncalled_unordered : (m : Meaning) → SameShown m → (x : Placed) (p : ℕ) (ws : List Waiting) →
    HasAbstraction m x → x.order ≡ order_of ws → x.call p ≡ None →
    has_number p (numbers_of ws) ≡ false
uncalled_unordered m shown x p ws s is none = by_test (in_order p x.order) refl
  where
    contrary : true ≡ false → ⊥
    contrary h = cc

    by_test : (b : Bool) → in_order p x.order ≡ b → has_number p (numbers_of ws) ≡ false
    by_test false h = sym (order_numbers p ws) ∙ ap (in_order p) (sym is) ∙ h
    by_test true h =
        let e = entry_of_process p x.order h in
        absurd (contrary (sym (ordered_called m shown x e.0 s e.1)
        ∙ ap (λ q. is_some (x.call q)) e.2 ∙ ap is_some none))

-- ---- what an event is

module _ (m : Meaning) (x : Placed) (number p : ℕ) where
  -- by a process that doesn't live
  pub sys_unliving : (call : SysCall) → lives x.objects.things.queue p ≡ false →
      (blocks : Blocks) (notes : List Note) (io : List Bool) →
      placed_event_on m number (Sys p call) (run_of x blocks notes io)
      ≡ placed_noted (Refused number NoProcess) (run_of x blocks notes io)
  sys_unliving call h blocks notes io =
      ap (λ b. elim b as (λ _. PlacedRun) [
        | false ↦ placed_noted (Refused number NoProcess) (run_of x blocks notes io)
        | true ↦ placed_sys_event m number p call (x.call p) (run_of x blocks notes io)
      ]) h

  sys_living : (call : SysCall) → lives x.objects.things.queue p ≡ true →
      (blocks : Blocks) (notes : List Note) (io : List Bool) →
      placed_event_on m number (Sys p call) (run_of x blocks notes io)
      ≡ placed_sys_event m number p call (x.call p) (run_of x blocks notes io)
  sys_living call h blocks notes io =
      ap (λ b. elim b as (λ _. PlacedRun) [
        | false ↦ placed_noted (Refused number NoProcess) (run_of x blocks notes io)
        | true ↦ placed_sys_event m number p call (x.call p) (run_of x blocks notes io)
      ]) h

  -- by one whose call is in flight
  pub sys_busy : (call : SysCall) (n : ℕ) → lives x.objects.things.queue p ≡ true →
      Some n ≡ option_map (λ (c : PlacedCall). c.number) (x.call p) →
      (blocks : Blocks) (notes : List Note) (io : List Bool) →
      placed_event_on m number (Sys p call) (run_of x blocks notes io)
      ≡ placed_noted (Refused number (Busy n)) (run_of x blocks notes io)
  sys_busy call n h is blocks notes io = sys_living call h blocks notes io ∙ by_call (x.call p) is
    where
      same_number : (a b : ℕ) → Some a ≡ Some b → a ≡ b
      same_number a b e = cc

      by_call : (o : Option PlacedCall) → Some n ≡ option_map (λ (c : PlacedCall). c.number) o →
          placed_sys_event m number p call o (run_of x blocks notes io)
          ≡ placed_noted (Refused number (Busy n)) (run_of x blocks notes io)
      by_call None is = grind (arith, is)
      by_call (Some c) is =
          ap (λ k. placed_noted (Refused number (Busy k)) (run_of x blocks notes io))
          (sym (same_number n c.number is))

  -- one that is refused at once
  pub sys_refused : (call : SysCall) (why : Refusal) → lives x.objects.things.queue p ≡ true →
      x.call p ≡ None → m.early x.world x.images p call ≡ Err why →
      (blocks : Blocks) (notes : List Note) (io : List Bool) →
      placed_event_on m number (Sys p call) (run_of x blocks notes io)
      ≡ placed_noted (Refused number why) (run_of x blocks notes io)
  sys_refused call why h none early blocks notes io =
      sys_living call h blocks notes io ∙ ap (λ o. placed_sys_event m number p call o (run_of x blocks notes io)) none
      ∙ ap (λ o. placed_last m p (placed_begun m number p o (run_of x blocks notes io))) early
      ∙ ap (λ o. placed_last_note m p o (placed_noted (Refused number why) (run_of x blocks notes io))) none

  -- one that begins
  pub sys_begun : (call : SysCall) (t : Stage) → lives x.objects.things.queue p ≡ true →
      x.call p ≡ None → m.early x.world x.images p call ≡ Ok t →
      (blocks : Blocks) (notes : List Note) (io : List Bool) →
      placed_event_on m number (Sys p call) (run_of x blocks notes io)
      ≡ placed_last m p (placed_begun m number p (Ok t) (run_of x blocks notes io))
  sys_begun call t h none early blocks notes io =
      sys_living call h blocks notes io ∙ ap (λ o. placed_sys_event m number p call o (run_of x blocks notes io)) none
      ∙ ap (λ o. placed_last m p (placed_begun m number p o (run_of x blocks notes io))) early

  -- instructions
  pub step_unliving : (n : ℕ) → lives x.objects.things.queue p ≡ false →
      (blocks : Blocks) (notes : List Note) (io : List Bool) →
      placed_event_on m number (Step p n) (run_of x blocks notes io)
      ≡ placed_noted (Refused number NoProcess) (run_of x blocks notes io)
  step_unliving n h blocks notes io =
      ap (λ b. elim b as (λ _. PlacedRun) [
        | false ↦ placed_noted (Refused number NoProcess) (run_of x blocks notes io)
        | true ↦ elim (nat_le 1 n && nat_le n MOST_STEPS) [
          | true ↦ placed_step_event m number p n (run_of x blocks notes io)
          | false ↦ placed_noted (Refused number BadIndex) (run_of x blocks notes io)
        ]
      ]) h

  step_living : (n : ℕ) (b : Bool) → lives x.objects.things.queue p ≡ true →
      (nat_le 1 n && nat_le n MOST_STEPS) ≡ b →
      (blocks : Blocks) (notes : List Note) (io : List Bool) →
      placed_event_on m number (Step p n) (run_of x blocks notes io) ≡ elim b as (λ _. PlacedRun) [
        | true ↦ placed_step_event m number p n (run_of x blocks notes io)
        | false ↦ placed_noted (Refused number BadIndex) (run_of x blocks notes io)
      ]
  step_living n b h is blocks notes io =
      ap (λ t. elim t as (λ _. PlacedRun) [
        | false ↦ placed_noted (Refused number NoProcess) (run_of x blocks notes io)
        | true ↦ elim (nat_le 1 n && nat_le n MOST_STEPS) [
          | true ↦ placed_step_event m number p n (run_of x blocks notes io)
          | false ↦ placed_noted (Refused number BadIndex) (run_of x blocks notes io)
        ]
      ]) h
      ∙ ap (λ t. elim t as (λ _. PlacedRun) [
        | true ↦ placed_step_event m number p n (run_of x blocks notes io)
        | false ↦ placed_noted (Refused number BadIndex) (run_of x blocks notes io)
      ]) is

  -- too few or too many
  pub step_zero : (n : ℕ) → lives x.objects.things.queue p ≡ true → n ≡ 0 →
      (blocks : Blocks) (notes : List Note) (io : List Bool) →
      placed_event_on m number (Step p n) (run_of x blocks notes io)
      ≡ placed_noted (Refused number BadIndex) (run_of x blocks notes io)
  step_zero n h none blocks notes io =
      step_living n false h (ap (λ k. nat_le 1 k && nat_le k MOST_STEPS) none) blocks notes io

  pub step_many : (n : ℕ) → lives x.objects.things.queue p ≡ true → 65536 < n →
      (blocks : Blocks) (notes : List Note) (io : List Bool) →
      placed_event_on m number (Step p n) (run_of x blocks notes io)
      ≡ placed_noted (Refused number BadIndex) (run_of x blocks notes io)
  step_many n h many blocks notes io = step_living n false h (grind (arith, nat_tests, many)) blocks notes io

  pub step_taken : (n : ℕ) → lives x.objects.things.queue p ≡ true → 0 < n → n ≤ 65536 →
      (blocks : Blocks) (notes : List Note) (io : List Bool) →
      placed_event_on m number (Step p n) (run_of x blocks notes io)
      ≡ placed_step_event m number p n (run_of x blocks notes io)
  step_taken n h some few blocks notes io = step_living n true h (grind (arith, nat_tests, some, few)) blocks notes io

-- a refusal that isn't for the disk
pub refused_elsewise : (number : ℕ) (why : Refusal) → is_disk_fault why ≡ false →
    fault_notes (Refused number why ∷ []) ≡ 0
refused_elsewise number why h = ap {B = ℕ} (λ b. 0 + cond b 1 0) h

-- a refusal at once
pub refused_early : (why : Refusal) (r : Result Stage Refusal) → r ≡ Err why →
    is_early_fault r ≡ false → is_disk_fault why ≡ false
refused_early why r is h = sym (ap is_early_fault is) ∙ h

-- a refusal, which is all that an event comes to
pub went_refused : {C B M : Type 0} {P : _} (m : Meaning) (f : PlacedRun → PlacedRun)
    (x : Running C B M P) (note : Note) (kept kept_new : List Note) (d : DiskSeen) → IsRunning x →
    HasAbstraction m (placed_of x) →
    ((blocks : Blocks) (notes : List Note) (io : List Bool) → f (run_of (placed_of x) blocks notes
    io) ≡ placed_noted note (run_of (placed_of x) blocks notes io)) →
    Adds (note ∷ []) kept kept_new → fault_notes (note ∷ []) ≡ 0 →
    RefinesAndKeeps m f (kernel_moment x kept d) (kernel_moment x kept_new d)
went_refused m f x note kept kept_new d running abstraction same adds none =
    record {
      refines =
          did_as f (placed_noted note) (placed_of x) (placed_of x) kept kept_new d d same
          (did_note (placed_of x) note kept kept_new d adds none);
      running = running;
      abstraction = abstraction;
      world = refl;
      clock = refl;
    }

-- the same where the kernel was looked at, and stands as it did
pub went_refused_at : {C B M : Type 0} {P : _} (m : Meaning) (f : PlacedRun → PlacedRun)
    (x y : Running C B M P) (note : Note) (kept kept_new : List Note) (d : DiskSeen) → IsRunning y →
    HasAbstraction m (placed_of x) →
    placed_of y ≡ placed_of x →
    ((blocks : Blocks) (notes : List Note) (io : List Bool) → f (run_of (placed_of x) blocks notes
    io) ≡ placed_noted note (run_of (placed_of x) blocks notes io)) →
    Adds (note ∷ []) kept kept_new → fault_notes (note ∷ []) ≡ 0 →
    RefinesAndKeeps m f (kernel_moment x kept d) (kernel_moment y kept_new d)
went_refused_at m f x y note kept kept_new d running abstraction is same adds none =
    record {
      refines =
          subst (λ z. Refines f (kernel_moment (placed_of x) kept d) (kernel_moment z kept_new d))
          (sym is) (did_as f (placed_noted note) (placed_of x) (placed_of x) kept kept_new d d same
          (did_note (placed_of x) note kept kept_new d adds none));
      running = running;
      abstraction = subst (HasAbstraction m) (sym is) abstraction;
      world = ap (λ (z : Placed). z.world) is;
      clock = ap (λ (z : Placed). z.clock) is;
    }

-- how a call begins, by whether it does
pub starts_by : {C B M A : Type 0} {P : _} (m : Meaning) (p number : ℕ) (call : SysCall)
    (x y : Running C B M P) (result : Result A Refusal) → CallBegins m p number call x y result →
    (Begun m p number call x (joined_in p y) → Started m p number call x (joined_in p y)) →
    Starts m p number call x y result
starts_by m p number call x y (Ok t) h begun = begun h
starts_by m p number call x y (Err why) h begun = h

-- ---- what happened

-- a disk that tells whole blocks
whole_of : (known : Option (List (List ℕ))) (blocks : Blocks) (size : ℕ) (v : World) →
    v.disk_size ≡ size → ((bs : List (List ℕ)) → known ≡ Some bs → (b : ℕ) → b < size →
    length (slice_index_or bs b []) ≡ 512) → Knows known blocks → HasWholeBlocks v blocks
whole_of None blocks size v is whole tells = grind (arith, tells)
whole_of (Some bs) blocks size v is whole tells =
    λ b small. ap (λ (f : Blocks). length (f b)) (sym (same_blocks (blocks_in bs) blocks tells))
    ∙ whole bs refl b (subst (λ n. b < n) is small)
  where
    same_blocks : (f g : Blocks) → Some f ≡ Some g → f ≡ g
    same_blocks f g h = cc

pub happened_by : (m : Meaning) → EventsStand m → EventsLeaveFewNotes m →
    (x y : Placed) (number size : ℕ) (what : Event) (kept kept_new : List Note) (d e : DiskSeen) →
    x.world.disk_size ≡ size → kept ≡ [] →
    ((bs : List (List ℕ)) → d.known ≡ Some bs → (b : ℕ) → b < size → length (slice_index_or bs b []) ≡ 512) →
    RefinesFromRest m (placed_event_on m number what) (kernel_moment x kept d)
    (kernel_moment y kept_new e) → EventRefines m x y number what kept_new d e
happened_by m law few x y number size what kept kept_new d e size_is none whole refines =
    record {
      io = refines.io;
      made = refines.made;
      is = λ k blocks rest stands rests tells.
          let io = refines.io ++ rest in
          let r : Run = record { kernel = k; blocks = blocks; notes = []; io = io } in
          let all : HasWholeBlocks k.world blocks = subst (λ v. HasWholeBlocks v blocks)
          stands.world (whole_of d.known blocks size x.world size_is whole tells) in
          let after = law (run_of x blocks [] io) r number what
          (record { kernel = stands; blocks = refl; notes = refl; io = refl; whole = all })
          rests in
          let came = refines.goes blocks [] rest
          (record { kernel = k; stands = stands; rests = rests; whole = all }) tells
          (none ∙ sym (kept_whole [] (omega arith))) in
          record {
            stands = subst (λ z. StandsFor m z (event m k blocks number what io).kernel) came.placed after.0.kernel;
            rests = after.1;
            blocks = subst (Knows e.known) after.0.blocks came.blocks;
            notes_are =
                came.notes ∙ ap first_notes after.0.notes ∙ kept_whole (event m k blocks number what
                io).notes (few k blocks number what io stands.kernel all).all;
            left = sym after.0.io ∙ came.io;
          };
      faulted =
          let few = refines.faulted in
          let no_notes = ap fault_notes none in
          omega (arith, few, no_notes);
    }

-- by the event that it is
pub happened_as : (m : Meaning) (x y : Placed) (number : ℕ) (what other : Event)
    (notes : List Note) (d e : DiskSeen) → what ≡ other → EventRefines m x y number what notes d e →
    EventRefines m x y number other notes d e
happened_as m x y number what other notes d e is h = subst (λ w. EventRefines m x y number w notes d e) is h

-- a process without a call
pub no_call_told : (x : Placed) (p : ℕ) (n : Option ℕ) →
    n ≡ option_map (λ (c : PlacedCall). c.number) (x.call p) → n ≡ None → x.call p ≡ None
no_call_told x p n is none = by_call (x.call p) (sym is ∙ none)
  where
    by_call : (o : Option PlacedCall) → option_map (λ (c : PlacedCall). c.number) o ≡ None → o ≡ None
    by_call None h = refl
    by_call (Some c) h = grind (arith, h)
