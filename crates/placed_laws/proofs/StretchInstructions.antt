-- One quiet instruction of a kernel in place.
use Rattle.std.proofs.Common.{◌≡◌, ℕ, zero, suc, ◌+◌, ◌<◌, ◌==◌, ◌&&◌, ◌||◌, not, Bool, true}
use Rattle.std.proofs.Common.{false, cond, List, [], ◌∷◌, ◌++◌, length, map, option_map, Option}
use Rattle.std.proofs.Common.{Some, None, append-nil, arith, refl, sym, ◌∙◌, ap, inl, inr}
use Rattle.std.specs.Prelude.{slice_get, slice_index_or}
use Rattle.std.specs.List.{list_any}
use Rattle.std.proofs.lemmas.Bool.Decides.{nat_tests}
use Rattle.kernel_model.specs.declared.Instr.{Instr}
use Rattle.kernel_model.specs.declared.Op.{Op}
use Rattle.kernel_model.specs.declared.Op.TheVariants.{Li, Mov, Add, Sub, Mul, And, Or, Xor, Shl}
use Rattle.kernel_model.specs.declared.Op.TheVariants.{Shr, Divu, Remu, Sltu, Addi, Andi, Ldw, Stw}
use Rattle.kernel_model.specs.declared.Op.TheVariants.{Ldb, Stb, Jmp, Jz, Jnz, Call, Callr, Trap}
use Rattle.kernel_model.specs.declared.Op.TheVariants.{Ret}
use Rattle.kernel_model.specs.declared.Kind.TheVariants.{Steps}
use Rattle.kernel_model.specs.declared.Micro.{Micro}
use Rattle.kernel_model.specs.declared.Need.{Need}
use Rattle.kernel_model.specs.declared.Object.{Object}
use Rattle.kernel_model.specs.declared.Object.TheVariants.{Lock}
use Rattle.kernel_model.specs.Laws.{Laws}
use Rattle.kernel_model.specs.World.{processes}
use Rattle.kernel_model.specs.Objects.{Objects, Things, at, with_accounts}
use Rattle.kernel_model.specs.Machine.{Machine, Done, segment_place, exec, step_by, seg_step, called_id, next_call}
use Rattle.kernel_model.specs.Policies.{Victim}
use Rattle.kernel_model.specs.Access.{accessed, asked_objects, asked_graft}
use Rattle.kernel_model.specs.Charges.{charge, funds}
use Rattle.kernel_model.specs.Levels.{Level, Config, Outcome, Charged, with_effect, with_machine}
use Rattle.kernel_model.specs.Levels.{goes_on, answered, level_at, touched_in, touched_at, code_of}
use Rattle.kernel_model.specs.Levels.{limit_in}
use Rattle.kernel_model.specs.GraftStep.{after_machine, after_call, granted_call, after_accessor}
use Rattle.kernel_model.specs.GraftStep.{after_result, charged_step, micro_on, micro, call_needs}
use Rattle.kernel_model.specs.GraftStep.{instruction_needs, next_needs, lock_user}
use Rattle.kernel_model.specs.Meaning.{Meaning}
use Rattle.kernel_model.specs.Locks.{first_hindrance, is_held}
use Rattle.kernel_model.specs.UndoLog.{undo_all}
use Rattle.kernel_model.specs.Kernel.{Run, new_entry, less_entry}
use Rattle.kernel_model.specs.Events.{in_order}
use Rattle.call_laws.specs.Ledgers.{at_here}
use Rattle.graft_laws.proofs.CalledLemmas.{called_in, step_calls}
use Rattle.graft_laws.proofs.OrderLemmas.{less_away}
use Rattle.placed_laws.specs.Placed.{PlacedCall, PlacedLevel, Placed, PlacedRun, level_with}
use Rattle.placed_laws.specs.Placed.{levels_with, placed_config, placed_levels, placed_holds}
use Rattle.placed_laws.specs.Placed.{placed_needs_at, placed_needs_in, placed_needs}
use Rattle.placed_laws.specs.Placed.{placed_blocker, placed_blocker_from}
use Rattle.placed_laws.specs.PlacedSteps.{with_config, is_placed_at_piece, placed_requeue}
use Rattle.placed_laws.specs.PlacedSteps.{placed_outcome, placed_step_by, placed_call_step}
use Rattle.placed_laws.specs.PlacedSteps.{placed_step}
use Rattle.placed_laws.specs.Resting.{KeepsHolds}
use Rattle.placed_laws.specs.Stands.{RunStandsFor}
use Rattle.placed_laws.specs.Stretch.{Setting, setting, quiet}
use Rattle.placed_laws.proofs.BlockerLemmas.{same_blockers}
use Rattle.placed_laws.proofs.LevelLemmas.{bare_laid}
use Rattle.placed_laws.proofs.StretchQuiet.{Reads, quiet_cases, no_user, no_lock}
use Rattle.placed_laws.proofs.StretchReading.{held_is_free, innermost_holds, touched_still}
use Rattle.graft_laws.proofs.SettleSoundLemmas.{away_from}

-- ---- the machine

-- what goes on and calls nothing is no call
calls_none : (op : Op) (a b c imm : ℕ) (m k : Machine) →
    exec segment_place op a b c imm m ≡ Done.Went k → called_id op a imm m ≡ None
calls_none Li a b c imm m k h = refl
calls_none Mov a b c imm m k h = refl
calls_none Add a b c imm m k h = refl
calls_none Sub a b c imm m k h = refl
calls_none Mul a b c imm m k h = refl
calls_none And a b c imm m k h = refl
calls_none Or a b c imm m k h = refl
calls_none Xor a b c imm m k h = refl
calls_none Shl a b c imm m k h = refl
calls_none Shr a b c imm m k h = refl
calls_none Divu a b c imm m k h = refl
calls_none Remu a b c imm m k h = refl
calls_none Sltu a b c imm m k h = refl
calls_none Addi a b c imm m k h = refl
calls_none Andi a b c imm m k h = refl
calls_none Ldw a b c imm m k h = refl
calls_none Stw a b c imm m k h = refl
calls_none Ldb a b c imm m k h = refl
calls_none Stb a b c imm m k h = refl
calls_none Jmp a b c imm m k h = refl
calls_none Jz a b c imm m k h = refl
calls_none Jnz a b c imm m k h = refl
calls_none Call a b c imm m k h = absurd cc
calls_none Callr a b c imm m k h = absurd cc
calls_none Trap a b c imm m k h = refl
calls_none Ret a b c imm m k h = refl

pub no_call : (code : List Instr) (m k : Machine) → seg_step code m ≡ Done.Went k → next_call code m ≡ None
no_call code m k h = by_place (slice_get code m.pc) refl
  where
    by_place : (o : Option Instr) → slice_get code m.pc ≡ o → next_call code m ≡ None
    by_place None e = rw (e, next_call) refl
    by_place (Some i) e = rw (e, next_call) (calls_none i.op i.a i.b i.c i.imm m k (rw (e, step_by) at h))

-- ---- the order

-- ---- one instruction

-- rows in which levels are held alike
same_row : (f g : ℕ → List Level) (qs : List ℕ) (p d : ℕ) (o : Object) →
    ((q : ℕ) → touched_at (f q) d o ≡ touched_at (g q) d o) →
    touched_at (slice_index_or (map f qs) p []) d o ≡ touched_at (slice_index_or (map g qs) p []) d o
same_row f g [] p d o same = refl
same_row f g (q ∷ qs) zero d o same = same q
same_row f g (q ∷ qs) (suc p) d o same = same_row f g qs p d o same

-- One more instruction of the call of p leads from x to y, and says nothing: nothing blocks it, and
-- it leaves the call's levels and what they hold.
pub record OneMore (m : Meaning) (x : PlacedRun) (p : ℕ) (y : Placed) : Type 0 where
  pub free : placed_blocker m x.placed p ≡ None
  pub goes : placed_step m p x ≡ record x { placed = y }
  pub keeps : KeepsHolds m x.placed y p

module _ (m : Meaning) (laws : Laws m) (x : PlacedRun) (r : Run) (c : PlacedCall) (p : ℕ)
    (l : PlacedLevel) (ls : List PlacedLevel) (k : Machine)
    (stands : RunStandsFor m x r) (small : p < 16)
    (here : x.placed.levels p ≡ l ∷ ls) (call : x.placed.call p ≡ Some c) (away : in_order p x.placed.order ≡ false)
    (unspent : (l.count == limit_in (x.placed.objects.accounts.graft l.owner l.point)
    || funds x.placed.objects.accounts l.owner l.point Steps == 0) ≡ false) where
  abbrev kept : Things
  kept = undo_all l.records x.placed.objects.things

  abbrev outer : List Level
  outer = levels_with kept ls

  abbrev code : List Instr
  code = code_of x.placed.images x.placed.objects.accounts l.owner l.point

  -- the objects after the charge, and the level that is charged
  abbrev charged : Objects
  charged = with_accounts (charge Steps l.owner l.point x.placed.objects.accounts) x.placed.objects

  abbrev counted : Level
  counted = record (level_with kept l) { count = l.count + 1 }

  levels_are : placed_levels x.placed p ≡ level_with kept l ∷ outer
  levels_are = ap (levels_with x.placed.objects.things) here

  -- what the call needs is what its instruction needs
  needs_from : (next : Option ℕ) (ns : List Need) → next_call code l.machine ≡ next →
      instruction_needs x.placed.world (level_with kept l) next ≡ ns →
      placed_needs m x.placed p ≡ ns
  needs_from next ns is needs =
      ap (placed_needs_in m x.placed p) call
      ∙ ap (placed_needs_at m x.placed p c) here
      ∙ ap (next_needs x.placed.world x.placed.images x.placed.objects.accounts) levels_are
      ∙ ap (λ b. cond b [] (instruction_needs x.placed.world (level_with kept l) (next_call code l.machine))) unspent
      ∙ ap (instruction_needs x.placed.world (level_with kept l)) is ∙ needs

  -- the store and the levels after it
  abbrev after : Config
  after = record { now = charged; levels = with_machine k counted ∷ outer }

  abbrev went : Outcome
  went = record { said = Micro.Went; config = after; effects = Charged l.point Steps ∷ [] }

  -- what the machine makes of the level
  abbrev made : Done → Outcome
  made d = after_machine x.placed.world x.placed.images p charged counted outer d

  micro_from : made (seg_step code l.machine) ≡ goes_on charged (with_machine k counted ∷ outer) →
      micro x.placed.world x.placed.images p (placed_config x.placed p) ≡ went
  micro_from goes =
      ap (micro_on x.placed.world x.placed.images p x.placed.objects) levels_are
      ∙ ap (charged_step x.placed.world x.placed.images p x.placed.objects (level_with kept l) outer) unspent
      ∙ ap (with_effect (Charged l.point Steps)) goes

  -- the kernel in place after it
  abbrev pub one : Placed
  one =
      record (x.placed) {
        objects = charged;
        levels = at p (record l { machine = k; count = l.count + 1 } ∷ ls) x.placed.levels;
      }

  config_is : with_config p after x ≡ record x { placed = one }
  config_is =
      ap (λ bs. record x {
        placed = record (x.placed) {
          objects = after.now;
          levels = at p (record l { machine = k; count = l.count + 1 } ∷ bs) x.placed.levels;
        };
      }) (bare_laid kept ls)

  order_is : less_entry p x.placed.order ++ cond
      (is_placed_at_piece (x.placed.call p) (one.levels p)) (new_entry p ∷ []) [] ≡ x.placed.order
  order_is =
      ap (λ y. less_entry p x.placed.order ++ cond (is_placed_at_piece y (one.levels p)) (new_entry p ∷ []) []) call
      ∙ ap (λ bs. less_entry p x.placed.order ++ cond (is_placed_at_piece (Some c) bs) (new_entry p
      ∷ []) []) (at_here p (record l { machine = k; count = l.count + 1 } ∷ ls) x.placed.levels)
      ∙ append-nil (less_entry p x.placed.order) ∙ less_away p x.placed.order (away_from p x.placed.order away)

  stepped : made (seg_step code l.machine) ≡ goes_on charged (with_machine k counted ∷ outer) →
      placed_step m p x ≡ record x { placed = one }
  stepped goes =
      ap (λ y. placed_requeue p (placed_call_step m p y x)) call
      ∙ ap (λ bs. placed_requeue p (placed_step_by m p c bs x)) here
      ∙ ap (λ o. placed_requeue p (placed_outcome m p c o x)) (micro_from goes)
      ∙ ap (placed_requeue p) config_is
      ∙ ap (λ es. record x { placed = record one { order = es } }) order_is

  -- ---- what is held stays

  head_same : (a b : Level) (d : ℕ) (o : Object) (is_here : Bool) → a.touched ≡ b.touched →
      touched_in (elim is_here as (λ _. Option Level) [ true ↦ Some a | false ↦ level_at d outer ])
      o ≡ touched_in
      (elim is_here as (λ _. Option Level) [ true ↦ Some b | false ↦ level_at d outer ]) o
  head_same a b d o true same = ap (λ t. t o) same
  head_same a b d o false same = refl

  levels_hold : (q d : ℕ) (o : Object) →
      touched_at (placed_levels one q) d o ≡ touched_at (placed_levels x.placed q) d o
  levels_hold q d o = by_test (q == p) refl
    where
      by_test : (b : Bool) → (q == p) ≡ b →
          touched_at (placed_levels one q) d o ≡ touched_at (placed_levels x.placed q) d o
      by_test true e =
          let same : q ≡ p = grind (arith, nat_tests, e) in
          ap (λ b. touched_at (levels_with x.placed.objects.things (cond b
          (record l { machine = k; count = l.count + 1 } ∷ ls) (x.placed.levels q))) d o) e
          ∙ head_same (with_machine k counted) (level_with kept l) d o (length outer == d) refl
          ∙ ap (λ ks. touched_at ks d o) (sym levels_are)
          ∙ ap (λ i. touched_at (placed_levels x.placed i) d o) (sym same)
      by_test false e =
          ap (λ b. touched_at (levels_with x.placed.objects.things
          (cond b (record l { machine = k; count = l.count + 1 } ∷ ls) (x.placed.levels q))) d o) e

  keeps : KeepsHolds m x.placed one p
  keeps =
      record {
        levels =
            ap (λ bs. length bs) (at_here p (record l { machine = k; count = l.count + 1 } ∷ ls)
            x.placed.levels) ∙ sym (ap (λ bs. length bs) here);
        holds =
            λ d o needed. same_row (placed_levels one) (placed_levels x.placed) processes p d o
            (λ q. levels_hold q d o);
      }

  -- ---- it is plain

  plain_more : seg_step code l.machine ≡ Done.Went k → OneMore m x p one
  plain_more goes =
      record {
        free =
            ap (λ ns. option_map (placed_blocker_from x.placed) (first_hindrance (placed_holds
            x.placed) x.placed.objects.things.lock p (lock_user p (placed_levels x.placed p)) ns))
            (needs_from None [] (no_call code l.machine k goes) refl);
        goes = stepped (ap made goes);
        keeps = keeps;
      }

  -- ---- it only reads

  abbrev here_set : Setting
  here_set = setting x.placed.world x.placed.images x.placed.objects l.owner l.point l.touched

  abbrev need_of : ℕ → Need
  need_of id = accessed id (l.machine.regs 0) l.owner

  needs_one : (h : Reads here_set l.machine k) → placed_needs m x.placed p ≡ need_of h.id ∷ []
  needs_one h =
      needs_from (Some h.id) (need_of h.id ∷ []) (sym (step_calls code l.machine) ∙ ap called_in h.called)
      (ap (call_needs x.placed.world (level_with kept l) h.id) h.early
      ∙ ap (λ b. cond b (asked_objects h.id (l.machine.regs 0) l.owner ++ asked_graft h.id
      (l.machine.regs 0) l.owner ∷ []) (need_of h.id ∷ [])) h.no_ask)

  reads : (h : Reads here_set l.machine k) →
      made (Done.Called h.id h.k) ≡ goes_on charged (with_machine k counted ∷ outer)
  reads h =
      ap (after_call x.placed.world x.placed.images charged p counted outer h.k h.id) h.early
      ∙ ap (granted_call x.placed.world x.placed.images charged p counted outer h.k h.id) h.no_ask
      ∙ ap (after_accessor x.placed.world charged counted outer h.k h.id) h.gives
      ∙ ap (λ b. after_result x.placed.world charged counted outer h.k h.id h.result
      (b && not (list_any (λ (i : Level). is_held (i.touched (Lock (l.machine.regs 0))))
      (counted ∷ outer))))
      (no_lock h.id (l.machine.regs 0) l.owner h.shared)
      ∙ ap (λ t. goes_on charged
      (record (with_machine (answered Victim h.result 0 h.k) counted) { touched = t } ∷ outer))
      (touched_still (need_of h.id).object (need_of h.id).mode l.touched h.shared h.held)
      ∙ ap (λ (j : Machine). goes_on charged (with_machine j counted ∷ outer)) h.is

  read_more : Reads here_set l.machine k → OneMore m x p one
  read_more h =
      record {
        free =
            held_is_free m (same_blockers m laws) x.placed r.kernel p (length outer) (need_of h.id)
            stands.kernel (needs_one h) (no_user h.id (l.machine.regs 0) l.owner h.shared) h.shared
            (ap (λ t. is_held (t (need_of h.id).object))
            (innermost_holds x.placed p (level_with kept l) outer small levels_are) ∙ h.held);
        goes = stepped (ap made h.called ∙ reads h);
        keeps = keeps;
      }

  pub one_more : quiet here_set l.machine ≡ Some k → OneMore m x p one
  one_more h = elim (quiet_cases here_set l.machine k h) [ inl goes ↦ plain_more goes | inr reads ↦ read_more reads ]
