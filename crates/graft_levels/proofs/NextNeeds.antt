-- What the next instruction of the innermost level needs.
use Rattle.std.proofs.lemmas.Bool.Decides.{nat_tests}
use Rattle.kernel_model.specs.declared.Object.{Object}
use Rattle.kernel_model.specs.declared.Mode.{Mode}
use Rattle.kernel_model.specs.declared.Need.{Need}
use Rattle.std.proofs.Common.{◌≡◌, ◌≤◌, ◌==◌, ◌++◌, ◌&&◌, not, arith, ℕ, Bool, true, false, cond, List, [], ◌∷◌}
use Rattle.std.proofs.Common.{length, Option, Some, None, refl, sym, ◌∙◌, ap, slice_get}
use Rattle.kernel_model.specs.declared.Cause.{Cause}
use Rattle.kernel_model.specs.declared.Mode.TheVariants.{Shared}
use Rattle.kernel_model.specs.declared.Object.TheVariants.{Cache, OpenFile, Pol, Queue}
use Rattle.kernel_model.specs.declared.Instr.{Instr}
use Rattle.kernel_model.specs.declared.Op.{Op}
use Rattle.kernel_model.specs.declared.Op.TheVariants.{Call, Callr}
use Rattle.kernel_model.specs.Runs.{on_segment}
use Rattle.kernel_model.specs.Machine.{Machine, next_call, called_id}
use Rattle.kernel_model.specs.Objects.{Accounts, Things}
use Rattle.kernel_model.specs.World.{World, ImageTable}
use Rattle.kernel_model.specs.Access.{early_refusal, is_ask, accessed, asked_objects, asked_graft, needed}
use Rattle.kernel_model.specs.Locks.{LockTable}
use Rattle.kernel_model.specs.Levels.{Level, code_of}
use Rattle.kernel_model.specs.GraftStep.{is_spent, call_needs, instruction_needs, next_needs}
use Rattle.undo_calls.specs.UndoLevels.{Logged, innermost}
use Rattle.graft_levels.specs.declared.GraftLevel.{GraftLevel}
use Rattle.graft_levels.specs.UserNeeds.{needs_no_user}
use Rattle.graft_levels.specs.Chains.{put_back, level_in, levels_in, outer, first_level}

-- a call
pub calling : (v : World) (images : ImageTable) (a : Accounts) (l : Level)
    (ls : List Level) (id : ℕ) (needs : List Need) → false ≡ is_spent a l →
    next_call (code_of images a l.owner l.point) l.machine ≡ Some id →
    needs ≡ call_needs v l id (early_refusal v.callable id (l.machine.regs 0) (l.machine.regs 1)
    l.owner) → needs ≡ next_needs v images a (l ∷ ls)
calling v images a l ls id needs spent next is =
    is ∙ ap (instruction_needs v l) (sym next) ∙ ap (λ b. cond b []
    (instruction_needs v l (next_call (code_of images a l.owner l.point) l.machine))) spent

-- another instruction
pub plain : (v : World) (images : ImageTable) (a : Accounts) (l : Level)
    (ls : List Level) (needs : List Need) → false ≡ is_spent a l →
    next_call (code_of images a l.owner l.point) l.machine ≡ None →
    needs ≡ [] → needs ≡ next_needs v images a (l ∷ ls)
plain v images a l ls needs spent next is =
    is ∙ ap (instruction_needs v l) (sym next) ∙ ap (λ b. cond b []
    (instruction_needs v l (next_call (code_of images a l.owner l.point) l.machine))) spent

-- of the innermost level of a chain
pub of_first : (v : World) (images : ImageTable) (a : Accounts) (g : GraftLevel)
    (gs : List GraftLevel) (needs : List Need) → Some g ≡ first_level gs →
    ((p d : ℕ) (ram : List ℕ) (t : LockTable) (is : List Logged) (w : Things) (ls : List Level) →
    needs ≡ next_needs v images a (level_in p d ram t g is w ∷ ls)) →
    (p : ℕ) (ram : List ℕ) (t : LockTable) (log : List (List Logged)) (w : Things) →
    needs ≡ next_needs v images a (levels_in p ram t gs log w)
of_first v images a g [] needs is each p ram t log w = absurd (cc)
of_first v images a g (x ∷ gs) needs is each p ram t log w =
    let same : g ≡ x = cc in
    each p (length gs) ram t (innermost log) (put_back (innermost log) w)
    (levels_in p ram t gs (outer log) (put_back (innermost log) w))
    ∙ ap (λ (y : GraftLevel). next_needs v images a
    (level_in p (length gs) ram t y (innermost log) (put_back (innermost log) w) ∷ levels_in p
    ram t gs (outer log) (put_back (innermost log) w))) same

-- a machine, and the same on its segment, call the same
id_on : (op : Op) (a imm base : ℕ) (m : Machine) → called_id op a imm (on_segment base m) ≡ called_id op a imm m
id_on Call a imm base m = refl
id_on Callr a imm base m = refl
id_on _ a imm base m = refl

by_instr : (i : Option Instr) (base : ℕ) (m : Machine) →
    elim i as (λ _. Option ℕ) [
      | None ↦ None
      | Some x ↦ called_id x.op x.a x.imm (on_segment base m)
    ] ≡ elim i as (λ _. Option ℕ) [ None ↦ None | Some x ↦ called_id x.op x.a x.imm m ]
by_instr None base m = refl
by_instr (Some x) base m = id_on x.op x.a x.imm base m

pub call_on : (code : List Instr) (base : ℕ) (m : Machine) → next_call code (on_segment base m) ≡ next_call code m
call_on code base m = by_instr (slice_get code m.pc) base m

-- the holder of a user lock is a blocker of `take_lock` alone
user_is : (id r0 q : ℕ) → id ≤ 15 → is_ask id ≡ false → (accessed id r0 q).by_user ≡ (id == 12)
user_is id r0 q most plain = grind (arith, nat_tests, most, plain)

-- what a plain accessor needs
pub one_needed : (v : World) (l : Level) (id : ℕ) (needs : List Need) (o : Object) (mode : Mode) →
    v.callable ≡ 15 → id ≤ 15 →
    None ≡ early_refusal 15 id (l.machine.regs 0) (l.machine.regs 1) l.owner → false ≡ is_ask id →
    o ≡ (accessed id (l.machine.regs 0) l.owner).object → mode ≡ (accessed id (l.machine.regs 0) l.owner).mode →
    needs ≡ record { object = o; mode = mode; by_user = id == 12 } ∷ [] →
    needs ≡ call_needs v l id (early_refusal v.callable id (l.machine.regs 0) (l.machine.regs 1) l.owner)
one_needed v l id needs o mode callable most early other object_is mode_is is =
    let n = accessed id (l.machine.regs 0) l.owner in
    let need : record { object = o; mode = mode; by_user = id == 12 } ≡ n =
    needed_is n object_is mode_is (user_is id (l.machine.regs 0) l.owner most (sym other)) in
    is ∙ ap (λ (x : Need). let ns : List Need = x ∷ [] in ns) need
    ∙ ap (λ b. cond b (asked_objects id (l.machine.regs 0) l.owner ++ asked_graft id
    (l.machine.regs 0) l.owner ∷ []) (n ∷ [])) other
    ∙ ap (call_needs v l id) (early
    ∙ sym (ap (λ h. early_refusal h id (l.machine.regs 0) (l.machine.regs 1) l.owner) callable))
  where
    needed_is : (n : Need) → o ≡ n.object → mode ≡ n.mode → n.by_user ≡ (id == 12) →
        record { object = o; mode = mode; by_user = id == 12 } ≡ n
    needed_is n object_is mode_is user = grind (arith, object_is, mode_is, user)

-- ---- needs that no holder of a user lock can hinder

-- what an ask needs
ask_needs_none : (a b : Bool) (id r0 q : ℕ) → (id == 13) ≡ a → (id == 14) ≡ b →
    needs_no_user (asked_objects id r0 q ++ asked_graft id r0 q ∷ []) ≡ true
ask_needs_none true b id r0 q e f =
    ap (λ c. needs_no_user (cond c (needed (OpenFile q r0) Shared ∷ needed (Pol 0) Shared ∷ [])
    (cond (id == 14) (needed Cache Shared ∷ needed (Pol 1) Shared ∷ [])
    (needed Queue Shared ∷ needed (Pol 2) Shared ∷ [])) ++ asked_graft id r0 q ∷ [])) e
ask_needs_none false true id r0 q e f = rw (e, f) refl
ask_needs_none false false id r0 q e f = rw (e, f) refl

-- what a call of no user lock needs
call_needs_none : (v : World) (l : Level) (id : ℕ) (refusal : Option Cause) → id ≤ 15 → (id == 12) ≡ false →
    needs_no_user (call_needs v l id refusal) ≡ true
call_needs_none v l id (Some cause) most other = refl
call_needs_none v l id None most other = by_kind (is_ask id) refl
  where
    r0 : ℕ
    r0 = l.machine.regs 0

    asked : List Need
    asked = asked_objects id r0 l.owner ++ asked_graft id r0 l.owner ∷ []

    one : (n : Need) → n.by_user ≡ false → needs_no_user (n ∷ []) ≡ true
    one n h = ap (λ b. not b && true) h

    by_kind : (b : Bool) → is_ask id ≡ b → needs_no_user (cond (is_ask id) asked (accessed id r0 l.owner ∷ [])) ≡ true
    by_kind true e =
        ap (λ b. needs_no_user (cond b asked (accessed id r0 l.owner ∷ []))) e
        ∙ ask_needs_none (id == 13) (id == 14) id r0 l.owner refl refl
    by_kind false e =
        ap (λ b. needs_no_user (cond b asked (accessed id r0 l.owner ∷ []))) e
        ∙ one (accessed id r0 l.owner) (user_is id r0 l.owner most e ∙ other)

-- a callable that is no user lock's
pub is_plain_call : (x id : ℕ) → Some x ≡ Some id → x ≤ 15 → (x == 12) ≡ false → (id ≤ 15) × ((id == 12) ≡ false)
is_plain_call x id some most other =
    let same : x ≡ id = cc in
    (omega (arith, same, most), ap (λ n. n == 12) (sym same) ∙ other)

-- what the next instruction of a level needs, by what it calls
pub level_needs_none : (v : World) (images : ImageTable) (a : Accounts) (l : Level) (ls : List Level)
    (called : Option ℕ) → next_call (code_of images a l.owner l.point) l.machine ≡ called →
    ((id : ℕ) → called ≡ Some id → (id ≤ 15) × ((id == 12) ≡ false)) →
    needs_no_user (next_needs v images a (l ∷ ls)) ≡ true
level_needs_none v images a l ls called is plain =
    either (is_spent a l) (instruction_needs v l (next_call (code_of images a l.owner l.point) l.machine))
    (ap (λ c. needs_no_user (instruction_needs v l c)) is ∙ by_call called plain)
  where
    either : (b : Bool) (ns : List Need) → needs_no_user ns ≡ true → needs_no_user (cond b [] ns) ≡ true
    either true ns h = refl
    either false ns h = h

    by_call : (c : Option ℕ) → ((id : ℕ) → c ≡ Some id → (id ≤ 15) × ((id == 12) ≡ false)) →
        needs_no_user (instruction_needs v l c) ≡ true
    by_call None h = refl
    by_call (Some id) h =
        call_needs_none v l id (early_refusal v.callable id (l.machine.regs 0) (l.machine.regs 1) l.owner)
        (h id refl).0 (h id refl).1

-- of the innermost level of a chain
pub chain_needs_none : (v : World) (images : ImageTable) (a : Accounts) (g : GraftLevel)
    (gs : List GraftLevel) → Some g ≡ first_level gs →
    ((p d : ℕ) (ram : List ℕ) (t : LockTable) (is : List Logged) (w : Things) (ls : List Level) →
    needs_no_user (next_needs v images a (level_in p d ram t g is w ∷ ls)) ≡ true) →
    (p : ℕ) (ram : List ℕ) (t : LockTable) (log : List (List Logged)) (w : Things) →
    needs_no_user (next_needs v images a (levels_in p ram t gs log w)) ≡ true
chain_needs_none v images a g [] is each p ram t log w = absurd (cc)
chain_needs_none v images a g (x ∷ gs) is each p ram t log w =
    let same : g ≡ x = cc in
    sym (ap (λ (y : GraftLevel). needs_no_user (next_needs v images a
    (level_in p (length gs) ram t y (innermost log) (put_back (innermost log) w) ∷ levels_in p
    ram t gs (outer log) (put_back (innermost log) w)))) same)
    ∙ each p (length gs) ram t (innermost log) (put_back (innermost log) w)
    (levels_in p ram t gs (outer log) (put_back (innermost log) w))

-- where there is no level nothing is needed
pub no_chain_needs_none : (v : World) (images : ImageTable) (a : Accounts) (gs : List GraftLevel) →
    None ≡ first_level gs →
    (p : ℕ) (ram : List ℕ) (t : LockTable) (log : List (List Logged)) (w : Things) →
    needs_no_user (next_needs v images a (levels_in p ram t gs log w)) ≡ true
no_chain_needs_none v images a [] is p ram t log w = refl
no_chain_needs_none v images a (x ∷ gs) is p ram t log w = absurd (cc)
