-- What levels hold after an instruction is what they held and what it needed.
use Rattle.std.specs.Prelude.{◌≡◌, ℕ, ◌+◌, ◌==◌, Bool, true, false, cond, List, [], ◌∷◌, ◌++◌}
use Rattle.std.specs.Prelude.{length, slice_get, Option, Some, None, ⊤}
use Rattle.std.proofs.Common.{refl, subst, sym}
use Rattle.kernel_model.specs.declared.Cause.{Cause}
use Rattle.kernel_model.specs.declared.Cause.TheVariants.{SpentSteps, SpentRecords, SpentLocks, RefusedAnswer}
use Rattle.kernel_model.specs.declared.Held.{Held}
use Rattle.kernel_model.specs.declared.Instr.{Instr}
use Rattle.kernel_model.specs.declared.Inverse.{Inverse}
use Rattle.kernel_model.specs.declared.Kind.TheVariants.{Steps, Records, Locks}
use Rattle.kernel_model.specs.declared.Mode.{Mode}
use Rattle.kernel_model.specs.declared.Need.{Need}
use Rattle.kernel_model.specs.declared.Object.{Object}
use Rattle.kernel_model.specs.declared.Op.{Op}
use Rattle.kernel_model.specs.declared.Op.TheVariants.{Li, Mov, Add, Sub, Mul, And, Or, Xor, Shl}
use Rattle.kernel_model.specs.declared.Op.TheVariants.{Shr, Divu, Remu, Sltu, Addi, Andi, Ldw, Stw}
use Rattle.kernel_model.specs.declared.Op.TheVariants.{Ldb, Stb, Jmp, Jz, Jnz, Call, Callr, Trap}
use Rattle.kernel_model.specs.declared.Op.TheVariants.{Ret}
use Rattle.kernel_model.specs.World.{World, ImageTable}
use Rattle.kernel_model.specs.Objects.{Objects, Things, GraftValue, same_object, with_accounts}
use Rattle.kernel_model.specs.SameObject.{same_object_is}
use Rattle.kernel_model.specs.Machine.{Machine, Done, Went, Called, Returned, DividedByZero}
use Rattle.kernel_model.specs.Machine.{Trapped, Outside, PastEnd, Width, Word, Byte, segment_place}
use Rattle.kernel_model.specs.Machine.{exec, sets, reads, writes, jumps, seg_step, called_id}
use Rattle.kernel_model.specs.Machine.{next_call}
use Rattle.kernel_model.specs.Policies.{valid, default_of}
use Rattle.kernel_model.specs.Access.{Access, Gives, Changes, Refuses, access, early_refusal}
use Rattle.kernel_model.specs.Access.{is_ask, accessed, asked_point, asked_objects, asked_graft}
use Rattle.kernel_model.specs.Access.{found_segment, set_segment}
use Rattle.kernel_model.specs.Charges.{funds, charge}
use Rattle.kernel_model.specs.Locks.{Touched, touch, touch_all, held_as, stronger}
use Rattle.kernel_model.specs.Levels.{Level, Outcome, code_of, level_at, touched_in, touched_at}
use Rattle.kernel_model.specs.Levels.{with_machine, with_touched, touch_outermost}
use Rattle.kernel_model.specs.Levels.{answer_innermost, drop_innermost, drop_level, image_of}
use Rattle.kernel_model.specs.Levels.{keeps_in}
use Rattle.kernel_model.specs.GraftStep.{after_access, is_lock_due, lock_paid, after_result}
use Rattle.kernel_model.specs.GraftStep.{is_record_spent, after_change, after_accessor}
use Rattle.kernel_model.specs.GraftStep.{ask_refusal, ask_answered, after_ask, granted_call}
use Rattle.kernel_model.specs.GraftStep.{after_call, completed, after_keeping, after_answer}
use Rattle.kernel_model.specs.GraftStep.{after_return, after_machine, is_spent, charged_step}
use Rattle.kernel_model.specs.GraftStep.{micro_on, call_needs, instruction_needs, next_needs}

-- ---- calls of the machine

no_read : (m n : Machine) (w : Width) (a id : ℕ) (x : Option ℕ) → reads m w a x ≡ Called id n → ⊥
no_read m n w a id None h = cc
no_read m n w a id (Some place) h = cc

no_write : (m n : Machine) (w : Width) (a id : ℕ) (x : Option ℕ) → writes m w a x ≡ Called id n → ⊥
no_write m n w a id None h = cc
no_write m n w a id (Some place) h = cc

no_division : (b : Bool) (m n : Machine) (a x id : ℕ) →
    elim b as (λ _. Done) [ true ↦ DividedByZero | false ↦ sets m a x ] ≡ Called id n → ⊥
no_division true m n a x id h = cc
no_division false m n a x id h = cc

no_jump : (b : Bool) (m n : Machine) (x y id : ℕ) →
    elim b as (λ _. Done) [ true ↦ jumps m x | false ↦ jumps m y ] ≡ Called id n → ⊥
no_jump true m n x y id h = cc
no_jump false m n x y id h = cc

exec_called : (op : Op) (a b c imm : ℕ) (m n : Machine) (id : ℕ) →
    exec segment_place op a b c imm m ≡ Called id n → called_id op a imm m ≡ Some id
exec_called Call a b c imm m n id h = cc
exec_called Callr a b c imm m n id h = cc
exec_called Divu a b c imm m n id h = absurd (no_division (m.regs c == 0) m n a _ id h)
exec_called Remu a b c imm m n id h = absurd (no_division (m.regs c == 0) m n a _ id h)
exec_called Ldw a b c imm m n id h = absurd (no_read m n Word a id (segment_place m Word (m.regs b)) h)
exec_called Stw a b c imm m n id h = absurd (no_write m n Word (m.regs a) id (segment_place m Word (m.regs b)) h)
exec_called Ldb a b c imm m n id h = absurd (no_read m n Byte a id (segment_place m Byte (m.regs b)) h)
exec_called Stb a b c imm m n id h = absurd (no_write m n Byte (m.regs a) id (segment_place m Byte (m.regs b)) h)
exec_called Jz a b c imm m n id h = absurd (no_jump (m.regs a == 0) m n imm (m.pc + 1) id h)
exec_called Jnz a b c imm m n id h = absurd (no_jump (m.regs a == 0) m n (m.pc + 1) imm id h)
exec_called Li a b c imm m n id h = absurd cc
exec_called Mov a b c imm m n id h = absurd cc
exec_called Add a b c imm m n id h = absurd cc
exec_called Sub a b c imm m n id h = absurd cc
exec_called Mul a b c imm m n id h = absurd cc
exec_called And a b c imm m n id h = absurd cc
exec_called Or a b c imm m n id h = absurd cc
exec_called Xor a b c imm m n id h = absurd cc
exec_called Shl a b c imm m n id h = absurd cc
exec_called Shr a b c imm m n id h = absurd cc
exec_called Sltu a b c imm m n id h = absurd cc
exec_called Addi a b c imm m n id h = absurd cc
exec_called Andi a b c imm m n id h = absurd cc
exec_called Jmp a b c imm m n id h = absurd cc
exec_called Trap a b c imm m n id h = absurd cc
exec_called Ret a b c imm m n id h = absurd cc

-- an instruction that calls an id is told beforehand
pub called_next : (code : List Instr) (m n : Machine) (id : ℕ) → seg_step code m ≡ Called id n →
    next_call code m ≡ Some id
called_next code m n id h = next_by (slice_get code m.pc) h
  where
    next_by : (x : Option Instr) → elim x as (λ _. Done) [
      | None ↦ PastEnd
      | Some i ↦ exec segment_place i.op i.a i.b i.c i.imm m
    ] ≡ Called id n →
        elim x as (λ _. Option ℕ) [ None ↦ None | Some i ↦ called_id i.op i.a i.imm m ] ≡ Some id
    next_by None h = absurd cc
    next_by (Some i) h = exec_called i.op i.a i.b i.c i.imm m n id h

-- ---- holds that are allowed

-- Which ways to hold an object are allowed: none at all is, and the stronger of two that are.
pub record AllowsHolds (Ok : Object → Held → Type 0) : Type 1 where
  pub free : (o : Object) → Ok o Held.Free
  pub both : (o : Object) (a b : Held) → Ok o a → Ok o b → Ok o (stronger a b)

module _ (Ok : Object → Held → Type 0) where
  -- a level holds as is allowed, and each of these levels
  abbrev pub IsOk : Touched → Type 0
  IsOk t = (o : Object) → Ok o (t o)

  abbrev pub AllOk : List Level → Type 0
  AllOk [] = ⊤
  AllOk (l ∷ ls) = IsOk l.touched × AllOk ls

  -- these needs may be held
  abbrev pub NeedsOk : List Need → Type 0
  NeedsOk [] = ⊤
  NeedsOk (n ∷ ns) = Ok n.object (held_as n.mode) × NeedsOk ns

module _ (Ok : Object → Held → Type 0) (allows : AllowsHolds Ok) where
  needs_parts : (xs ys : List Need) → NeedsOk Ok (xs ++ ys) → NeedsOk Ok xs × NeedsOk Ok ys
  needs_parts [] ys h = (tt, h)
  needs_parts (x ∷ xs) ys h = let rest = needs_parts xs ys h.1 in ((h.0, rest.0), rest.1)

  touch_ok : (x : Object) (mode : Mode) (t : Touched) → IsOk Ok t → Ok x (held_as mode) → IsOk Ok (touch x mode t)
  touch_ok x mode t h need o = touch_by (same_object o x) refl
    where
      touch_by : (b : Bool) → same_object o x ≡ b → Ok o (cond b (stronger (t o) (held_as mode)) (t o))
      touch_by true e =
          allows.both o (t o) (held_as mode) (h o)
          (subst (λ y. Ok y (held_as mode)) (sym (same_object_is o x e)) need)
      touch_by false e = h o

  pub touch_all_ok : (ns : List Need) (t : Touched) → IsOk Ok t → NeedsOk Ok ns → IsOk Ok (touch_all ns t)
  touch_all_ok [] t h needs = h
  touch_all_ok (n ∷ ns) t h needs =
      touch_all_ok ns (touch n.object n.mode t) (touch_ok n.object n.mode t h needs.0) needs.1

  outermost_ok : (x : Object) (ls : List Level) → AllOk Ok ls → Ok x Held.Exclusive → AllOk Ok (touch_outermost x ls)
  outermost_ok x [] h need = tt
  outermost_ok x (l ∷ []) h need = (touch_ok x Mode.Exclusive l.touched h.0 need, tt)
  outermost_ok x (l ∷ k ∷ ls) h need = (h.0, outermost_ok x (k ∷ ls) h.1 need)

  pub answer_ok : (pt r0 r1 : ℕ) (ls : List Level) → AllOk Ok ls → AllOk Ok (answer_innermost pt r0 r1 ls)
  answer_ok pt r0 r1 [] h = tt
  answer_ok pt r0 r1 (l ∷ ls) h = h

  -- at each depth
  pub depth_ok : (ls : List Level) (d : ℕ) → AllOk Ok ls → IsOk Ok (touched_at ls d)
  depth_ok [] d h o = allows.free o
  depth_ok (l ∷ ls) d h o = depth_by (length ls == d) (depth_ok ls d h.1 o)
    where
      depth_by : (b : Bool) → Ok o (touched_in (level_at d ls) o) → Ok o
          (touched_in (elim b as (λ _. Option Level) [ true ↦ Some l | false ↦ level_at d ls ]) o)
      depth_by true further = h.0 o
      depth_by false further = further

  module _ (v : World) where
    -- ---- accessors

    drop_ok : (w : Objects) (l : Level) (ls : List Level) (cause : Cause) → AllOk Ok (l ∷ ls) →
        AllOk Ok (drop_innermost v w l ls cause).config.levels
    drop_ok w l ls cause h = let d = default_of v l.kept l.owner l.point in answer_ok l.point d.0 d.1 ls h.1

    pub level_drop_ok : (w : Objects) (ls : List Level) (d : ℕ) (cause : Cause) → AllOk Ok ls →
        AllOk Ok (drop_level v w ls d cause).config.levels
    level_drop_ok w [] d cause h = tt
    level_drop_ok w (l ∷ ls) d cause h = drop_by (length ls == d) (level_drop_ok w ls d cause h.1)
      where
        drop_by : (b : Bool) → AllOk Ok (drop_level v w ls d cause).config.levels →
            AllOk Ok (elim b as (λ _. Outcome) [
              | true ↦ drop_innermost v w l ls cause
              | false ↦ drop_level v w ls d cause
            ]).config.levels
        drop_by true further = drop_ok w l ls cause h
        drop_by false further = further

    access_ok : (l : Level) (ls : List Level) (m : Machine) (id result : ℕ) → AllOk Ok (l ∷ ls) →
        NeedsOk Ok (accessed id (l.machine.regs 0) l.owner ∷ []) →
        AllOk Ok (after_access l m id result ∷ ls)
    access_ok l ls m id result h needs =
        (touch_all_ok (accessed id (l.machine.regs 0) l.owner ∷ []) l.touched h.0 needs, h.1)

    lock_ok : (w : Objects) (l : Level) (ls : List Level) (m : Machine) (id result : ℕ)
        (spent : Bool) → AllOk Ok (l ∷ ls) →
        NeedsOk Ok (accessed id (l.machine.regs 0) l.owner ∷ []) →
        AllOk Ok (lock_paid v w l ls m id result spent).config.levels
    lock_ok w l ls m id result true h needs = drop_ok w l ls SpentLocks h
    lock_ok w l ls m id result false h needs = access_ok l ls m id result h needs

    result_ok : (w : Objects) (l : Level) (ls : List Level) (m : Machine) (id result : ℕ)
        (due : Bool) → AllOk Ok (l ∷ ls) →
        NeedsOk Ok (accessed id (l.machine.regs 0) l.owner ∷ []) →
        AllOk Ok (after_result v w l ls m id result due).config.levels
    result_ok w l ls m id result true h needs =
        lock_ok w l ls m id result (funds w.accounts l.owner l.point Locks == 0) h needs
    result_ok w l ls m id result false h needs = access_ok l ls m id result h needs

    change_ok : (w : Objects) (l : Level) (ls : List Level) (m : Machine) (id result : ℕ)
        (i : Inverse) (u : Things) (spent : Bool) → AllOk Ok (l ∷ ls) →
        NeedsOk Ok (accessed id (l.machine.regs 0) l.owner ∷ []) →
        AllOk Ok (after_change v w l ls m id result i u spent).config.levels
    change_ok w l ls m id result i u true h needs = drop_ok w l ls SpentRecords h
    change_ok w l ls m id result i u false h needs = access_ok l ls m id result h needs

    accessor_ok : (w : Objects) (l : Level) (ls : List Level) (m : Machine) (id : ℕ) (x : Access) → AllOk Ok (l ∷ ls) →
        NeedsOk Ok (accessed id (l.machine.regs 0) l.owner ∷ []) →
        AllOk Ok (after_accessor v w l ls m id x).config.levels
    accessor_ok w l ls m id (Refuses cause) h needs = drop_ok w l ls cause h
    accessor_ok w l ls m id (Gives result) h needs =
        result_ok w l ls m id result (is_lock_due id (l.machine.regs 0) (l ∷ ls)) h needs
    accessor_ok w l ls m id (Changes result i u) h needs =
        change_ok w l ls m id result i u (is_record_spent w.accounts l ls) h needs

    module _ (images : ImageTable) (p : ℕ) where
      -- ---- asks

      answered_ok : (w : Objects) (q pt : ℕ) (ks : List Level) (g : Option GraftValue) →
          AllOk Ok ks → AllOk Ok (ask_answered v images w p q pt ks g).config.levels
      answered_ok w q pt ks None h = let d = default_of v w.things q pt in answer_ok pt d.0 d.1 ks h
      answered_ok w q pt ks (Some g) h = (λ o. allows.free o, h)

      ask_ok : (w : Objects) (l : Level) (ls : List Level) (m : Machine) (id : ℕ)
          (x : Option Cause) → AllOk Ok (l ∷ ls) →
          NeedsOk Ok (asked_objects id (l.machine.regs 0) l.owner ++ asked_graft id (l.machine.regs 0) l.owner ∷ []) →
          AllOk Ok (after_ask v images w p l ls m id (asked_point id (l.machine.regs 0)) x).config.levels
      ask_ok w l ls m id (Some cause) h needs = drop_ok w l ls cause h
      ask_ok w l ls m id None h needs =
          let pt = asked_point id (l.machine.regs 0) in
          let asker = with_touched (asked_objects id (l.machine.regs 0) l.owner) (with_machine m l) in
          let parts = needs_parts (asked_objects id (l.machine.regs 0) l.owner)
          (asked_graft id (l.machine.regs 0) l.owner ∷ []) needs in
          answered_ok w l.owner pt
          (touch_outermost (asked_graft id (l.machine.regs 0) l.owner).object (asker ∷ ls))
          (w.accounts.graft l.owner pt)
          (outermost_ok (asked_graft id (l.machine.regs 0) l.owner).object
          (asker ∷ ls) (
            touch_all_ok (asked_objects id (l.machine.regs 0) l.owner) l.touched h.0
                parts.0,
            h.1,
          ) parts.1.0)

      -- ---- calls and answers

      granted_ok : (w : Objects) (l : Level) (ls : List Level) (m : Machine) (id : ℕ) (ask : Bool) → AllOk Ok (l ∷ ls) →
          NeedsOk Ok (cond ask (asked_objects id (l.machine.regs 0) l.owner ++ asked_graft id
          (l.machine.regs 0) l.owner ∷ []) (accessed id (l.machine.regs 0) l.owner ∷ [])) →
          AllOk Ok (granted_call v images w p l ls m id ask).config.levels
      granted_ok w l ls m id true h needs =
          ask_ok w l ls m id
          (ask_refusal w l.owner (asked_point id (l.machine.regs 0)) id (l ∷ ls)) h needs
      granted_ok w l ls m id false h needs =
          accessor_ok w l ls m id (access id (l.machine.regs 0) (l.machine.regs 1)
          (l.machine.regs 2) l.owner w.things) h needs

      call_ok : (w : Objects) (l : Level) (ls : List Level) (m : Machine) (id : ℕ)
          (x : Option Cause) → AllOk Ok (l ∷ ls) → NeedsOk Ok (call_needs v l id x) →
          AllOk Ok (after_call v images w p l ls m id x).config.levels
      call_ok w l ls m id (Some cause) h needs = drop_ok w l ls cause h
      call_ok w l ls m id None h needs = granted_ok w l ls m id (is_ask id) h needs

      completed_ok : (w : Objects) (l : Level) (ls : List Level) → AllOk Ok (l ∷ ls) →
          AllOk Ok (completed w l ls).config.levels
      completed_ok w l [] h = tt
      completed_ok w l (asker ∷ rest) h = (λ o. allows.both o (l.touched o) (asker.touched o) (h.0 o) (h.1.0 o), h.1.1)

      keeping_ok : (w : Objects) (l : Level) (ls : List Level) (spent : Bool) → AllOk Ok (l ∷ ls) →
          AllOk Ok (after_keeping v w l ls spent).config.levels
      keeping_ok w l ls true h = drop_ok w l ls SpentRecords h
      keeping_ok w l ls false h =
          let u : Objects = record {
            accounts = charge Records l.owner l.point w.accounts;
            things = set_segment l.owner l.point (Some l.machine.memory) w.things;
          } in
          completed_ok u (record l { records = found_segment l.owner l.point w.things ∷ l.records }) ls h

      answer_ok_by : (w : Objects) (l : Level) (ls : List Level) (keeps : Bool) →
          AllOk Ok (l ∷ ls) → AllOk Ok (after_answer v w l ls keeps).config.levels
      answer_ok_by w l ls true h = keeping_ok w l ls (is_record_spent w.accounts l ls) h
      answer_ok_by w l ls false h = completed_ok w l ls h

      return_ok : (w : Objects) (l : Level) (ls : List Level) (b : Bool) → AllOk Ok (l ∷ ls) →
          AllOk Ok (after_return v images w l ls b).config.levels
      return_ok w l ls true h = answer_ok_by w l ls (keeps_in (image_of images (w.accounts.graft l.owner l.point))) h
      return_ok w l ls false h = drop_ok w l ls (RefusedAnswer (l.machine.regs 0) (l.machine.regs 1)) h

      -- ---- one instruction

      machine_ok : (w : Objects) (l : Level) (ls : List Level) (x : Done) → AllOk Ok (l ∷ ls) →
          ((id : ℕ) (m : Machine) → x ≡ Called id m → NeedsOk Ok (call_needs v l id
          (early_refusal v.callable id (l.machine.regs 0) (l.machine.regs 1) l.owner))) →
          AllOk Ok (after_machine v images p w l ls x).config.levels
      machine_ok w l ls (Done.Went m) h needs = h
      machine_ok w l ls (Called id m) h needs =
          call_ok w l ls m id (early_refusal v.callable id (l.machine.regs 0) (l.machine.regs 1)
          l.owner) h (needs id m refl)
      machine_ok w l ls Returned h needs =
          return_ok w l ls
          (valid w.things l.owner l.point l.args (l.machine.regs 0) (l.machine.regs 1)) h
      machine_ok w l ls DividedByZero h needs = drop_ok w l ls Cause.DivideByZero h
      machine_ok w l ls (Trapped code) h needs = drop_ok w l ls (Cause.Trap code) h
      machine_ok w l ls Outside h needs = drop_ok w l ls Cause.DivideByZero h
      machine_ok w l ls PastEnd h needs = drop_ok w l ls Cause.DivideByZero h

      step_ok : (w : Objects) (l : Level) (ls : List Level) (spent : Bool) → AllOk Ok (l ∷ ls) →
          NeedsOk Ok (cond spent [] (instruction_needs v l
          (next_call (code_of images w.accounts l.owner l.point) l.machine))) →
          AllOk Ok (charged_step v images p w l ls spent).config.levels
      step_ok w l ls true h needs = drop_ok w l ls SpentSteps h
      step_ok w l ls false h needs =
          let code = code_of images w.accounts l.owner l.point in
          machine_ok (with_accounts (charge Steps l.owner l.point w.accounts) w)
          (record l { count = l.count + 1 }) ls (seg_step code l.machine) h
          (λ id m e. subst (λ x. NeedsOk Ok (instruction_needs v l x)) (called_next code l.machine m id e) needs)

      -- after an instruction each level holds as is allowed, where each did and what was needed may be held
      pub instruction_ok : (w : Objects) (ls : List Level) →
          AllOk Ok ls → NeedsOk Ok (next_needs v images w.accounts ls) →
          AllOk Ok (micro_on v images p w ls).config.levels
      instruction_ok w [] h needs = tt
      instruction_ok w (l ∷ ls) h needs = step_ok w l ls (is_spent w.accounts l) h needs
