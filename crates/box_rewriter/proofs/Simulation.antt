-- A run of boxed code beside the run of its raw code.
use Rattle.std.proofs.Common.{◌≡◌, ◌≢◌, ℕ, zero, suc, ◌+◌, ◌-◌, ◌*◌, ◌<◌, ◌≤◌, Bool, true, false}
use Rattle.std.proofs.Common.{cond, ◌&&◌, ◌||◌, List, [], ◌∷◌, ◌++◌, length, get_or, sym, ap}
use Rattle.std.proofs.Common.{subst, ◌∙◌, refl, arith, inl, inr}
use Rattle.std.specs.Prelude.{◌==◌, ◌⊎◌, slice_get, bit_and, bit_or, Option, None, Some}
use Rattle.std.proofs.lemmas.Bool.{or_parts, eqb-false, ne_eqb}
use Rattle.std.proofs.lemmas.Option.{slice_get_cases}
use Rattle.graft_code.specs.declared.Instr.{Instr}
use Rattle.graft_code.specs.declared.Op.{Op}
use Rattle.graft_code.specs.declared.Op.TheVariants.{Or, Andi, Ldw, Stw, Ldb, Stb}
use Rattle.graft_code.specs.Instructions.{row_of, names_register}
use Rattle.graft_code.specs.Objects.{at}
use Rattle.graft_code.specs.Machine.{Machine, Done, Went, Called, Returned, DividedByZero, Trapped}
use Rattle.graft_code.specs.Machine.{Outside, PastEnd, Places, Width, word, mask, segment_base}
use Rattle.graft_code.specs.Machine.{segment_place, masked_place, step_by, exec}
use Rattle.graft_code.specs.Boxed.{access_width, is_some_width, is_jump, is_end, boxed_length}
use Rattle.graft_code.specs.Boxed.{boxed_place, boxed_instr, boxed_code, instr, ends_well}
use Rattle.graft_code.specs.Runs.{MadeCall, Halt, CodeRun, first_run, with_answer, answered_call}
use Rattle.graft_code.specs.Runs.{after_done, is_access, counted_access, run_step, run_by, raw_run}
use Rattle.graft_code.specs.Runs.{boxed_run}
use Rattle.graft_code.specs.SandboxClaims.{HasComeAsFar, Rewriting}
use Rattle.box_rewriter.proofs.Blocks.{IsUnreserved, block_at, place_next}
use Rattle.box_rewriter.proofs.Boxing.{IsRewritable, in_access}
use Rattle.box_rewriter.proofs.Faults.{rewritten}
use Rattle.box_rewriter.proofs.Offsets.{masked_offset, masked_word, join_base}
use Rattle.box_rewriter.proofs.Alike.{AreSame, IsAlike, GoneOn, DoneAlike, Stand, Fields}
use Rattle.box_rewriter.proofs.Alike.{HasAddress, exec_alike, jump_alike, access_alike}
use Rattle.box_rewriter.proofs.Alike.{either}
use Rattle.box_rewriter.proofs.Places.{place_zero}

-- ---- runs

-- two runs that have come equally far
pub record RunAlike (code : List Instr) (base : ℕ) (r b : CodeRun) : Type 0 where
  pub machine : IsAlike code base r.machine b.machine
  pub calls : b.calls ≡ r.calls
  pub answers : b.answers ≡ r.answers
  pub ended : b.ended ≡ r.ended
  pub inside : r.ended ≡ None → r.machine.pc < length code

call_same : (id : ℕ) (x y z u v w : ℕ) → x ≡ u → y ≡ v → z ≡ w
    → ◌≡◌ {A = MadeCall} (record { id = id; r0 = x; r1 = y; r2 = z }) (record { id = id; r0 = u; r1 = v; r2 = w })
call_same id x y z u v w e f g = rw (e, f, g) refl

answer_regs : (t : Bool) (p q : ℕ) (f g : ℕ → ℕ) (r : ℕ) → f r ≡ g r →
    cond t (at 1 q (at 0 p f)) (at 0 p f) r ≡ cond t (at 1 q (at 0 p g)) (at 0 p g) r
answer_regs true p q f g r h = either (r == 1) q (at 0 p f r) (at 0 p g r) (either (r == 0) p (f r) (g r) h)
answer_regs false p q f g r h = either (r == 0) p (f r) (g r) h

answer_keeps : (t : Bool) (p q : ℕ) (f : ℕ → ℕ) → cond t (at 1 q (at 0 p f)) (at 0 p f) 15 ≡ f 15
answer_keeps true p q f = refl
answer_keeps false p q f = refl

answered_alike : (code : List Instr) (base id : ℕ) (pair : ℕ × ℕ) (m n : Machine) →
    IsAlike code base m n → IsAlike code base (with_answer id pair m) (with_answer id pair n)
answered_alike code base id pair m n a = record {
  same = record {
    regs = λ r h. answer_regs (id == 13) pair.0 pair.1 n.regs m.regs r (a.same.regs r h);
    base_is = answer_keeps (id == 13) pair.0 pair.1 m.regs ∙ a.same.base_is;
    segment = a.same.segment;
  };
  place = a.place;
}

call_alike : (code : List Instr) (base id : ℕ) (m n : Machine) (r b : CodeRun)
    (answers : List (ℕ × ℕ)) → RunAlike code base r b → IsAlike code base m n → m.pc < length code
    → RunAlike code base (answered_call id m r answers) (answered_call id n b answers)
call_alike code base id m n r b [] a s h = record {
  machine = a.machine;
  calls = a.calls;
  answers = a.answers;
  ended = refl;
  inside = λ e. cc;
}
call_alike code base id m n r b (pair ∷ pairs) a s h = record {
  machine = answered_alike code base id pair m n s;
  calls =
      ap (λ (cs : List MadeCall). cs ++ record { id = id; r0 = n.regs 0; r1 = n.regs 1; r2 = n.regs 2 } ∷ []) a.calls
      ∙ ap (λ (c : MadeCall). r.calls ++ c ∷ [])
      (call_same id (n.regs 0) (n.regs 1) (n.regs 2) (m.regs 0) (m.regs 1) (m.regs 2)
      (s.same.regs 0 (λ e. cc)) (s.same.regs 1 (λ e. cc)) (s.same.regs 2 (λ e. cc)));
  answers = refl;
  ended = a.ended;
  inside = λ _. h;
}

went_alike : (code : List Instr) (base : ℕ) (m : Machine) (r b : CodeRun) (w : GoneOn code base m) →
    RunAlike code base r b
    → RunAlike code base (record r { machine = m }) (record b { machine = w.n })
went_alike code base m r b w a =
    record {
      machine = w.alike;
      calls = a.calls;
      answers = a.answers;
      ended = a.ended;
      inside = λ _. w.inside;
    }

halt_alike : (code : List Instr) (base : ℕ) (halt : Halt) (r b : CodeRun) → RunAlike code base r b
    → RunAlike code base (record r { ended = Some halt }) (record b { ended = Some halt })
halt_alike code base halt r b a =
    record {
      machine = a.machine;
      calls = a.calls;
      answers = a.answers;
      ended = refl;
      inside = λ e. cc;
    }

-- runs after alike instructions
after_alike : (code : List Instr) (base : ℕ) (d e : Done) (r b : CodeRun) →
    DoneAlike code base d e → RunAlike code base r b
    → RunAlike code base (after_done d r) (after_done e b)
after_alike code base (Went m) e r b (w, is) a =
    subst (λ (x : Done). RunAlike code base (after_done (Went m) r) (after_done x b)) (sym is)
    (went_alike code base m r b w a)
after_alike code base (Called id m) e r b (w, is) a =
    subst (λ (x : Done). RunAlike code base (after_done (Called id m) r) (after_done x b)) (sym is)
    (subst (λ (l : List (ℕ × ℕ)). RunAlike code base (answered_call id m r r.answers)
    (answered_call id w.n b l)) (sym a.answers)
    (call_alike code base id m w.n r b r.answers a w.alike w.inside))
after_alike code base Returned e r b is a =
    subst (λ (x : Done). RunAlike code base (after_done Returned r) (after_done x b)) (sym is)
    (halt_alike code base Halt.AtReturn r b a)
after_alike code base DividedByZero e r b is a =
    subst (λ (x : Done). RunAlike code base (after_done DividedByZero r) (after_done x b)) (sym is)
    (halt_alike code base Halt.AtDivision r b a)
after_alike code base (Trapped c) e r b is a =
    subst (λ (x : Done). RunAlike code base (after_done (Trapped c) r) (after_done x b)) (sym is)
    (halt_alike code base (Halt.AtTrap c) r b a)
after_alike code base Outside e r b h a = absurd h
after_alike code base PastEnd e r b h a = absurd h

counted_alike : (code : List Instr) (base : ℕ) (s t : Bool) (r b : CodeRun) →
    RunAlike code base r b → RunAlike code base (counted_access s r) (counted_access t b)
counted_alike code base s t r b a =
    record {
      machine = a.machine;
      calls = a.calls;
      answers = a.answers;
      ended = a.ended;
      inside = a.inside;
    }

-- ---- how many accesses

answered_count : (id : ℕ) (m : Machine) (r : CodeRun) (answers : List (ℕ × ℕ)) →
    (answered_call id m r answers).accesses ≡ r.accesses
answered_count id m r [] = refl
answered_count id m r (pair ∷ pairs) = refl

after_count : (d : Done) (r : CodeRun) → (after_done d r).accesses ≡ r.accesses
after_count (Went m) r = refl
after_count (Called id m) r = answered_count id m r r.answers
after_count Returned r = refl
after_count DividedByZero r = refl
after_count (Trapped c) r = refl
after_count Outside r = refl
after_count PastEnd r = refl

step_count : (place : Places) (code : List Instr) (r : CodeRun) → (run_step place code r).accesses
    ≡ r.accesses + cond (is_access (slice_get code r.machine.pc)) 1 0
step_count place code r =
    after_count (step_by place code r.machine)
    (counted_access (is_access (slice_get code r.machine.pc)) r)

-- ---- runs of several instructions

run_more : (place : Places) (code : List Instr) (n : ℕ) (r : CodeRun) → r.ended ≡ None →
    run_by place code (suc n) r ≡ run_by place code n (run_step place code r)
run_more place code n r e =
    let f : Option Halt → CodeRun =
    λ o. elim o [ Some halt ↦ r | None ↦ run_by place code n (run_step place code r) ] in
    ap f e

run_over : (place : Places) (code : List Instr) (n : ℕ) (r : CodeRun) (halt : Halt) →
    r.ended ≡ Some halt → run_by place code n r ≡ r
run_over place code zero r halt e = refl
run_over place code (suc n) r halt e =
    let f : Option Halt → CodeRun =
    λ o. elim o [ Some halt ↦ r | None ↦ run_by place code n (run_step place code r) ] in
    ap f e

count_grows : (place : Places) (code : List Instr) (n : ℕ) (r : CodeRun) → r.accesses ≤ (run_by place code n r).accesses
count_grows place code zero r = omega arith
count_grows place code (suc n) r = by_end r.ended refl (count_grows place code n (run_step place code r))
  where
    by_end : (o : Option Halt) → r.ended ≡ o →
        (run_step place code r).accesses ≤ (run_by place code n (run_step place code r)).accesses
        → r.accesses ≤ (run_by place code (suc n) r).accesses
    by_end (Some halt) e later = omega (arith, ap (λ (x : CodeRun). x.accesses) (run_over place code (suc n) r halt e))
    by_end None e later =
        omega (
          arith,
          ap (λ (x : CodeRun). x.accesses) (run_more place code n r e),
          later,
          step_count place code r,
        )

-- ---- one raw instruction

step_is : (place : Places) (code : List Instr) (m : Machine) (i : Instr) →
    slice_get code m.pc ≡ Some i → step_by place code m ≡ exec place i.op i.a i.b i.c i.imm m
step_is place code m i h = rw (h, step_by) refl

-- behind an instruction that doesn't end code stands another one
more_follow : (code : List Instr) (p : ℕ) (i : Instr) → ends_well code ≡ true →
    slice_get code p ≡ Some i → is_end i.op ≡ false → p + 1 < length code
more_follow [] p i e h n = cc
more_follow (k ∷ []) zero i e h n = let same : k ≡ i = cc in cc (ap (λ (j : Instr). is_end j.op) same)
more_follow (k ∷ []) (suc p) i e h n = cc
more_follow (k ∷ l ∷ is) zero i e h n = omega arith
more_follow (k ∷ l ∷ is) (suc p) i e h n = omega (arith, more_follow (l ∷ is) p i e h n)

fields_of : (i : Instr) → IsUnreserved i → Fields i.op i.a i.b i.c
fields_of i h =
    let f = (row_of i.op).form in
    let both = or_parts (names_register 14 i) (names_register 15 i) h in
    let three14 = or_parts (f.a && i.a == 14 || f.b && i.b == 14) (f.c && i.c == 14) both.0 in
    let two14 = or_parts (f.a && i.a == 14) (f.b && i.b == 14) three14.0 in
    let three15 = or_parts (f.a && i.a == 15 || f.b && i.b == 15) (f.c && i.c == 15) both.1 in
    let two15 = or_parts (f.a && i.a == 15) (f.b && i.b == 15) three15.0 in
    record { a14 = two14.0; a15 = two15.0; b14 = two14.1; c14 = three14.1 }

-- what is known where a raw run takes an instruction
record Taken (code : List Instr) (slot : ℕ) (r b : CodeRun) (i : Instr) : Type 0 where
  can : IsRewritable code
  few : slot < 64
  alike : RunAlike code (segment_base slot) r b
  here : slice_get code r.machine.pc ≡ Some i

stand_one : (code : List Instr) (slot : ℕ) (r b : CodeRun) (i : Instr) → Taken code slot r b i →
    access_width i.op ≡ None
    → Stand code (segment_base slot) r.machine b.machine (is_end i.op)
stand_one code slot r b i t e =
    let one : boxed_length i ≡ 1 = rw (e, boxed_length) refl in
    record {
      same = t.alike.machine.same;
      more = λ g. more_follow code r.machine.pc i t.can.ends t.here g;
      next = omega (arith, t.alike.machine.place, place_next code r.machine.pc i t.here, one);
    }

-- what stands for an instruction that isn't an access
found_one : (code : List Instr) (slot : ℕ) (r b : CodeRun) (i : Instr) → Taken code slot r b i →
    access_width i.op ≡ None
    → slice_get (boxed_code code) b.machine.pc ≡ slice_get (cond (is_jump i.op)
    (record i { imm = boxed_place code i.imm } ∷ []) (i ∷ [])) 0
found_one code slot r b i t e =
    let one : boxed_length i ≡ 1 = rw (e, boxed_length) refl in
    let place : b.machine.pc ≡ boxed_place code r.machine.pc + 0 = omega (arith, t.alike.machine.place) in
    let block : boxed_instr code i ≡ cond (is_jump i.op)
    (record i { imm = boxed_place code i.imm } ∷ []) (i ∷ []) = rw (e, boxed_instr) refl in
    ap (λ (k : ℕ). slice_get (boxed_code code) k) place
    ∙ block_at code code r.machine.pc 0 i t.here (omega (arith, one))
    ∙ ap (λ (l : List Instr). slice_get l 0) block

done_one : (code : List Instr) (slot : ℕ) (r b : CodeRun) (i : Instr) (jump : Bool) →
    Taken code slot r b i → access_width i.op ≡ None → is_jump i.op ≡ jump
    → DoneAlike code (segment_base slot) (step_by masked_place code r.machine)
    (step_by segment_place (boxed_code code) b.machine)
done_one code slot r b i false t e j =
    let found : slice_get (boxed_code code) b.machine.pc ≡ Some i =
    found_one code slot r b i t e ∙ ap (λ (x : Bool). slice_get
    (cond x (record i { imm = boxed_place code i.imm } ∷ []) (i ∷ [])) 0) j in
    subst (λ (d : Done). DoneAlike code (segment_base slot) d (step_by segment_place
    (boxed_code code) b.machine)) (sym (step_is masked_place code r.machine i t.here))
    (subst (λ (d : Done). DoneAlike code (segment_base slot) (exec masked_place i.op i.a i.b i.c
    i.imm r.machine) d) (sym (step_is segment_place (boxed_code code) b.machine i found))
    (exec_alike code (segment_base slot) i.op i.a i.b i.c i.imm r.machine b.machine e j
    (fields_of i (t.can.free.each r.machine.pc i t.here)) (stand_one code slot r b i t e)))
done_one code slot r b i true t e j =
    let k : Instr = record i { imm = boxed_place code i.imm } in
    let found : slice_get (boxed_code code) b.machine.pc ≡ Some (record i { imm = boxed_place code i.imm }) =
    found_one code slot r b i t e ∙ ap (λ (x : Bool). slice_get
    (cond x (record i { imm = boxed_place code i.imm } ∷ []) (i ∷ [])) 0) j in
    subst (λ (d : Done). DoneAlike code (segment_base slot) d (step_by segment_place
    (boxed_code code) b.machine)) (sym (step_is masked_place code r.machine i t.here))
    (subst (λ (d : Done). DoneAlike code (segment_base slot) (exec masked_place i.op i.a i.b i.c i.imm r.machine) d)
    (sym (step_is segment_place (boxed_code code) b.machine (record i { imm = boxed_place code i.imm }) found))
    (jump_alike code (segment_base slot) i.op i.a i.b i.c i.imm r.machine b.machine j
    (fields_of i (t.can.free.each r.machine.pc i t.here)) (stand_one code slot r b i t e)
    (t.can.targets r.machine.pc i t.here j)))

one_step : (code : List Instr) (slot : ℕ) (r b : CodeRun) (i : Instr) → Taken code slot r b i → access_width i.op ≡ None
    → RunAlike code (segment_base slot) (run_step masked_place code r) (run_step segment_place (boxed_code code) b)
one_step code slot r b i t e =
    after_alike code (segment_base slot) (step_by masked_place code r.machine)
    (step_by segment_place (boxed_code code) b.machine)
    (counted_access (is_access (slice_get code r.machine.pc)) r)
    (counted_access (is_access (slice_get (boxed_code code) b.machine.pc)) b)
    (done_one code slot r b i (is_jump i.op) t e refl)
    (counted_alike code (segment_base slot) (is_access (slice_get code r.machine.pc))
    (is_access (slice_get (boxed_code code) b.machine.pc)) r b t.alike)

-- ---- an access, and the three instructions that stand for it

-- a run whose instruction went on
abbrev went_run : Places → List Instr → CodeRun → Machine → CodeRun
went_run place code r m = record (counted_access (is_access (slice_get code r.machine.pc)) r) { machine = m }

step_went : (place : Places) (code : List Instr) (r : CodeRun) (m : Machine) →
    step_by place code r.machine ≡ Went m → run_step place code r ≡ went_run place code r m
step_went place code r m e =
    ap (λ (d : Done). after_done d (counted_access (is_access (slice_get code r.machine.pc)) r)) e

-- the machine behind the masking instruction
abbrev masked_machine : Instr → Width → Machine → Machine
masked_machine i w n =
    record {
      regs = at 14 (word (bit_and (n.regs i.b) (mask w))) n.regs;
      pc = n.pc + 1;
      memory = n.memory;
    }

-- the machine behind the joining instruction
abbrev joined_machine : Machine → Machine
joined_machine n =
    record {
      regs = at 14 (word (bit_or (n.regs 14) (n.regs 15))) n.regs;
      pc = n.pc + 1;
      memory = n.memory;
    }

-- an access in a segment always goes on
access_goes : (op : Op) (a b c imm : ℕ) (w : Width) (m : Machine) → access_width op ≡ Some w →
    (n : Machine) × (exec masked_place op a b c imm m ≡ Went n)
access_goes Ldw a b c imm w m e = (_, refl)
access_goes Stw a b c imm w m e = (_, refl)
access_goes Ldb a b c imm w m e = (_, refl)
access_goes Stb a b c imm w m e = (_, refl)
access_goes _ a b c imm w m e = cc

access_names : (op : Op) (w : Width) → access_width op ≡ Some w →
    ((row_of op).form.a ≡ true) × ((row_of op).form.b ≡ true) × (is_end op ≡ false)
access_names Ldw w e = (refl, refl, refl)
access_names Stw w e = (refl, refl, refl)
access_names Ldb w e = (refl, refl, refl)
access_names Stb w e = (refl, refl, refl)
access_names _ w e = cc

same_register : (base r v : ℕ) (regs : ℕ → ℕ) → r ≢ 14 → at 14 v regs r ≡ regs r
same_register base r v regs h = rw (ne_eqb r 14 h) refl

-- r14 is the sandbox's own
guarded_same : (base u v : ℕ) (m n : Machine) (p : ℕ) → AreSame base m n →
    AreSame base m (record { regs = at 14 v (at 14 u n.regs); pc = p; memory = n.memory })
guarded_same base u v m n p s = record {
  regs = λ r h. same_register base r v (at 14 u n.regs) h ∙ same_register base r u n.regs h ∙ s.regs r h;
  base_is = s.base_is;
  segment = s.segment;
}

-- the access at the end of a triple
record Guarded (code : List Instr) (slot : ℕ) (r b : CodeRun) (i : Instr) (w : Width) : Type 0 where
  m : Machine
  raw : step_by masked_place code r.machine ≡ Went m
  went : GoneOn code (segment_base slot) m
  boxed : step_by segment_place (boxed_code code) (joined_machine (masked_machine i w b.machine)) ≡ Went went.n

address_is : (slot : ℕ) (w : Width) (m n : Machine) (b : ℕ) → slot < 64 →
    AreSame (segment_base slot) m n → (b == 14) ≡ false → n.regs 15 ≡ segment_base slot
    → word (bit_or (word (bit_and (n.regs b) (mask w))) (n.regs 15)) ≡ segment_base slot + bit_and (m.regs b) (mask w)
address_is slot w m n b few s h base =
    let e : n.regs b ≡ m.regs b = s.regs b (eqb-false b 14 h) in
    rw (base, e, masked_word w (m.regs b))
    (join_base slot (bit_and (m.regs b) (mask w)) (masked_offset w (m.regs b)).within few)

guarded : (code : List Instr) (slot : ℕ) (r b : CodeRun) (i : Instr) (w : Width) →
    Taken code slot r b i → access_width i.op ≡ Some w → Guarded code slot r b i w
guarded code slot r b i w t e = by_goes (access_goes i.op i.a i.b i.c i.imm w r.machine e)
  where
    n2 : Machine
    n2 = joined_machine (masked_machine i w b.machine)

    fields : Fields i.op i.a i.b i.c
    fields = fields_of i (t.can.free.each r.machine.pc i t.here)

    names : ((row_of i.op).form.a ≡ true) × ((row_of i.op).form.b ≡ true) × (is_end i.op ≡ false)
    names = access_names i.op w e

    a14 : (i.a == 14) ≡ false
    a14 = rw (names.0) at (fields.a14)

    b14 : (i.b == 14) ≡ false
    b14 = rw (names.1) at (fields.b14)

    base15 : b.machine.regs 15 ≡ segment_base slot
    base15 = t.alike.machine.same.regs 15 (λ h. cc) ∙ t.alike.machine.same.base_is

    stand : Stand code (segment_base slot) r.machine n2 (is_end i.op)
    stand =
        let three : boxed_length i ≡ 3 = rw (e, boxed_length) refl in
        record {
          same = guarded_same (segment_base slot) _ _ r.machine b.machine (b.machine.pc + 1 + 1) t.alike.machine.same;
          more = λ g. more_follow code r.machine.pc i t.can.ends t.here g;
          next = omega (arith, t.alike.machine.place, place_next code r.machine.pc i t.here, three);
        }

    address : HasAddress slot i.op i.b r.machine n2
    address u h =
        let same : w ≡ u = let k : Some w ≡ Some u = sym e ∙ h in cc in
        subst (λ (v : Width). n2.regs 14 ≡ segment_base slot + bit_and (r.machine.regs i.b) (mask v)) same
        (address_is slot w r.machine b.machine i.b t.few t.alike.machine.same b14 base15)

    by_goes : ((n : Machine) × (exec masked_place i.op i.a i.b i.c i.imm r.machine ≡ Went n)) →
        Guarded code slot r b i w
    by_goes (m, goes) =
        let x : Instr = instr i.op i.a 14 0 0 in
        let place : b.machine.pc + 1 + 1 ≡ boxed_place code r.machine.pc + 2 = omega (arith, t.alike.machine.place) in
        let found : slice_get (boxed_code code) (b.machine.pc + 1 + 1) ≡ Some (instr i.op i.a 14 0 0) =
        ap (λ (k : ℕ). slice_get (boxed_code code) k) place
        ∙ in_access code r.machine.pc 2 i w t.here e (omega arith) in
        let done = subst (λ (d : Done). DoneAlike code (segment_base slot) d
        (exec segment_place i.op i.a 14 0 0 n2)) goes
        (access_alike code slot i.op i.a i.b i.c i.imm w r.machine n2 e fields a14 stand base15 address) in
        record {
          m = m;
          raw = step_is masked_place code r.machine i t.here ∙ goes;
          went = done.0;
          boxed =
              step_is segment_place (boxed_code code) (joined_machine
              (masked_machine i w b.machine)) (instr i.op i.a 14 0 0) found ∙ done.1;
        }

-- three instructions of boxed code, for an access of the raw code
record ThreeSteps (code : List Instr) (base : ℕ) (r b : CodeRun) : Type 0 where
  first : (run_step segment_place (boxed_code code) b).ended ≡ b.ended
  second : (run_step segment_place (boxed_code code) (run_step segment_place (boxed_code code) b)).ended ≡ b.ended
  third : RunAlike code base (run_step masked_place code r)
      (run_step segment_place (boxed_code code)
      (run_step segment_place (boxed_code code) (run_step segment_place (boxed_code code) b)))

three_steps : (code : List Instr) (slot : ℕ) (r b : CodeRun) (i : Instr) (w : Width) →
    Taken code slot r b i → access_width i.op ≡ Some w → Guarded code slot r b i w
    → ThreeSteps code (segment_base slot) r b
three_steps code slot r b i w t e g = record {
  first = ap (λ (x : CodeRun). x.ended) e1;
  second = ap (λ (x : CodeRun). x.ended) e2;
  third =
      subst (λ (x : CodeRun). RunAlike code (segment_base slot) x
      (run_step segment_place (boxed_code code) (run_step segment_place (boxed_code code)
      (run_step segment_place (boxed_code code) b)))) (sym raw)
      (subst (λ (x : CodeRun). RunAlike code (segment_base slot) (went_run masked_place code r g.m) x) (sym e3) alike);
}
  where
    c1 : CodeRun
    c1 = went_run segment_place (boxed_code code) b (masked_machine i w b.machine)

    c2 : CodeRun
    c2 = went_run segment_place (boxed_code code) c1 (joined_machine (masked_machine i w b.machine))

    c3 : CodeRun
    c3 = went_run segment_place (boxed_code code) c2 g.went.n

    raw : run_step masked_place code r ≡ went_run masked_place code r g.m
    raw = step_went masked_place code r g.m g.raw

    found0 : slice_get (boxed_code code) b.machine.pc ≡ Some (instr Andi 14 i.b 0 (mask w))
    found0 =
        let place : b.machine.pc ≡ boxed_place code r.machine.pc + 0 = omega (arith, t.alike.machine.place) in
        ap (λ (k : ℕ). slice_get (boxed_code code) k) place ∙ in_access code r.machine.pc 0 i w t.here e (omega arith)

    found1 : slice_get (boxed_code code) (b.machine.pc + 1) ≡ Some (instr Or 14 14 15 0)
    found1 =
        let place : b.machine.pc + 1 ≡ boxed_place code r.machine.pc + 1 = omega (arith, t.alike.machine.place) in
        ap (λ (k : ℕ). slice_get (boxed_code code) k) place ∙ in_access code r.machine.pc 1 i w t.here e (omega arith)

    e1 : run_step segment_place (boxed_code code) b ≡ c1
    e1 = step_went segment_place (boxed_code code) b (masked_machine i w b.machine)
        (step_is segment_place (boxed_code code) b.machine (instr Andi 14 i.b 0 (mask w)) found0)

    e2 : run_step segment_place (boxed_code code) (run_step segment_place (boxed_code code) b) ≡ c2
    e2 = ap (λ (x : CodeRun). run_step segment_place (boxed_code code) x) e1
        ∙ step_went segment_place (boxed_code code) c1 (joined_machine (masked_machine i w b.machine))
        (step_is segment_place (boxed_code code) (masked_machine i w b.machine) (instr Or 14 14 15 0) found1)

    e3 : run_step segment_place (boxed_code code)
        (run_step segment_place (boxed_code code) (run_step segment_place (boxed_code code) b)) ≡ c3
    e3 =
        ap (λ (x : CodeRun). run_step segment_place (boxed_code code) x) e2
        ∙ step_went segment_place (boxed_code code) c2 g.went.n g.boxed

    alike : RunAlike code (segment_base slot) (went_run masked_place code r g.m) c3
    alike = record {
      machine = g.went.alike;
      calls = t.alike.calls;
      answers = t.alike.answers;
      ended = t.alike.ended;
      inside = λ _. g.went.inside;
    }

-- ---- whole runs

-- a run of so many raw instructions, with so many accesses among them, beside the run of boxed code
abbrev Simulates : List Instr → (slot n : ℕ) → Type 0
Simulates code slot n =
    (r b : CodeRun) (k : ℕ) → RunAlike code (segment_base slot) r b →
    (run_by masked_place code n r).accesses ≡ r.accesses + k
    → RunAlike code (segment_base slot) (run_by masked_place code n r)
    (run_by segment_place (boxed_code code) (n + 2 * k) b)

both_are : (code : List Instr) (base : ℕ) (r s b c : CodeRun) → r ≡ s → b ≡ c →
    RunAlike code base s c → RunAlike code base r b
both_are code base r s b c e f a =
    subst (λ (x : CodeRun). RunAlike code base x b) (sym e) (subst (λ (x : CodeRun). RunAlike code base s x) (sym f) a)

over : (code : List Instr) (slot n : ℕ) (r b : CodeRun) (k : ℕ) (halt : Halt) →
    RunAlike code (segment_base slot) r b → r.ended ≡ Some halt
    → RunAlike code (segment_base slot) (run_by masked_place code n r)
    (run_by segment_place (boxed_code code) (n + 2 * k) b)
over code slot n r b k halt a e =
    both_are code (segment_base slot) (run_by masked_place code n r) r
    (run_by segment_place (boxed_code code) (n + 2 * k) b) b
    (run_over masked_place code n r halt e)
    (run_over segment_place (boxed_code code) (n + 2 * k) b halt (a.ended ∙ e)) a

next_one : (code : List Instr) (slot n : ℕ) → Simulates code slot n →
    (r b : CodeRun) (k : ℕ) (i : Instr) → Taken code slot r b i → access_width i.op ≡ None →
    r.ended ≡ None
    → (run_by masked_place code (suc n) r).accesses ≡ r.accesses + k
    → RunAlike code (segment_base slot) (run_by masked_place code (suc n) r)
    (run_by segment_place (boxed_code code) (suc n + 2 * k) b)
next_one code slot n later r b k i t w e c =
    let raw = run_more masked_place code n r e in
    let place : suc n + 2 * k ≡ suc (n + 2 * k) = omega arith in
    let boxed : run_by segment_place (boxed_code code) (suc n + 2 * k) b ≡ run_by segment_place
    (boxed_code code) (n + 2 * k) (run_step segment_place (boxed_code code) b) =
    ap (λ (j : ℕ). run_by segment_place (boxed_code code) j b) place
    ∙ run_more segment_place (boxed_code code) (n + 2 * k) b (t.alike.ended ∙ e) in
    let count : (run_step masked_place code r).accesses ≡ r.accesses + 0 =
    step_count masked_place code r
    ∙ ap (λ (o : Option Instr). r.accesses + cond (is_access o) 1 0) t.here
    ∙ ap (λ (o : Option Width). r.accesses + cond (is_some_width o) 1 0) w in
    both_are code (segment_base slot) (run_by masked_place code (suc n) r)
    (run_by masked_place code n (run_step masked_place code r))
    (run_by segment_place (boxed_code code) (suc n + 2 * k) b) (run_by segment_place
    (boxed_code code) (n + 2 * k) (run_step segment_place (boxed_code code) b)) raw boxed
    (later (run_step masked_place code r) (run_step segment_place (boxed_code code) b) k (one_step code slot r b i t w)
    (omega (arith, c, count, ap (λ (x : CodeRun). x.accesses) raw)))

next_three : (code : List Instr) (slot n : ℕ) → Simulates code slot n →
    (r b : CodeRun) (k : ℕ) (i : Instr) (w : Width) → Taken code slot r b i →
    access_width i.op ≡ Some w → r.ended ≡ None
    → (run_by masked_place code (suc n) r).accesses ≡ r.accesses + k
    → RunAlike code (segment_base slot) (run_by masked_place code (suc n) r)
    (run_by segment_place (boxed_code code) (suc n + 2 * k) b)
next_three code slot n later r b k i w t a e c =
    let raw = run_more masked_place code n r e in
    let count : (run_step masked_place code r).accesses ≡ r.accesses + 1 =
    step_count masked_place code r
    ∙ ap (λ (o : Option Instr). r.accesses + cond (is_access o) 1 0) t.here
    ∙ ap (λ (o : Option Width). r.accesses + cond (is_some_width o) 1 0) a in
    let grows = count_grows masked_place code n (run_step masked_place code r) in
    let total = ap (λ (x : CodeRun). x.accesses) raw in
    let place : suc n + 2 * k ≡ suc (suc (suc (n + 2 * (k - 1)))) = omega (arith, c, count, grows, total) in
    let s = three_steps code slot r b i w t a (guarded code slot r b i w t a) in
    let over_there : b.ended ≡ None = t.alike.ended ∙ e in
    let boxed : run_by segment_place (boxed_code code) (suc n + 2 * k) b
    ≡ run_by segment_place (boxed_code code)
    (n + 2 * (k - 1)) (run_step segment_place (boxed_code code)
    (run_step segment_place (boxed_code code) (run_step segment_place (boxed_code code) b))) =
    ap (λ (j : ℕ). run_by segment_place (boxed_code code) j b) place
    ∙ run_more segment_place (boxed_code code) (suc (suc (n + 2 * (k - 1)))) b over_there
    ∙ run_more segment_place (boxed_code code)
    (suc (n + 2 * (k - 1))) (run_step segment_place (boxed_code code) b) (s.first ∙ over_there)
    ∙ run_more segment_place (boxed_code code) (n + 2 * (k - 1)) (run_step segment_place
    (boxed_code code) (run_step segment_place (boxed_code code) b)) (s.second ∙ over_there) in
    both_are code (segment_base slot) (run_by masked_place code (suc n) r)
    (run_by masked_place code n (run_step masked_place code r))
    (run_by segment_place (boxed_code code) (suc n + 2 * k) b)
    (run_by segment_place (boxed_code code)
    (n + 2 * (k - 1)) (run_step segment_place (boxed_code code) (run_step segment_place
    (boxed_code code) (run_step segment_place (boxed_code code) b)))) raw boxed
    (later (run_step masked_place code r) (run_step segment_place (boxed_code code)
    (run_step segment_place (boxed_code code) (run_step segment_place (boxed_code code) b)))
    (k - 1) s.third
    (omega (arith, c, count, grows, total)))

record Here (code : List Instr) (p : ℕ) : Type 0 where
  i : Instr
  is : slice_get code p ≡ Some i

here_from : (code : List Instr) (p : ℕ) → p < length code → Here code p
here_from code p h = by_cases (slice_get_cases code p).1
  where
    by_cases : (((x : Instr) × (p < length code) × (slice_get code p ≡ Some x)
        × (get_or code p x ≡ x)) ⊎ ((length code ≤ p) × (slice_get code p ≡ None))) → Here code p
    by_cases (inl f) = record { i = f.0; is = f.2 }
    by_cases (inr f) = absurd (omega (arith, f.0))

by_width : (code : List Instr) (slot n : ℕ) → Simulates code slot n →
    (r b : CodeRun) (k : ℕ) (i : Instr) (o : Option Width) → Taken code slot r b i →
    access_width i.op ≡ o
    → r.ended ≡ None → (run_by masked_place code (suc n) r).accesses ≡ r.accesses + k
    → RunAlike code (segment_base slot) (run_by masked_place code (suc n) r)
    (run_by segment_place (boxed_code code) (suc n + 2 * k) b)
by_width code slot n later r b k i None t w e c = next_one code slot n later r b k i t w e c
by_width code slot n later r b k i (Some u) t w e c = next_three code slot n later r b k i u t w e c

by_end : (code : List Instr) (slot n : ℕ) → IsRewritable code → slot < 64 → Simulates code slot n →
    (r b : CodeRun) (k : ℕ) (o : Option Halt) → RunAlike code (segment_base slot) r b
    → r.ended ≡ o → (run_by masked_place code (suc n) r).accesses ≡ r.accesses + k
    → RunAlike code (segment_base slot) (run_by masked_place code (suc n) r)
    (run_by segment_place (boxed_code code) (suc n + 2 * k) b)
by_end code slot n can few later r b k (Some halt) a e c = over code slot (suc n) r b k halt a e
by_end code slot n can few later r b k None a e c =
    let h = here_from code r.machine.pc (a.inside e) in
    by_width code slot n later r b k h.i (access_width h.i.op)
    (record { can = can; few = few; alike = a; here = h.is }) refl e c

simulates : (code : List Instr) (slot n : ℕ) → IsRewritable code → slot < 64 → Simulates code slot n
simulates code slot zero can few r b k a c =
    let none : 0 + 2 * k ≡ 0 = omega (arith, c) in
    subst (λ (j : ℕ). RunAlike code (segment_base slot) r (run_by segment_place (boxed_code code) j b)) (sym none) a
simulates code slot (suc n) can few r b k a c =
    by_end code slot n can few (simulates code slot n can few) r b k r.ended a refl c

some_code : (code : List Instr) → ends_well code ≡ true → 0 < length code
some_code [] h = cc
some_code (i ∷ is) h = omega arith

first_alike : (code : List Instr) (slot : ℕ) (segment : ℕ → ℕ) (args : List ℕ)
    (answers : List (ℕ × ℕ)) → IsRewritable code
    → RunAlike code (segment_base slot) (first_run (segment_base slot) segment args answers)
    (first_run (segment_base slot) segment args answers)
first_alike code slot segment args answers can = record {
  machine =
      record {
        same = record { regs = λ r h. refl; base_is = refl; segment = λ k h. refl };
        place = place_zero code;
      };
  calls = refl;
  answers = refl;
  ended = refl;
  inside = λ _. some_code code can.ends;
}

come_as_far : (code : List Instr) (base : ℕ) (r b : CodeRun) → RunAlike code base r b → HasComeAsFar code r b
come_as_far code base r b a = record {
  registers = a.machine.same.regs;
  place = a.machine.place;
  segment = a.machine.same.segment;
  calls = a.calls;
  answers = a.answers;
  ended = a.ended;
}

-- the law of the rewriter
pub rewriting : Rewriting
rewriting code boxed slot n segment args answers h few =
    let w = rewritten code boxed h in
    let first = first_run (segment_base slot) segment args answers in
    let k = (raw_run code n (first_run (segment_base slot) segment args answers)).accesses in
    let all : (raw_run code n (first_run (segment_base slot) segment args answers)).accesses
    ≡ (first_run (segment_base slot) segment args answers).accesses
    + (raw_run code n (first_run (segment_base slot) segment args answers)).accesses =
    omega arith in
    let run = simulates code slot n w.can few (first_run (segment_base slot) segment args answers)
    (first_run (segment_base slot) segment args answers)
    (raw_run code n (first_run (segment_base slot) segment args answers)).accesses
    (first_alike code slot segment args answers w.can) all in
    come_as_far code (segment_base slot) (raw_run code n (first_run (segment_base slot) segment args answers)) _
    (subst (λ (c : List Instr). RunAlike code (segment_base slot)
    (raw_run code n (first_run (segment_base slot) segment args answers))
    (boxed_run c (n + 2 * (raw_run code n (first_run (segment_base slot) segment args
    answers)).accesses) (first_run (segment_base slot) segment args answers))) (sym w.is) run)
