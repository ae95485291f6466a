-- Worked examples of runs: raw code with masked addresses, its boxed code on the segment alone and
-- on flat memory do the same.
use Rattle.std.specs.Prelude.{◌≡◌, ℕ, ◌+◌, ◌-◌, cond, nat_lt, List, [], ◌∷◌, ◌++◌, map, None, Some, Ok, refl}
use Rattle.kernel_data.specs.declared.Instr.{Instr}
use Rattle.kernel_data.specs.declared.Op.TheVariants.{Li, Mul, Addi, Ldw, Stw, Ldb, Stb, Jnz, Call, Ret}
use Rattle.script_model.specs.Machine.{Machine}
use Rattle.script_model.specs.Runs.{AtReturn, CodeRun, first_run, raw_run, boxed_run, flat_run}
use Rattle.script_model.specs.Boxed.{instr, rewrite, box_fault, boxed_code}

-- stores, loads, a loop, and a call of `ask_ra`
abbrev pub raw_code : List Instr
raw_code =
    instr Li 2 0 0 4294963205 ∷ instr Li 3 0 0 287454020 ∷ instr Li 5 0 0 3
    ∷ instr Stw 3 2 0 0 ∷ instr Ldb 4 2 0 0 ∷ instr Mul 3 3 4 0 ∷ instr Addi 2 2 0 1021
    ∷ instr Stb 3 2 0 0 ∷ instr Ldw 1 2 0 0
    ∷ instr Addi 5 5 0 4294967295 ∷ instr Jnz 5 0 0 3 ∷ instr Call 0 0 0 13 ∷ instr Stw 1 0 0 0
    ∷ instr Ret 0 0 0 0 ∷ []

-- the base of a segment
abbrev pub base : ℕ
base = 0x43000

-- the registers at the beginning, over a memory whose segment begins at this place
abbrev pub first : ℕ → Machine
first from = record {
  regs = λ r. cond (nat_lt r 15) r base;
  pc = 0;
  memory = λ a. cond (nat_lt a from) 0 (cond (nat_lt (a - from) 100) (a - from) 0);
}

-- the registers but r14 and r15, and the bytes of memory from a place on that the code reaches
abbrev pub seen : ℕ → Machine → List ℕ
seen from m =
    map m.regs (0 ∷ 1 ∷ 2 ∷ 3 ∷ 4 ∷ 5 ∷ 6 ∷ 7 ∷ 8 ∷ 9 ∷ 10 ∷ 11 ∷ 12 ∷ 13 ∷ [])
    ++ map (λ a. m.memory (from + a)) (0 ∷ 1 ∷ 2 ∷ 3 ∷ 4 ∷ 5 ∷ 6 ∷ 7 ∷ 8 ∷ 9 ∷ 1020 ∷ 1023 ∷ 1024
    ∷ 1025 ∷ 2040 ∷ 2047 ∷ 3066 ∷ 3067 ∷ 4092 ∷ [])

-- a run that begins over this memory
abbrev pub begins : ℕ → CodeRun
begins from = record (first_run base (first from).memory [] ((7, 9) ∷ [])) { machine = first from }

-- the raw run up to its `ret`
abbrev pub raw_end : CodeRun
raw_end = raw_run raw_code 30 (begins 0)

-- the rewriter takes this code
pub boxes : rewrite raw_code ≡ Ok (boxed_code raw_code)
boxes = refl

-- what it makes is boxed
pub is_boxed : box_fault (boxed_code raw_code) ≡ None
is_boxed = refl

-- the raw run takes 13 accesses
pub thirteen : raw_end.accesses ≡ 13
thirteen = refl

-- the raw run ends at its `ret`
pub ended : raw_end.ended ≡ Some AtReturn
ended = refl

-- 30 raw instructions, 13 of them accesses, are 56 boxed ones: the same registers and memory on the
-- segment alone
pub on_the_segment : seen 0 (boxed_run (boxed_code raw_code) 56 (begins 0)).machine
    ≡ seen 0 raw_end.machine
on_the_segment = refl

-- and the same on flat memory
pub on_flat_memory : seen base (flat_run (boxed_code raw_code) 56 (begins base)).machine
    ≡ seen 0 raw_end.machine
on_flat_memory = refl

-- with the same calls
pub flat_calls : (flat_run (boxed_code raw_code) 56 (begins base)).calls ≡ raw_end.calls
flat_calls = refl

-- and the same end
pub flat_ends : (flat_run (boxed_code raw_code) 56 (begins base)).ended ≡ raw_end.ended
flat_ends = refl
