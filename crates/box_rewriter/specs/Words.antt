-- Words of the rewriter's parts.
use Rattle.std.specs.Prelude.{◌≡◌, ℕ, suc, ◌≤◌, true, cond, List, [], ◌∷◌, length, slice_index, Option, None, Some}
use Rattle.std.specs.List.{list_all}
use Rattle.graft_code.specs.declared.Instr.{Instr}
use Rattle.graft_code.specs.declared.Op.TheVariants.{Andi, Or}
use Rattle.graft_code.specs.Instructions.{fits}
use Rattle.graft_code.specs.World.{Image}
use Rattle.graft_code.specs.Boxed.{RewriteFault, IsBoxed, access_width, is_jump, boxed_place}
use Rattle.graft_code.specs.Boxed.{boxed_access, instr, rewrite_fault_at}

-- what a boxed image keeps: at most 1,024 instructions, each of which can be encoded, boxed, and at
-- most 4,096 data bytes
pub record IsBoxedImage (i : Image) : Type 0 where
  pub few : length i.code ≤ 1024
  pub fit : list_all fits i.code ≡ true
  pub boxed : IsBoxed i.code
  pub body : length i.body ≤ 4096

-- the three instructions that stand for an access with this mask
abbrev pub masked_access : Instr → ℕ → List Instr
masked_access i mask = instr Andi 14 i.b 0 mask ∷ instr Or 14 14 15 0 ∷ instr i.op i.a 14 0 0 ∷ []

-- the instructions that stand for one, where places says where its target has moved
abbrev pub boxed_by : List ℕ → Instr → List Instr
boxed_by places i =
    elim (access_width i.op) [
      | Some width ↦ boxed_access i width
      | None ↦ cond (is_jump i.op) (record i { imm = slice_index places i.imm } ∷ []) (i ∷ [])
    ]

-- the place of each instruction in boxed code, and last the number of its instructions
pub record ArePlaces (code : List Instr) (places : List ℕ) : Type 0 where
  pub count : length places ≡ suc (length code)
  pub each : (n : ℕ) → n ≤ length code → slice_index places n ≡ boxed_place code n

-- the first instruction from a place on that can't be boxed, where these are left
abbrev pub first_from : List Instr → ℕ → List Instr → Option RewriteFault
first_from code pc [] = None
first_from code pc (i ∷ is) =
    elim (rewrite_fault_at code pc i) [
      | Some fault ↦ Some fault
      | None ↦ first_from code (suc pc) is
    ]
