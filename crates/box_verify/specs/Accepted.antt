-- What verified code keeps.
use Rattle.std.specs.Prelude.{◌≡◌, ◌≤◌, true, List, length}
use Rattle.std.specs.List.{list_all}
use Rattle.graft_code.specs.declared.Instr.{Instr}
use Rattle.graft_code.specs.Instructions.{fits}
use Rattle.graft_code.specs.Boxed.{IsBoxed}
use Rattle.box_verify.specs.declared.fused.Fused.{Fused}
use Rattle.box_verify.specs.Fused.{AllStand}

-- at most 1,024 instructions, each of which can be encoded, and boxed
pub record IsAccepted (code : List Instr) : Type 0 where
  pub few : length code ≤ 1024
  pub fit : list_all fits code ≡ true
  pub boxed : IsBoxed code

-- Accepted code, with what stands at each of its places.
pub record IsKept (code : List Instr) (fused : List Fused) : Type 0 where
  pub accepted : IsAccepted code
  pub stand : AllStand fused code
