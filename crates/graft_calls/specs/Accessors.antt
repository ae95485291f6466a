-- A call of a plain accessor by a level.
use Rattle.std.specs.Prelude.{◌≡◌, ℕ, ◌≤◌, List, slice_index, Option}
use Rattle.kernel_model.specs.declared.Cause.{Cause}
use Rattle.kernel_model.specs.Access.{Access, access, accessed, early_refusal}
use Rattle.kernel_model.specs.Laws.{IsInRange}
use Rattle.kernel_model.specs.Objects.{Things}
use Rattle.graft_levels.specs.declared.GraftLevel.{GraftLevel}
use Rattle.graft_levels.specs.declared.Chain.{Chain}
use Rattle.graft_levels.specs.declared.Innermost.{Innermost}
use Rattle.graft_levels.specs.Calls.{IsTaken}
use Rattle.graft_levels.specs.declared.Holds.{Holds}
use Rattle.kernel_state.specs.declared.Store.{Store}
use Rattle.graft_calls.specs.declared.accessors.Accessed.{Accessed}

-- a call of a plain accessor is of what its id says, with the level's r0
pub record IsAccessOf (g : GraftLevel) (call : Accessed) : Type 0 where
  pub object : call.object ≡ (accessed call.id (slice_index g.machine.regs 0) g.owner).object
  pub mode : call.mode ≡ (accessed call.id (slice_index g.machine.regs 0) g.owner).mode
  pub range : IsInRange call.object
  pub plain : call.id ≤ 12

-- A call stands in place, as far as its levels go, and the innermost one, which was taken out of
-- the chain, calls this plain accessor.
pub record CanAccess {B : Type 0} {P : _} (s : Store B P) (t : List (List Holds)) (g : Innermost)
    (c : Chain) (call : Accessed) : Type 0 where
  pub placed : IsTaken s t g c
  pub access : IsAccessOf g.level call

-- what an accessor comes to on these things, with the level's first three registers
abbrev pub access_of : ℕ → GraftLevel → Things → Access
access_of id g w =
    access id (slice_index g.machine.regs 0) (slice_index g.machine.regs 1)
    (slice_index g.machine.regs 2) g.owner w

-- why a call is refused by its arguments, if it is, with the level's first two registers
abbrev pub is_refused_early : ℕ → GraftLevel → Option Cause
is_refused_early id g =
    early_refusal 15 id (slice_index g.machine.regs 0) (slice_index g.machine.regs 1) g.owner
