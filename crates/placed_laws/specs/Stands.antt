-- When a kernel in place stands for an abstract kernel.
use Rattle.std.specs.Prelude.{◌≡◌, ℕ, Option, map, option_map}
use Rattle.kernel_model.specs.declared.Object.{Object}
use Rattle.kernel_model.specs.Objects.{SameAt}
use Rattle.kernel_model.specs.Meaning.{Meaning}
use Rattle.kernel_model.specs.Kernel.{Call, Kernel, Run}
use Rattle.kernel_model.specs.Blocking.{levels_of}
use Rattle.kernel_model.specs.InPlace.{in_place}
use Rattle.kernel_model.specs.Sound.{IsSoundStore, IsSoundKernel, HasWholeBlocks}
use Rattle.graft_laws.specs.Histories.{HasRange}
use Rattle.placed_laws.specs.Placed.{PlacedCall, Placed, PlacedRun, bare}

-- a call without its history
abbrev pub without_history : Option Call → Option PlacedCall
without_history c = option_map (λ (x : Call). record { number = x.number; stage = x.stage }) c

-- A kernel in place stands for a sound abstract kernel. Its store is sound, and has each object as
-- the abstract kernel's store in place has it: what a call holds exclusively as the call's replay
-- has it, and all else as committed. Its levels are those to which the histories lead. Numbers out
-- of range don't count, but for those of grafts.
pub record StandsFor (m : Meaning) (x : Placed) (k : Kernel) : Type 0 where
  pub world : x.world ≡ k.world
  pub images : x.images ≡ k.images
  pub clock : x.clock ≡ k.clock
  pub order : x.order ≡ k.order
  pub calls : (p : ℕ) → x.call p ≡ without_history (k.call p)
  pub levels : (p : ℕ) → x.levels p ≡ map bare (levels_of m k p)
  pub objects : (o : Object) → HasRange o → SameAt o x.objects (in_place m k)
  pub store : IsSoundStore x.world x.objects
  pub kernel : IsSoundKernel m k

-- an event under way in place stands for one of the abstract kernel: the same blocks, which are
-- whole, notes and disk calls
pub record RunStandsFor (m : Meaning) (x : PlacedRun) (r : Run) : Type 0 where
  pub kernel : StandsFor m x.placed r.kernel
  pub blocks : x.blocks ≡ r.blocks
  pub notes : x.notes ≡ r.notes
  pub io : x.io ≡ r.io
  pub whole : HasWholeBlocks r.kernel.world r.blocks
