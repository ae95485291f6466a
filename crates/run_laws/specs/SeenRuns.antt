-- What is seen of blocks through the moves of a run.
use Rattle.std.specs.Prelude.{◌≡◌, ◌⊎◌, ℕ, ◌+◌, Bool, List, [], ◌∷◌, ◌++◌, length, slice_range}
use Rattle.std.specs.Prelude.{Contains}
use Rattle.std.specs.Prelude.{Some, Ok}
use Rattle.script_model.specs.declared.Keys.{Keys}
use Rattle.script_model.specs.declared.Note.{Note}
use Rattle.script_model.specs.declared.Note.TheVariants.{Gave}
use Rattle.script_model.specs.declared.SysCall.TheVariants.{Read, StreamRead}
use Rattle.script_model.specs.Directory.{Disk}
use Rattle.script_model.specs.Kernel.{Call, Kernel, Run}
use Rattle.script_model.specs.Session.{whole}
use Rattle.kernel_model.specs.Needs.{file_block}
use Rattle.session_laws.specs.Sessions.{run_of, IsRunnable}
use Rattle.run_laws.specs.Moves.{Move, run_before, run_after, moves_of}
use Rattle.run_laws.specs.Seen.{seen_block, IsCoherent, ShowsSame, ShowsPut, WritesSeen, Put}
use Rattle.run_laws.specs.Seen.{put_by}

-- what is seen of a block in a run: of what is committed, over the disk
abbrev pub seen_in : Run → ℕ → List ℕ
seen_in r b = seen_block r.kernel.objects.things.cache r.blocks b

-- the block that an open file of a process names in a run, if it has these bytes
abbrev pub Names : Run → (p fd i off len b : ℕ) → Type 0
Names r p fd i off len b =
    file_block r.kernel.world (r.kernel.objects.things.file p fd) i off len ≡ Ok b

-- from one run to another, the call of a process put the bytes of its write, and no other
pub record IsPut (r u : Run) : Type 0 where
  pub process : ℕ
  pub call : Call
  pub is : r.kernel.call process ≡ Some call
  pub put : Put
  pub by : put_by call.stage ≡ Some put
  pub block : ℕ
  pub named : Names r process put.file put.block put.offset (length put.bytes) block
  pub shown : ShowsPut block put.offset put.bytes r.kernel.objects.things.cache r.blocks
      u.kernel.objects.things.cache u.blocks

-- the call of a process went on from its first piece to its second
pub record GoesOn (r u : Run) (p : ℕ) (c d : Call) : Type 0 where
  pub before : r.kernel.call p ≡ Some c
  pub first : c.stage.piece ≡ 0
  pub after : u.kernel.call p ≡ Some d
  pub second : d.stage.piece ≡ 1

-- What a move does to what is seen, which leads from one run to another.
pub record MoveKeepsShown (r u : Run) : Type 0 where
  -- clean frames agree with the disk
  pub coherent : IsCoherent u.kernel.objects.things.cache u.blocks
  -- nothing comes to the disk that wasn't seen
  pub disk : WritesSeen r.kernel.objects.things.cache r.blocks u.blocks
  -- nothing that is seen changes, but by a write that ends well
  pub shows : ShowsSame r.kernel.objects.things.cache r.blocks u.kernel.objects.things.cache
      u.blocks ⊎ IsPut r u
  -- a read gives what is seen: the last note of its first piece says it
  pub read : (p fd i off len : ℕ) (c d : Call) → c.stage.call ≡ Read fd i off len →
      GoesOn r u p c d → (b : ℕ) × Names r p fd i off len b × (earlier : List Note)
      × (u.notes ≡ earlier ++ Gave c.number (slice_range (seen_in r b) off (off + len)) ∷ [])
  -- and a stream read takes what is seen into the call
  pub taken : (p fd i off len : ℕ) (c d : Call) → c.stage.call ≡ StreamRead fd i off len →
      GoesOn r u p c d → (b : ℕ) × Names r p fd i off len b
      × (d.stage.bytes ≡ slice_range (seen_in r b) off (off + len))

-- So it is of each move of a run: each step, and each drop of a tick.
abbrev pub RunsKeepShown : Type 0
RunsKeepShown =
    (keys : Keys) (d : Disk) (texts : List (List ℕ)) (ios : List (List Bool)) (k : Kernel)
    (x : Move) →
    IsRunnable whole d → (run_of whole keys d texts ios).kernel ≡ Some k →
    Contains (moves_of whole keys d texts ios) x →
    MoveKeepsShown (run_before x) (run_after whole.meaning x)

-- In each kernel of a run clean frames agree with the disk.
abbrev pub RunsAreCoherent : Type 0
RunsAreCoherent =
    (keys : Keys) (d : Disk) (texts : List (List ℕ)) (ios : List (List Bool)) (k : Kernel) →
    IsRunnable whole d → (run_of whole keys d texts ios).kernel ≡ Some k →
    IsCoherent k.objects.things.cache (run_of whole keys d texts ios).blocks

-- What a crash leaves: each block of the disk is as it was before the run, or as it was seen before
-- some move of it.
abbrev pub BlocksWereSeen : Type 0
BlocksWereSeen =
    (keys : Keys) (d : Disk) (texts : List (List ℕ)) (ios : List (List Bool)) (k : Kernel)
    (b : ℕ) →
    IsRunnable whole d → (run_of whole keys d texts ios).kernel ≡ Some k →
    ((run_of whole keys d texts ios).blocks b ≡ d.block b)
    ⊎ ((x : Move) × Contains (moves_of whole keys d texts ios) x
    × ((run_of whole keys d texts ios).blocks b ≡ seen_in (run_before x) b))
