-- What keeps states sound: boot, the pieces of calls, and the instructions of levels.
use Rattle.std.specs.Prelude.{◌≡◌, ◌≢◌, ℕ, Bool, List, [], ◌∷◌, map, Option, ⊤, slice_index, true, Some, None}
use Rattle.kernel_model.specs.declared.Point.{Point}
use Rattle.kernel_model.specs.declared.Micro.{Micro}
use Rattle.kernel_model.specs.World.{World, ImageTable, Blocks}
use Rattle.kernel_model.specs.Objects.{Objects, Accounts, Things}
use Rattle.kernel_model.specs.Policies.{valid}
use Rattle.kernel_model.specs.Meaning.{Meaning, Stage, Answer}
use Rattle.kernel_model.specs.Levels.{Level, Config, drop_level}
use Rattle.kernel_model.specs.declared.Cause.{Cause}
use Rattle.kernel_model.specs.GraftStep.{micro}
use Rattle.kernel_model.specs.History.{Mark, Trace, replay}
use Rattle.kernel_model.specs.Opening.{opening_objects, opening_things, opening_kernel}
use Rattle.kernel_model.specs.Sound.{IsSoundWorld, IsSoundStore, IsSoundState, FitsDisk}
use Rattle.kernel_model.specs.Sound.{ImagesAreLoaded, HasWholeBlocks, IsSoundConfig, IsSoundKernel}
use Rattle.kernel_model.specs.Alike.{AreAlike}
use Rattle.kernel_model.specs.Laws.{IsReady}

-- the state after boot is sound, where what no call changes is within the limits and the files lie
-- on the disk
abbrev pub OpeningIsSound : Type 0
OpeningIsSound =
    (v : World) (images : ImageTable) → IsSoundWorld v → FitsDisk v opening_things.cache →
    IsSoundState v images (opening_objects v.grant)

-- and so is the kernel after boot
abbrev pub OpeningKernelIsSound : Meaning → Type 0
OpeningKernelIsSound m =
    (v : World) → IsSoundWorld v → FitsDisk v opening_things.cache →
    IsSoundKernel m (opening_kernel v)

-- a piece of a sound state, over whole blocks, leaves a sound state and whole blocks
abbrev pub PiecesStaySound : Meaning → Type 0
PiecesStaySound m =
    (v : World) (images : ImageTable) (s : Objects) (blocks : Blocks) (p : ℕ) (t : Stage)
    (answer : Option Answer) (io : List Bool) →
    IsReady m v images s p t answer → ImagesAreLoaded images s.accounts → HasWholeBlocks v blocks →
    let q = m.piece v images s blocks p t answer io in
    IsSoundState v images q.objects × HasWholeBlocks v q.blocks

-- ---- graft calls

-- With these accounts and grafts, things are sound, and differ from those of a state alone in what
-- grafts may change.
pub record IsGraftsWork (v : World) (s : Objects) (a : Accounts) (w : Things) : Type 0 where
  pub store : IsSoundStore v (record { accounts = a; things = w })
  pub alike : AreAlike s (record { accounts = a; things = w })

-- the same of each of these
abbrev pub AreGraftsWork : (v : World) (s : Objects) (a : Accounts) → List Things → Type 0
AreGraftsWork v s a [] = ⊤
AreGraftsWork v s a (w ∷ ws) = IsGraftsWork v s a w × AreGraftsWork v s a ws

-- what each level found when it began
abbrev pub found_by : List Level → List Things
found_by ls = map (λ (l : Level). l.kept) ls

-- level 0, if there is one, is that of the graft at this point, with these arguments
abbrev pub IsAskedAt : Point → List Level → Type 0
IsAskedAt a [] = ⊤
IsAskedAt a (l ∷ []) = (l.owner ≡ a.installer) × (l.point ≡ a.point) × (l.args ≡ a.args)
IsAskedAt a (l ∷ k ∷ ls) = IsAskedAt a (k ∷ ls)

-- A graft call that was asked at a point of a state works on it: the working state and what each
-- level found are sound with the working state's accounts, and so is the state that it began from;
-- all differ from that alone in what grafts may change.
pub record WorksOn (v : World) (s : Objects) (a : Point) (c : Config) : Type 0 where
  pub works : AreGraftsWork v s c.now.accounts (s.things ∷ c.now.things ∷ found_by c.levels)
  pub asked : IsAskedAt a c.levels

-- an answer that completes a graft call is one that the point accepts
abbrev pub AnswersRightly : Point → Things → Micro → Type 0
AnswersRightly a w (Micro.Completed answer) =
    valid w a.installer a.point a.args (slice_index answer 0) (slice_index answer 1) ≡ true
AnswersRightly a w said = ⊤

-- an instruction of a graft call that works on a state leaves one, also where it drops a level, and
-- answers rightly
abbrev pub InstructionsWork : Type 0
InstructionsWork =
    (v : World) (images : ImageTable) (p : ℕ) (s : Objects) (a : Point) (c : Config) →
    WorksOn v s a c →
    WorksOn v s a (micro v images p c).config
    × AnswersRightly a (micro v images p c).config.now.things (micro v images p c).said

-- Where a replay leads: nowhere if no point is asked, and else, if somewhere, to a graft call that
-- works on the state.
abbrev pub ReplayWorks : World → Objects → Option Point → Option Trace → Type 0
ReplayWorks v s None None = ⊤
ReplayWorks v s None (Some t) = ⊥
ReplayWorks v s (Some a) None = ⊤
ReplayWorks v s (Some a) (Some t) = WorksOn v s a t.config

-- wherever a history leads from a sound store, the graft call works on it
abbrev pub HistoriesWork : Meaning → Type 0
HistoriesWork m =
    (v : World) (images : ImageTable) (s : Objects) (p : ℕ) (t : Stage) (ks : List Mark) →
    IsSoundStore v s →
    ReplayWorks v s (m.asks v s p t) (replay m v images s p t ks)

-- a sound graft call is sound after the drop of a level, by a time-out too, if a level is left
abbrev pub DropsStaySound : Type 0
DropsStaySound =
    (v : World) (c : Config) (d : ℕ) (cause : Cause) → IsSoundConfig v c →
    (drop_level v c.now c.levels d cause).config.levels ≢ [] →
    IsSoundConfig v (drop_level v c.now c.levels d cause).config
