-- Instructions of two graft calls that are alike.
use Rattle.std.specs.Prelude.{◌≡◌, ℕ, true, List, [], ◌∷◌, ⊤}
use Rattle.std.specs.List.{AllByRecursion}
use Rattle.kernel_model.specs.declared.Cause.{Cause}
use Rattle.kernel_model.specs.declared.Object.{Object}
use Rattle.kernel_model.specs.declared.Object.TheVariants.{OpenFile, Queue, Cache, Pol}
use Rattle.kernel_model.specs.World.{World, ImageTable}
use Rattle.kernel_model.specs.Policies.{PointKind, Ahead, Victim, Next, Serve, Stream, kind_of}
use Rattle.kernel_model.specs.Levels.{Level, Config, Outcome, drop_level}
use Rattle.kernel_model.specs.GraftStep.{micro, next_needs}
use Rattle.kernel_model.specs.Sound.{IsSoundConfig}
use Rattle.kernel_model.specs.Alike.{AgreeOn, Keeps, ConfigsAlike, is_held_in}
use Rattle.kernel_model.specs.Laws.{answer_objects}

-- ---- the objects of points

-- the objects that the default and the arguments of a point look at
abbrev pub point_objects : PointKind → (q pt : ℕ) → List Object
point_objects Ahead q pt = OpenFile q pt ∷ Pol 0 ∷ []
point_objects Victim q pt = Cache ∷ Pol 1 ∷ []
point_objects Next q pt = Queue ∷ []
point_objects Serve q pt = []
point_objects Stream q pt = []

-- each of these objects is held by one of the levels
abbrev pub AreHeldBy : List Level → List Object → Type 0
AreHeldBy ls os = AllByRecursion (λ o. is_held_in ls o ≡ true) os

-- the objects of each level's point are held outside it, where another level asked it
abbrev pub AsksAreHeld : List Level → Type 0
AsksAreHeld [] = ⊤
AsksAreHeld (l ∷ []) = ⊤
AsksAreHeld (l ∷ k ∷ ls) = AreHeldBy (k ∷ ls) (point_objects (kind_of l.point) l.owner l.point)
    × AsksAreHeld (k ∷ ls)

-- level 0 holds what tells whether an answer of its point is valid
abbrev pub AnswerIsHeld : List Level → Type 0
AnswerIsHeld [] = ⊤
AnswerIsHeld (l ∷ []) = AreHeldBy (l ∷ []) (answer_objects (kind_of l.point))
AnswerIsHeld (l ∷ k ∷ ls) = AnswerIsHeld (k ∷ ls)

-- ---- outcomes

-- Two outcomes are the same, as far as the call can tell; and where the states before agreed, those
-- after agree.
pub record OutcomesAlike (c d : Config) (o r : Outcome) : Type 0 where
  pub said : o.said ≡ r.said
  pub effects : o.effects ≡ r.effects
  pub config : ConfigsAlike o.config r.config
  pub keeps : Keeps c.now d.now o.config.now r.config.now

-- An instruction of two sound graft calls that are alike, and agree on what it needs, comes to the
-- same.
abbrev pub InstructionsAlike : Type 0
InstructionsAlike =
    (v : World) (images : ImageTable) (p : ℕ) (c d : Config) → IsSoundConfig v c →
    IsSoundConfig v d → ConfigsAlike c d →
    AsksAreHeld c.levels → AnswerIsHeld c.levels →
    AgreeOn (next_needs v images c.now.accounts c.levels) c.now d.now →
    OutcomesAlike c d (micro v images p c) (micro v images p d)

-- So does the drop of a level.
abbrev pub DropsAlike : Type 0
DropsAlike =
    (v : World) (c d : Config) (n : ℕ) (cause : Cause) → IsSoundConfig v c → IsSoundConfig v d →
    ConfigsAlike c d → AsksAreHeld c.levels →
    OutcomesAlike c d (drop_level v c.now c.levels n cause) (drop_level v d.now d.levels n cause)

-- after a step levels hold what they looked at of points, if they held it before
pub record HoldsPoints (before after : List Level) : Type 0 where
  pub asks : AsksAreHeld before → AsksAreHeld after
  pub answer : AnswerIsHeld before → AnswerIsHeld after

-- an instruction leaves held what levels looked at of points
abbrev pub PointsStayHeld : Type 0
PointsStayHeld = (v : World) (images : ImageTable) (p : ℕ) (c : Config) →
    HoldsPoints c.levels (micro v images p c).config.levels
