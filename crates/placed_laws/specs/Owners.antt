-- Whose the levels of a graft call are, and whose objects their records name.
use Rattle.std.specs.Prelude.{◌≡◌, ℕ, List, [], ◌∷◌, ⊤}
use Rattle.kernel_model.specs.Access.{Found}
use Rattle.kernel_model.specs.declared.Cause.{Cause}
use Rattle.kernel_model.specs.declared.Inverse.{Inverse}
use Rattle.kernel_model.specs.declared.Inverse.TheVariants.{Nice, Window, Mark, Tune, Segment}
use Rattle.kernel_model.specs.declared.Need.{Need}
use Rattle.kernel_model.specs.declared.Point.{Point}
use Rattle.kernel_model.specs.Objects.{Objects}
use Rattle.kernel_model.specs.World.{World, ImageTable}
use Rattle.kernel_model.specs.Levels.{Level, Config, drop_level}
use Rattle.kernel_model.specs.GraftStep.{micro}
use Rattle.kernel_model.specs.History.{begin_at}

-- ---- owners

-- the process that a record names, if it names one, is this one: marks of frames and parameters of
-- policies name none
abbrev pub IsOwn : ℕ → Inverse → Type 0
IsOwn q (Inverse.Cell r k v) = r ≡ q
IsOwn q (Nice r v) = r ≡ q
IsOwn q (Window r fd v) = r ≡ q
IsOwn q (Mark f v) = ⊤
IsOwn q (Tune kind k v) = ⊤
IsOwn q (Segment r pt) = r ≡ q

-- the same of each of some records (by recursion, so that it computes)
abbrev pub AreOwn : ℕ → List Found → Type 0
AreOwn q [] = ⊤
AreOwn q (i ∷ is) = IsOwn q i.inverse × AreOwn q is

-- levels and their records are all of this owner (by recursion, so that it computes)
abbrev pub AreOfOwner : ℕ → List Level → Type 0
AreOfOwner q [] = ⊤
AreOfOwner q (l ∷ ls) = (l.owner ≡ q) × AreOwn q l.records × AreOfOwner q ls

-- ---- the law

-- The levels of a graft call are all of one owner, the installer of the point that its piece asks,
-- and so are their records.
pub record OwnersStay : Type 0 where
  -- the first level begins
  pub begins : (images : ImageTable) (s : Objects) (p : ℕ) (needs : List Need) (feed : List ℕ)
      (a : Point) → AreOfOwner a.installer (begin_at images s p needs feed a).levels
  -- an instruction: an ask begins a level of the asker's own process, and an accessor changes what
  -- the level's owner has
  pub instructions : (v : World) (images : ImageTable) (p q : ℕ) (c : Config) →
      AreOfOwner q c.levels → AreOfOwner q (micro v images p c).config.levels
  -- the drop of a level
  pub drops : (v : World) (w : Objects) (ls : List Level) (d q : ℕ) (cause : Cause) →
      AreOfOwner q ls → AreOfOwner q (drop_level v w ls d cause).config.levels
