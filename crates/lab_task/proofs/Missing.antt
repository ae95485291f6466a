-- Which graft is missing, one graft more.
use Rattle.std.proofs.Common.{◌≡◌, ℕ, suc, ◌+◌, ◌<◌, true, false, List, ◌∷◌, Some, length, drop, get_or, refl, add-one}
use Rattle.std.proofs.Math.Seq.{drop-cons}
use Rattle.std.specs.List.{list_any}
use Rattle.script_model.specs.World.{same_bytes}
use Rattle.lab_task.specs.declared.faults.SubmissionFault.TheVariants.{Missing}
use Rattle.lab_task.specs.Submission.{Begun, missing}

-- a graft that is there doesn't decide
there : (k : ℕ) (name : List ℕ) (gives : List (List ℕ)) (grafts : List Begun) →
    list_any (λ (g : Begun). same_bytes name g.name) grafts ≡ true →
    missing k (name ∷ gives) grafts ≡ missing (suc k) gives grafts
there k name gives grafts h = rw (missing, h) refl

-- one that isn't does
not_there : (k : ℕ) (name : List ℕ) (gives : List (List ℕ)) (grafts : List Begun) →
    list_any (λ (g : Begun). same_bytes name g.name) grafts ≡ false →
    missing k (name ∷ gives) grafts ≡ Some (Missing k)
not_there k name gives grafts h = rw (missing, h) refl

-- the next graft is there
pub missing_more : (gives : List (List ℕ)) (grafts : List Begun) (k : ℕ) (name : List ℕ) →
    k < length gives → name ≡ get_or gives k name →
    list_any (λ (g : Begun). same_bytes name g.name) grafts ≡ true →
    missing k (drop k gives) grafts ≡ missing (k + 1) (drop (k + 1) gives) grafts
missing_more gives grafts k name within at h =
    rw (drop-cons gives k name within, ← at, add-one k)
    (there k name (drop (suc k) gives) grafts h)

-- the next graft isn't
pub missing_here : (gives : List (List ℕ)) (grafts : List Begun) (k : ℕ) (name : List ℕ) →
    k < length gives → name ≡ get_or gives k name →
    list_any (λ (g : Begun). same_bytes name g.name) grafts ≡ false →
    missing k (drop k gives) grafts ≡ Some (Missing k)
missing_here gives grafts k name within at h =
    rw (drop-cons gives k name within, ← at) (not_there k name (drop (suc k) gives) grafts h)
