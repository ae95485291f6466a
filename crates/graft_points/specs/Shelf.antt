-- What a shelf of policies is to the kernel: a value for each kind of policy.
use Rattle.std.specs.Prelude.{◌≡◌, ℕ, ◌+◌, ◌<◌, ◌≤◌, Bool, cond, ◌&&◌, nat_lt, List, [], ◌∷◌}
use Rattle.std.specs.Prelude.{length, Option, Some, None, slice_index, slice_index_or, slice_set}
use Rattle.kernel_model.specs.Objects.{PolValue}
use Rattle.kernel_model.specs.Early.{policy_count}
use Rattle.graft_points.specs.Views.{PolicyView, first_code, top_of_code}

-- ---- codes

-- the code of policy j of a kind
abbrev pub code_of : (kind j : ℕ) → ℕ
code_of kind j = first_code kind + j

-- a kind has a policy of this number
abbrev pub is_policy : (kind j : ℕ) → Bool
is_policy kind j = nat_lt kind 3 && nat_lt j (policy_count kind)

-- how many parameters the policy of a code has
abbrev pub param_count : ℕ → ℕ
param_count code = elim (top_of_code code) [ None ↦ 0 | Some top ↦ 1 ]

-- ---- shelves

-- nothing, where no policy stands
abbrev pub no_policy : PolicyView
no_policy = record { code = 0; params = [] }

-- the policy at a place of a shelf
abbrev pub view_at : List PolicyView → ℕ → PolicyView
view_at views i = slice_index_or views i no_policy

-- a policy is the one of this code, and has its parameters, each in its range
pub record IsPolicy (i : ℕ) (v : PolicyView) : Type 0 where
  pub code : v.code ≡ i
  pub count : length v.params ≡ param_count i
  pub range : (top : ℕ) → top_of_code i ≡ Some top → slice_index v.params 0 ≤ top

-- a shelf: the policies of codes 0 to 6, in order
pub record IsShelf (views : List PolicyView) : Type 0 where
  pub seven : length views ≡ 7
  pub each : (i : ℕ) → i < 7 → IsPolicy i (view_at views i)

-- one parameter, or none
abbrev pub params_of : Option ℕ → List ℕ
params_of None = []
params_of (Some x) = x ∷ []

-- the first parameter, if there is one
abbrev pub head_of : List ℕ → Option ℕ
head_of [] = None
head_of (x ∷ xs) = Some x

-- the policy of a code, with this parameter or none
abbrev pub stock_view : (code : ℕ) → Option ℕ → PolicyView
stock_view code param = record { code = code; params = params_of param }

-- the shelf that a kernel boots with
abbrev pub stock_views : List PolicyView
stock_views =
    stock_view 0 None ∷ stock_view 1 (Some 2) ∷ stock_view 2 (Some 1) ∷ stock_view 3 None
    ∷ stock_view 4 (Some 0) ∷
    stock_view 5 None ∷ stock_view 6 (Some 0) ∷ []

-- a policy with another value of its parameter
abbrev pub retuned : ℕ → PolicyView → PolicyView
retuned x v = record v { params = slice_set v.params 0 x }

-- the shelf with another value of the parameter of the policy at a place
abbrev pub shelf_with : (i x : ℕ) → List PolicyView → List PolicyView
shelf_with i x views = slice_set views i (retuned x (view_at views i))

-- ---- the value of each kind

-- the parameter of policy j of a kind, 0 where it has none
abbrev pub param_on : List PolicyView → (kind j : ℕ) → ℕ
param_on views kind j =
    cond (is_policy kind j) (slice_index (view_at views (code_of kind j)).params 0) 0

-- the value of a kind: which policy is chosen, and the parameter of each
abbrev pub pol_of : List PolicyView → (choice : List ℕ) → ℕ → PolValue
pol_of views choice kind = record { chosen = slice_index choice kind; param = param_on views kind }

-- which policy of each kind is chosen at boot
abbrev pub first_choice : List ℕ
first_choice = 1 ∷ 0 ∷ 0 ∷ []

-- each kind has the policy that is chosen
pub record IsChoice (choice : List ℕ) : Type 0 where
  pub three : length choice ≡ 3
  pub each : (kind : ℕ) → kind < 3 → slice_index choice kind < policy_count kind
