-- What contracts see of a policy, and what it answers.
use Rattle.std.specs.Prelude.{◌≡◌, ℕ, ◌-◌, max, Bool, true, false, cond, ◌&&◌, ◌==◌, nat_lt, List}
use Rattle.std.specs.Prelude.{All, [], ◌∷◌, Option, option_map, slice_index}
use Rattle.std.specs.List.{list_any}
use Rattle.kernel_model.specs.declared.FrameRow.{FrameRow}
use Rattle.kernel_model.specs.Objects.{PolValue, CacheValue}
use Rattle.kernel_model.specs.Access.{param_top}
use Rattle.kernel_model.specs.Policies.{least, or_zero, next_process, ahead_count, is_owned, mark_of}
use Rattle.graft_points.specs.declared.ask.Ask.{Ask}
use Rattle.graft_points.specs.declared.ask.Ask.TheVariants.{Ahead, Victim, Next}

-- a policy: its code and its parameters
pub record PolicyView : Type 0 where
  pub code : ℕ
  pub params : List ℕ

-- ---- codes

-- the kind of the policy of a code: 0 reads ahead, 1 evicts, 2 schedules
abbrev pub kind_of_code : ℕ → ℕ
kind_of_code code = cond (nat_lt code 3) 0 (cond (nat_lt code 5) 1 2)

-- the code of policy 0 of a kind
abbrev pub first_code : ℕ → ℕ
first_code kind = cond (kind == 0) 0 (cond (kind == 1) 3 5)

-- which policy of its kind a code names
abbrev pub number_of_code : ℕ → ℕ
number_of_code code = code - first_code (kind_of_code code)

-- the highest value of the parameter of the policy of a code, if it has one
abbrev pub top_of_code : ℕ → Option ℕ
top_of_code code = param_top (kind_of_code code) (number_of_code code)

-- ---- answers

-- the one of two with the lesser key, the first where the keys are one
abbrev pub lesser : {A : Type 0} → (A → ℕ) → (x y : A) → A
lesser key x y = cond (nat_lt (key y) (key x)) y x

-- a policy as the chosen one of its kind
abbrev pub as_chosen : PolicyView → PolValue
as_chosen v = record { chosen = number_of_code v.code; param = λ j. slice_index v.params 0 }

-- what the eviction policy goes by: nothing, or the mark and at least the floor
abbrev pub row_key : PolValue → FrameRow → ℕ
row_key pol r = cond (pol.chosen == 0) 0 (max r.mark (pol.param 1))

-- the frame of a row
abbrev pub frame_in : Option FrameRow → Option ℕ
frame_in r = option_map (λ (x : FrameRow). x.frame) r

-- the candidate for eviction among these rows, oldest first
abbrev pub victim_of : PolValue → List FrameRow → Option ℕ
victim_of pol rows = frame_in (least (row_key pol) rows)

-- the kind of policy that a question is for
abbrev pub asked_kind : Ask → ℕ
asked_kind (Ahead seq window left) = 0
asked_kind (Victim rows) = 1
asked_kind (Next rows) = 2

-- a list that isn't empty
abbrev pub is_filled : {A : Type 0} → List A → Bool
is_filled [] = false
is_filled (x ∷ xs) = true

-- there is something to choose from
abbrev pub has_choice : Ask → Bool
has_choice (Ahead seq window left) = true
has_choice (Victim rows) = is_filled rows.now
has_choice (Next rows) = is_filled rows.now

-- what the chosen policy of the kind answers to a question
abbrev pub answer_by : PolValue → Ask → ℕ
answer_by pol (Ahead seq window left) = ahead_count pol seq window left
answer_by pol (Victim rows) = or_zero (victim_of pol rows.now)
answer_by pol (Next rows) = or_zero (next_process pol rows.now)

-- the answer of a policy to a question of its kind
abbrev pub answer_of : PolicyView → Ask → ℕ
answer_of v ask = answer_by (as_chosen v) ask

-- ---- rows of the cache

-- a row shows this frame with this owner
abbrev pub is_row_of : (owner f : ℕ) → FrameRow → Bool
is_row_of owner f r = r.frame == f && r.owner == owner

-- one of the rows shows this frame with this owner
abbrev pub is_owned_row : List FrameRow → (owner f : ℕ) → Bool
is_owned_row rows owner f = list_any (is_row_of owner f) rows

-- these rows show the frames in use of a cache with their owners
pub record OwnersOf (c : CacheValue) (rows : List FrameRow) : Type 0 where
  pub owned : (q f : ℕ) → is_owned c q f ≡ is_owned_row rows q f

-- these rows show the marks of their frames
pub record MarksOf (c : CacheValue) (rows : List FrameRow) : Type 0 where
  pub marked : All (λ (r : FrameRow). mark_of c r.frame ≡ r.mark) rows
