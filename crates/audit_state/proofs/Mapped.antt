-- Functions that are changed at one place, and rows that are changed, seen through another function.
use Rattle.std.proofs.Common.{◌≡◌, ℕ, Bool, true, false, cond, ◌&&◌, ◌==◌, List, [], ◌∷◌, map}
use Rattle.std.proofs.Common.{Option, None, Some, refl, sym, ap, ◌∙◌}
use Rattle.std.specs.Prelude.{find, option_map}
use Rattle.std.proofs.Math.Path.{fun_ext}
use Rattle.std.proofs.lemmas.Bool.{eqb-true}
use Rattle.kernel_model.specs.Objects.{FrameValue, at, at2}
use Rattle.kernel_model.specs.Access.{with_param, with_mark}
use Rattle.kernel_model.specs.Fetch.{patched, bytes_with}
use Rattle.kernel_model.specs.Pieces.{handed_over}
use Rattle.audit_table.specs.declared.Row.{Row}
use Rattle.audit_table.specs.Tables.{is_at, value_in, table_of, column_of}
use Rattle.audit_state.specs.declared.Frame.{Frame}
use Rattle.audit_state.specs.declared.Kept.{Kept}
use Rattle.audit_state.specs.Things.{frame_of, policy_of, kept_of, segments_of}
use Rattle.audit_state.specs.Rows.{row_through, kept_row, handed, marked, dirtied}

-- ---- one place

-- a choice seen through a function
through : {A B : Type 0} (f : A → B) (b : Bool) (v w : A) → f (cond b v w) ≡ cond b (f v) (f w)
through f true v w = refl
through f false v w = refl

-- a function of one number
pub mapped_at : {A B : Type 0} (f : A → B) (t u : ℕ → A) (i : ℕ) (v : A) → t ≡ at i v u →
    (λ (x : ℕ). f (t x)) ≡ at i (f v) (λ (x : ℕ). f (u x))
mapped_at f t u i v e = fun_ext (λ x. ap (λ (g : ℕ → _). f (g x)) e ∙ through f (x == i) v (u x))

-- a function of two numbers
pub mapped_at2 : {A B : Type 0} (f : A → B) (t u : ℕ → ℕ → A) (i k : ℕ) (v : A) →
    t ≡ at2 i k v u → (λ (x y : ℕ). f (t x y)) ≡ at2 i k (f v) (λ (x y : ℕ). f (u x y))
mapped_at2 f t u i k v e =
    fun_ext (λ x. fun_ext (λ y. ap (λ (g : ℕ → ℕ → _). f (g x y)) e ∙ through f (x == i && y == k) v (u x y)))

-- ---- frames

-- a frame changes, and all frames keep their bytes
pub framed_at : (bytes : ℕ → List ℕ) (t u : ℕ → Option Frame) (f : ℕ) (o : Option Frame) →
    t ≡ at f o u →
    (λ (g : ℕ). frame_of (bytes g) (t g)) ≡ at f (frame_of (bytes f) o) (λ (g : ℕ). frame_of (bytes g) (u g))
framed_at bytes t u f o e =
    fun_ext (λ g. ap (λ (s : ℕ → Option Frame). frame_of (bytes g) (s g)) e ∙ by g (g == f) refl)
  where
    by : (g : ℕ) (b : Bool) → (g == f) ≡ b →
        frame_of (bytes g) (cond b o (u g)) ≡ cond b (frame_of (bytes f) o) (frame_of (bytes g) (u g))
    by g true same = ap (λ (k : ℕ). frame_of (bytes k) o) (eqb-true g f same)
    by g false same = refl

-- a frame changes, and gets bytes
pub framed_new : (bytes : ℕ → List ℕ) (t u : ℕ → Option Frame) (f : ℕ) (o : Option Frame) (new : List ℕ) →
    t ≡ at f o u →
    (λ (g : ℕ). frame_of (at f new bytes g) (t g)) ≡ at f (frame_of new o) (λ (g : ℕ). frame_of (bytes g) (u g))
framed_new bytes t u f o new e =
    fun_ext (λ g. ap (λ (s : ℕ → Option Frame). frame_of (at f new bytes g) (s g)) e ∙ by g (g == f))
  where
    by : (g : ℕ) (b : Bool) →
        frame_of (cond b new (bytes g)) (cond b o (u g)) ≡ cond b (frame_of new o) (frame_of (bytes g) (u g))
    by g true = refl
    by g false = refl

-- a mark
pub marked_is : (v : ℕ) (b : List ℕ) (o : Option Frame) →
    frame_of b (option_map (marked v) o) ≡ with_mark v (frame_of b o)
marked_is v b None = refl
marked_is v b (Some f) = refl

-- bytes put in
pub patched_is : (off : ℕ) (new b : List ℕ) (o : Option Frame) →
    frame_of (bytes_with off new b) (option_map dirtied o)
    ≡ patched off new (frame_of b o)
patched_is off new b None = refl
patched_is off new b (Some f) = refl

-- ---- policies

-- the parameter of the chosen policy
pub param_at : (chosen : ℕ → ℕ) (t u : ℕ → ℕ → ℕ) (kind v : ℕ) → t ≡ at2 kind (chosen kind) v u →
    (λ (k : ℕ). policy_of (chosen k) (t k))
    ≡ at kind (with_param v (policy_of (chosen kind) (u kind))) (λ (k : ℕ). policy_of (chosen k) (u k))
param_at chosen t u kind v e =
    fun_ext (λ k. ap (λ (s : ℕ → ℕ → ℕ). policy_of (chosen k) (s k)) e ∙ by k (k == kind) refl)
  where
    by : (k : ℕ) (b : Bool) → (k == kind) ≡ b →
        policy_of (chosen k) (λ (l : ℕ). cond (b && l == chosen kind) v (u k l))
        ≡ cond b (with_param v (policy_of (chosen kind) (u kind))) (policy_of (chosen k) (u k))
    by k true same = ap (λ (j : ℕ). policy_of (chosen j) (at (chosen kind) v (u j))) (eqb-true k kind same)
    by k false same = refl

-- the chosen policy
pub chosen_at : (t u : ℕ → ℕ) (param : ℕ → ℕ → ℕ) (kind v : ℕ) → t ≡ at kind v u →
    (λ (k : ℕ). policy_of (t k) (param k))
    ≡ at kind (policy_of v (param kind)) (λ (k : ℕ). policy_of (u k) (param k))
chosen_at t u param kind v e =
    fun_ext (λ k. ap (λ (s : ℕ → ℕ). policy_of (s k) (param k)) e ∙ by k (k == kind) refl)
  where
    by : (k : ℕ) (b : Bool) → (k == kind) ≡ b →
        policy_of (cond b v (u k)) (param k) ≡ cond b (policy_of v (param kind)) (policy_of (u k) (param k))
    by k true same = ap (λ (j : ℕ). policy_of v (param j)) (eqb-true k kind same)
    by k false same = refl

-- ---- rows

-- a table whose rows are seen through a function
pub table_through : {A B : Type 0} (f : A → B) (d : A) (rs : List (Row A)) (i k : ℕ) →
    table_of (f d) (map (row_through f) rs) i k ≡ f (table_of d rs i k)
table_through f d [] i k = refl
table_through {A} {B} f d (r ∷ rs) i k = by (is_at i k r) (table_through f d rs i k)
  where
    by : (b : Bool) → table_of (f d) (map (row_through f) rs) i k ≡ f (table_of d rs i k) →
        value_in (f d) (cond b (Some (row_through f r)) (find (is_at i k) (map (row_through f) rs)))
        ≡ f (value_in d (cond b (Some r) (find (is_at i k) rs)))
    by true rest = refl
    by false rest = rest

-- the same for one number
pub column_through : {A B : Type 0} (f : A → B) (d : A) (rs : List (Row A)) →
    column_of (f d) (map (row_through f) rs) ≡ (λ (i : ℕ). f (column_of d rs i))
column_through f d rs = fun_ext (λ i. table_through f d rs i 0)

-- the same segments are kept where the rows are the same but for who shares them
pub same_segments : (xs ys : List (Row (Option Kept))) → map kept_row xs ≡ map kept_row ys →
    segments_of xs ≡ segments_of ys
same_segments xs ys e =
    fun_ext (λ q. fun_ext (λ pt. sym (table_through (option_map kept_of) None xs q pt)
    ∙ ap (λ (rs : List (Row (Option (ℕ → ℕ)))). table_of None rs q pt) e
    ∙ table_through (option_map kept_of) None ys q pt))

-- frames that change their owner
pub frames_handed : (bytes : ℕ → List ℕ) (p q : ℕ) (rs : List (Row (Option Frame))) →
    ◌≡◌ {A = ℕ → Option FrameValue}
    (λ (g : ℕ). frame_of (bytes g) (column_of None (map (row_through (handed p q)) rs) g))
    (λ (g : ℕ). handed_over p q (frame_of (bytes g) (column_of None rs g)))
frames_handed bytes p q rs =
    fun_ext (λ g. ap (λ (o : Option Frame). frame_of (bytes g) o) (table_through (handed p q) None rs g 0)
    ∙ by (bytes g) (column_of None rs g))
  where
    by : (b : List ℕ) (o : Option Frame) → frame_of b (handed p q o) ≡ handed_over p q (frame_of b o)
    by b None = refl
    by b (Some f) = refl
