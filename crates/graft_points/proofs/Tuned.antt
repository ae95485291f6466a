-- A shelf on which one parameter was set.
use Rattle.std.proofs.Common.{◌≡◌, ◌≢◌, ℕ, zero, suc, ◌<◌, ◌≤◌, Bool, true, false, cond, ◌&&◌}
use Rattle.std.proofs.Common.{◌==◌, List, [], ◌∷◌, length, Option, Some, None, option_map}
use Rattle.std.proofs.Common.{slice_index, slice_set, refl, sym, subst, ◌∙◌, ap, arith}
use Rattle.std.proofs.Math.Path.{fun_ext}
use Rattle.std.proofs.lemmas.Bool.Decides.{nat_tests}
use Rattle.std.proofs.lemmas.List.{get_or-set_same, get_or-set_other}
use Rattle.kernel_model.specs.Objects.{PolValue, at}
use Rattle.kernel_model.specs.Early.{policy_count}
use Rattle.kernel_model.specs.Sound.{ParamFits}
use Rattle.kernel_model.specs.Access.{param_top, in_range, with_param}
use Rattle.kernel_model.specs.Opening.{opening_policy}
use Rattle.kernel_model.specs.RawRows.{shown_param}
use Rattle.graft_points.specs.Views.{PolicyView, top_of_code}
use Rattle.graft_points.specs.Shelf.{IsShelf, IsPolicy, no_policy, code_of, view_at, is_policy}
use Rattle.graft_points.specs.Shelf.{param_on, pol_of, retuned, shelf_with, head_of, stock_views}
use Rattle.graft_points.specs.Shelf.{first_choice}
use Rattle.graft_points.proofs.Chosen.{code_below, top_of_its_code, is_its_policy}
use Rattle.graft_points.proofs.Rows.{same_number}

-- ---- the policies of a shelf

-- the policy at a place after the parameter of one was set
pub view_at_same : (i x : ℕ) (views : List PolicyView) → i < length views →
    view_at (shelf_with i x views) i ≡ retuned x (view_at views i)
view_at_same i x views h = get_or-set_same views i (retuned x (view_at views i)) no_policy h

pub view_at_other : (i j x : ℕ) (views : List PolicyView) → j ≢ i → view_at (shelf_with i x views) j ≡ view_at views j
view_at_other i j x views h = get_or-set_other views i j (retuned x (view_at views i)) no_policy h

counted : (top : Option ℕ) (n x : ℕ) → n ≡ elim top [ None ↦ 0 | Some t ↦ 1 ] → in_range top 0 x ≡ true → 0 < n
counted None n x e h = cc
counted (Some t) n x e h = omega arith

-- a policy that takes a value has a parameter
pub has_param : (i x : ℕ) (v : PolicyView) → IsPolicy i v → in_range (top_of_code i) 0 x ≡ true → 0 < length v.params
has_param i x v p h = counted (top_of_code i) (length v.params) x p.count h

-- below the highest value, if there is one
within : (top : Option ℕ) (x : ℕ) → ParamFits top x → (t : ℕ) → top ≡ Some t → x ≤ t
within None x h t e = absurd (cc)
within (Some s) x h t e = let same : s ≡ t = cc in let P : ℕ → Type 0 = λ k. x ≤ k in subst P same h

set_first : (x : ℕ) (ps : List ℕ) → 0 < length ps → slice_index (slice_set ps 0 x) 0 ≡ x
set_first x [] h = absurd (omega arith)
set_first x (p ∷ ps) h = refl

-- ---- the value of each kind

codes_apart : (kind c k j : ℕ) → kind < 3 → c < policy_count kind → is_policy k j ≡ true →
    code_of k j ≡ code_of kind c → (k ≡ kind) × (j ≡ c)
codes_apart kind c k j h i e same = grind (arith, nat_tests)

-- the parameter of policy j of kind k, where that of policy c of a kind was set to x
abbrev pub ParamAfter : (views : List PolicyView) (kind c x k j : ℕ) → Type 0
ParamAfter views kind c x k j =
    param_on (shelf_with (code_of kind c) x views) k j ≡ cond (k == kind && j == c) x (param_on views k j)

param_elsewhere : (views : List PolicyView) (kind c x k j : ℕ) → kind < 3 → c < policy_count kind →
    is_policy k j ≡ true →
    (k == kind && j == c) ≡ false → ParamAfter views kind c x k j
param_elsewhere views kind c x k j h i e q =
    let apart : code_of k j ≢ code_of kind c = λ same.
    let both = codes_apart kind c k j h i e same in
    let k_is = both.0 in let j_is = both.1 in grind (arith, nat_tests) in
    rw (e, q, view_at_other (code_of kind c) (code_of k j) x views apart) refl

param_here : (views : List PolicyView) (kind c x : ℕ) → IsShelf views → kind < 3 → c < policy_count kind →
    in_range (top_of_code (code_of kind c)) 0 x ≡ true → param_on (shelf_with (code_of kind c) x views) kind c ≡ x
param_here views kind c x s h i r =
    let below = code_below kind c h i in
    let inside : code_of kind c < length views = omega (arith, s.seven) in
    let v = view_at views (code_of kind c) in
    rw (is_its_policy kind c h i)
    (ap (λ (w : PolicyView). slice_index w.params 0) (view_at_same (code_of kind c) x views inside)
    ∙ set_first x v.params (has_param (code_of kind c) x v (s.each (code_of kind c) below) r))

param_after : (views : List PolicyView) (kind c x k j : ℕ) → IsShelf views → kind < 3 → c < policy_count kind →
    in_range (top_of_code (code_of kind c)) 0 x ≡ true → (b : Bool) → (k == kind && j == c) ≡ b →
    (d : Bool) → is_policy k j ≡ d →
    ParamAfter views kind c x k j
param_after views kind c x k j s h i r false q false e = rw (e, q) refl
param_after views kind c x k j s h i r false q true e = param_elsewhere views kind c x k j h i e q
param_after views kind c x k j s h i r true q d e =
    let k_is : kind ≡ k = grind (arith, nat_tests) in
    let j_is : c ≡ j = grind (arith, nat_tests) in
    rw q
    (let P : ℕ → Type 0 = λ n. param_on (shelf_with (code_of kind c) x views) n j ≡ x in
    let Q : ℕ → Type 0 = λ n. param_on (shelf_with (code_of kind c) x views) kind n ≡ x in
    subst P k_is (subst Q j_is (param_here views kind c x s h i r)))

-- the values of the kinds, where the parameter of the chosen policy of one was set
value_after : (views : List PolicyView) (choice : List ℕ) (kind x k : ℕ) → IsShelf views → kind < 3 →
    slice_index choice kind < policy_count kind →
    in_range (top_of_code (code_of kind (slice_index choice kind))) 0 x ≡ true →
    (b : Bool) → (k == kind) ≡ b →
    pol_of (shelf_with (code_of kind (slice_index choice kind)) x views) choice k
    ≡ cond b (with_param x (pol_of views choice kind)) (pol_of views choice k)
value_after views choice kind x k s h i r true e =
    let same : kind ≡ k = grind (arith, nat_tests) in
    let c = slice_index choice kind in
    let P : ℕ → Type 0 = λ n. pol_of (shelf_with (code_of kind c) x views) choice n
    ≡ with_param x (pol_of views choice kind) in
    let params : param_on (shelf_with (code_of kind c) x views) kind ≡ at c x (param_on views kind) =
    fun_ext (λ j. param_after views kind c x kind j s h i r (kind == kind && j == c) refl (is_policy kind j) refl
    ∙ rw (same_number kind) refl) in
    let value : (ℕ → ℕ) → PolValue = λ ps. record { chosen = c; param = ps } in
    subst P same (ap value params)
value_after views choice kind x k s h i r false e =
    let c = slice_index choice kind in
    let params : param_on (shelf_with (code_of kind c) x views) k ≡ param_on views k =
    fun_ext (λ j. param_after views kind c x k j s h i r (k == kind && j == c) refl (is_policy k j) refl ∙ rw e refl) in
    let value : (ℕ → ℕ) → PolValue = λ ps. record { chosen = slice_index choice k; param = ps } in
    ap value params

-- a value in the range of the chosen policy's parameter is in that of its code
pub in_its_range : (kind c x : ℕ) → kind < 3 → c < policy_count kind → in_range (param_top kind c) 0 x ≡ true →
    in_range (top_of_code (code_of kind c)) 0 x ≡ true
in_its_range kind c x h i r = ap (λ top. in_range top 0 x) (top_of_its_code kind c h i) ∙ r

-- a shelf on which the parameter of the chosen policy of a kind was set
pub record IsTuned (new old : List PolicyView) (choice : List ℕ) (kind x : ℕ) : Type 0 where
  pub shelf : IsShelf old
  pub kind_is : kind < 3
  pub number : slice_index choice kind < policy_count kind
  pub range : in_range (param_top kind (slice_index choice kind)) 0 x ≡ true
  pub views : new ≡ shelf_with (code_of kind (slice_index choice kind)) x old

pub values_after : (new old : List PolicyView) (choice : List ℕ) (kind x : ℕ) → IsTuned new old choice kind x →
    pol_of new choice ≡ at kind (with_param x (pol_of old choice kind)) (pol_of old choice)
values_after new old choice kind x t =
    let r = in_its_range kind (slice_index choice kind) x t.kind_is t.number t.range in
    ap (λ views. pol_of views choice) t.views
    ∙ fun_ext (λ k. value_after old choice kind x k t.shelf t.kind_is t.number r (k == kind) refl)

-- ---- the parameter that is shown

shown_of : (ps : List ℕ) (top : Option ℕ) → length ps ≡ elim top [ None ↦ 0 | Some t ↦ 1 ] →
    head_of ps ≡ option_map (λ t. slice_index ps 0) top
shown_of [] None e = refl
shown_of [] (Some t) e = absurd (omega arith)
shown_of (p ∷ ps) None e = absurd (omega arith)
shown_of (p ∷ ps) (Some t) e = refl

pub param_shown : (views : List PolicyView) (choice : List ℕ) (kind : ℕ) → IsShelf views → kind < 3 →
    slice_index choice kind < policy_count kind →
    head_of (view_at views (code_of kind (slice_index choice kind))).params
    ≡ shown_param kind (pol_of views choice kind)
param_shown views choice kind s h i =
    let c = slice_index choice kind in
    let v = view_at views (code_of kind c) in
    rw (is_its_policy kind c h i)
    (shown_of v.params (param_top kind c)
    ((s.each (code_of kind c) (code_below kind c h i)).count
    ∙ ap (λ top. elim top [ None ↦ 0 | Some t ↦ 1 ]) (top_of_its_code kind c h i)))

-- ---- the shelf at boot

stock_policy : (i : ℕ) → i < 7 → IsPolicy i (view_at stock_views i)
stock_policy zero h = record { code = refl; count = refl; range = within (top_of_code 0) _ (tt) }
stock_policy (suc zero) h = record { code = refl; count = refl; range = within (top_of_code 1) _ (omega arith) }
stock_policy (suc (suc zero)) h = record { code = refl; count = refl; range = within (top_of_code 2) _ (omega arith) }
stock_policy (suc (suc (suc zero))) h = record { code = refl; count = refl; range = within (top_of_code 3) _ (tt) }
stock_policy (suc (suc (suc (suc zero)))) h =
    record { code = refl; count = refl; range = within (top_of_code 4) _ (omega arith) }
stock_policy (suc (suc (suc (suc (suc zero))))) h =
    record { code = refl; count = refl; range = within (top_of_code 5) _ (tt) }
stock_policy (suc (suc (suc (suc (suc (suc zero)))))) h =
    record { code = refl; count = refl; range = within (top_of_code 6) _ (omega arith) }
stock_policy (suc (suc (suc (suc (suc (suc (suc i))))))) h = absurd (omega arith)

stock_shelf : IsShelf stock_views
stock_shelf = record { seven = refl; each = stock_policy }

pub stock_is_shelf : (views : List PolicyView) → views ≡ stock_views → IsShelf views
stock_is_shelf views e = subst IsShelf (sym e) stock_shelf

opening_param : (kind j : ℕ) → param_on stock_views kind j ≡ (opening_policy kind).param j
opening_param zero zero = refl
opening_param zero (suc zero) = refl
opening_param zero (suc (suc zero)) = refl
opening_param zero (suc (suc (suc j))) = grind (arith, nat_tests)
opening_param (suc zero) zero = refl
opening_param (suc zero) (suc zero) = refl
opening_param (suc zero) (suc (suc j)) = grind (arith, nat_tests)
opening_param (suc (suc zero)) zero = refl
opening_param (suc (suc zero)) (suc zero) = refl
opening_param (suc (suc zero)) (suc (suc j)) = grind (arith, nat_tests)
opening_param (suc (suc (suc k))) j = grind (arith, nat_tests)

abbrev pol_value : ℕ → (ℕ → ℕ) → PolValue
pol_value c ps = record { chosen = c; param = ps }

opening_value : (kind : ℕ) → pol_of stock_views first_choice kind ≡ opening_policy kind
opening_value zero = ap (λ ps. pol_value 1 ps) (fun_ext (opening_param 0))
opening_value (suc zero) = ap (λ ps. pol_value 0 ps) (fun_ext (opening_param 1))
opening_value (suc (suc zero)) = ap (λ ps. pol_value 0 ps) (fun_ext (opening_param 2))
opening_value (suc (suc (suc k))) =
    let none : (suc (suc (suc k)) == 0) ≡ false = grind (arith, nat_tests) in
    ap (λ ps. pol_value 0 ps) (fun_ext (opening_param (suc (suc (suc k)))))
    ∙ ap (λ b. pol_value (cond b 1 0) (opening_policy (suc (suc (suc k)))).param) (sym none)

pub stock_opens : (views : List PolicyView) → views ≡ stock_views → pol_of views first_choice ≡ opening_policy
stock_opens views e = ap (λ vs. pol_of vs first_choice) e ∙ fun_ext opening_value
