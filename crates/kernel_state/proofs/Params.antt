-- The parameter of a chosen policy is in its range.
use Rattle.std.proofs.Common.{◌≡◌, ℕ, ◌<◌, ◌≤◌, true, List, Option, Some, None, IfSome}
use Rattle.std.proofs.Common.{option_map, slice_index, refl, arith, sym, subst, rules}
use Rattle.std.proofs.lemmas.Bool.Decides.{nat_tests}
use Rattle.kernel_model.specs.Access.{in_range, param_top}
use Rattle.kernel_model.specs.Early.{policy_count}
use Rattle.kernel_model.specs.Sound.{ParamFits}
use Rattle.kernel_model.specs.RawRows.{shown_param}
use Rattle.graft_points.specs.Views.{PolicyView, top_of_code}
use Rattle.graft_points.specs.Shelf.{IsShelf, code_of, is_policy, param_on, pol_of, view_at}
use Rattle.graft_points.proofs.Chosen.{top_of_its_code}

-- below the highest value, if there is one
fits_of : (top : Option ℕ) (x : ℕ) → ((t : ℕ) → top ≡ Some t → x ≤ t) → ParamFits top x
fits_of None x h = tt
fits_of (Some t) x h = h t refl

param_fits : (views : List PolicyView) (kind j : ℕ) → IsShelf views → kind < 3 →
    j < policy_count kind → ParamFits (param_top kind j) (param_on views kind j)
param_fits views kind j h less few =
    let policy : is_policy kind j ≡ true = grind (arith, nat_tests) in
    let code : code_of kind j < 7 = grind (arith, nat_tests) in
    rw policy (subst (λ (top : Option ℕ). ParamFits top
    (slice_index (view_at views (code_of kind j)).params 0)) (top_of_its_code kind j less few)
    (fits_of (top_of_code (code_of kind j)) _ (h.each (code_of kind j) code).range))

in_its_range : (top : Option ℕ) (x : ℕ) → ParamFits top x →
    IfSome (option_map (λ (t : ℕ). x) top) (λ v. in_range top 0 v ≡ true)
in_its_range None x h = search rules
in_its_range (Some top) x h = grind (arith, nat_tests, h)

-- what is shown of the chosen policy's parameter is in its range
pub shown_fits : (views : List PolicyView) (choice : List ℕ) (kind : ℕ) (shown : Option ℕ) →
    IsShelf views → kind < 3 → slice_index choice kind < policy_count kind
    → shown ≡ shown_param kind (pol_of views choice kind) →
    IfSome shown (λ v. in_range (param_top kind (slice_index choice kind)) 0 v ≡ true)
shown_fits views choice kind shown h less few is =
    let j = slice_index choice kind in
    subst (λ (o : Option ℕ). IfSome o (λ v. in_range (param_top kind j) 0 v ≡ true))
    (sym is) (in_its_range (param_top kind j) (param_on views kind j)
    (param_fits views kind j h less few))
