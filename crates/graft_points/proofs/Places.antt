-- The policies of a shelf by place, where the shelf is a list of boxes that are seen as policies.
use Rattle.std.proofs.Common.{◌≡◌, ℕ, ◌<◌, List}
use Rattle.std.proofs.Common.{length, map, slice_index_or, slice_set, sym, ◌∙◌}
use Rattle.std.proofs.Common.{ap}
use Rattle.std.proofs.lemmas.List.{get_or-map, map-set, ext_get_or}
use Rattle.graft_points.specs.Views.{PolicyView}
use Rattle.graft_points.specs.Shelf.{no_policy, view_at, retuned, shelf_with}

-- the policy of the box at a place
pub view_at_map : {B : Type 0} (f : B → PolicyView) (xs : List B) (i : ℕ) (d : B) → i < length xs →
    d ≡ slice_index_or xs i d →
    view_at (map f xs) i ≡ f d
view_at_map f xs i d h e = get_or-map f xs i d no_policy h ∙ ap f (sym e)

-- the shelf where a box was changed
pub shelf_with_map : {B : Type 0} (f : B → PolicyView) (xs : List B) (i x : ℕ) (d e : B) →
    i < length xs → d ≡ slice_index_or xs i d →
    f e ≡ retuned x (f d) → map f (slice_set xs i e) ≡ shelf_with i x (map f xs)
shelf_with_map f xs i x d e h is new =
    map-set f xs i e ∙ ap (λ v. slice_set (map f xs) i v) (new ∙ ap (retuned x) (sym (view_at_map f xs i d h is)))

-- two shelves with the same policy at each place are one
pub alike_everywhere : (xs ys : List PolicyView) → length xs ≡ length ys →
    ((k : ℕ) → k < length xs → view_at xs k ≡ view_at ys k) → xs ≡ ys
alike_everywhere xs ys long each = ext_get_or no_policy xs ys long each

pub alike_at : (xs ys : List PolicyView) (i : ℕ) → xs ≡ ys → view_at xs i ≡ view_at ys i
alike_at xs ys i e = ap (λ vs. view_at vs i) e

-- ---- parameters by their number
