-- The policies that a kernel is opened with.
use Rattle.std.specs.Prelude.{◌≡◌, List}
use Rattle.call_pieces.specs.Shelf.{IsShelf, pol_of, first_choice}
use Rattle.call_pieces.specs.Views.{PolicyView}
use Rattle.kernel_model.specs.Opening.{opening_policy}

-- a shelf has the seven stock policies, with their parameters at boot
pub record IsStockShelf (shelf : List PolicyView) : Type 0 where
  pub shelf_is : IsShelf shelf
  pub stock : pol_of shelf first_choice ≡ opening_policy
