-- The law of the callable list.
use Rattle.std.specs.Prelude.{◌≡◌, ◌↔◌, ℕ, List, Some}
use Rattle.kernel_model.specs.Callables.{callable_name, callable_id}

-- a name has an id exactly where the id has the name
abbrev pub NamesAreIds : Type 0
NamesAreIds = (id : ℕ) (name : List ℕ) →
    (callable_id name ≡ Some id) ↔ (callable_name id ≡ Some name)
