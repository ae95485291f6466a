-- States that agree on the objects that a call needs: on the first of them, and on the rest.
use Rattle.std.specs.Prelude.{◌≡◌, true, List, ◌∷◌}
use Rattle.std.proofs.lemmas.Bool.{or_left, or_right}
use Rattle.kernel_model.specs.declared.Need.{Need}
use Rattle.kernel_model.specs.Objects.{Objects, SameAt, same_object}
use Rattle.kernel_model.specs.SameObject.{same_object_self}
use Rattle.kernel_model.specs.Alike.{AgreeOn, is_needed}

-- states that agree on a list have the same first object of it
pub same_first : (n : Need) (ns : List Need) (s u : Objects) → AgreeOn (n ∷ ns) s u →
    SameAt n.object s u
same_first n ns s u agree =
    agree n.object
    (or_left (same_object n.object n.object) (is_needed n.object ns) (same_object_self n.object))

-- and agree on the rest
pub agree_on_rest : (n : Need) (ns : List Need) (s u : Objects) → AgreeOn (n ∷ ns) s u →
    AgreeOn ns s u
agree_on_rest n ns s u agree =
    λ o h. agree o (or_right (same_object o n.object) (is_needed o ns) h)
