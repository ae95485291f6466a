use Rattle.std.proofs.Common.{◌≡◌, ◌∙◌, sym, ap, is_some, ℕ, List, length, arith}
use Rattle.std.specs.Map.{lookup}
use Rattle.std.specs.Global.{Vec}
use Rattle.script_model.specs.World.{same_bytes}
use Rattle.lab_reader.proofs.Finding.{finds_inserted, finds_old}
use Rattle.lab_reader.proofs.table.add_graft.Goals as goal

pub returns-then-contains_key-clause-finds : goal.returns-then-contains_key-clause-finds
returns-then-contains_key-clause-finds c =
    rw c.in-Ok.ensures.items
    (finds_old c.args.places.now.entries c.args.grafts.now.items c.args.name c.args.graft
    c.requires.finds c.requires.named
    (ap (λ (bytes : List ℕ). is_some (lookup (λ (k : Vec ℕ). same_bytes bytes k.items) c.args.places.now.entries))
    (sym c.as_slice.ensures.value)
    ∙ sym c.contains_key.ensures
    ∙ c.if-contains_key.true))

pub returns-clause-finds : goal.returns-clause-finds
returns-clause-finds c =
    rw (c.in-Ok-insert.ensures.entries, c.in-Ok.ensures.items)
    (finds_inserted c.args.places.now.entries c.args.grafts.now.items c.args.name c.args.graft c.len-place.result
    c.requires.finds c.requires.named
    (let last : c.len-place.result ≡ length c.args.grafts.now.items = omega (arith, c.len-place.ensures) in last)
    (ap (λ (bytes : List ℕ). is_some (lookup (λ (k : Vec ℕ). same_bytes bytes k.items) c.args.places.now.entries))
    (sym c.as_slice.ensures.value)
    ∙ sym c.contains_key.ensures
    ∙ c.if-contains_key.false))
