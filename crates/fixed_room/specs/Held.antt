-- What a contract sees of a room.
use Rattle.std.specs.Prelude.{ℕ, ◌+◌, ◌≤◌, List, length, slice_set, refl}
use Rattle.std.specs.List.{refill}
use Rattle.std.specs.Coded.{Coded, code_by, coded×, coded_ℕ, coded_list}

-- the items, in order, and for how many there is memory
pub record Held (T : Type 0) : Type 0 where
  pub items : List T
  pub room : ℕ

-- a room is stored as the pair of its fields
abbrev pub held_code : {T : Type 0} → Coded T → Coded (Held T)
held_code {T} code =
    code_by (List T × ℕ) (coded× (coded_list code) coded_ℕ) (λ h. (h.items, h.room))
    (λ p. record { items = p.0; room = p.1 }) (λ _. refl)

module _ {T : Type 0} where
  -- there is room for so many more items
  abbrev pub HasRoom : Held T → ℕ → Type 0
  HasRoom h more = length h.items + more ≤ h.room

  -- h after a write of item i
  abbrev pub with_item : Held T → ℕ → T → Held T
  with_item h i x = record h { items = slice_set h.items i x }

  -- h after a write of its items as a slice, which keeps the length
  abbrev pub with_items : Held T → List T → Held T
  with_items h xs = record h { items = refill (length h.items) h.items xs }
