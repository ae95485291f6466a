-- What a room ends as, where a `&mut` to its items or to one of them is returned.
use Rattle.std.specs.Prelude.{ℕ, List}
use Rattle.std.specs.Borrow.{Lends, Fml, RattleType, MutBor, Array}
use Rattle.fixed_room.specs.Held.{Held, with_item, with_items}
use Rattle.fixed_room.specs.contracts.Room.{the_row}

module _ (T : RattleType) (h : MutBor (Held T.Denot)) where
  -- once the borrow r ends, the items are those that r shows last
  abbrev pub lends_items : MutBor (List T.Denot) → Fml
  lends_items r = Lends (the_row T) (Array T 0) h r (with_items h.now)

  -- once the borrow r ends, item i is what r shows last
  abbrev pub lends_item : ℕ → MutBor T.Denot → Fml
  lends_item i r = Lends (the_row T) T h r (with_item h.now i)
