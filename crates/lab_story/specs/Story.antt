-- The story of nothing.
use Rattle.std.specs.Prelude.{◌≡◌, []}
use Rattle.lab_story.specs.declared.story.Story.{Story}

-- no bar, no drop, no arrow, nothing that was put back, and no event
pub record IsEmpty (s : Story) : Type 0 where
  pub in_flight : s.in_flight.items ≡ []
  pub bars : s.bars.items ≡ []
  pub texts : s.texts.items ≡ []
  pub drops : s.drops.items ≡ []
  pub arrows : s.arrows.items ≡ []
  pub put_back : s.put_back.items ≡ []
  pub records : s.records.items ≡ []
  pub columns : s.columns.items ≡ []
