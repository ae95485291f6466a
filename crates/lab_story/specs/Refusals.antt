-- Why there is no picture.
use Rattle.std.specs.Prelude.{◌≡◌, ℕ, ◌<◌}
use Rattle.lab_story.specs.declared.chosen.PictureFault.{PictureFault}
use Rattle.lab_story.specs.declared.chosen.PictureFault.TheVariants.{TooMany, NoMemory}

-- a refusal of so many events, which are too many
abbrev pub IsTooMany : ℕ → PictureFault → Type 0
IsTooMany events e = (e ≡ TooMany events) × (2000 < events)

-- a refusal where so many events were chosen: those are too many, or there was no memory
abbrev pub IsRefused : ℕ → PictureFault → Type 0
IsRefused events (TooMany n) = (n ≡ events) × (2000 < events)
IsRefused events NoMemory = Unit {0}
