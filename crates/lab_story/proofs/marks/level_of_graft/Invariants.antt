use Rattle.std.proofs.Common.{◌≡◌, drop, map}
use Rattle.std.specs.Prelude.{find}
use Rattle.lab_story.specs.Bars.{last_level, names}
use Rattle.lab_story.proofs.marks.level_of_graft.Given as goal

abbrev pub invariant-loop-bar : goal.invariant-loop-bar
invariant-loop-bar l =
    (find (names l.call (map (λ t. t.now) l.texts) l.graft) (drop l.bar-index l.bars)
    ≡ find (names l.call (map (λ t. t.now) l.texts) l.graft) l.bars)
    × (last_level l.call l.innermost (drop l.bar-index l.bars) ≡ last_level l.call 1 l.bars)
