use Rattle.std.proofs.Common.{◌≡◌, ◌+◌, ◌-◌, ◌≤◌, length}
use Rattle.graft_texts.specs.LanguageWords.{words}
use Rattle.graft_texts.specs.LanguageReading as spec
use Rattle.graft_syntax.specs.Places.{words_behind}
use Rattle.graft_syntax.specs.Readings.{reading}
use Rattle.graft_syntax.proofs.reader.read_words.Given as goal

abbrev pub invariant-loop-place : goal.invariant-loop-place
invariant-loop-place l =
    record {
      line : l.place.line ≤ l.place.at + 1;
      said : spec.read_words (reading l.fn.text l.fn.reader) (words l.fn.text)
          ≡ spec.read_words (reading l.fn.text l.reader) (words_behind l.fn.text l.place.at l.place.line);
    }

abbrev pub decreases-loop-place : goal.decreases-loop-place
decreases-loop-place l = length l.fn.text - l.place.at
