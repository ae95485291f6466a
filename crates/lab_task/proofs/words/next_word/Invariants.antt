use Rattle.std.proofs.Common.{◌≡◌, ◌≤◌, length}
use Rattle.lab_reader.specs.Words.{words_before}
use Rattle.lab_task.proofs.words.next_word.Given as goal

abbrev pub invariant-loop-word : goal.invariant-loop-word
invariant-loop-word l =
    record {
      same : words_before l.fn.parts ≡ words_before l.parts;
      fewer : length l.parts ≤ length l.fn.parts;
    }

abbrev pub decreases-loop-word : goal.decreases-loop-word
decreases-loop-word l = length l.parts
