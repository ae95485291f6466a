use Rattle.std.proofs.Common.{◌≡◌, ◌++◌, length, map}
use Rattle.lab_reader.specs.Words.{parts_of, words_before}
use Rattle.lab_task.proofs.words.words_of.Given as goal

-- the words so far, and those that are left
abbrev pub invariant-loop-word : goal.invariant-loop-word
invariant-loop-word l =
    words_before (parts_of l.line) ≡ map (λ (w : _). w.now) l.words.items ++ words_before l.parts

abbrev pub decreases-loop-word : goal.decreases-loop-word
decreases-loop-word l = length l.parts
