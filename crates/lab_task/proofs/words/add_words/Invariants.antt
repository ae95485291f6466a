use Rattle.std.proofs.Common.{◌≡◌, drop, map}
use Rattle.lab_reader.specs.Words.{joined_after}
use Rattle.lab_task.proofs.words.add_words.Given as goal

abbrev pub invariant-loop-word : goal.invariant-loop-word
invariant-loop-word l =
    joined_after l.initial.text.items (map (λ (w : _). w.now) l.words)
    ≡ joined_after l.text.items (map (λ (w : _). w.now) (drop l.word-index l.words))
