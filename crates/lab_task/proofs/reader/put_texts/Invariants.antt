use Rattle.std.proofs.Common.{◌≡◌, ◌++◌, take, map}
use Rattle.lab_task.proofs.reader.put_texts.Given as goal

abbrev pub invariant-loop-word : goal.invariant-loop-word
invariant-loop-word l =
    l.texts.items ≡ l.initial.texts.items ++ map (λ (w : _). w.now) (take l.word-index l.words)
