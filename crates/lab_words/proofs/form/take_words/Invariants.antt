use Rattle.std.proofs.Common.{◌≡◌, List, ◌++◌, drop}
use Rattle.lab_words.specs.declared.slot.Slot.{Slot}
use Rattle.lab_words.specs.Forms.{words_fit}
use Rattle.lab_words.proofs.form.take_words.Given as goal

abbrev pub invariant-loop-slot : goal.invariant-loop-slot
invariant-loop-slot l =
    (more : List Slot) → words_fit (drop l.slot-index l.slots ++ more) l.words
    ≡ words_fit (l.slots ++ more) l.initial.words
