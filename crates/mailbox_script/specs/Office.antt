-- What the calls of this kernel mean, letters beside the plain calls, and the words of its scripts.
use Rattle.std.specs.Prelude.{List, [], ◌∷◌, codes}
use Rattle.script_model.specs.declared.CallName.{CallName}
use Rattle.script_model.specs.Script.{OwnWord}
use Rattle.kernel_model.specs.Beside.{beside}
use Rattle.kernel_model.specs.Meaning.{Meaning}
use Rattle.kernel_model.specs.Pieces.{plain_calls}
use Rattle.quick_calls.specs.QuickTables.{quick_meaning}
use Rattle.mailboxes.specs.Mailboxes.{is_letter_call, mailboxes}

abbrev pub office : Meaning
office = beside is_letter_call (quick_meaning mailboxes) plain_calls

-- the words of letters, beside the fixed ones
abbrev pub office_words : List OwnWord
office_words =
    record { name = codes "post"; call = CallName.Poke }
    ∷ record { name = codes "take"; call = CallName.Peek } ∷ []
