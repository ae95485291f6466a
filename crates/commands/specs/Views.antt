-- What the enums of this crate stand for.
use Rattle.std.specs.Prelude.{Bool, true, false, Result, Ok}
use Rattle.script_model.specs.Filters as spec
use Rattle.script_model.specs.Outcome as spec_outcome
use Rattle.commands.specs.declared.input.Ending.{Ending}
use Rattle.commands.specs.declared.input.Ending.TheVariants.{End, Fault, Over}
use Rattle.commands.specs.declared.answer.Filter.{Filter}
use Rattle.commands.specs.declared.answer.Filter.TheVariants.{Box, Check, Reseal, Asm, Dis, Lang, Audit}

-- how reading ended
abbrev pub ending_of : Ending → spec_outcome.Ending
ending_of End = spec_outcome.End
ending_of Fault = spec_outcome.Fault
ending_of Over = spec_outcome.Over

-- a read failed
abbrev pub reading_failed : {E : Type 0} → Result Ending E → Bool
reading_failed (Ok Fault) = true
reading_failed _ = false

-- what is asked of the input
abbrev pub filter_of : Filter → spec.Filter
filter_of (Box keys keep) = spec.Box keys keep
filter_of (Check keys) = spec.Check keys
filter_of (Reseal keys) = spec.Reseal keys
filter_of Asm = spec.Asm
filter_of Dis = spec.Dis
filter_of Lang = spec.Lang
filter_of (Audit keys) = spec.Audit keys

-- the filter refuses images by a status of their own
abbrev pub is_of_images : Filter → Bool
is_of_images (Box keys keep) = true
is_of_images (Check keys) = true
is_of_images (Reseal keys) = true
is_of_images Asm = false
is_of_images Dis = false
is_of_images Lang = false
is_of_images (Audit keys) = false

-- the filter is the auditor, which says by a status of its own that a claim differs
abbrev pub is_audit : Filter → Bool
is_audit (Audit keys) = true
is_audit _ = false
