-- What a script runs on: the meaning of the system calls, and which of the list grafts may call.
use Rattle.std.specs.Prelude.{List, []}
use Rattle.kernel_data.specs.declared.TheConstants.{LAST_CALLABLE}
use Rattle.script_model.specs.Meaning.{Meaning}
use Rattle.script_model.specs.Script.{OwnWord}
use Rattle.script_model.specs.Session.{Build, whole}

-- what is built over a table of calls, with words of its own: these, and all of the callable list
abbrev pub build_with : List OwnWord → Meaning → Build
build_with own m = record { meaning = m; callable = LAST_CALLABLE; words = own }

-- the same with the fixed words alone
abbrev pub build_over : Meaning → Build
build_over m = build_with [] m

-- what is built of the product: all that is defined
abbrev pub present_build : Build
present_build = whole
