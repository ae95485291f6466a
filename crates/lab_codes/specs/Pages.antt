-- Where codes are described.
use Rattle.std.specs.Prelude.{ℕ, List, codes}
use Rattle.lab_codes.specs.declared.code.Code.{Code}
use Rattle.lab_codes.specs.declared.code.Code.TheVariants as code

-- the page, and its section, that describes the codes of a kind
abbrev pub page_of : Code → List ℕ
page_of (code.Script c) = codes "docs/FORMATS.md, \"Refused lines\""
page_of (code.Call c) = codes "docs/CALLS.md, \"Refusals\""
page_of (code.Drop c) = codes "docs/FORMATS.md, \"Dropped grafts\"; docs/CALLS.md, \"Points\""
page_of (code.Image c) = codes "docs/FORMATS.md, \"Images\"; docs/SANDBOX.md"
page_of (code.Assembler c) = codes "docs/FORMATS.md, \"Assembler text\""
page_of (code.Language c) = codes "docs/LANGUAGE.md, \"What is refused\""
page_of (code.Rewriter c) = codes "docs/SANDBOX.md, \"Boxed code\""
page_of (code.Input c) = codes "docs/FORMATS.md, \"Lines of the other words\""
page_of (code.Status c) = codes "docs/FORMATS.md, \"Command line\""
