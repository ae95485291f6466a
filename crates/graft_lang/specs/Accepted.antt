-- What is known of texts that are accepted.
use Rattle.std.specs.Prelude.{◌≡◌, ℕ, List, length, Ok}
use Rattle.graft_texts.specs.Boxed.{boxed_code, rewrite}
use Rattle.graft_texts.specs.LanguageGrammar as grammar
use Rattle.graft_texts.specs.LanguageReading.{Syntax, read}
use Rattle.graft_texts.specs.LanguageMeaning.{numbered}
use Rattle.graft_lang.specs.Code.{program_code}
use Rattle.graft_texts.specs.LanguageImages.{Behaves}

-- The code of the program that an accepted text spells does what the program says, and the rewriter
-- takes it.
abbrev pub AcceptedProgramsRun : Type 0
AcceptedProgramsRun =
    (text : List ℕ) (s : Syntax) (p : grammar.Program) → read text ≡ Ok s
    → grammar.spelled p ≡ s.tokens
    → let code = program_code (length s.names) (numbered s.names p) in
    Behaves (numbered s.names p) code × (rewrite code ≡ Ok (boxed_code code))

-- A text that is accepted spells a program.
abbrev pub AcceptedTextsAreSpelled : Type 0
AcceptedTextsAreSpelled =
    (text : List ℕ) (s : Syntax) → read text ≡ Ok s
    → (p : grammar.Program) × (grammar.spelled p ≡ s.tokens)
