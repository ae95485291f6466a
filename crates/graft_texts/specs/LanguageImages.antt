-- The image of a text of the graft language: its code does what the text's program says.
use Rattle.std.specs.Prelude.{◌≡◌, ◌≢◌, ℕ, ◌+◌, ◌*◌, ◌^◌, ◌<◌, List, [], ◌∷◌, length, slice_index, Option}
use Rattle.std.specs.Prelude.{Some, None, Ok, ⊤}
use Rattle.kernel_data.specs.declared.Instr.{Instr}
use Rattle.kernel_data.specs.World.{Image}
use Rattle.graft_code.specs.Boxed.{boxed_code, rewrite}
use Rattle.graft_code.specs.Runs.{CodeRun, Halt, Unanswered, AtReturn, AtDivision, AtTrap, Astray, first_run}
use Rattle.graft_code.specs.Runs.{raw_run}
use Rattle.graft_texts.specs.LanguageGrammar.{spelled}
use Rattle.graft_texts.specs.LanguageGrammar as grammar
use Rattle.graft_texts.specs.LanguageReading.{Syntax, read}
use Rattle.graft_texts.specs.LanguageMeaning.{Program, End, Answered, Trapped, DividedByZero, Asks, Going, State}
use Rattle.graft_texts.specs.LanguageMeaning.{says, numbered}

-- a run of raw code over a segment, with these arguments and answers, for at most this many
-- instructions
abbrev pub fed : List Instr → (segment : ℕ → ℕ) → (arguments : List ℕ) → (answers : List (ℕ × ℕ)) →
    ℕ → CodeRun
fed code segment arguments answers n = raw_run code n (first_run 262144 segment arguments answers)

-- how a run of code ended, as the end of a program; code that goes astray has none
abbrev pub end_by : CodeRun → Option Halt → Option End
end_by r None = Some Going
end_by r (Some (Unanswered id)) =
    Some (Asks (record {
      id = id;
      r0 = r.machine.regs 0;
      r1 = r.machine.regs 1;
      r2 = r.machine.regs 2;
    }))
end_by r (Some AtReturn) = Some (Answered (r.machine.regs 0) (r.machine.regs 1))
end_by r (Some AtDivision) = Some DividedByZero
end_by r (Some (AtTrap code)) = Some (Trapped code)
end_by r (Some Astray) = None

-- the end of a run, if a program can end like this
abbrev pub end_of : CodeRun → Option End
end_of r = end_by r r.ended

-- what a program does with these arguments and answers, within this many turns of loops
abbrev pub said : Program → (arguments : List ℕ) → (answers : List (ℕ × ℕ)) → (turns : ℕ) → State
said p arguments answers turns = says p (λ i. slice_index arguments i) answers turns

-- the arguments are words
abbrev pub AreArguments : List ℕ → Type 0
AreArguments arguments = (i : ℕ) → slice_index arguments i < 2 ^ 32

-- the answers are words
abbrev pub AreWords : List (ℕ × ℕ) → Type 0
AreWords [] = ⊤
AreWords (pair ∷ pairs) = (pair.0 < 2 ^ 32) × (pair.1 < 2 ^ 32) × AreWords pairs

-- For each segment, arguments and answers: if the program ends within n turns of loops, the code,
-- of N instructions, ends within (n + 1) * N instructions, with the same calls and the same end;
-- and if the code ends within n instructions, the program ends within n turns, with the same calls
-- and the same end. So if either goes on for every n, both do.
pub record Behaves (p : Program) (code : List Instr) : Type 0 where
  pub forth : (segment : ℕ → ℕ) (arguments : List ℕ) (answers : List (ℕ × ℕ)) (n : ℕ) (end : End)
      → AreArguments arguments → AreWords answers → end ≢ Going →
      (said p arguments answers n).ended ≡ Some end
      → (end_of (fed code segment arguments answers ((n + 1) * length code)) ≡ Some end)
      × ((fed code segment arguments answers ((n + 1) * length code)).calls
      ≡ (said p arguments answers n).calls)
  pub back : (segment : ℕ → ℕ) (arguments : List ℕ) (answers : List (ℕ × ℕ)) (n : ℕ) (end : End)
      → AreArguments arguments → AreWords answers → end ≢ Going
      → end_of (fed code segment arguments answers n) ≡ Some end
      → ((said p arguments answers n).ended ≡ Some end)
      × ((said p arguments answers n).calls ≡ (fed code segment arguments answers n).calls)

-- The text is accepted, and spells a program. The code does what every program with this spelling
-- says. The rewriter accepts the code, and there is no data.
pub record IsCompiled (text : List ℕ) (image : Image) : Type 0 where
  pub syntax : Syntax
  pub is_read : read text ≡ Ok syntax
  pub program : grammar.Program
  pub is_spelled : spelled program ≡ syntax.tokens
  pub behaves : (p : grammar.Program) → spelled p ≡ syntax.tokens
      → Behaves (numbered syntax.names p) image.code
  pub is_boxed : rewrite image.code ≡ Ok (boxed_code image.code)
  pub no_data : image.body ≡ []
