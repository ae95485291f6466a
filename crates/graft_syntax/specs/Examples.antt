-- Texts and what is read of them, computed.
use Rattle.std.specs.Prelude.{◌≡◌, [], ◌∷◌, codes, refl, Ok, Err}
use Rattle.graft_texts.specs.declared.language.LangKind.TheVariants.{NoToken, NoProgram, UnknownVariable}
use Rattle.graft_texts.specs.declared.language.LangKind.TheVariants.{WrongArguments}
use Rattle.graft_texts.specs.declared.language.Operator.TheVariants.{Plus}
use Rattle.graft_texts.specs.declared.language.Symbol.TheVariants.{Assign, Semicolon, OpenParenthesis}
use Rattle.graft_texts.specs.declared.language.Symbol.TheVariants.{CloseParenthesis}
use Rattle.graft_texts.specs.LanguageTokens.{Number, Variable, Infix, Mark}
use Rattle.graft_texts.specs.LanguageReading.{read, arguments}

nothing : read (codes "") ≡ Ok (record { tokens = []; names = arguments })
nothing = refl

unknown : read (codes "x = y ;") ≡ Err (record { line = 1; kind = UnknownVariable })
unknown = refl

-- a variable isn't known within its first assignment
unknown_itself : read (codes "\nx = ( x + 1 ) ;\n")
    ≡ Err (record { line = 2; kind = UnknownVariable })
unknown_itself = refl

an_argument_too_many : read (codes "x = cell_get ( 0 , 1 ) ;")
    ≡ Err (record { line = 1; kind = WrongArguments })
an_argument_too_many = refl

an_argument_too_few : read (codes "x = cell_set ( 0\n) ;")
    ≡ Err (record { line = 2; kind = WrongArguments })
an_argument_too_few = refl

unfinished : read (codes "x = ( 1 + ;") ≡ Err (record { line = 1; kind = NoProgram })
unfinished = refl

-- the end of the text is on the last line that has bytes
open_at_the_end : read (codes "while 1 {\n") ≡ Err (record { line = 1; kind = NoProgram })
open_at_the_end = refl

no_token : read (codes "x = 1 ; !") ≡ Err (record { line = 1; kind = NoToken })
no_token = refl

-- a sign stands alone
glued : read (codes "x=1;") ≡ Err (record { line = 1; kind = NoToken })
glued = refl

sum : read (codes "b = ( a1 + 2 ) ;")
    ≡ Ok (record {
      tokens =
          Variable (codes "b") ∷ Mark Assign ∷ Mark OpenParenthesis ∷ Variable (codes "a1")
          ∷ Infix Plus ∷ Number 2
          ∷ Mark CloseParenthesis ∷ Mark Semicolon ∷ [];
      names = codes "a0" ∷ codes "a1" ∷ codes "a2" ∷ codes "a3" ∷ codes "b" ∷ [];
    })
sum = refl
