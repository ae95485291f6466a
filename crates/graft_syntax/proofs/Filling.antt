-- Which tokens fill goals, and that one token after another does.
use Rattle.std.proofs.Common.{◌≡◌, ℕ, ◌-◌, ◌==◌, Bool, true, false, cond, ◌⊎◌, inl, inr, List, [], ◌∷◌, ◌++◌, Result}
use Rattle.std.proofs.Common.{Ok, Err, Some, refl, ap, sym, subst, ◌∙◌, arith}
use Rattle.std.specs.Prelude.{slice_get}
use Rattle.std.proofs.lemmas.List.{append-nil}
use Rattle.std.proofs.lemmas.Bool.Decides.{nat_tests}
use Rattle.graft_texts.specs.declared.language.LangKind.{LangKind}
use Rattle.graft_texts.specs.declared.language.LangKind.TheVariants.{NoProgram}
use Rattle.graft_texts.specs.declared.language.Operator.{Operator}
use Rattle.graft_texts.specs.declared.language.Operator.TheVariants.{Plus}
use Rattle.graft_texts.specs.declared.language.Symbol.{Symbol}
use Rattle.graft_texts.specs.declared.language.Symbol.TheVariants.{If, Else, While, Trap, Answer, Assign, Semicolon}
use Rattle.graft_texts.specs.declared.language.Symbol.TheVariants.{OpenBrace, CloseBrace, OpenParenthesis}
use Rattle.graft_texts.specs.declared.language.Symbol.TheVariants.{CloseParenthesis, Comma}
use Rattle.graft_texts.specs.declared.language.Goal.{Goal}
use Rattle.graft_texts.specs.declared.language.Goal.TheVariants.{Statements, Braces, Operand, InfixOperator, RightSide}
use Rattle.graft_texts.specs.declared.language.Goal.TheVariants.{FirstArgument, NextArgument, AfterArgument}
use Rattle.graft_texts.specs.declared.language.Goal.TheVariants.{EndOfAssignment, Constant, Awaits}
use Rattle.graft_texts.specs.LanguageTokens.{Token, Number, Variable, Callable, Infix, Mark, symbols, symbol_number}
use Rattle.graft_texts.specs.LanguageTokens.{same_symbol}
use Rattle.graft_texts.specs.LanguageGrammar.{Expression, Literal, Named, Binary, Program, Done, Assigns, Calls, When}
use Rattle.graft_texts.specs.LanguageGrammar.{Either, Loops, Traps, Answers, spelled_expression, spelled_more}
use Rattle.graft_texts.specs.LanguageGrammar.{spelled_arguments, spelled_statements, spelled, follow_mark}
use Rattle.graft_texts.specs.LanguageGrammar.{follow_statement, follow_operand, follow_right_side, follow_first}
use Rattle.graft_texts.specs.LanguageGrammar.{follow_argument, follow_infix, follow_constant, follow_awaited}
use Rattle.graft_texts.specs.LanguageGrammar.{follow_goal, follow, follow_all, first_goals, is_met}
use Rattle.graft_syntax.specs.Laws.{IsMet, SpellingsAreRead, ReadTokensAreSpelled, ReadTokensGoOn}
use Rattle.graft_syntax.specs.Laws.{RefusedTokensDontGoOn}

-- ---- symbols

symbol_numbered : (s : Symbol) → slice_get symbols (symbol_number s) ≡ Some s
symbol_numbered If = refl
symbol_numbered Else = refl
symbol_numbered While = refl
symbol_numbered Trap = refl
symbol_numbered Answer = refl
symbol_numbered Assign = refl
symbol_numbered Semicolon = refl
symbol_numbered OpenBrace = refl
symbol_numbered CloseBrace = refl
symbol_numbered OpenParenthesis = refl
symbol_numbered CloseParenthesis = refl
symbol_numbered Comma = refl

-- two symbols of one number are one
one_symbol : (s t : Symbol) → same_symbol s t ≡ true → s ≡ t
one_symbol s t h =
    let same : symbol_number s ≡ symbol_number t = equal (symbol_number s) (symbol_number t) h in
    let e : Some s ≡ Some t = sym (symbol_numbered s) ∙ ap (slice_get symbols) same ∙ symbol_numbered t in cc
  where
    equal : (a b : ℕ) → (a == b) ≡ true → a ≡ b
    equal a b g = grind (arith, nat_tests)

same_symbol-self : (s : Symbol) → same_symbol s s ≡ true
same_symbol-self s = same (symbol_number s)
  where
    same : (a : ℕ) → (a == a) ≡ true
    same a = grind (arith, nat_tests)

-- ---- what fills goals

-- the end of statements: of a block, or of the text
abbrev Ending : (in_block : Bool) → (List Token → Type 0) → List Token → Type 0
Ending true F ts = (us : List Token) × (ts ≡ Mark CloseBrace ∷ us) × F us
Ending false F ts = ts ≡ []

-- statements, and their end
abbrev Plain : (in_block : Bool) → (List Token → Type 0) → List Token → Type 0
Plain b F ts = (p : Program) × (us : List Token) × (ts ≡ spelled_statements p us) × Ending b F us

-- `else` and its block, statements, and their end
abbrev Otherwise : (in_block : Bool) → (List Token → Type 0) → List Token → Type 0
Otherwise b F ts =
    (q : Program) × (us : List Token) × (ts ≡ Mark Else ∷ Mark OpenBrace ∷ spelled_statements q
    (Mark CloseBrace ∷ us)) × Plain b F us

abbrev FillsStatements : (in_block after_if : Bool) → (List Token → Type 0) → List Token → Type 0
FillsStatements b false F ts = Plain b F ts
FillsStatements b true F ts = Plain b F ts ⊎ Otherwise b F ts

abbrev FillsOperand : (List Token → Type 0) → List Token → Type 0
FillsOperand F ts = (e : Expression) × (us : List Token) × (ts ≡ spelled_expression e us) × F us

abbrev FillsCall : (List Token → Type 0) → List Token → Type 0
FillsCall F ts =
    (id : ℕ) × (es : List Expression) × (us : List Token)
    × (ts ≡ Callable id ∷ Mark OpenParenthesis ∷ spelled_arguments es us) × F us

abbrev FillsGoal : Goal → (List Token → Type 0) → List Token → Type 0
FillsGoal (Statements b f) F ts = FillsStatements b f F ts
FillsGoal Braces F ts =
    (p : Program) × (us : List Token)
    × (ts ≡ Mark OpenBrace ∷ spelled_statements p (Mark CloseBrace ∷ us)) × F us
FillsGoal Operand F ts = FillsOperand F ts
FillsGoal InfixOperator F ts = (op : Operator) × (us : List Token) × (ts ≡ Infix op ∷ us) × F us
FillsGoal RightSide F ts = FillsOperand F ts ⊎ FillsCall F ts
FillsGoal (FirstArgument left) F ts = (es : List Expression) × (us : List Token) × (ts ≡ spelled_arguments es us) × F us
FillsGoal (NextArgument left) F ts =
    (e : Expression) × (es : List Expression) × (us : List Token)
    × (ts ≡ spelled_expression e (spelled_more es us)) × F us
FillsGoal (AfterArgument left) F ts = (es : List Expression) × (us : List Token) × (ts ≡ spelled_more es us) × F us
FillsGoal EndOfAssignment F ts = (us : List Token) × (ts ≡ Mark Semicolon ∷ us) × F us
FillsGoal Constant F ts = (n : ℕ) × (us : List Token) × (ts ≡ Number n ∷ us) × F us
FillsGoal (Awaits s) F ts = (us : List Token) × (ts ≡ Mark s ∷ us) × F us

-- tokens meet goals, one after another; nothing comes behind the statements of a program
abbrev Fills : List Goal → List Token → Type 0
Fills [] ts = ts ≡ []
Fills (g ∷ gs) ts = FillsGoal g (λ us. Fills gs us) ts

-- ---- a token that is taken, and what fills the goals behind it

abbrev Sound : Result (List Goal) LangKind → List Goal → List Token → List Token → Type 0
Sound (Ok next) goals us ts = Fills next us → Fills goals ts
Sound (Err kind) goals us ts = Unit {0}

-- statements fill their goal, whether an `if` has just ended or not
plainly : (b f : Bool) (gs : List Goal) (ts : List Token) → Plain b (λ us. Fills gs us) ts →
    Fills (Statements b f ∷ gs) ts
plainly b false gs ts h = h
plainly b true gs ts h = inl h

sound_mark : (b f : Bool) (gs : List Goal) (s : Symbol) (us : List Token) →
    Sound (follow_mark b f gs s) (Statements b f ∷ gs) us (Mark s ∷ us)
sound_mark b f gs If us =
    λ h. elim (h.3.3) [
      | inl k ↦ plainly b f gs (Mark If ∷ us) (
        When h.0 h.3.0 k.0,
        k.1,
        ap (λ x. Mark If ∷ x) (h.2 ∙ ap (spelled_expression h.0) (h.3.2
            ∙ ap (λ x. Mark OpenBrace ∷ spelled_statements h.3.0 (Mark CloseBrace ∷ x)) k.2)),
        k.3,
      )
      | inr k ↦ plainly b f gs (Mark If ∷ us) (
        Either h.0 h.3.0 k.0 k.3.0,
        k.3.1,
        ap (λ x. Mark If ∷ x) (h.2 ∙ ap (spelled_expression h.0) (h.3.2
            ∙ ap (λ x. Mark OpenBrace ∷ spelled_statements h.3.0 (Mark CloseBrace ∷ x))
            (k.2 ∙ ap (λ x. Mark Else ∷ Mark OpenBrace ∷ spelled_statements k.0 (Mark CloseBrace ∷ x)) k.3.2))),
        k.3.3,
      )
    ]
sound_mark b false gs Else us = tt
sound_mark b true gs Else us =
    λ h. inr (h.0, h.1, ap (λ x. Mark Else ∷ x) h.2, h.3)
sound_mark b f gs While us =
    λ h. let k = h.3.3 in plainly b f gs (Mark While ∷ us) (
      Loops h.0 h.3.0 k.0,
      k.1,
      ap (λ x. Mark While ∷ x) (h.2 ∙ ap (spelled_expression h.0) (h.3.2
          ∙ ap (λ x. Mark OpenBrace ∷ spelled_statements h.3.0 (Mark CloseBrace ∷ x)) k.2)),
      k.3,
    )
sound_mark b f gs Trap us =
    λ h. let k = h.3.2 in plainly b f gs (Mark Trap ∷ us) (
      Traps h.0 k.0,
      k.1,
      ap (λ x. Mark Trap ∷ x) (h.2 ∙ ap (λ x. Number h.0 ∷ x) (h.3.1 ∙ ap (λ x. Mark Semicolon ∷ x) k.2)),
      k.3,
    )
sound_mark b f gs Answer us =
    λ h. let second = h.3.2 in let k = second.3.2 in plainly b f gs (Mark Answer ∷ us) (
      Answers h.0 second.0 k.0,
      k.1,
      ap (λ x. Mark Answer ∷ x) (h.2 ∙ ap (spelled_expression h.0) (h.3.1 ∙ ap (λ x. Mark Comma ∷ x)
          (second.2 ∙ ap (spelled_expression second.0) (second.3.1 ∙ ap (λ x. Mark Semicolon ∷ x) k.2)))),
      k.3,
    )
sound_mark true f gs CloseBrace us =
    λ h. plainly true f gs (Mark CloseBrace ∷ us) (Done, Mark CloseBrace ∷ us, refl, (us, refl, h))
sound_mark false f gs CloseBrace us = tt
sound_mark b f gs _ us = tt

sound_statement : (b f : Bool) (gs : List Goal) (t : Token) (us : List Token) →
    Sound (follow_statement b f gs t) (Statements b f ∷ gs) us (t ∷ us)
sound_statement b f gs (Variable name) us =
    λ h. let right = h.2 in elim right [
      | inl r ↦ let k = r.3.2 in plainly b f gs (Variable name ∷ us) (
        Assigns name r.0 k.0,
        k.1,
        ap (λ x. Variable name ∷ x) (h.1 ∙ ap (λ x. Mark Assign ∷ x) (r.2
            ∙ ap (spelled_expression r.0) (r.3.1 ∙ ap (λ x. Mark Semicolon ∷ x) k.2))),
        k.3,
      )
      | inr r ↦ let k = r.4.2 in plainly b f gs (Variable name ∷ us) (
        Calls name r.0 r.1 k.0,
        k.1,
        ap (λ x. Variable name ∷ x) (h.1 ∙ ap (λ x. Mark Assign ∷ x)
            (r.3 ∙ ap (λ x. Callable r.0 ∷ Mark OpenParenthesis ∷ spelled_arguments r.1 x) (r.4.1
            ∙ ap (λ x. Mark Semicolon ∷ x) k.2))),
        k.3,
      )
    ]
sound_statement b f gs (Mark s) us = sound_mark b f gs s us
sound_statement b f gs (Number n) us = tt
sound_statement b f gs (Callable id) us = tt
sound_statement b f gs (Infix op) us = tt

sound_operand : (gs : List Goal) (t : Token) (us : List Token) → Sound (follow_operand gs t) (Operand ∷ gs) us (t ∷ us)
sound_operand gs (Number n) us = λ h. (Literal n, us, refl, h)
sound_operand gs (Variable name) us = λ h. (Named name, us, refl, h)
sound_operand gs (Mark OpenParenthesis) us =
    λ h. let k = h.3.3 in (
      Binary h.0 h.3.0 k.0,
      k.3.0,
      ap (λ x. Mark OpenParenthesis ∷ x) (h.2 ∙ ap (spelled_expression h.0) (h.3.2 ∙ ap (λ x. Infix h.3.0 ∷ x)
          (k.2 ∙ ap (spelled_expression k.0) k.3.1))),
      k.3.2,
    )
sound_operand gs (Mark _) us = tt
sound_operand gs (Callable id) us = tt
sound_operand gs (Infix op) us = tt

-- an operand behind which other goals wait is an operand that fills its goal
operand_before : (goals gs : List Goal) (t : Token) (us : List Token)
    → (FillsOperand (λ vs. Fills gs vs) (t ∷ us) → Fills goals (t ∷ us)) → Sound (follow_operand gs t) goals us (t ∷ us)
operand_before goals gs t us onto = by (follow_operand gs t) (sound_operand gs t us)
  where
    by : (said : Result (List Goal) LangKind) → Sound said (Operand ∷ gs) us (t ∷ us) → Sound said goals us (t ∷ us)
    by (Ok next) h = λ k. onto (h k)
    by (Err kind) h = tt

sound_right_side : (gs : List Goal) (t : Token) (us : List Token) →
    Sound (follow_right_side gs t) (RightSide ∷ gs) us (t ∷ us)
sound_right_side gs (Callable id) us =
    λ h. inr (id, h.2.0, h.2.1, ap (λ x. Callable id ∷ x) (h.1 ∙ ap (λ x. Mark OpenParenthesis ∷ x) h.2.2), h.2.3)
sound_right_side gs (Number n) us = operand_before (RightSide ∷ gs) gs (Number n) us (λ h. inl h)
sound_right_side gs (Variable name) us = operand_before (RightSide ∷ gs) gs (Variable name) us (λ h. inl h)
sound_right_side gs (Infix op) us = tt
sound_right_side gs (Mark s) us = operand_before (RightSide ∷ gs) gs (Mark s) us (λ h. inl h)

-- an argument, and those behind it
sound_next : (left : ℕ) (gs : List Goal) (t : Token) (us : List Token)
    → Sound (follow_operand (AfterArgument (left - 1) ∷ gs) t) (NextArgument left ∷ gs) us (t ∷ us)
sound_next left gs t us =
    operand_before (NextArgument left ∷ gs) (AfterArgument (left - 1) ∷ gs) t us
    (λ h. (h.0, h.3.0, h.3.1, h.2 ∙ ap (spelled_expression h.0) h.3.2, h.3.3))

first_before : (left : ℕ) (gs : List Goal) (t : Token) (us : List Token)
    → Sound (follow_operand (AfterArgument (left - 1) ∷ gs) t) (FirstArgument left ∷ gs) us (t ∷ us)
first_before left gs t us =
    operand_before (FirstArgument left ∷ gs) (AfterArgument (left - 1) ∷ gs) t us
    (λ h. (h.0 ∷ h.3.0, h.3.1, h.2 ∙ ap (spelled_expression h.0) h.3.2, h.3.3))

sound_first : (left : ℕ) (gs : List Goal) (t : Token) (us : List Token) →
    Sound (follow_first left gs t) (FirstArgument left ∷ gs) us (t ∷ us)
sound_first left gs (Mark CloseParenthesis) us = λ h. ([], us, refl, h)
sound_first left gs (Mark OpenParenthesis) us = first_before left gs (Mark OpenParenthesis) us
sound_first left gs (Mark _) us = tt
sound_first left gs (Number n) us = first_before left gs (Number n) us
sound_first left gs (Variable name) us = first_before left gs (Variable name) us
sound_first left gs (Callable id) us = tt
sound_first left gs (Infix op) us = tt

sound_argument : (left : ℕ) (gs : List Goal) (t : Token) (us : List Token)
    → Sound (follow_argument left gs t) (AfterArgument left ∷ gs) us (t ∷ us)
sound_argument left gs (Mark Comma) us = λ h. (h.0 ∷ h.1, h.2, ap (λ x. Mark Comma ∷ x) h.3, h.4)
sound_argument left gs (Mark CloseParenthesis) us = λ h. ([], us, refl, h)
sound_argument left gs (Mark _) us = tt
sound_argument left gs (Number n) us = tt
sound_argument left gs (Variable name) us = tt
sound_argument left gs (Callable id) us = tt
sound_argument left gs (Infix op) us = tt

sound_infix : (gs : List Goal) (t : Token) (us : List Token) →
    Sound (follow_infix gs t) (InfixOperator ∷ gs) us (t ∷ us)
sound_infix gs (Infix op) us = λ h. (op, us, refl, h)
sound_infix gs _ us = tt

sound_constant : (gs : List Goal) (t : Token) (us : List Token) →
    Sound (follow_constant gs t) (Constant ∷ gs) us (t ∷ us)
sound_constant gs (Number n) us = λ h. (n, us, refl, h)
sound_constant gs _ us = tt

-- a symbol that is awaited, and what is said of it
sound_awaited : (s : Symbol) (next goals : List Goal) (t : Token) (us : List Token) →
    (Fills next us → Fills goals (Mark s ∷ us))
    → Sound (follow_awaited s next t) goals us (t ∷ us)
sound_awaited s next goals (Mark t) us onto = by (same_symbol s t) (one_symbol s t)
  where
    by : (b : Bool) → (b ≡ true → s ≡ t) → Sound (cond b (Ok next) (Err NoProgram)) goals us (Mark t ∷ us)
    by true same = λ h. subst (λ x. Fills goals (Mark x ∷ us)) (same refl) (onto h)
    by false same = tt
sound_awaited s next goals (Number n) us onto = tt
sound_awaited s next goals (Variable name) us onto = tt
sound_awaited s next goals (Callable id) us onto = tt
sound_awaited s next goals (Infix op) us onto = tt

sound : (g : Goal) (gs : List Goal) (t : Token) (us : List Token) → Sound (follow_goal g gs t) (g ∷ gs) us (t ∷ us)
sound (Statements b f) gs t us = sound_statement b f gs t us
sound Braces gs t us =
    sound_awaited OpenBrace (Statements true false ∷ gs) (Braces ∷ gs) t us
    (λ h. (h.0, h.3.0, ap (λ x. Mark OpenBrace ∷ x) (h.2 ∙ ap (spelled_statements h.0) h.3.1), h.3.2))
sound Operand gs t us = sound_operand gs t us
sound InfixOperator gs t us = sound_infix gs t us
sound RightSide gs t us = sound_right_side gs t us
sound (FirstArgument left) gs t us = sound_first left gs t us
sound (NextArgument left) gs t us = sound_next left gs t us
sound (AfterArgument left) gs t us = sound_argument left gs t us
sound EndOfAssignment gs t us = sound_awaited Semicolon gs (EndOfAssignment ∷ gs) t us (λ h. (us, refl, h))
sound Constant gs t us = sound_constant gs t us
sound (Awaits s) gs t us = sound_awaited s gs (Awaits s ∷ gs) t us (λ h. (us, refl, h))

-- ---- a token that fills the first of the goals is taken

abbrev Complete : Result (List Goal) LangKind → List Token → Type 0
Complete (Ok next) us = Fills next us
Complete (Err kind) us = ⊥

-- the first token of tokens, and the others
first_is : (t u : Token) (ts us : List Token) → t ∷ ts ≡ u ∷ us → t ≡ u
first_is t u ts us h = cc

others_are : (t u : Token) (ts us : List Token) → t ∷ ts ≡ u ∷ us → ts ≡ us
others_are t u ts us h = cc

-- a goal that is filled from a token on, where the token is another
at_token : (g : Goal) (gs : List Goal) (t u : Token) (ts us : List Token) → t ∷ ts ≡ u ∷ us →
    Complete (follow_goal g gs u) us
    → Complete (follow_goal g gs t) ts
at_token g gs t u ts us h k =
    subst (λ x. Complete (follow_goal g gs x) ts) (sym (first_is t u ts us h))
    (subst (λ xs. Complete (follow_goal g gs u) xs) (sym (others_are t u ts us h)) k)

complete_plain : (b f : Bool) (gs : List Goal) (t : Token) (us vs : List Token) (p : Program) →
    t ∷ us ≡ spelled_statements p vs
    → Ending b (λ xs. Fills gs xs) vs → Complete (follow_statement b f gs t) us
complete_plain true f gs t us vs Done e end =
    at_token (Statements true f) gs t (Mark CloseBrace) us end.0 (e ∙ end.1) end.2
complete_plain false f gs t us vs Done e end = absurd cc
complete_plain b f gs t us vs (Assigns name x p) e end =
    at_token (Statements b f) gs t (Variable name) us _ e
    (_, refl, inl (x, Mark Semicolon ∷ spelled_statements p vs, refl, (_, refl, (p, vs, refl, end))))
complete_plain b f gs t us vs (Calls name id xs p) e end =
    at_token (Statements b f) gs t (Variable name) us _ e
    (_, refl, inr (id, xs, Mark Semicolon ∷ spelled_statements p vs, refl, (_, refl, (p, vs, refl, end))))
complete_plain b f gs t us vs (When x body p) e end =
    at_token (Statements b f) gs t (Mark If) us _ e
    (x, _, refl, (body, spelled_statements p vs, refl, inl (p, vs, refl, end)))
complete_plain b f gs t us vs (Either x body other p) e end =
    at_token (Statements b f) gs t (Mark If) us _ e
    (x, _, refl, (body, _, refl, inr (other, spelled_statements p vs, refl, (p, vs, refl, end))))
complete_plain b f gs t us vs (Loops x body p) e end =
    at_token (Statements b f) gs t (Mark While) us _ e
    (x, _, refl, (body, spelled_statements p vs, refl, (p, vs, refl, end)))
complete_plain b f gs t us vs (Traps code p) e end =
    at_token (Statements b f) gs t (Mark Trap) us _ e
    (code, _, refl, (_, refl, (p, vs, refl, end)))
complete_plain b f gs t us vs (Answers x y p) e end =
    at_token (Statements b f) gs t (Mark Answer) us _ e
    (x, _, refl, (_, refl, (y, _, refl, (_, refl, (p, vs, refl, end)))))

complete_statement : (b f : Bool) (gs : List Goal) (t : Token) (us : List Token) →
    FillsStatements b f (λ xs. Fills gs xs) (t ∷ us)
    → Complete (follow_statement b f gs t) us
complete_statement b false gs t us h = complete_plain b false gs t us h.1 h.0 h.2 h.3
complete_statement b true gs t us (inl h) = complete_plain b true gs t us h.1 h.0 h.2 h.3
complete_statement b true gs t us (inr h) = at_token (Statements b true) gs t (Mark Else) us _ h.2 (h.0, h.1, refl, h.3)

complete_operand : (gs : List Goal) (t : Token) (us vs : List Token) (e : Expression) →
    t ∷ us ≡ spelled_expression e vs → Fills gs vs
    → Complete (follow_operand gs t) us
complete_operand gs t us vs (Literal n) h k = at_token Operand gs t (Number n) us vs h k
complete_operand gs t us vs (Named name) h k = at_token Operand gs t (Variable name) us vs h k
complete_operand gs t us vs (Binary a op b) h k =
    at_token Operand gs t (Mark OpenParenthesis) us _ h
    (a, _, refl, (op, _, refl, (b, Mark CloseParenthesis ∷ vs, refl, (vs, refl, k))))

complete_right_side : (gs : List Goal) (t : Token) (us : List Token) →
    Fills (RightSide ∷ gs) (t ∷ us) → Complete (follow_right_side gs t) us
complete_right_side gs t us (inl (Literal n, vs, e, k)) = at_token RightSide gs t (Number n) us vs e k
complete_right_side gs t us (inl (Named name, vs, e, k)) = at_token RightSide gs t (Variable name) us vs e k
complete_right_side gs t us (inl (Binary a op b, vs, e, k)) =
    at_token RightSide gs t (Mark OpenParenthesis) us _ e
    (a, _, refl, (op, _, refl, (b, Mark CloseParenthesis ∷ vs, refl, (vs, refl, k))))
complete_right_side gs t us (inr (id, xs, vs, e, k)) =
    at_token RightSide gs t (Callable id) us _ e (_, refl, (xs, vs, refl, k))

complete_first : (left : ℕ) (gs : List Goal) (t : Token) (us vs : List Token)
    (xs : List Expression) → t ∷ us ≡ spelled_arguments xs vs
    → Fills gs vs → Complete (follow_first left gs t) us
complete_first left gs t us vs [] e k = at_token (FirstArgument left) gs t (Mark CloseParenthesis) us vs e k
complete_first left gs t us vs (Literal n ∷ xs) e k =
    at_token (FirstArgument left) gs t (Number n) us _ e (xs, vs, refl, k)
complete_first left gs t us vs (Named name ∷ xs) e k =
    at_token (FirstArgument left) gs t (Variable name) us _ e (xs, vs, refl, k)
complete_first left gs t us vs (Binary a op b ∷ xs) e k =
    at_token (FirstArgument left) gs t (Mark OpenParenthesis) us _ e
    (a, _, refl, (op, _, refl, (b, Mark CloseParenthesis ∷ spelled_more xs vs, refl, (_, refl, (xs, vs, refl, k)))))

complete_argument : (left : ℕ) (gs : List Goal) (t : Token) (us vs : List Token)
    (xs : List Expression) → t ∷ us ≡ spelled_more xs vs
    → Fills gs vs → Complete (follow_argument left gs t) us
complete_argument left gs t us vs [] e k = at_token (AfterArgument left) gs t (Mark CloseParenthesis) us vs e k
complete_argument left gs t us vs (x ∷ xs) e k =
    at_token (AfterArgument left) gs t (Mark Comma) us _ e (x, xs, vs, refl, k)

-- a symbol that is awaited is taken
taken : (s : Symbol) (next : List Goal) (us : List Token) → Fills next us → Complete (follow_awaited s next (Mark s)) us
taken s next us h = subst (λ b. Complete (cond b (Ok next) (Err NoProgram)) us) (sym (same_symbol-self s)) h

complete : (g : Goal) (gs : List Goal) (t : Token) (us : List Token) → Fills (g ∷ gs) (t ∷ us) →
    Complete (follow_goal g gs t) us
complete (Statements b f) gs t us h = complete_statement b f gs t us h
complete Braces gs t us h = at_token Braces gs t (Mark OpenBrace) us _ h.2 (h.0, _, refl, (h.1, refl, h.3))
complete Operand gs t us h = complete_operand gs t us h.1 h.0 h.2 h.3
complete InfixOperator gs t us h = at_token InfixOperator gs t (Infix h.0) us h.1 h.2 h.3
complete RightSide gs t us h = complete_right_side gs t us h
complete (FirstArgument left) gs t us h = complete_first left gs t us h.1 h.0 h.2 h.3
complete (NextArgument left) gs t us h =
    complete_operand (AfterArgument (left - 1) ∷ gs) t us (spelled_more h.1 h.2) h.0 h.3 (h.1, h.2, refl, h.4)
complete (AfterArgument left) gs t us h = complete_argument left gs t us h.1 h.0 h.2 h.3
complete EndOfAssignment gs t us h = at_token EndOfAssignment gs t (Mark Semicolon) us h.0 h.1 h.2
complete Constant gs t us h = at_token Constant gs t (Number h.0) us h.1 h.2 h.3
complete (Awaits s) gs t us h = at_token (Awaits s) gs t (Mark s) us h.0 h.1 (taken s gs h.0 h.2)

complete_follow : (gs : List Goal) (t : Token) (us : List Token) → Fills gs (t ∷ us) → Complete (follow gs t) us
complete_follow [] t us h = absurd cc
complete_follow (g ∷ gs) t us h = complete g gs t us h

sound_follow : (gs : List Goal) (t : Token) (us : List Token) → Sound (follow gs t) gs us (t ∷ us)
sound_follow [] t us = tt
sound_follow (g ∷ gs) t us = sound g gs t us

-- ---- tokens one after another

sound_all : (gs : List Goal) (ts us : List Token) → Sound (follow_all gs ts) gs us (ts ++ us)
sound_all gs [] us = λ h. h
sound_all gs (t ∷ ts) us = by (follow gs t) (sound_follow gs t (ts ++ us)) (λ next. sound_all next ts us)
  where
    onto : (next : List Goal) (said : Result (List Goal) LangKind) → Sound said next us (ts ++ us)
        → (Fills next (ts ++ us) → Fills gs (t ∷ (ts ++ us))) → Sound said gs us (t ∷ (ts ++ us))
    onto next (Ok last) h k = λ x. k (h x)
    onto next (Err kind) h k = tt

    by : (said : Result (List Goal) LangKind) → Sound said gs (ts ++ us) (t ∷ (ts ++ us))
        → ((next : List Goal) → Sound (follow_all next ts) next us (ts ++ us))
        → Sound (elim said as (λ _. Result (List Goal) LangKind) [
          | Err kind ↦ Err kind
          | Ok next ↦ follow_all next ts
        ]) gs us (t ∷ (ts ++ us))
    by (Ok next) h later = onto next (follow_all next ts) (later next) h
    by (Err kind) h later = tt

complete_all : (gs : List Goal) (ts us : List Token) → Fills gs (ts ++ us) → Complete (follow_all gs ts) us
complete_all gs [] us h = h
complete_all gs (t ∷ ts) us h = by (follow gs t) (complete_follow gs t (ts ++ us) h) (λ next. complete_all next ts us)
  where
    by : (said : Result (List Goal) LangKind) → Complete said (ts ++ us)
        → ((next : List Goal) → Fills next (ts ++ us) → Complete (follow_all next ts) us)
        → Complete (elim said as (λ _. Result (List Goal) LangKind) [
          | Err kind ↦ Err kind
          | Ok next ↦ follow_all next ts
        ]) us
    by (Ok next) k later = later next k
    by (Err kind) k later = k

-- ---- goals can be met

fillable : (g : Goal) (gs : List Goal) (us : List Token) → Fills gs us → (ts : List Token) × Fills (g ∷ gs) ts
fillable (Statements true f) gs us h =
    (Mark CloseBrace ∷ us, plainly true f gs (Mark CloseBrace ∷ us) (Done, Mark CloseBrace ∷ us, refl, (us, refl, h)))
fillable (Statements false f) gs us h = ([], plainly false f gs [] (Done, [], refl, refl))
fillable Braces gs us h = (Mark OpenBrace ∷ Mark CloseBrace ∷ us, (Done, us, refl, h))
fillable Operand gs us h = (Number 0 ∷ us, (Literal 0, us, refl, h))
fillable InfixOperator gs us h = (Infix Plus ∷ us, (Plus, us, refl, h))
fillable RightSide gs us h = (Number 0 ∷ us, inl (Literal 0, us, refl, h))
fillable (FirstArgument left) gs us h = (Mark CloseParenthesis ∷ us, ([], us, refl, h))
fillable (NextArgument left) gs us h = (Number 0 ∷ Mark CloseParenthesis ∷ us, (Literal 0, [], us, refl, h))
fillable (AfterArgument left) gs us h = (Mark CloseParenthesis ∷ us, ([], us, refl, h))
fillable EndOfAssignment gs us h = (Mark Semicolon ∷ us, (us, refl, h))
fillable Constant gs us h = (Number 0 ∷ us, (0, us, refl, h))
fillable (Awaits s) gs us h = (Mark s ∷ us, (us, refl, h))

can_fill : (gs : List Goal) → (us : List Token) × Fills gs us
can_fill [] = ([], refl)
can_fill (g ∷ gs) = let k = can_fill gs in fillable g gs k.0 k.1

-- no token is wanted exactly where a program may end
met_filled : (gs : List Goal) → is_met gs ≡ true → Fills gs []
met_filled [] h = refl
met_filled (Statements false f ∷ gs) h = plainly false f gs [] (Done, [], refl, refl)
met_filled (_ ∷ gs) h = absurd cc

no_plain : (gs : List Goal) (p : Program) (us vs : List Token) → [] ≡ spelled_statements p us →
    us ≡ Mark CloseBrace ∷ vs → ⊥
no_plain gs Done us vs h k = cc
no_plain gs (Assigns name x p) us vs h k = cc
no_plain gs (Calls name id xs p) us vs h k = cc
no_plain gs (When x body p) us vs h k = cc
no_plain gs (Either x body other p) us vs h k = cc
no_plain gs (Loops x body p) us vs h k = cc
no_plain gs (Traps code p) us vs h k = cc
no_plain gs (Answers x y p) us vs h k = cc

no_operand : (e : Expression) (us : List Token) → [] ≡ spelled_expression e us → ⊥
no_operand (Literal n) us h = cc
no_operand (Named name) us h = cc
no_operand (Binary a op b) us h = cc

no_arguments : (xs : List Expression) (us : List Token) → [] ≡ spelled_arguments xs us → ⊥
no_arguments [] us h = cc
no_arguments (x ∷ xs) us h = no_operand x _ h

no_more : (xs : List Expression) (us : List Token) → [] ≡ spelled_more xs us → ⊥
no_more [] us h = cc
no_more (x ∷ xs) us h = cc

filled_met : (gs : List Goal) → Fills gs [] → is_met gs ≡ true
filled_met [] h = refl
filled_met (Statements false f ∷ gs) h = refl
filled_met (Statements true false ∷ gs) h = absurd (no_plain gs h.0 h.1 h.3.0 h.2 h.3.1)
filled_met (Statements true true ∷ gs) (inl h) = absurd (no_plain gs h.0 h.1 h.3.0 h.2 h.3.1)
filled_met (Statements true true ∷ gs) (inr h) = let e = h.2 in absurd cc
filled_met (Braces ∷ gs) h = let e = h.2 in absurd cc
filled_met (Operand ∷ gs) h = absurd (no_operand h.0 h.1 h.2)
filled_met (InfixOperator ∷ gs) h = let e = h.2 in absurd cc
filled_met (RightSide ∷ gs) (inl h) = absurd (no_operand h.0 h.1 h.2)
filled_met (RightSide ∷ gs) (inr h) = let e = h.3 in absurd cc
filled_met (FirstArgument left ∷ gs) h = absurd (no_arguments h.0 h.1 h.2)
filled_met (NextArgument left ∷ gs) h = absurd (no_operand h.0 _ h.3)
filled_met (AfterArgument left ∷ gs) h = absurd (no_more h.0 h.1 h.2)
filled_met (EndOfAssignment ∷ gs) h = let e = h.1 in absurd cc
filled_met (Constant ∷ gs) h = let e = h.2 in absurd cc
filled_met (Awaits s ∷ gs) h = let e = h.1 in absurd cc

-- ---- the laws

pub spellings_are_read : SpellingsAreRead
spellings_are_read p =
    by (follow_all first_goals (spelled p))
    (complete_all first_goals (spelled p) [] (p, [], append-nil (spelled p), refl))
  where
    by : (said : Result (List Goal) LangKind) → Complete said [] → IsMet said
    by (Ok gs) h = filled_met gs h
    by (Err kind) h = h

pub read_tokens_are_spelled : ReadTokensAreSpelled
read_tokens_are_spelled ts met = by (follow_all first_goals ts) (sound_all first_goals ts []) met
  where
    by : (said : Result (List Goal) LangKind) → Sound said first_goals [] (ts ++ []) → IsMet said →
        (p : Program) × (spelled p ≡ ts)
    by (Ok gs) h m =
        let k = h (met_filled gs m) in (k.0, sym (sym (append-nil ts) ∙ k.2 ∙ ap (spelled_statements k.0) k.3))
    by (Err kind) h m = absurd m

pub read_tokens_go_on : ReadTokensGoOn
read_tokens_go_on ts gs h =
    let end = can_fill gs in
    let k = (subst (λ said. Sound said first_goals end.0 (ts ++ end.0)) h (sound_all first_goals ts end.0)) end.1 in
    (k.0, end.0, sym (k.2 ∙ ap (spelled_statements k.0) k.3))

pub refused_tokens_do_not_go_on : RefusedTokensDontGoOn
refused_tokens_do_not_go_on ts gs t kind h refused p more e =
    let there : Fills gs (t ∷ more) =
    subst (λ said. Complete said (t ∷ more)) h (complete_all first_goals ts (t ∷ more) (p, [], sym e, refl)) in
    subst (λ said. Complete said more) refused (complete_follow gs t more there)
