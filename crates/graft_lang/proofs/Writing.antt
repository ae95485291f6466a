-- The code of the parts of a program is what their tokens say.
use Rattle.std.specs.Prelude.{◌≡◌, ℕ, zero, suc, ◌+◌, ◌<◌, Bool, true, false, ◌&&◌, cond, List, []}
use Rattle.std.specs.Prelude.{◌∷◌, ◌++◌, length, map, drop, set, None, Some, is_some}
use Rattle.std.specs.Borrow.{Bor}
use Rattle.std.specs.List.{list_all}
use Rattle.std.proofs.Common.{arith, refl, sym, ap, ◌∙◌}
use Rattle.std.proofs.lemmas.Bool.Decides.{nat_tests}
use Rattle.std.proofs.lemmas.List.{length-append, length-set, append_assoc, append-nil, set-append_left}
use Rattle.std.proofs.Math.Seq.{set-append_seam}
use Rattle.graft_texts.specs.declared.Instr.{Instr}
use Rattle.graft_texts.specs.declared.Op.TheVariants.{Li, Jmp, Jz}
use Rattle.graft_texts.specs.Boxed.{instr}
use Rattle.graft_texts.specs.declared.language.Symbol.{Symbol}
use Rattle.graft_texts.specs.declared.language.Symbol.TheVariants.{If, Else, While, Trap as trap, Answer, Assign}
use Rattle.graft_texts.specs.declared.language.Symbol.TheVariants.{Semicolon, OpenBrace, CloseBrace, CloseParenthesis}
use Rattle.graft_texts.specs.declared.language.Symbol.TheVariants.{OpenParenthesis, Comma}
use Rattle.graft_syntax.specs.declared.Token as code
use Rattle.graft_syntax.specs.declared.Token.TheVariants as token
use Rattle.graft_syntax.specs.Views.{token_view}
use Rattle.graft_texts.specs.LanguageTokens.{Token, Number, Variable, Callable, Infix, Mark, same_symbol}
use Rattle.graft_texts.specs.LanguageGrammar.{Expression, Literal, Named, Binary, Program, Done, Assigns, Calls, When}
use Rattle.graft_texts.specs.LanguageGrammar.{Either, Loops, Traps, Answers, spelled_expression, spelled_more}
use Rattle.graft_texts.specs.LanguageGrammar.{spelled_arguments, spelled_statements}
use Rattle.graft_texts.specs.LanguageReading.{number_of}
use Rattle.graft_texts.specs.LanguageMeaning as l
use Rattle.graft_texts.specs.LanguageMeaning.{numbered_expression, numbered}
use Rattle.graft_lang.specs.Code.{fetches, puts}
use Rattle.graft_lang.specs.Code.{expression_code, arguments_code, statements_code}
use Rattle.graft_lang.specs.Writing.{Writing, skipped, appended, with_first, patched, WritesExpression}
use Rattle.graft_lang.specs.Writing.{WritesOperation, callable_next, behind_callable, symbol_next, behind_symbol}
use Rattle.graft_lang.specs.Writing.{closes_block, is_block_end, call_code, when_code}
use Rattle.graft_lang.specs.Writing.{else_code, either_code, loop_code, WritesArguments, WritesCall, WritesValue}
use Rattle.graft_lang.specs.Writing.{WritesTrap, WritesAnswer, WritesStatements, WritesBlock, WritesElse}
use Rattle.graft_lang.specs.Writing.{WritesIf, WritesWhile, LeadsOn}

-- ---- expressions

pub nothing_written : (names : List (List ℕ)) (top : ℕ) (w u : Writing) → w.tokens ≡ []
    → WritesExpression names top w u
nothing_written names top w u none (Literal n) behind h = absurd cc
nothing_written names top w u none (Named name) behind h = absurd cc
nothing_written names top w u none (Binary a op b) behind h = absurd cc

pub number_written : (names : List (List ℕ)) (top n : ℕ) (w v u : Writing)
    → w ≡ with_first (Number n) v
    → u ≡ appended (instr Li 4 0 0 n ∷ []) v → WritesExpression names top w u
number_written names top n w v u is done (Literal m) behind h =
    let ts : w.tokens ≡ Number n ∷ v.tokens = ap (λ (x : Writing). x.tokens) is in
    let code : w.code ≡ v.code = ap (λ (x : Writing). x.code) is in cc
number_written names top n w v u is done (Named name) behind h =
    let ts : w.tokens ≡ Number n ∷ v.tokens = ap (λ (x : Writing). x.tokens) is in absurd cc
number_written names top n w v u is done (Binary a op b) behind h =
    let ts : w.tokens ≡ Number n ∷ v.tokens = ap (λ (x : Writing). x.tokens) is in absurd cc

pub variable_written : (names : List (List ℕ)) (top : ℕ) (name : List ℕ) (w v u : Writing)
    → w ≡ with_first (Variable name) v
    → u ≡ appended (fetches 4 (number_of names name)) v → WritesExpression names top w u
variable_written names top name w v u is done (Literal m) behind h =
    let ts : w.tokens ≡ Variable name ∷ v.tokens = ap (λ (x : Writing). x.tokens) is in absurd cc
variable_written names top name w v u is done (Named other) behind h =
    let ts : w.tokens ≡ Variable name ∷ v.tokens = ap (λ (x : Writing). x.tokens) is in
    let code : w.code ≡ v.code = ap (λ (x : Writing). x.code) is in cc
variable_written names top name w v u is done (Binary a op b) behind h =
    let ts : w.tokens ≡ Variable name ∷ v.tokens = ap (λ (x : Writing). x.tokens) is in absurd cc

-- an operation, where the first token is neither a number nor a variable
pub operation_written : (names : List (List ℕ)) (top : ℕ) (t : Token) (w v u : Writing)
    → w ≡ with_first t v
    → ((n : ℕ) → t ≡ Number n → ⊥) → ((name : List ℕ) → t ≡ Variable name → ⊥)
    → WritesOperation names top v u → WritesExpression names top w u
operation_written names top t w v u is no_number no_variable done (Literal m) behind h =
    let ts : w.tokens ≡ t ∷ v.tokens = ap (λ (x : Writing). x.tokens) is in absurd (no_number m cc)
operation_written names top t w v u is no_number no_variable done (Named name) behind h =
    let ts : w.tokens ≡ t ∷ v.tokens = ap (λ (x : Writing). x.tokens) is in
    absurd (no_variable name cc)
operation_written names top t w v u is no_number no_variable done (Binary a op b) behind h =
    let ts : w.tokens ≡ t ∷ v.tokens = ap (λ (x : Writing). x.tokens) is in
    let code : w.code ≡ v.code = ap (λ (x : Writing). x.code) is in
    let rest : v.tokens ≡ spelled_expression a
    (Infix op ∷ spelled_expression b (Mark CloseParenthesis ∷ behind)) = cc in
    let all = done a op b behind rest in cc

-- what a token isn't, its view isn't
pub view_no_number : (t : code.Token) → ((n : ℕ) → t ≡ token.Number n → ⊥) → (n : ℕ)
    → token_view t ≡ Number n → ⊥
view_no_number (token.Number m) never n h = never m refl
view_no_number (token.Variable name) never n h = cc
view_no_number (token.Callable id) never n h = cc
view_no_number (token.Infix op) never n h = cc
view_no_number (token.Mark s) never n h = cc

pub view_no_variable : (t : code.Token) → ((name : Bor (List ℕ)) → t ≡ token.Variable name → ⊥)
    → (name : List ℕ)
    → token_view t ≡ Variable name → ⊥
view_no_variable (token.Number m) never n h = cc
view_no_variable (token.Variable name) never n h = never name refl
view_no_variable (token.Callable id) never n h = cc
view_no_variable (token.Infix op) never n h = cc
view_no_variable (token.Mark s) never n h = cc

-- ---- what comes next

no_symbol : (s : Symbol) (e : Expression) (behind : List Token)
    → same_symbol s OpenParenthesis ≡ false
    → symbol_next s (spelled_expression e behind) ≡ false
no_symbol s (Literal n) behind other = refl
no_symbol s (Named name) behind other = refl
no_symbol s (Binary a op b) behind other = other

no_callable : (e : Expression) (behind : List Token)
    → callable_next (spelled_expression e behind) ≡ None
no_callable (Literal n) behind = refl
no_callable (Named name) behind = refl
no_callable (Binary a op b) behind = refl

not_both : {b : Bool} → b ≡ true → b ≡ false → ⊥
not_both h k = cc

-- a writing without a symbol that isn't there, or is
same_behind : (s : Symbol) (w : Writing) → symbol_next s w.tokens ≡ false → behind_symbol s w ≡ w
same_behind s w h = ap (λ b. record { tokens = cond b (drop 1 w.tokens) w.tokens; code = w.code }) h

-- ---- calls

pub arguments_ended : (names : List (List ℕ)) (top : ℕ) (w u : Writing)
    → symbol_next CloseParenthesis w.tokens ≡ true
    → u ≡ behind_symbol CloseParenthesis w → WritesArguments names top w u 0
arguments_ended names top w u next is [] behind h =
    let all = ap (λ ts. record {
      tokens = cond (symbol_next CloseParenthesis ts) (drop 1 ts) ts;
      code = w.code;
    }) h in
    (is ∙ all ∙ ap (λ c. record { tokens = behind; code = c }) (sym (append-nil w.code)), refl)
arguments_ended names top w u next is (e ∷ es) behind h =
    absurd (not_both next (ap (symbol_next CloseParenthesis) h
    ∙ no_symbol CloseParenthesis e (spelled_more es behind) refl))

pub arguments_missing : (names : List (List ℕ)) (top n : ℕ) (w v u : Writing)
    → symbol_next CloseParenthesis w.tokens ≡ false
    → v ≡ behind_symbol CloseParenthesis w → v.tokens ≡ [] → WritesArguments names top w u n
arguments_missing names top n w v u next is none [] behind h =
    absurd (not_both (ap (symbol_next CloseParenthesis) h) next)
arguments_missing names top n w v u next is none (e ∷ es) behind h =
    let same = is ∙ same_behind CloseParenthesis w next in
    let empty : w.tokens ≡ [] = sym (ap (λ (x : Writing). x.tokens) same) ∙ none in
    let any = nothing_written names top w w empty e (spelled_more es behind) h in
    absurd (none_begins e (sym empty ∙ h))
  where
    none_begins : (e : Expression) → [] ≡ spelled_expression e (spelled_more es behind) → ⊥
    none_begins (Literal n) k = cc
    none_begins (Named name) k = cc
    none_begins (Binary a op b) k = cc

comma_behind : (es : List Expression) (behind : List Token)
    → cond (symbol_next Comma (spelled_more es behind)) (drop 1 (spelled_more es behind))
    (spelled_more es behind) ≡ spelled_arguments es behind
comma_behind [] behind = refl
comma_behind (e ∷ es) behind = refl

pub arguments_more : (names : List (List ℕ)) (top next n : ℕ) (w v a b c u : Writing)
    → symbol_next CloseParenthesis w.tokens ≡ false → v ≡ behind_symbol CloseParenthesis w
    → WritesExpression names top v a
    → b ≡ appended (puts 4 top) a → c ≡ behind_symbol Comma b → next ≡ suc top
    → WritesArguments names next c u n
    → WritesArguments names top w u (n + 1)
arguments_more names top next n w v a b c u more is first put comma next_is others [] behind h =
    absurd (not_both (ap (symbol_next CloseParenthesis) h) more)
arguments_more names top next n w v a b c u more is first put comma next_is others (e ∷ es) behind
    h =
    let es_are = map (numbered_expression names) es in
    let value = expression_code top (numbered_expression names e) in
    let same = is ∙ same_behind CloseParenthesis w more in
    let one = first e (spelled_more es behind) (ap (λ (x : Writing). x.tokens) same ∙ h) in
    let two = put ∙ ap (appended (puts 4 top)) one in
    let three = comma ∙ ap (behind_symbol Comma) two
    ∙ ap (λ ts. record { tokens = ts; code = (v.code ++ value) ++ puts 4 top })
    (comma_behind es behind) in
    let four = others es behind (ap (λ (x : Writing). x.tokens) three) in
    let before : c.code ≡ (w.code ++ value) ++ puts 4 top =
    ap (λ (x : Writing). x.code) three ∙ ap (λ (x : Writing). (x.code ++ value) ++ puts 4 top)
    same in
    let joined = ap (λ is. is ++ arguments_code next es_are) before
    ∙ ap (λ k. ((w.code ++ value) ++ puts 4 top) ++ arguments_code k es_are) next_is
    ∙ append_assoc (w.code ++ value) (puts 4 top) (arguments_code (suc top) es_are)
    ∙ append_assoc w.code value (puts 4 top ++ arguments_code (suc top) es_are) in
    let counted = four.1 in
    (four.0 ∙ ap (λ is. record { tokens = behind; code = is }) joined, omega (arith, counted))

-- ---- statements in order

-- code, and that of the statements behind it
joined : (top : ℕ) (old first : List Instr) (q : l.Program)
    → (old ++ first) ++ statements_code top (length (old ++ first)) q
    ≡ old ++ (first ++ statements_code top (length old + length first) q)
joined top old first q =
    ap (λ n. (old ++ first) ++ statements_code top n q) (length-append old first)
    ∙ append_assoc old first (statements_code top (length old + length first) q)

-- a statement whose code is `first`, and those behind it
led : (names : List (List ℕ)) (top : ℕ) (old first all : List Instr) (u z : Writing) (q : Program)
    (behind : List Token)
    → u ≡ record { tokens = spelled_statements q behind; code = old ++ first }
    → WritesStatements names top u z
    → is_block_end behind ≡ true
    → first ++ statements_code top (length old + length first) (numbered names q) ≡ all
    → z ≡ record { tokens = behind; code = old ++ all }
led names top old first all u z q behind is next end whole =
    let done = next q behind end (ap (λ (x : Writing). x.tokens) is) in
    done ∙ ap (λ (c : List Instr). record {
      tokens = behind;
      code = c
          ++ statements_code top (length c) (numbered names q);
    }) (ap (λ (x : Writing). x.code) is)
    ∙ ap (λ (c : List Instr). record { tokens = behind; code = c })
    (joined top old first (numbered names q) ∙ ap (λ c. old ++ c) whole)

-- a token that ends no block isn't the first one behind a block
not_end : (t : Token) (ts behind : List Token) → closes_block t ≡ false → t ∷ ts ≡ behind
    → is_block_end behind ≡ true → ⊥
not_end t ts behind other h end = not_both end (sym (ap is_block_end h) ∙ other)

pub value_leads : (names : List (List ℕ)) (top i : ℕ) (name : List ℕ) (w v a u : Writing)
    → i ≡ number_of names name
    → v ≡ skipped w → a ≡ behind_callable v → callable_next v.tokens ≡ None
    → WritesValue names top i a u
    → LeadsOn names top (with_first (Variable name) w) u
value_leads names top i name w v a u i_is v_is a_is none done z next Done behind end h =
    absurd (not_end _ _ behind refl h end)
value_leads names top i name w v a u i_is v_is a_is none done z next (Assigns other e p) behind end
    h =
    let rest = spelled_expression e (Mark Semicolon ∷ spelled_statements p behind) in
    let ts : w.tokens ≡ Mark Assign ∷ rest = cc in
    let same : name ≡ other = cc in
    let v_now : v ≡ record { tokens = rest; code = w.code } = v_is
    ∙ ap (λ x. record { tokens = drop 1 x; code = w.code }) ts in
    let a_now : a ≡ record { tokens = rest; code = w.code } =
    a_is ∙ ap behind_callable v_now ∙ behind_none rest w.code (no_callable e _) in
    let one = done e (spelled_statements p behind) (ap (λ (x : Writing). x.tokens) a_now)
    ∙ ap (λ (x : Writing). record {
      tokens = spelled_statements p behind;
      code = x.code
          ++ (expression_code top (numbered_expression names e) ++ puts 4 i);
    }) a_now
    ∙ ap (λ k. record {
      tokens = spelled_statements p behind;
      code = w.code
          ++ (expression_code top (numbered_expression names e) ++ puts 4 k);
    })
    (i_is ∙ ap (number_of names) same) in
    led names top w.code _ _ u z p behind one next end refl
  where
    behind_none : (ts : List Token) (is : List Instr) → callable_next ts ≡ None
        → behind_callable (record { tokens = ts; code = is }) ≡ record { tokens = ts; code = is }
    behind_none ts is k = ap (λ o. record { tokens = cond (is_some o) (drop 1 ts) ts; code = is }) k
value_leads names top i name w v a u i_is v_is a_is none done z next (Calls other id es p) behind
    end h =
    let ts : w.tokens ≡ Mark Assign ∷ Callable id ∷ Mark OpenParenthesis
    ∷ spelled_arguments es (Mark Semicolon ∷ spelled_statements p behind) = cc in
    let found = ap (λ (x : Writing). callable_next x.tokens)
    (v_is ∙ ap (λ x. record { tokens = drop 1 x; code = w.code }) ts) in
    absurd (none_some (sym none ∙ found))
  where
    none_some : {n : ℕ} → None ≡ Some n → ⊥
    none_some k = cc
value_leads names top i name w v a u i_is v_is a_is none done z next (When e body p) behind end h =
    absurd cc
value_leads names top i name w v a u i_is v_is a_is none done z next (Either e body other p) behind
    end h = absurd cc
value_leads names top i name w v a u i_is v_is a_is none done z next (Loops e body p) behind end h =
    absurd cc
value_leads names top i name w v a u i_is v_is a_is none done z next (Traps n p) behind end h =
    absurd cc
value_leads names top i name w v a u i_is v_is a_is none done z next (Answers e f p) behind end h =
    absurd cc

pub call_leads : (names : List (List ℕ)) (top i id : ℕ) (name : List ℕ) (w v a u : Writing)
    → i ≡ number_of names name
    → v ≡ skipped w → a ≡ behind_callable v → callable_next v.tokens ≡ Some id
    → WritesCall names top i id a u
    → LeadsOn names top (with_first (Variable name) w) u
call_leads names top i id name w v a u i_is v_is a_is some done z next Done behind end h =
    absurd (not_end _ _ behind refl h end)
call_leads names top i id name w v a u i_is v_is a_is some done z next (Calls other id' es p) behind
    end h =
    let rest = Mark OpenParenthesis ∷ spelled_arguments es
    (Mark Semicolon ∷ spelled_statements p behind) in
    let ts : w.tokens ≡ Mark Assign ∷ Callable id' ∷ rest = cc in
    let same : name ≡ other = cc in
    let v_now : v ≡ record { tokens = Callable id' ∷ rest; code = w.code } = v_is
    ∙ ap (λ x. record { tokens = drop 1 x; code = w.code }) ts in
    let a_now : a ≡ record { tokens = rest; code = w.code } = a_is ∙ ap behind_callable v_now in
    let found : Some id ≡ Some id' = sym some
    ∙ ap (λ (x : Writing). callable_next x.tokens) v_now in
    let id_is : id ≡ id' = cc in
    let xs = map (numbered_expression names) es in
    let one = done es (spelled_statements p behind) (ap (λ (x : Writing). x.tokens) a_now)
    ∙ ap (λ (x : Writing). record {
      tokens = spelled_statements p behind;
      code = x.code
          ++ call_code top i id xs;
    }) a_now
    ∙ ap (λ k. record {
      tokens = spelled_statements p behind;
      code = w.code
          ++ call_code top k id xs;
    }) (i_is ∙ ap (number_of names) same)
    ∙ ap (λ k. record {
      tokens = spelled_statements p behind;
      code = w.code
          ++ call_code top (number_of names other) k xs;
    }) id_is in
    led names top w.code _ _ u z p behind one next end refl
call_leads names top i id name w v a u i_is v_is a_is some done z next (Assigns other e p) behind
    end h =
    let ts : w.tokens ≡ Mark Assign ∷ spelled_expression e
    (Mark Semicolon ∷ spelled_statements p behind) = cc in
    let found = ap (λ (x : Writing). callable_next x.tokens)
    (v_is ∙ ap (λ x. record { tokens = drop 1 x; code = w.code }) ts) in
    absurd (none_some (sym (found ∙ no_callable e _) ∙ some))
  where
    none_some : {n : ℕ} → None ≡ Some n → ⊥
    none_some k = cc
call_leads names top i id name w v a u i_is v_is a_is some done z next (When e body p) behind end
    h = absurd cc
call_leads names top i id name w v a u i_is v_is a_is some done z next (Either e body other p)
    behind end h = absurd cc
call_leads names top i id name w v a u i_is v_is a_is some done z next (Loops e body p) behind end
    h = absurd cc
call_leads names top i id name w v a u i_is v_is a_is some done z next (Traps n p) behind end h =
    absurd cc
call_leads names top i id name w v a u i_is v_is a_is some done z next (Answers e f p) behind end
    h = absurd cc

pub trap_leads : (names : List (List ℕ)) (top : ℕ) (w u : Writing) → WritesTrap w u
    → LeadsOn names top (with_first (Mark trap) w) u
trap_leads names top w u done z next Done behind end h = absurd (not_end _ _ behind refl h end)
trap_leads names top w u done z next (Traps n p) behind end h =
    led names top w.code _ _ u z p behind (done n (spelled_statements p behind) cc) next end refl
trap_leads names top w u done z next (Assigns i e p) behind end h = absurd cc
trap_leads names top w u done z next (Calls i id es p) behind end h = absurd cc
trap_leads names top w u done z next (When e body p) behind end h = absurd cc
trap_leads names top w u done z next (Either e body other p) behind end h = absurd cc
trap_leads names top w u done z next (Loops e body p) behind end h = absurd cc
trap_leads names top w u done z next (Answers e f p) behind end h = absurd cc

pub answer_leads : (names : List (List ℕ)) (top : ℕ) (w u : Writing) → WritesAnswer names top w u
    → LeadsOn names top (with_first (Mark Answer) w) u
answer_leads names top w u done z next Done behind end h = absurd (not_end _ _ behind refl h end)
answer_leads names top w u done z next (Answers e f p) behind end h =
    led names top w.code _ _ u z p behind (done e f (spelled_statements p behind) cc) next end refl
answer_leads names top w u done z next (Assigns i e p) behind end h = absurd cc
answer_leads names top w u done z next (Calls i id es p) behind end h = absurd cc
answer_leads names top w u done z next (When e body p) behind end h = absurd cc
answer_leads names top w u done z next (Either e body other p) behind end h = absurd cc
answer_leads names top w u done z next (Loops e body p) behind end h = absurd cc
answer_leads names top w u done z next (Traps n p) behind end h = absurd cc

-- a test, and the code behind its jump
split_test : (test inner rest : List Instr) (jump : Instr) (n k : ℕ) (behind : ℕ → List Instr)
    → n + length (test ++ jump ∷ inner) ≡ k
    → behind k ≡ rest → (test ++ jump ∷ inner) ++ behind (n + length (test ++ jump ∷ inner)) ≡ test
    ++ (jump ∷ (inner ++ rest))
split_test test inner rest jump n k behind at is =
    ap (λ x. (test ++ jump ∷ inner) ++ behind x) at ∙ ap (λ r. (test ++ jump ∷ inner) ++ r) is
    ∙ append_assoc test (jump ∷ inner) rest

no_else : (p : Program) (behind : List Token) → is_block_end behind ≡ true
    → symbol_next Else (spelled_statements p behind) ≡ false
no_else Done [] end = refl
no_else Done (Mark s ∷ ts) end = other s end
  where
    other : (s : Symbol) → same_symbol CloseBrace s ≡ true → same_symbol Else s ≡ false
    other s k = grind (arith, nat_tests, k)
no_else Done (Number n ∷ ts) end = refl
no_else Done (Variable n ∷ ts) end = refl
no_else Done (Callable n ∷ ts) end = refl
no_else Done (Infix n ∷ ts) end = refl
no_else (Assigns i e p) behind end = refl
no_else (Calls i id es p) behind end = refl
no_else (When e body p) behind end = refl
no_else (Either e body other p) behind end = refl
no_else (Loops e body p) behind end = refl
no_else (Traps n p) behind end = refl
no_else (Answers e f p) behind end = refl

when_is : (top place : ℕ) (e : l.Expression) (p q : l.Program)
    → when_code top place e p ++ statements_code top (place + length (when_code top place e p)) q
    ≡ statements_code top place (l.When e p q)
when_is top place e p q =
    let test = expression_code top e in
    let inner = statements_code top (place + length test + 1) p in
    let behind = place + length test + 1 + length inner in
    split_test test inner _ (instr Jz 4 0 0 behind) place behind (λ n. statements_code top n q)
    (omega (arith, length-append test (instr Jz 4 0 0 behind ∷ inner))) refl

loop_is : (top place : ℕ) (e : l.Expression) (p q : l.Program)
    → loop_code top place e p ++ statements_code top (place + length (loop_code top place e p)) q
    ≡ statements_code top place (l.Loops e p q)
loop_is top place e p q =
    let test = expression_code top e in
    let inner = statements_code top (place + length test + 1) p in
    let behind = place + length test + 1 + length inner + 1 in
    let back = instr Jmp 0 0 0 place in
    split_test test (inner ++ back ∷ []) _ (instr Jz 4 0 0 behind) place behind
    (λ n. statements_code top n q)
    (omega (
      arith,
      length-append test (instr Jz 4 0 0 behind ∷ (inner ++ back ∷ [])),
      length-append inner (back ∷ []),
    )) refl
    ∙ ap (λ c. test ++ (instr Jz 4 0 0 behind ∷ c))
    (append_assoc inner (back ∷ []) (statements_code top behind q))

either_is : (top place : ℕ) (e : l.Expression) (p r q : l.Program)
    → either_code top place e p r ++ statements_code top
    (place + length (either_code top place e p r)) q
    ≡ statements_code top place (l.Either e p r q)
either_is top place e p r q =
    let test = expression_code top e in
    let inner = statements_code top (place + length test + 1) p in
    let end = place + length test + 1 + length inner in
    let outer = statements_code top (end + 1) r in
    let behind = end + 1 + length outer in
    let over = instr Jmp 0 0 0 behind in
    split_test test (inner ++ (over ∷ outer)) _ (instr Jz 4 0 0 (end + 1)) place behind
    (λ n. statements_code top n q)
    (omega (
      arith,
      length-append test (instr Jz 4 0 0 (end + 1) ∷ (inner ++ (over ∷ outer))),
      length-append inner (over ∷ outer),
    )) refl
    ∙ ap (λ c. test ++ (instr Jz 4 0 0 (end + 1) ∷ c))
    (append_assoc inner (over ∷ outer) (statements_code top behind q))

pub if_leads : (names : List (List ℕ)) (top : ℕ) (w u : Writing) → WritesIf names top w u
    → LeadsOn names top (with_first (Mark If) w) u
if_leads names top w u done z next Done behind end h = absurd (not_end _ _ behind refl h end)
if_leads names top w u done z next (When e body p) behind end h =
    led names top w.code _ _ u z p behind (done.when e body (spelled_statements p behind)
    (no_else p behind end) cc) next end
    (when_is top (length w.code) (numbered_expression names e) (numbered names body)
    (numbered names p))
if_leads names top w u done z next (Either e body other p) behind end h =
    led names top w.code _ _ u z p behind (done.either e body other (spelled_statements p behind)
    cc) next end
    (either_is top (length w.code) (numbered_expression names e) (numbered names body)
    (numbered names other) (numbered names p))
if_leads names top w u done z next (Assigns i e p) behind end h = absurd cc
if_leads names top w u done z next (Calls i id es p) behind end h = absurd cc
if_leads names top w u done z next (Loops e body p) behind end h = absurd cc
if_leads names top w u done z next (Traps n p) behind end h = absurd cc
if_leads names top w u done z next (Answers e f p) behind end h = absurd cc

pub while_leads : (names : List (List ℕ)) (top : ℕ) (w u : Writing) → WritesWhile names top w u
    → LeadsOn names top (with_first (Mark While) w) u
while_leads names top w u done z next Done behind end h = absurd (not_end _ _ behind refl h end)
while_leads names top w u done z next (Loops e body p) behind end h =
    led names top w.code _ _ u z p behind (done e body (spelled_statements p behind) cc) next end
    (loop_is top (length w.code) (numbered_expression names e) (numbered names body)
    (numbered names p))
while_leads names top w u done z next (When e body p) behind end h = absurd cc
while_leads names top w u done z next (Either e body other p) behind end h = absurd cc
while_leads names top w u done z next (Assigns i e p) behind end h = absurd cc
while_leads names top w u done z next (Calls i id es p) behind end h = absurd cc
while_leads names top w u done z next (Traps n p) behind end h = absurd cc
while_leads names top w u done z next (Answers e f p) behind end h = absurd cc

-- what begins no statement and ends no block isn't read
pub nothing_leads : (names : List (List ℕ)) (top : ℕ) (t : Token) (w : Writing)
    → closes_block t ≡ false
    → ((name : List ℕ) → t ≡ Variable name → ⊥) → (t ≡ Mark If → ⊥) → (t ≡ Mark While → ⊥)
    → (t ≡ Mark trap → ⊥) → (t ≡ Mark Answer → ⊥)
    → LeadsOn names top (with_first t w) w
nothing_leads names top t w opens nv ni nw nt na z next Done behind end h =
    absurd (not_end _ _ behind opens h end)
nothing_leads names top t w opens nv ni nw nt na z next (Assigns i e p) behind end h =
    absurd (nv i cc)
nothing_leads names top t w opens nv ni nw nt na z next (Calls i id es p) behind end h =
    absurd (nv i cc)
nothing_leads names top t w opens nv ni nw nt na z next (When e body p) behind end h =
    absurd (ni cc)
nothing_leads names top t w opens nv ni nw nt na z next (Either e body other p) behind end h =
    absurd (ni cc)
nothing_leads names top t w opens nv ni nw nt na z next (Loops e body p) behind end h =
    absurd (nw cc)
nothing_leads names top t w opens nv ni nw nt na z next (Traps n p) behind end h = absurd (nt cc)
nothing_leads names top t w opens nv ni nw nt na z next (Answers e f p) behind end h =
    absurd (na cc)

-- at the end of a block no statement is next
pub none_left : (names : List (List ℕ)) (top : ℕ) (w : Writing) → is_block_end w.tokens ≡ true
    → WritesStatements names top w w
none_left names top w at Done behind end h =
    ap (λ ts. record { tokens = ts; code = w.code }) h
    ∙ ap (λ c. record { tokens = behind; code = c }) (sym (append-nil w.code))
none_left names top w at (Assigns i e p) behind end h = absurd (not_both at (ap is_block_end h))
none_left names top w at (Calls i id es p) behind end h = absurd (not_both at (ap is_block_end h))
none_left names top w at (When e body p) behind end h = absurd (not_both at (ap is_block_end h))
none_left names top w at (Either e body other p) behind end h =
    absurd (not_both at (ap is_block_end h))
none_left names top w at (Loops e body p) behind end h = absurd (not_both at (ap is_block_end h))
none_left names top w at (Traps n p) behind end h = absurd (not_both at (ap is_block_end h))
none_left names top w at (Answers e f p) behind end h = absurd (not_both at (ap is_block_end h))

-- ---- jumps that are set behind what they pass over

-- what is put in the place of an instruction
patched_seam : (old inner : List Instr) (x y : Instr) (at : ℕ) → at ≡ length old
    → set ((old ++ x ∷ []) ++ inner) at y ≡ old ++ (y ∷ inner)
patched_seam old inner x y at is =
    ap (λ c. set c at y) (append_assoc old (x ∷ []) inner) ∙ ap (λ n. set (old ++ x ∷ inner) n y) is
    ∙ set-append_seam old x inner y

pub else_written : (names : List (List ℕ)) (top test end begin behind : ℕ) (w a b d u : Writing)
    (x j k : Instr)
    → test < length w.code → end ≡ length w.code → a ≡ appended (x ∷ []) w → begin ≡ length a.code
    → j ≡ instr Jz 4 0 0 begin
    → b ≡ patched test j a → WritesBlock names top b d → behind ≡ length d.code
    → k ≡ instr Jmp 0 0 0 behind → u ≡ patched end k d
    → WritesElse names top test w u
else_written names top test end begin behind w a b d u x j k low end_is a_is begin_is j_is b_is done
    behind_is k_is u_is p rest h =
    let n = length w.code in
    let body = numbered names p in
    let outer = statements_code top (n + 1) body in
    let aim = instr Jz 4 0 0 (n + 1) in
    let old = set w.code test aim in
    let old_len = length-set w.code test aim in
    let a_code : a.code ≡ w.code ++ x ∷ [] = ap (λ (y : Writing). y.code) a_is in
    let begin_now : begin ≡ n + 1 = omega (
      arith,
      begin_is,
      ap length a_code,
      length-append w.code (x ∷ []),
    ) in
    let j_now : j ≡ aim = j_is ∙ ap (λ to. instr Jz 4 0 0 to) begin_now in
    let b_code : b.code ≡ old ++ x ∷ [] =
    ap (λ (y : Writing). y.code) b_is ∙ ap (λ c. set c test j) a_code
    ∙ ap (λ i. set (w.code ++ x ∷ []) test i) j_now
    ∙ set-append_left w.code (x ∷ []) test aim low in
    let b_tokens : b.tokens ≡ w.tokens = ap (λ (y : Writing). y.tokens) b_is
    ∙ ap (λ (y : Writing). y.tokens) a_is in
    let len : length (old ++ x ∷ []) ≡ n + 1 = omega (arith, length-append old (x ∷ []), old_len) in
    let d_now = done p rest (b_tokens ∙ h) in
    let d_code : d.code ≡ (old ++ x ∷ []) ++ outer =
    ap (λ (y : Writing). y.code) d_now ∙ ap (λ (c : List Instr). c
    ++ statements_code top (length c) body) b_code
    ∙ ap (λ m. (old ++ x ∷ []) ++ statements_code top m body) len in
    let behind_now : behind ≡ n + 1 + length outer =
    omega (arith, behind_is, ap length d_code, length-append (old ++ x ∷ []) outer, len) in
    let k_now : k ≡ instr Jmp 0 0 0 (n + 1 + length outer) = k_is
    ∙ ap (λ to. instr Jmp 0 0 0 to) behind_now in
    let whole = ap (λ c. set c end k) d_code ∙ patched_seam old outer x k end (end_is ∙ sym old_len)
    ∙ ap (λ i. old ++ (i ∷ outer)) k_now in
    u_is ∙ ap (λ ts. record { tokens = ts; code = set d.code end k })
    (ap (λ (y : Writing). y.tokens) d_now)
    ∙ ap (λ c. record { tokens = rest; code = c }) whole

-- a test, an instruction behind it, and a block
record Tested (names : List (List ℕ)) (top : ℕ) (w a d : Writing) (x : Instr) (e : Expression)
    (p : Program) (rest : List Token) : Type 0 where
  test_is : a.code ≡ w.code ++ expression_code top (numbered_expression names e)
  all_is : d ≡ record {
    tokens = rest;
    code = ((w.code ++ expression_code top (numbered_expression names e)) ++ x ∷ [])
        ++ statements_code top (length w.code + length
        (expression_code top (numbered_expression names e)) + 1) (numbered names p);
  }

tested : (names : List (List ℕ)) (top : ℕ) (w a b d : Writing) (x : Instr)
    → WritesExpression names top w a → b ≡ appended (x ∷ []) a
    → WritesBlock names top b d → (e : Expression) (p : Program) (rest : List Token)
    → w.tokens ≡ spelled_expression e (Mark OpenBrace
    ∷ spelled_statements p (Mark CloseBrace ∷ rest))
    → Tested names top w a d x e p rest
tested names top w a b d x first b_is done e p rest h =
    let test = expression_code top (numbered_expression names e) in
    let body = numbered names p in
    let a_now = first e (Mark OpenBrace ∷ spelled_statements p (Mark CloseBrace ∷ rest)) h in
    let b_now = b_is ∙ ap (appended (x ∷ [])) a_now in
    let len : length ((w.code ++ test) ++ x ∷ []) ≡ length w.code + length test + 1 =
    omega (arith, length-append (w.code ++ test) (x ∷ []), length-append w.code test) in
    record {
      test_is = ap (λ (y : Writing). y.code) a_now;
      all_is = done p rest (ap (λ (y : Writing). y.tokens) b_now)
          ∙ ap (λ (c : List Instr). record {
            tokens = rest;
            code = c
                ++ statements_code top (length c) body;
          }) (ap (λ (y : Writing). y.code) b_now)
          ∙ ap (λ n. record {
            tokens = rest;
            code = ((w.code ++ test) ++ x ∷ [])
                ++ statements_code top n body;
          }) len;
    }

-- how long a test, an instruction and a block are
tested_long : (old test inner : List Instr) (x : Instr)
    → length (((old ++ test) ++ x ∷ []) ++ inner) ≡ length old + length test + 1 + length inner
tested_long old test inner x =
    omega (
      arith,
      length-append ((old ++ test) ++ x ∷ []) inner,
      length-append (old ++ test) (x ∷ []),
      length-append old test,
    )

pub if_written : (names : List (List ℕ)) (top at behind : ℕ) (w a b d f u : Writing) (x j : Instr)
    → WritesExpression names top w a
    → at ≡ length a.code → b ≡ appended (x ∷ []) a → WritesBlock names top b d
    → symbol_next Else d.tokens ≡ false
    → f ≡ behind_symbol Else d → behind ≡ length f.code → j ≡ instr Jz 4 0 0 behind
    → u ≡ patched at j f → WritesIf names top w u
if_written names top at behind w a b d f u x j first at_is b_is done none f_is behind_is j_is u_is =
    record { when = when; either = either }
  where
    same : f ≡ d
    same = f_is ∙ same_behind Else d none

    when : (e : Expression) (p : Program) (rest : List Token) → symbol_next Else rest ≡ false
        → w.tokens ≡ spelled_expression e (Mark OpenBrace
        ∷ spelled_statements p (Mark CloseBrace ∷ rest))
        → u ≡ record {
          tokens = rest;
          code = w.code
              ++ when_code top (length w.code) (numbered_expression names e) (numbered names p);
        }
    when e p rest other_next h =
        let t = tested names top w a b d x first b_is done e p rest h in
        let test = expression_code top (numbered_expression names e) in
        let inner = statements_code top (length w.code + length test + 1) (numbered names p) in
        let f_now = same ∙ t.all_is in
        let long : behind ≡ length w.code + length test + 1 + length inner =
        behind_is ∙ ap (λ (y : Writing). length y.code) f_now ∙ tested_long w.code test inner x in
        u_is ∙ ap (patched at j) f_now
        ∙ ap (λ c. record { tokens = rest; code = c })
        (patched_seam (w.code ++ test) inner x j at (at_is ∙ ap length t.test_is)
        ∙ append_assoc w.code test (j ∷ inner) ∙ ap (λ i. w.code ++ (test ++ (i ∷ inner)))
        (j_is ∙ ap (λ to. instr Jz 4 0 0 to) long))

    either : (e : Expression) (p q : Program) (rest : List Token)
        → w.tokens ≡ spelled_expression e (Mark OpenBrace ∷ spelled_statements p (Mark CloseBrace
        ∷ Mark Else ∷ Mark OpenBrace ∷ spelled_statements q (Mark CloseBrace ∷ rest)))
        → u ≡ record {
          tokens = rest;
          code = w.code ++ either_code top (length w.code) (numbered_expression names e)
              (numbered names p) (numbered names q);
        }
    either e p q rest h =
        let last = Mark Else ∷ Mark OpenBrace ∷ spelled_statements q (Mark CloseBrace ∷ rest) in
        let t = tested names top w a b d x first b_is done e p last h in
        absurd (not_both (ap (λ (y : Writing). symbol_next Else y.tokens) t.all_is) none)

pub either_written : (names : List (List ℕ)) (top at : ℕ) (w a b d f u : Writing) (x : Instr)
    → WritesExpression names top w a
    → at ≡ length a.code → b ≡ appended (x ∷ []) a → WritesBlock names top b d
    → symbol_next Else d.tokens ≡ true
    → f ≡ behind_symbol Else d → WritesElse names top at f u → WritesIf names top w u
either_written names top at w a b d f u x first at_is b_is done some f_is other =
    record { when = when; either = either }
  where
    when : (e : Expression) (p : Program) (rest : List Token) → symbol_next Else rest ≡ false
        → w.tokens ≡ spelled_expression e (Mark OpenBrace
        ∷ spelled_statements p (Mark CloseBrace ∷ rest))
        → u ≡ record {
          tokens = rest;
          code = w.code
              ++ when_code top (length w.code) (numbered_expression names e) (numbered names p);
        }
    when e p rest other_next h =
        let t = tested names top w a b d x first b_is done e p rest h in
        absurd (not_both some (ap (λ (y : Writing). symbol_next Else y.tokens) t.all_is
        ∙ other_next))

    either : (e : Expression) (p q : Program) (rest : List Token)
        → w.tokens ≡ spelled_expression e (Mark OpenBrace ∷ spelled_statements p (Mark CloseBrace
        ∷ Mark Else ∷ Mark OpenBrace ∷ spelled_statements q (Mark CloseBrace ∷ rest)))
        → u ≡ record {
          tokens = rest;
          code = w.code ++ either_code top (length w.code) (numbered_expression names e)
              (numbered names p) (numbered names q);
        }
    either e p q rest h =
        let last = Mark Else ∷ Mark OpenBrace ∷ spelled_statements q (Mark CloseBrace ∷ rest) in
        let t = tested names top w a b d x first b_is done e p last h in
        let test = expression_code top (numbered_expression names e) in
        let inner = statements_code top (length w.code + length test + 1) (numbered names p) in
        let body = numbered names q in
        let code = ((w.code ++ test) ++ x ∷ []) ++ inner in
        let end = length w.code + length test + 1 + length inner in
        let jump = instr Jz 4 0 0 (end + 1) in
        let f_now = f_is ∙ ap (behind_symbol Else) t.all_is in
        other q rest (ap (λ (y : Writing). y.tokens) f_now)
        ∙ ap (λ (y : Writing). record {
          tokens = rest;
          code =
              set y.code at (instr Jz 4 0 0 (length y.code + 1))
              ++ else_code top (length y.code) body;
        }) f_now
        ∙ ap (λ n. record {
          tokens = rest;
          code = set code at (instr Jz 4 0 0 (n + 1))
              ++ else_code top n body;
        }) (tested_long w.code test inner x)
        ∙ ap (λ c. record { tokens = rest; code = c ++ else_code top end body })
        (patched_seam (w.code ++ test) inner x jump at (at_is ∙ ap length t.test_is))
        ∙ ap (λ c. record { tokens = rest; code = c })
        (append_assoc (w.code ++ test) (jump ∷ inner) (else_code top end body)
        ∙ append_assoc w.code test (jump ∷ (inner ++ else_code top end body)))

pub while_written : (names : List (List ℕ)) (top at begin behind : ℕ) (w a b d f u : Writing)
    (x back j : Instr)
    → begin ≡ length w.code → WritesExpression names top w a
    → at ≡ length a.code → b ≡ appended (x ∷ []) a → WritesBlock names top b d
    → back ≡ instr Jmp 0 0 0 begin
    → f ≡ appended (back ∷ []) d → behind ≡ length f.code → j ≡ instr Jz 4 0 0 behind
    → u ≡ patched at j f → WritesWhile names top w u
while_written names top at begin behind w a b d f u x back j begin_is first at_is b_is done back_is
    f_is behind_is j_is u_is e p rest h =
    let t = tested names top w a b d x first b_is done e p rest h in
    let test = expression_code top (numbered_expression names e) in
    let inner = statements_code top (length w.code + length test + 1) (numbered names p) in
    let end = instr Jmp 0 0 0 (length w.code) in
    let back_now : back ≡ end = back_is ∙ ap (λ to. instr Jmp 0 0 0 to) begin_is in
    let f_now = f_is ∙ ap (appended (back ∷ [])) t.all_is
    ∙ ap (λ i. record { tokens = rest; code = (((w.code ++ test) ++ x ∷ []) ++ inner) ++ i ∷ [] })
    back_now
    ∙ ap (λ c. record { tokens = rest; code = c })
    (append_assoc ((w.code ++ test) ++ x ∷ []) inner (end ∷ [])) in
    let long : behind ≡ length w.code + length test + 1 + length inner + 1 =
    let q = ap (λ (y : Writing). length y.code) f_now in
    omega (
      arith,
      behind_is,
      q,
      tested_long w.code test (inner ++ end ∷ []) x,
      length-append inner (end ∷ []),
    ) in
    u_is ∙ ap (patched at j) f_now
    ∙ ap (λ c. record { tokens = rest; code = c })
    (patched_seam (w.code ++ test) (inner ++ end ∷ []) x j at (at_is ∙ ap length t.test_is)
    ∙ append_assoc w.code test (j ∷ (inner ++ end ∷ []))
    ∙ ap (λ i. w.code ++ (test ++ (i ∷ (inner ++ end ∷ []))))
    (j_is ∙ ap (λ to. instr Jz 4 0 0 to) long))

-- ---- tokens that begin no statement

pub symbol_leads : (names : List (List ℕ)) (top : ℕ) (s : Symbol) (w : Writing)
    → closes_block (Mark s) ≡ false
    → (s ≡ If → ⊥) → (s ≡ While → ⊥) → (s ≡ trap → ⊥) → (s ≡ Answer → ⊥)
    → LeadsOn names top (with_first (Mark s) w) w
symbol_leads names top s w opens ni nw nt na =
    nothing_leads names top (Mark s) w opens no_variable (λ h. ni (of_mark If h))
    (λ h. nw (of_mark While h)) (λ h. nt (of_mark trap h))
    (λ h. na (of_mark Answer h))
  where
    no_variable : (name : List ℕ) → Mark s ≡ Variable name → ⊥
    no_variable name h = cc

    of_mark : (t : Symbol) → Mark s ≡ Mark t → s ≡ t
    of_mark t h = cc

view_no_mark : (t : code.Token) → ((s : Symbol) → t ≡ token.Mark s → ⊥) → (s : Symbol)
    → token_view t ≡ Mark s → ⊥
view_no_mark (token.Number m) never s h = cc
view_no_mark (token.Variable name) never s h = cc
view_no_mark (token.Callable id) never s h = cc
view_no_mark (token.Infix op) never s h = cc
view_no_mark (token.Mark s) never t h = never s refl

pub token_leads : (names : List (List ℕ)) (top : ℕ) (t : code.Token) (w : Writing)
    → closes_block (token_view t) ≡ false
    → ((name : Bor (List ℕ)) → t ≡ token.Variable name → ⊥) → ((s : Symbol) → t ≡ token.Mark s → ⊥)
    → LeadsOn names top (with_first (token_view t) w) w
token_leads names top t w opens nv nm =
    nothing_leads names top (token_view t) w opens (view_no_variable t nv) (view_no_mark t nm If)
    (view_no_mark t nm While)
    (view_no_mark t nm trap) (view_no_mark t nm Answer)

-- ---- whole code

-- a test that each instruction meets
pub all_set : (p : Instr → Bool) (xs : List Instr) (i : ℕ) (x : Instr) → list_all p xs ≡ true
    → p x ≡ true
    → list_all p (set xs i x) ≡ true
all_set p [] i x h k = refl
all_set p (y ∷ ys) zero x h k = rw (k, (both (p y) (list_all p ys) h).1) refl
  where
    both : (a b : Bool) → (a && b) ≡ true → (a ≡ true) × (b ≡ true)
    both true b h = (refl, h)
    both false b h = absurd cc
all_set p (y ∷ ys) (suc i) x h k =
    let hs = both (p y) (list_all p ys) h in rw (hs.0, all_set p ys i x hs.1 k) refl
  where
    both : (a b : Bool) → (a && b) ≡ true → (a ≡ true) × (b ≡ true)
    both true b h = (refl, h)
    both false b h = absurd cc
