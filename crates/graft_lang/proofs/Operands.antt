-- The code of operands and of operations is what their tokens say.
use Rattle.std.specs.Prelude.{◌≡◌, ℕ, suc, ◌+◌, List, []}
use Rattle.std.specs.Prelude.{◌∷◌, ◌++◌}
use Rattle.std.proofs.Common.{sym, ap, ◌∙◌}
use Rattle.std.proofs.lemmas.List.{append_assoc}
use Rattle.graft_texts.specs.declared.Op.TheVariants.{Li}
use Rattle.graft_texts.specs.Boxed.{instr}
use Rattle.graft_texts.specs.declared.language.Operator.{Operator}
use Rattle.graft_texts.specs.declared.language.Symbol.TheVariants.{CloseParenthesis}
use Rattle.graft_texts.specs.LanguageTokens.{Token, Number, Variable, Infix, Mark}
use Rattle.graft_texts.specs.LanguageGrammar.{Literal, Named, Binary}
use Rattle.graft_texts.specs.LanguageGrammar.{spelled_expression}
use Rattle.graft_texts.specs.LanguageReading.{number_of}
use Rattle.graft_texts.specs.LanguageMeaning.{numbered_expression}
use Rattle.graft_lang.specs.Code.{puts, loads, source, operator_code, left_register, left_code, right_code}
use Rattle.graft_lang.specs.Code.{expression_code}
use Rattle.graft_lang.specs.Writing.{Writing, skipped, appended, with_first, operator_of, WritesExpression}
use Rattle.graft_lang.specs.Writing.{WritesLeft, WritesRight, WritesRightOperation}
use Rattle.graft_lang.specs.Writing.{WritesOperation}
use Rattle.graft_lang.proofs.Writing.{number_written, operation_written}

-- ---- operands

-- a left operand that is no variable is written as an expression
pub left_written : (names : List (List ℕ)) (top reg : ℕ) (w u : Writing)
    → ((name : List ℕ) (ts : List Token) → w.tokens ≡ Variable name ∷ ts → ⊥) → reg ≡ 4
    → WritesExpression names top w u → WritesLeft names top reg w u
left_written names top reg w u no_variable reg_is done (Literal n) behind h =
    (done (Literal n) behind h, reg_is)
left_written names top reg w u no_variable reg_is done (Named name) behind h =
    absurd (no_variable name behind h)
left_written names top reg w u no_variable reg_is done (Binary a op b) behind h =
    (done (Binary a op b) behind h, reg_is)

pub left_nothing : (names : List (List ℕ)) (top reg : ℕ) (w u : Writing) → w.tokens ≡ []
    → WritesLeft names top reg w u
left_nothing names top reg w u none (Literal n) behind h = absurd cc
left_nothing names top reg w u none (Named name) behind h = absurd cc
left_nothing names top reg w u none (Binary a op b) behind h = absurd cc

pub left_number : (names : List (List ℕ)) (top reg n : ℕ) (w v u : Writing)
    → w ≡ with_first (Number n) v → u ≡ appended (instr Li 4 0 0 n ∷ []) v → reg ≡ 4
    → WritesLeft names top reg w u
left_number names top reg n w v u is done reg_is =
    left_written names top reg w u other reg_is (number_written names top n w v u is done)
  where
    other : (name : List ℕ) (ts : List Token) → w.tokens ≡ Variable name ∷ ts → ⊥
    other name ts h =
        let first : w.tokens ≡ Number n ∷ v.tokens = ap (λ (x : Writing). x.tokens) is in cc

pub left_variable : (names : List (List ℕ)) (top reg i : ℕ) (name : List ℕ) (w v u : Writing)
    → w ≡ with_first (Variable name) v → i ≡ number_of names name → u ≡ appended (loads 4 i) v
    → reg ≡ source 4 i → WritesLeft names top reg w u
left_variable names top reg i name w v u is i_is done reg_is (Literal m) behind h =
    let ts : w.tokens ≡ Variable name ∷ v.tokens = ap (λ (x : Writing). x.tokens) is in absurd cc
left_variable names top reg i name w v u is i_is done reg_is (Named other) behind h =
    let ts : w.tokens ≡ Variable name ∷ v.tokens = ap (λ (x : Writing). x.tokens) is in
    let code : w.code ≡ v.code = ap (λ (x : Writing). x.code) is in
    let same : name ≡ other = cc in
    let rest : v.tokens ≡ behind = cc in
    let k = i_is ∙ ap (number_of names) same in (
      done ∙ ap (λ x. record { tokens = v.tokens; code = v.code ++ loads 4 x }) k
          ∙ ap (λ x. record {
            tokens = x;
            code = v.code ++ loads 4 (number_of names other);
          }) rest
          ∙ ap (λ x. record {
            tokens = behind;
            code = x ++ loads 4 (number_of names other);
          }) (sym code),
      reg_is ∙ ap (source 4) k,
    )
left_variable names top reg i name w v u is i_is done reg_is (Binary a op b) behind h =
    let ts : w.tokens ≡ Variable name ∷ v.tokens = ap (λ (x : Writing). x.tokens) is in absurd cc

pub left_operation : (names : List (List ℕ)) (top reg : ℕ) (t : Token) (w v u : Writing)
    → w ≡ with_first t v
    → ((n : ℕ) → t ≡ Number n → ⊥) → ((name : List ℕ) → t ≡ Variable name → ⊥) → reg ≡ 4
    → WritesOperation names top v u → WritesLeft names top reg w u
left_operation names top reg t w v u is no_number no_variable reg_is done =
    left_written names top reg w u other reg_is
    (operation_written names top t w v u is no_number no_variable done)
  where
    other : (name : List ℕ) (ts : List Token) → w.tokens ≡ Variable name ∷ ts → ⊥
    other name ts h =
        let first : w.tokens ≡ t ∷ v.tokens = ap (λ (x : Writing). x.tokens) is in
        no_variable name cc

pub right_nothing : (names : List (List ℕ)) (top : ℕ) (op : Operator) (left : ℕ) (w u : Writing)
    → w.tokens ≡ [] → WritesRight names top op left w u
right_nothing names top op left w u none (Literal n) behind h = absurd cc
right_nothing names top op left w u none (Named name) behind h = absurd cc
right_nothing names top op left w u none (Binary a o b) behind h = absurd cc

pub right_number : (names : List (List ℕ)) (top : ℕ) (op : Operator) (left n : ℕ)
    (w v a u : Writing)
    → w ≡ with_first (Number n) v → a ≡ appended (instr Li 6 0 0 n ∷ []) v
    → u ≡ appended (operator_code op left 6) a → WritesRight names top op left w u
right_number names top op left n w v a u is put done (Literal m) behind h =
    let ts : w.tokens ≡ Number n ∷ v.tokens = ap (λ (x : Writing). x.tokens) is in
    let code : w.code ≡ v.code = ap (λ (x : Writing). x.code) is in
    let same : n ≡ m = cc in
    let rest : v.tokens ≡ behind = cc in
    done ∙ ap (appended (operator_code op left 6)) put
    ∙ ap (λ c. record { tokens = v.tokens; code = c })
    (append_assoc v.code (instr Li 6 0 0 n ∷ []) (operator_code op left 6))
    ∙ ap (λ x. record {
      tokens = x;
      code = v.code ++ (instr Li 6 0 0 n ∷ operator_code op left 6);
    }) rest
    ∙ ap (λ x. record {
      tokens = behind;
      code = x ++ (instr Li 6 0 0 n ∷ operator_code op left 6);
    }) (sym code)
    ∙ ap (λ x. record {
      tokens = behind;
      code = w.code ++ (instr Li 6 0 0 x ∷ operator_code op left 6);
    }) same
right_number names top op left n w v a u is put done (Named name) behind h =
    let ts : w.tokens ≡ Number n ∷ v.tokens = ap (λ (x : Writing). x.tokens) is in absurd cc
right_number names top op left n w v a u is put done (Binary c o d) behind h =
    let ts : w.tokens ≡ Number n ∷ v.tokens = ap (λ (x : Writing). x.tokens) is in absurd cc

pub right_variable : (names : List (List ℕ)) (top : ℕ) (op : Operator) (left right i : ℕ)
    (name : List ℕ) (w v a u : Writing)
    → w ≡ with_first (Variable name) v → i ≡ number_of names name → a ≡ appended (loads 6 i) v
    → right ≡ source 6 i → u ≡ appended (operator_code op left right) a
    → WritesRight names top op left w u
right_variable names top op left right i name w v a u is i_is load right_is done (Literal m) behind
    h =
    let ts : w.tokens ≡ Variable name ∷ v.tokens = ap (λ (x : Writing). x.tokens) is in absurd cc
right_variable names top op left right i name w v a u is i_is load right_is done (Named other)
    behind h =
    let ts : w.tokens ≡ Variable name ∷ v.tokens = ap (λ (x : Writing). x.tokens) is in
    let code : w.code ≡ v.code = ap (λ (x : Writing). x.code) is in
    let same : name ≡ other = cc in
    let rest : v.tokens ≡ behind = cc in
    let k = i_is ∙ ap (number_of names) same in
    done ∙ ap (appended (operator_code op left right)) load
    ∙ ap (λ x. record { tokens = v.tokens; code = (v.code ++ loads 6 i) ++ operator_code op left x })
    right_is
    ∙ ap (λ c. record { tokens = v.tokens; code = c })
    (append_assoc v.code (loads 6 i) (operator_code op left (source 6 i)))
    ∙ ap (λ x. record {
      tokens = v.tokens;
      code = v.code ++ (loads 6 x ++ operator_code op left (source 6 x));
    }) k
    ∙ ap (λ x. record {
      tokens = x;
      code = v.code ++ (loads 6 (number_of names other)
          ++ operator_code op left (source 6 (number_of names other)));
    }) rest
    ∙ ap (λ x. record {
      tokens = behind;
      code = x ++ (loads 6 (number_of names other)
          ++ operator_code op left (source 6 (number_of names other)));
    }) (sym code)
right_variable names top op left right i name w v a u is i_is load right_is done (Binary c o d)
    behind h =
    let ts : w.tokens ≡ Variable name ∷ v.tokens = ap (λ (x : Writing). x.tokens) is in absurd cc

-- a right operand that is an operation, where the first token is neither a number nor a variable
pub right_written : (names : List (List ℕ)) (top : ℕ) (op : Operator) (left : ℕ) (t : Token)
    (w v u : Writing)
    → w ≡ with_first t v
    → ((n : ℕ) → t ≡ Number n → ⊥) → ((name : List ℕ) → t ≡ Variable name → ⊥)
    → WritesRightOperation names top op left v u → WritesRight names top op left w u
right_written names top op left t w v u is no_number no_variable done (Literal m) behind h =
    let ts : w.tokens ≡ t ∷ v.tokens = ap (λ (x : Writing). x.tokens) is in absurd (no_number m cc)
right_written names top op left t w v u is no_number no_variable done (Named name) behind h =
    let ts : w.tokens ≡ t ∷ v.tokens = ap (λ (x : Writing). x.tokens) is in
    absurd (no_variable name cc)
right_written names top op left t w v u is no_number no_variable done (Binary a inner b) behind h =
    let ts : w.tokens ≡ t ∷ v.tokens = ap (λ (x : Writing). x.tokens) is in
    let code : w.code ≡ v.code = ap (λ (x : Writing). x.code) is in
    let rest : v.tokens ≡ spelled_expression a
    (Infix inner ∷ spelled_expression b (Mark CloseParenthesis ∷ behind)) = cc in
    done a inner b behind rest
    ∙ ap (λ c. record {
      tokens = behind;
      code = c ++ right_code top op left (numbered_expression names (Binary a inner b))
          (expression_code (suc top) (numbered_expression names (Binary a inner b)));
    }) (sym code)

-- the left operand is put, the right one comes, the left one is brought back, both are applied
pub right_joined : (names : List (List ℕ)) (top next : ℕ) (op : Operator) (left waited : ℕ)
    (v a b c u : Writing)
    → next ≡ suc top → a ≡ appended (puts left top) v → WritesOperation names next a b
    → c ≡ appended (loads 6 top) b → waited ≡ source 6 top
    → u ≡ appended (operator_code op waited 4) c → WritesRightOperation names top op left v u
right_joined names top next op left waited v a b c u next_is put come load waited_is done x inner y
    behind h =
    let e = numbered_expression names (Binary x inner y) in
    let here : a.tokens ≡ spelled_expression x
    (Infix inner ∷ spelled_expression y (Mark CloseParenthesis ∷ behind)) =
    ap (λ (z : Writing). z.tokens) put ∙ h in
    let first = puts left top in
    let last = loads 6 top ++ operator_code op (source 6 top) 4 in
    let two = come x inner y behind here
    ∙ ap (λ (z : Writing). record { tokens = behind; code = z.code ++ expression_code next e }) put
    ∙ ap (λ n. record { tokens = behind; code = (v.code ++ first) ++ expression_code n e })
    next_is in
    let own = expression_code (suc top) e in
    done ∙ ap (appended (operator_code op waited 4)) (load ∙ ap (appended (loads 6 top)) two)
    ∙ ap (λ r. record {
      tokens = behind;
      code = (((v.code ++ first) ++ own) ++ loads 6 top) ++ operator_code op r 4;
    }) waited_is
    ∙ ap (λ is. record { tokens = behind; code = is })
    (append_assoc ((v.code ++ first) ++ own) (loads 6 top) (operator_code op (source 6 top) 4)
    ∙ append_assoc (v.code ++ first) own last ∙ append_assoc v.code first (own ++ last))

-- both operands, and the parenthesis behind them
pub operation_joined : (names : List (List ℕ)) (top reg : ℕ) (op : Operator) (w a b c u : Writing)
    → WritesLeft names top reg w a → op ≡ operator_of a.tokens → b ≡ skipped a
    → WritesRight names top op reg b c → u ≡ skipped c → WritesOperation names top w u
operation_joined names top reg op w a b c u left op_is b_is right u_is x inner y behind h =
    let ex = numbered_expression names x in
    let ey = numbered_expression names y in
    let rest = spelled_expression y (Mark CloseParenthesis ∷ behind) in
    let begin = left_code ex (expression_code top ex) in
    let own = expression_code (suc top) ey in
    let one = left x (Infix inner ∷ rest) h in
    let op_now : op ≡ inner = op_is ∙ ap (λ (z : Writing). operator_of z.tokens) (one.0) in
    let b_now : b ≡ record { tokens = rest; code = w.code ++ begin } = b_is ∙ ap skipped (one.0) in
    let two = right y (Mark CloseParenthesis ∷ behind) (ap (λ (z : Writing). z.tokens) b_now) in
    u_is ∙ ap skipped two
    ∙ ap (λ (z : Writing). record {
      tokens = behind;
      code = z.code ++ right_code top op reg ey own;
    }) b_now
    ∙ ap (λ o. record {
      tokens = behind;
      code = (w.code ++ begin) ++ right_code top o reg ey own;
    }) op_now
    ∙ ap (λ r. record {
      tokens = behind;
      code = (w.code ++ begin) ++ right_code top inner r ey own;
    }) (one.1)
    ∙ ap (λ is. record { tokens = behind; code = is })
    (append_assoc w.code begin (right_code top inner (left_register ex) ey own))
