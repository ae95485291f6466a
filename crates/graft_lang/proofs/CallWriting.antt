-- The code of a call is what its tokens say.
use Rattle.std.specs.Prelude.{◌≡◌, ℕ, suc, ◌+◌, Bool, true, false, cond, nat_lt, List, [], ◌∷◌, ◌++◌, length}
use Rattle.std.specs.Prelude.{map, drop}
use Rattle.std.proofs.Common.{arith, sym, ap, ◌∙◌}
use Rattle.std.proofs.lemmas.Bool.Decides.{nat_tests}
use Rattle.std.proofs.lemmas.List.{append_assoc, append-nil}
use Rattle.graft_texts.specs.declared.Instr.{Instr}
use Rattle.graft_texts.specs.declared.Op.TheVariants.{Li, Call}
use Rattle.graft_texts.specs.Boxed.{instr}
use Rattle.graft_texts.specs.declared.language.Symbol.TheVariants.{Semicolon}
use Rattle.graft_texts.specs.LanguageTokens.{Token, Mark}
use Rattle.graft_texts.specs.LanguageGrammar.{Expression, spelled_arguments}
use Rattle.graft_texts.specs.LanguageMeaning.{numbered_expression}
use Rattle.graft_lang.specs.Code.{fetches, puts, arguments_code, registers_code}
use Rattle.graft_lang.specs.Writing.{Writing, skipped, appended, register_code, call_code, WritesArguments}
use Rattle.graft_lang.specs.Writing.{WritesCall}

-- ---- the registers of arguments

-- the code of one register, where it is known whether there is such an argument
one_register : (reg top count : ℕ) (b : Bool) → nat_lt reg count ≡ b
    → register_code reg top count
    ≡ cond b (fetches reg (top + reg)) (instr Li reg 0 0 0 ∷ [])
one_register reg top count b e =
    ap (λ x. cond x (fetches reg (top + reg)) (instr Li reg 0 0 0 ∷ [])) e

-- an argument from the slot at this distance
one_fetched : (reg top slot count : ℕ) → nat_lt reg count ≡ true → top + reg ≡ slot
    → register_code reg top count ≡ fetches reg slot
one_fetched reg top slot count e same =
    one_register reg top count true e ∙ ap (fetches reg) same

joined : (a b c d e f : List Instr) → a ≡ d → b ≡ e → c ≡ f → a ++ (b ++ c) ≡ d ++ (e ++ f)
joined a b c d e f first second third =
    ap (λ x. x ++ (b ++ c)) first ∙ ap (λ x. d ++ (x ++ c)) second
    ∙ ap (λ x. d ++ (e ++ x)) third

-- three registers
abbrev three : (top count : ℕ) → List Instr
three top count = register_code 0 top count ++ (register_code 1 top count ++ register_code 2 top count)

three_written : (names : List (List ℕ)) (top : ℕ) (es : List Expression)
    → three top (length es) ≡ registers_code 0 top 3 (map (numbered_expression names) es)
three_written names top [] =
    joined _ _ _ (instr Li 0 0 0 0 ∷ []) (instr Li 1 0 0 0 ∷ []) (instr Li 2 0 0 0 ∷ [])
    (one_register 0 top 0 false (grind (arith, nat_tests)))
    (one_register 1 top 0 false (grind (arith, nat_tests)))
    (one_register 2 top 0 false (grind (arith, nat_tests)))
three_written names top (e ∷ []) =
    joined _ _ _ (fetches 0 top) (instr Li 1 0 0 0 ∷ []) (instr Li 2 0 0 0 ∷ [])
    (one_fetched 0 top top 1 (grind (arith, nat_tests)) (omega arith))
    (one_register 1 top 1 false (grind (arith, nat_tests)))
    (one_register 2 top 1 false (grind (arith, nat_tests)))
three_written names top (e ∷ f ∷ []) =
    joined _ _ _ (fetches 0 top) (fetches 1 (suc top)) (instr Li 2 0 0 0 ∷ [])
    (one_fetched 0 top top 2 (grind (arith, nat_tests)) (omega arith))
    (one_fetched 1 top (suc top) 2 (grind (arith, nat_tests)) (omega arith))
    (one_register 2 top 2 false (grind (arith, nat_tests)))
three_written names top (e ∷ f ∷ g ∷ es) =
    let n = length (e ∷ f ∷ g ∷ es) in
    joined _ _ _ (fetches 0 top) (fetches 1 (suc top)) (fetches 2 (suc (suc top)))
    (one_fetched 0 top top n (grind (arith, nat_tests)) (omega arith))
    (one_fetched 1 top (suc top) n (grind (arith, nat_tests)) (omega arith))
    (one_fetched 2 top (suc (suc top)) n (grind (arith, nat_tests)) (omega arith))
    ∙ ap (λ x. fetches 0 top ++ (fetches 1 (suc top) ++ x)) (sym (append-nil (fetches 2 (suc (suc top)))))

-- ---- the call

chained : (z a b c k : List Instr)
    → (((z ++ a) ++ b) ++ c) ++ k ≡ z ++ ((a ++ (b ++ c)) ++ k)
chained z a b c k =
    append_assoc ((z ++ a) ++ b) c k ∙ append_assoc (z ++ a) b (c ++ k)
    ∙ append_assoc z a (b ++ (c ++ k))
    ∙ ap (λ x. z ++ (a ++ x)) (sym (append_assoc b c k))
    ∙ ap (λ x. z ++ x) (sym (append_assoc a (b ++ c) k))

pub call_written : (names : List (List ℕ)) (top i id count : ℕ)
    (w v a r0 r1 r2 c p u : Writing)
    → v ≡ skipped w → WritesArguments names top v a count
    → r0 ≡ appended (register_code 0 top count) a
    → r1 ≡ appended (register_code 1 top count) r0
    → r2 ≡ appended (register_code 2 top count) r1
    → c ≡ appended (instr Call 0 0 0 id ∷ []) r2 → p ≡ appended (puts 0 i) c → u ≡ skipped p
    → WritesCall names top i id w u
call_written names top i id count w v a r0 r1 r2 c p u v_is done r0_is r1_is r2_is c_is p_is u_is es
    behind h =
    let xs = map (numbered_expression names) es in
    let first = arguments_code top xs in
    let zero = register_code 0 top count in
    let one = register_code 1 top count in
    let two = register_code 2 top count in
    let end = instr Call 0 0 0 id ∷ puts 0 i in
    let code : v.code ≡ w.code = ap (λ (x : Writing). x.code) v_is in
    let ts : v.tokens ≡ spelled_arguments es (Mark Semicolon ∷ behind) =
    ap (λ (x : Writing). x.tokens) v_is ∙ ap (drop 1) h in
    let args = done es (Mark Semicolon ∷ behind) ts in
    let all : r2 ≡ record {
      tokens = Mark Semicolon ∷ behind;
      code = (((v.code ++ first) ++ zero) ++ one) ++ two;
    } = r2_is ∙ ap (appended two) (r1_is ∙ ap (appended one) (r0_is ∙ ap (appended zero) args.0)) in
    let last : u ≡ record {
      tokens = behind;
      code = (((((v.code ++ first) ++ zero) ++ one) ++ two) ++ (instr Call 0 0 0 id ∷ [])) ++ puts 0 i;
    } = u_is ∙ ap skipped (p_is
    ∙ ap (appended (puts 0 i)) (c_is ∙ ap (appended (instr Call 0 0 0 id ∷ [])) all)) in
    last
    ∙ ap (λ x. record { tokens = behind; code = x })
    (append_assoc ((((v.code ++ first) ++ zero) ++ one) ++ two) (instr Call 0 0 0 id ∷ []) (puts 0 i)
    ∙ chained (v.code ++ first) zero one two end
    ∙ append_assoc v.code first (three top count ++ end)
    ∙ ap (λ x. x ++ (first ++ (three top count ++ end))) code
    ∙ ap (λ n. w.code ++ (first ++ (three top n ++ end))) args.1
    ∙ ap (λ x. w.code ++ (first ++ (x ++ end))) (three_written names top es))
