-- What is known of texts that are accepted.
use Rattle.std.specs.Prelude.{◌≡◌, ℕ, suc, ◌+◌, ◌^◌, ◌<◌, ◌≤◌, Bool, true, false, cond, ◌&&◌, nat_lt, nat_le, List, []}
use Rattle.std.specs.Prelude.{◌∷◌, ◌++◌, length, map, position, Option, None, Some, Result, Ok, Err, ⊤}
use Rattle.std.specs.List.{list_all}
use Rattle.std.proofs.Common.{arith, refl, subst, sym, ap}
use Rattle.std.proofs.lemmas.Bool.Decides.{nat_tests}
use Rattle.std.proofs.lemmas.List.{length-append}
use Rattle.std.proofs.lemmas.List.Quantifiers.{position-Some}
use Rattle.graft_texts.specs.World.{same_bytes}
use Rattle.graft_texts.specs.Bytes as bytes
use Rattle.graft_texts.specs.Callables.{callables, callable_id}
use Rattle.graft_texts.specs.Bytes.{is_label}
use Rattle.graft_texts.specs.declared.language.LangKind.{LangKind}
use Rattle.graft_texts.specs.declared.language.LangKind.TheVariants.{NoProgram, TooManyTokens}
use Rattle.graft_texts.specs.declared.language.Operator.{Operator}
use Rattle.graft_texts.specs.declared.language.Symbol.{Symbol}
use Rattle.graft_texts.specs.declared.language.Symbol.TheVariants.{Else, Semicolon, OpenBrace, CloseBrace}
use Rattle.graft_texts.specs.declared.language.Symbol.TheVariants.{CloseParenthesis, Comma}
use Rattle.graft_texts.specs.declared.language.Goal.{Goal}
use Rattle.graft_texts.specs.declared.language.Goal.TheVariants.{EndOfAssignment}
use Rattle.graft_texts.specs.LanguageTokens.{Token, Number, Variable, Callable, Infix, Mark, token_of, by_symbol}
use Rattle.graft_texts.specs.LanguageTokens.{by_operator, by_callable, by_number, symbol_of, operator_of, same_symbol}
use Rattle.graft_texts.specs.LanguageWords.{Word, words, last_line}
use Rattle.graft_texts.specs.LanguageGrammar as g
use Rattle.graft_texts.specs.LanguageGrammar.{follow, follow_awaited, is_met}
use Rattle.graft_texts.specs.LanguageReading.{Reading, Syntax, LineFault, first_reading, with_name, names_after}
use Rattle.graft_texts.specs.LanguageReading.{with_token, read_on, checked, followed, fault_of, read_token, read_by}
use Rattle.graft_texts.specs.LanguageReading.{read_words, ended, read, refused, or_first, number_of}
use Rattle.graft_texts.specs.LanguageMeaning as l
use Rattle.graft_lang.specs.Placing.{Fits}
use Rattle.graft_lang.specs.Going.{AllFit, FitsProgram}
use Rattle.graft_lang.specs.Sizes.{expression_tokens, argument_tokens, program_tokens, semicolons, CallsFit}
use Rattle.graft_lang.specs.Accepted.{AcceptedProgramsRun}
use Rattle.graft_lang.proofs.Whole.{programs_run}
use Rattle.graft_lang.proofs.Boxing.{programs_are_boxed}

-- ---- tokens

-- numbers are words, and ids those of callables
abbrev pub TokenFits : Token → Type 0
TokenFits (Number n) = n < 2 ^ 32
TokenFits (Callable id) = id < 16
TokenFits _ = ⊤

abbrev pub AllTokens : List Token → Type 0
AllTokens [] = ⊤
AllTokens (t ∷ ts) = TokenFits t × AllTokens ts

same_token : (t u : Token) → Some t ≡ Some u → TokenFits t → TokenFits u
same_token t u h fits = let e : t ≡ u = cc in subst TokenFits e fits

number_small : (word : List ℕ) (n : ℕ) → bytes.number_of word ≡ Some n → n < 2 ^ 32
number_small word n h =
    by (nat_le 1 (length word) && nat_le (length word) 10 && list_all bytes.is_digit word)
    (nat_lt (bytes.digits_value word) (2 ^ 32)) (bytes.digits_value word)
    (λ e. below (bytes.digits_value word) e) h
  where
    below : (v : ℕ) → nat_lt v (2 ^ 32) ≡ true → v < 2 ^ 32
    below v e = grind (arith, nat_tests, e)

    by : (a b : Bool) (v : ℕ) → (b ≡ true → v < 2 ^ 32) → cond (a && b) (Some v) None ≡ Some n → n < 2 ^ 32
    by true true v low k = let e : v ≡ n = cc in subst (λ x. x < 2 ^ 32) e (low refl)
    by true false v low k = absurd cc
    by false true v low k = absurd cc
    by false false v low k = absurd cc

token_fits : (word : List ℕ) (t : Token) → token_of word ≡ Some t → TokenFits t
token_fits word t h = by_s (symbol_of word) h
  where
    by_v : (b : Bool) → cond b (Some (Variable word)) None ≡ Some t → TokenFits t
    by_v true k = same_token (Variable word) t k tt
    by_v false k = absurd cc

    by_n : (o : Option ℕ) → bytes.number_of word ≡ o → by_number o word ≡ Some t → TokenFits t
    by_n (Some n) e k = same_token (Number n) t k (number_small word n e)
    by_n None e k = by_v (is_label word) k

    by_c : (o : Option ℕ) → callable_id word ≡ o → by_callable o word ≡ Some t → TokenFits t
    by_c (Some id) e k = same_token (Callable id) t k (position-Some (same_bytes word) callables id [] e).0
    by_c None e k = by_n (bytes.number_of word) refl k

    by_o : (o : Option Operator) → by_operator o word ≡ Some t → TokenFits t
    by_o (Some op) k = same_token (Infix op) t k tt
    by_o None k = by_c (callable_id word) refl k

    by_s : (o : Option Symbol) → by_symbol o word ≡ Some t → TokenFits t
    by_s (Some s) k = same_token (Mark s) t k tt
    by_s None k = by_o (operator_of word) k

-- ---- semicolons

abbrev pub is_semicolon : Token → Bool
is_semicolon (Mark s) = same_symbol Semicolon s
is_semicolon _ = false

-- 1 or 0
abbrev bit : Bool → ℕ
bit b = cond b 1 0

abbrev pub ends_in : List Token → ℕ
ends_in [] = 0
ends_in (t ∷ ts) = cond (is_semicolon t) 1 0 + ends_in ts

ends_in-append : (ts us : List Token) → ends_in (ts ++ us) ≡ ends_in ts + ends_in us
ends_in-append [] us = omega arith
ends_in-append (t ∷ ts) us = let e = ends_in-append ts us in omega (arith, e)

all_append : (ts : List Token) (t : Token) → AllTokens ts → TokenFits t → AllTokens (ts ++ t ∷ [])
all_append [] t h k = (k, tt)
all_append (u ∷ ts) t h k = (h.0, all_append ts t h.1 k)

-- ---- one token more

with_name_more : (name : List ℕ) (names : List (List ℕ)) → length (with_name name names) ≤ suc (length names)
with_name_more name [] = omega arith
with_name_more name (n ∷ names) = by (same_bytes name n) (with_name_more name names)
  where
    by : (b : Bool) → length (with_name name names) ≤ suc (length names) →
        length (cond b (n ∷ names) (n ∷ with_name name names)) ≤ suc (suc (length names))
    by true h = omega arith
    by false h = omega (arith, h)

with_name_least : (name : List ℕ) (names : List (List ℕ)) → length names ≤ length (with_name name names)
with_name_least name [] = omega arith
with_name_least name (n ∷ names) = by (same_bytes name n) (with_name_least name names)
  where
    by : (b : Bool) → length names ≤ length (with_name name names) →
        suc (length names) ≤ length (cond b (n ∷ names) (n ∷ with_name name names))
    by true h = omega arith
    by false h = omega (arith, h)

-- what is learnt behind a token
record Learns (t : Token) (old new : List (List ℕ)) : Type 0 where
  more : length new ≤ length old + cond (is_semicolon t) 1 0
  least : length old ≤ length new

same_names : (t : Token) (names : List (List ℕ)) → Learns t names names
same_names t names = record { more = omega arith; least = omega arith }

learns : (goals next : List Goal) (assigned : List ℕ) (names : List (List ℕ)) (t : Token) → follow goals t ≡ Ok next
    → Learns t names (names_after goals assigned names)
learns [] next assigned names t h = same_names t names
learns (EndOfAssignment ∷ below) next assigned names (Mark s) h = by (same_symbol Semicolon s) refl h
  where
    by : (b : Bool) → same_symbol Semicolon s ≡ b → cond b (Ok below) (Err NoProgram) ≡ Ok next
        → Learns (Mark s) names (with_name assigned names)
    by true e k =
        let one : bit (same_symbol Semicolon s) ≡ bit true = ap bit e in
        record { more = omega (arith, with_name_more assigned names, one); least = with_name_least assigned names }
    by false e k = absurd cc
learns (EndOfAssignment ∷ below) next assigned names (Number n) h = absurd cc
learns (EndOfAssignment ∷ below) next assigned names (Variable n) h = absurd cc
learns (EndOfAssignment ∷ below) next assigned names (Callable n) h = absurd cc
learns (EndOfAssignment ∷ below) next assigned names (Infix n) h = absurd cc
learns (_ ∷ below) next assigned names t h = same_names t names

-- what is known while a text is read
record Kept (r : Reading) : Type 0 where
  fits : AllTokens r.tokens
  least : 4 ≤ length r.names
  few : length r.tokens ≤ 120 → length r.names ≤ 4 + ends_in r.tokens

kept_on : (r : Reading) (t : Token) (goals : List Goal) → TokenFits t →
    Learns t r.names (names_after r.goals r.assigned r.names) → Kept r
    → Kept (read_on r t goals)
kept_on r t goals fits learnt kept = by (nat_lt 120 (length r.tokens)) refl
  where
    high : nat_lt 120 (length r.tokens) ≡ true → 120 < length r.tokens
    high e = grind (arith, nat_tests, e)

    names : List (List ℕ)
    names = names_after r.goals r.assigned r.names

    KeptBy : List Token → Type 0
    KeptBy ts = AllTokens ts × (length ts ≤ 120 → length (names_after r.goals r.assigned r.names) ≤ 4 + ends_in ts)

    whole : AllTokens (with_token r.tokens t) → (length (with_token r.tokens t) ≤ 120 →
        length (names_after r.goals r.assigned r.names) ≤ 4 + ends_in (with_token r.tokens t))
        → Kept (read_on r t goals)
    whole a b = record { fits = a; least = omega (arith, kept.least, learnt.least); few = b }

    by : (b : Bool) → nat_lt 120 (length r.tokens) ≡ b → Kept (read_on r t goals)
    by true e =
        let is : with_token r.tokens t ≡ r.tokens = ap (λ b. cond b r.tokens (r.tokens ++ t ∷ [])) e in
        whole (subst AllTokens (sym is) kept.fits)
        (λ low. absurd (omega (arith, high e, subst (λ ts. length ts ≤ 120) is low)))
    by false e =
        let is : with_token r.tokens t ≡ r.tokens ++ t ∷ [] = ap (λ b. cond b r.tokens (r.tokens ++ t ∷ [])) e in
        whole (subst AllTokens (sym is) (all_append r.tokens t kept.fits fits))
        (λ low.
        let short : length (r.tokens ++ t ∷ []) ≤ 120 = subst (λ ts. length ts ≤ 120) is low in
        let long = length-append r.tokens (t ∷ []) in
        let before = kept.few (omega (arith, short, long)) in
        let sum = ends_in-append r.tokens (t ∷ []) in
        subst (λ ts. length (names_after r.goals r.assigned r.names) ≤ 4 + ends_in ts) (sym is)
        (omega (arith, before, sum, learnt.more)))

kept_token : (r s : Reading) (t : Token) → read_token r t ≡ Ok s → TokenFits t → Kept r → Kept s
kept_token r s t h fits kept = by (follow r.goals t) refl h
  where
    by : (f : Result (List Goal) LangKind) → follow r.goals t ≡ f → followed r t f ≡ Ok s → Kept s
    by (Err kind) e k = absurd cc
    by (Ok goals) e k = inner (fault_of r.goals r.names t) k
      where
        inner : (o : Option LangKind) → checked r t o goals ≡ Ok s → Kept s
        inner (Some kind) k = absurd cc
        inner None k =
            let is : read_on r t goals ≡ s = cc in
            subst Kept is (kept_on r t goals fits (learns r.goals goals r.assigned r.names t e) kept)

kept_words : (ws : List Word) (r s : Reading) → read_words r ws ≡ Ok s → Kept r → Kept s
kept_words [] r s h kept = let is : r ≡ s = cc in subst Kept is kept
kept_words (w ∷ ws) r s h kept = by (token_of w.bytes) refl h (λ u k. kept_words ws u s k)
  where
    inner : (t : Token) → token_of w.bytes ≡ Some t → (f : Result Reading LangKind) → read_token r t ≡ f
        → elim f as (λ _. Result Reading LineFault) [
          | Err kind ↦ Err (record { line = w.line; kind = kind })
          | Ok u ↦ read_words u ws
        ] ≡ Ok s
        → ((u : Reading) → read_words u ws ≡ Ok s → Kept u → Kept s) → Kept s
    inner t e (Err kind) is k later = absurd cc
    inner t e (Ok u) is k later = later u k (kept_token r u t is (token_fits w.bytes t e) kept)

    by : (o : Option Token) → token_of w.bytes ≡ o
        → elim (read_by r o) as (λ _. Result Reading LineFault) [
          | Err kind ↦ Err (record { line = w.line; kind = kind })
          | Ok u ↦ read_words u ws
        ] ≡ Ok s
        → ((u : Reading) → read_words u ws ≡ Ok s → Kept u → Kept s) → Kept s
    by None e k later = absurd cc
    by (Some t) e k later = inner t e (read_token r t) refl k later

-- ---- an accepted text

pub record IsAccepted (s : Syntax) : Type 0 where
  pub fits : AllTokens s.tokens
  pub short : length s.tokens ≤ 120
  pub least : 4 ≤ length s.names
  pub few : length s.names ≤ 4 + ends_in s.tokens

pub accepted : (text : List ℕ) (s : Syntax) → read text ≡ Ok s → IsAccepted s
accepted text s h = by (read_words first_reading (words text)) refl h
  where
    first : Kept first_reading
    first = record { fits = tt; least = omega arith; few = λ k. omega arith }

    at_end : (r : Reading) → Kept r → (a b : Bool) → nat_lt 120 (length r.tokens) ≡ b
        → cond a (cond b (refused (last_line text) TooManyTokens) (Ok (record { tokens = r.tokens; names = r.names })))
        (refused (last_line text) NoProgram) ≡ Ok s → IsAccepted s
    at_end r kept false b e k = absurd cc
    at_end r kept true true e k = absurd cc
    at_end r kept true false e k =
        let low : length r.tokens ≤ 120 = below (length r.tokens) e in
        let t : Syntax = record { tokens = r.tokens; names = r.names } in
        let is : t ≡ s = cc in
        subst IsAccepted is (record { fits = kept.fits; short = low; least = kept.least; few = kept.few low })
      where
        below : (n : ℕ) → nat_lt 120 n ≡ false → n ≤ 120
        below n e = grind (arith, nat_tests, e)

    by : (f : Result Reading LineFault) → read_words first_reading (words text) ≡ f →
        ended (last_line text) f ≡ Ok s → IsAccepted s
    by (Err fault) e k = absurd cc
    by (Ok r) e k =
        at_end r (kept_words (words text) first_reading r e first) (is_met r.goals)
        (nat_lt 120 (length r.tokens)) refl k

-- ---- programs of such tokens

tokens_positive : (e : l.Expression) → 1 ≤ expression_tokens e
tokens_positive (l.Number n) = omega arith
tokens_positive (l.Variable i) = omega arith
tokens_positive (l.Binary a op b) = omega arith

number_within : (names : List (List ℕ)) (name : List ℕ) → 4 ≤ length names → number_of names name < length names
number_within names name least = by (position (same_bytes name) names) refl
  where
    by : (o : Option ℕ) → position (same_bytes name) names ≡ o → or_first o < length names
    by None e = omega (arith, least)
    by (Some i) e = (position-Some (same_bytes name) names i [] e).0

expression_fits : (names : List (List ℕ)) (e : g.Expression) (behind : List Token) (top : ℕ) →
    4 ≤ length names → length names ≤ top
    → top + expression_tokens (l.numbered_expression names e) ≤ 1024 → AllTokens (g.spelled_expression e behind)
    → Fits (length names) top (l.numbered_expression names e) × AllTokens behind
expression_fits names (g.Literal n) behind top least low room h = (h.0, h.1)
expression_fits names (g.Named name) behind top least low room h =
    let w = number_within names name least in ((w, low, omega (arith, w, low, room)), h.1)
expression_fits names (g.Binary a op b) behind top least low room h =
    let left = expression_fits names a
    (Infix op ∷ g.spelled_expression b (Mark CloseParenthesis ∷ behind)) top least low
    (omega (arith, room)) h.1 in
    let right = expression_fits names b (Mark CloseParenthesis ∷ behind) (suc top) least
    (omega (arith, low)) (omega (arith, room)) left.1.1 in
    ((omega (arith, room), low, left.0, right.0), right.1.1)

more_fits : (names : List (List ℕ)) (es : List g.Expression) (behind : List Token) (top : ℕ) →
    4 ≤ length names → length names ≤ top
    → top + argument_tokens (map (l.numbered_expression names) es) ≤ 1024 → AllTokens (g.spelled_more es behind)
    → AllFit (length names) top (map (l.numbered_expression names) es) × AllTokens behind
more_fits names [] behind top least low room h = (tt, h.1)
more_fits names (e ∷ es) behind top least low room h =
    let one = tokens_positive (l.numbered_expression names e) in
    let first = expression_fits names e (g.spelled_more es behind) top least low (omega (arith, room)) h.1 in
    let rest = more_fits names es behind (suc top) least (omega (arith, low)) (omega (arith, room, one)) first.1 in
    ((omega (arith, room, one), first.0, rest.0), rest.1)

arguments_fit : (names : List (List ℕ)) (es : List g.Expression) (behind : List Token) (top : ℕ) →
    4 ≤ length names → length names ≤ top
    → top + argument_tokens (map (l.numbered_expression names) es) ≤ 1024 → AllTokens (g.spelled_arguments es behind)
    → AllFit (length names) top (map (l.numbered_expression names) es) × AllTokens behind
arguments_fit names [] behind top least low room h = (tt, h.1)
arguments_fit names (e ∷ es) behind top least low room h =
    let one = tokens_positive (l.numbered_expression names e) in
    let first = expression_fits names e (g.spelled_more es behind) top least low (omega (arith, room)) h in
    let rest = more_fits names es behind (suc top) least (omega (arith, low)) (omega (arith, room, one)) first.1 in
    ((omega (arith, room, one), first.0, rest.0), rest.1)

as_many_tokens : (es : List l.Expression) → length es ≤ argument_tokens es
as_many_tokens [] = omega arith
as_many_tokens (e ∷ es) = omega (arith, as_many_tokens es, tokens_positive e)

program_fits : (names : List (List ℕ)) (p : g.Program) (behind : List Token) → 4 ≤ length names
    → length names + program_tokens (l.numbered names p) ≤ 1023 → AllTokens (g.spelled_statements p behind)
    → FitsProgram (length names) (l.numbered names p) × CallsFit (l.numbered names p) × AllTokens behind
program_fits names g.Done behind least room h = (tt, tt, h)
program_fits names (g.Assigns name e p) behind least room h =
    let first = expression_fits names e (Mark Semicolon ∷ g.spelled_statements p behind)
    (length names) least (omega arith) (omega (arith, room)) h.1.1 in
    let rest = program_fits names p behind least (omega (arith, room)) first.1.1 in
    ((number_within names name least, omega (arith, room), first.0, rest.0), rest.1, rest.2)
program_fits names (g.Calls name id es p) behind least room h =
    let first = arguments_fit names es (Mark Semicolon ∷ g.spelled_statements p behind)
    (length names) least (omega arith) (omega (arith, room)) h.1.1.1.1 in
    let rest = program_fits names p behind least (omega (arith, room)) first.1.1 in
    let many = as_many_tokens (map (l.numbered_expression names) es) in
    ((number_within names name least, omega (arith, room, many), first.0, rest.0), (h.1.1.0, rest.1), rest.2)
program_fits names (g.When e body p) behind least room h =
    let first = expression_fits names e (Mark OpenBrace ∷ g.spelled_statements body
    (Mark CloseBrace ∷ g.spelled_statements p behind)) (length names) least (omega arith)
    (omega (arith, room)) h.1 in
    let inner = program_fits names body (Mark CloseBrace ∷ g.spelled_statements p behind) least
    (omega (arith, room)) first.1.1 in
    let rest = program_fits names p behind least (omega (arith, room)) inner.2.1 in
    ((first.0, inner.0, rest.0), (inner.1, rest.1), rest.2)
program_fits names (g.Either e body other p) behind least room h =
    let last = Mark Else ∷ Mark OpenBrace ∷ g.spelled_statements other
    (Mark CloseBrace ∷ g.spelled_statements p behind) in
    let first = expression_fits names e
    (Mark OpenBrace ∷ g.spelled_statements body (Mark CloseBrace ∷ last)) (length names) least
    (omega arith) (omega (arith, room)) h.1 in
    let inner = program_fits names body (Mark CloseBrace ∷ last) least (omega (arith, room)) first.1.1 in
    let outer = program_fits names other (Mark CloseBrace ∷ g.spelled_statements p behind) least
    (omega (arith, room)) inner.2.1.1.1 in
    let rest = program_fits names p behind least (omega (arith, room)) outer.2.1 in
    ((first.0, inner.0, outer.0, rest.0), (inner.1, outer.1, rest.1), rest.2)
program_fits names (g.Loops e body p) behind least room h =
    let first = expression_fits names e (Mark OpenBrace ∷ g.spelled_statements body
    (Mark CloseBrace ∷ g.spelled_statements p behind)) (length names) least (omega arith)
    (omega (arith, room)) h.1 in
    let inner = program_fits names body (Mark CloseBrace ∷ g.spelled_statements p behind) least
    (omega (arith, room)) first.1.1 in
    let rest = program_fits names p behind least (omega (arith, room)) inner.2.1 in
    ((first.0, inner.0, rest.0), (inner.1, rest.1), rest.2)
program_fits names (g.Traps code p) behind least room h =
    let rest = program_fits names p behind least (omega (arith, room)) h.1.1.1 in (rest.0, rest.1, rest.2)
program_fits names (g.Answers e f p) behind least room h =
    let one = tokens_positive (l.numbered_expression names e) in
    let first = expression_fits names e
    (Mark Comma ∷ g.spelled_expression f (Mark Semicolon ∷ g.spelled_statements p behind))
    (length names) least (omega arith) (omega (arith, room)) h.1 in
    let second = expression_fits names f (Mark Semicolon ∷ g.spelled_statements p behind)
    (suc (length names)) least (omega arith) (omega (arith, room, one)) first.1.1 in
    let rest = program_fits names p behind least (omega (arith, room)) second.1.1 in
    ((omega (arith, room, one), first.0, second.0, rest.0), rest.1, rest.2)

-- ---- counting

-- a list of tokens has so many tokens and semicolons more than another one
pub record Counts (n k : ℕ) (ts us : List Token) : Type 0 where
  pub tokens_are : n + length us ≤ length ts
  pub ends_are : ends_in ts ≡ k + ends_in us

expression_counts : (names : List (List ℕ)) (e : g.Expression) (us : List Token)
    → Counts (expression_tokens (l.numbered_expression names e)) 0 (g.spelled_expression e us) us
expression_counts names (g.Literal n) us = record { tokens_are = omega arith; ends_are = omega arith }
expression_counts names (g.Named name) us = record { tokens_are = omega arith; ends_are = omega arith }
expression_counts names (g.Binary a op b) us =
    let right = expression_counts names b (Mark CloseParenthesis ∷ us) in
    let left = expression_counts names a (Infix op ∷ g.spelled_expression b (Mark CloseParenthesis ∷ us)) in
    record {
      tokens_are = omega (arith, left.tokens_are, right.tokens_are);
      ends_are = omega (arith, left.ends_are, right.ends_are);
    }

more_counts : (names : List (List ℕ)) (es : List g.Expression) (us : List Token)
    → Counts (argument_tokens (map (l.numbered_expression names) es) + 1) 0 (g.spelled_more es us) us
more_counts names [] us = record { tokens_are = omega arith; ends_are = omega arith }
more_counts names (e ∷ es) us =
    let rest = more_counts names es us in
    let first = expression_counts names e (g.spelled_more es us) in
    record {
      tokens_are = omega (arith, first.tokens_are, rest.tokens_are);
      ends_are = omega (arith, first.ends_are, rest.ends_are);
    }

arguments_count : (names : List (List ℕ)) (es : List g.Expression) (us : List Token)
    → Counts (argument_tokens (map (l.numbered_expression names) es) + 1) 0 (g.spelled_arguments es us) us
arguments_count names [] us = record { tokens_are = omega arith; ends_are = omega arith }
arguments_count names (e ∷ es) us =
    let rest = more_counts names es us in
    let first = expression_counts names e (g.spelled_more es us) in
    record {
      tokens_are = omega (arith, first.tokens_are, rest.tokens_are);
      ends_are = omega (arith, first.ends_are, rest.ends_are);
    }

pub program_counts : (names : List (List ℕ)) (p : g.Program) (us : List Token)
    → Counts (program_tokens (l.numbered names p)) (semicolons (l.numbered names p)) (g.spelled_statements p us) us
program_counts names g.Done us = record { tokens_are = omega arith; ends_are = omega arith }
program_counts names (g.Assigns name e p) us =
    let rest = program_counts names p us in
    let first = expression_counts names e (Mark Semicolon ∷ g.spelled_statements p us) in
    record {
      tokens_are = omega (arith, first.tokens_are, rest.tokens_are);
      ends_are = omega (arith, first.ends_are, rest.ends_are);
    }
program_counts names (g.Calls name id es p) us =
    let rest = program_counts names p us in
    let first = arguments_count names es (Mark Semicolon ∷ g.spelled_statements p us) in
    record {
      tokens_are = omega (arith, first.tokens_are, rest.tokens_are);
      ends_are = omega (arith, first.ends_are, rest.ends_are);
    }
program_counts names (g.When e body p) us =
    let rest = program_counts names p us in
    let inner = program_counts names body (Mark CloseBrace ∷ g.spelled_statements p us) in
    let first = expression_counts names e (Mark OpenBrace ∷ g.spelled_statements body
    (Mark CloseBrace ∷ g.spelled_statements p us)) in
    record {
      tokens_are = omega (arith, first.tokens_are, inner.tokens_are, rest.tokens_are);
      ends_are = omega (arith, first.ends_are, inner.ends_are, rest.ends_are);
    }
program_counts names (g.Either e body other p) us =
    let rest = program_counts names p us in
    let outer = program_counts names other (Mark CloseBrace ∷ g.spelled_statements p us) in
    let last = Mark Else ∷ Mark OpenBrace ∷ g.spelled_statements other (Mark CloseBrace ∷ g.spelled_statements p us) in
    let inner = program_counts names body (Mark CloseBrace ∷ last) in
    let first = expression_counts names e (Mark OpenBrace ∷ g.spelled_statements body (Mark CloseBrace ∷ last)) in
    record {
      tokens_are = omega (arith, first.tokens_are, inner.tokens_are, outer.tokens_are, rest.tokens_are);
      ends_are = omega (arith, first.ends_are, inner.ends_are, outer.ends_are, rest.ends_are);
    }
program_counts names (g.Loops e body p) us =
    let rest = program_counts names p us in
    let inner = program_counts names body (Mark CloseBrace ∷ g.spelled_statements p us) in
    let first = expression_counts names e (Mark OpenBrace ∷ g.spelled_statements body
    (Mark CloseBrace ∷ g.spelled_statements p us)) in
    record {
      tokens_are = omega (arith, first.tokens_are, inner.tokens_are, rest.tokens_are);
      ends_are = omega (arith, first.ends_are, inner.ends_are, rest.ends_are);
    }
program_counts names (g.Traps code p) us =
    let rest = program_counts names p us in
    record { tokens_are = omega (arith, rest.tokens_are); ends_are = omega (arith, rest.ends_are) }
program_counts names (g.Answers e f p) us =
    let rest = program_counts names p us in
    let second = expression_counts names f (Mark Semicolon ∷ g.spelled_statements p us) in
    let first = expression_counts names e
    (Mark Comma ∷ g.spelled_expression f (Mark Semicolon ∷ g.spelled_statements p us)) in
    record {
      tokens_are = omega (arith, first.tokens_are, second.tokens_are, rest.tokens_are);
      ends_are = omega (arith, first.ends_are, second.ends_are, rest.ends_are);
    }

pub few_ends : (p : l.Program) → semicolons p ≤ program_tokens p
few_ends l.Done = omega arith
few_ends (l.Assigns i e p) = omega (arith, few_ends p)
few_ends (l.Calls i id es p) = omega (arith, few_ends p)
few_ends (l.When e body p) = omega (arith, few_ends body, few_ends p)
few_ends (l.Either e body other p) = omega (arith, few_ends body, few_ends other, few_ends p)
few_ends (l.Loops e body p) = omega (arith, few_ends body, few_ends p)
few_ends (l.Traps code p) = omega (arith, few_ends p)
few_ends (l.Answers e f p) = omega (arith, few_ends p)

-- ---- the law

pub accepted_programs_run : AcceptedProgramsRun
accepted_programs_run text s p h is =
    let a = accepted text s h in
    let q = l.numbered s.names p in
    let counts = program_counts s.names p [] in
    let ends : ends_in (g.spelled p) ≡ ends_in s.tokens = ap ends_in is in
    let long : length (g.spelled p) ≡ length s.tokens = ap length is in
    let few : program_tokens q ≤ 120 = omega (arith, counts.tokens_are, long, a.short) in
    let variables : length s.names ≤ 4 + semicolons q = omega (arith, counts.ends_are, ends, a.few) in
    let low = few_ends q in
    let fits = program_fits s.names p [] a.least
    (omega (arith, few, variables, low)) (subst AllTokens (sym is) a.fits) in (
      programs_run (length s.names) q a.least (omega (arith, few, variables, low)) fits.0,
      programs_are_boxed (length s.names) q a.least variables few fits.1,
    )
