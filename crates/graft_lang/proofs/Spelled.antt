-- The tokens of an accepted text spell a program, whose code is short.
use Rattle.std.specs.Prelude.{◌≡◌, ℕ, suc, ◌+◌, ◌-◌, ◌<◌, ◌≤◌, Bool, true, false, cond, nat_lt, List, []}
use Rattle.std.specs.Prelude.{◌∷◌, ◌++◌, length, Option, None, Some, Result, Ok, Err}
use Rattle.std.proofs.Common.{arith, refl, subst, sym, ap, ◌∙◌}
use Rattle.std.proofs.lemmas.Bool.Decides.{nat_tests}
use Rattle.std.proofs.lemmas.List.{length-append, append_assoc}
use Rattle.graft_texts.specs.declared.Instr.{Instr}
use Rattle.graft_texts.specs.World.{Image, plain_image}
use Rattle.graft_texts.specs.Boxed.{boxed_length, boxed_code, rewrite}
use Rattle.graft_texts.specs.declared.language.LangKind.{LangKind}
use Rattle.graft_texts.specs.declared.language.LangKind.TheVariants.{NoProgram, TooManyTokens}
use Rattle.graft_texts.specs.declared.language.Goal.{Goal}
use Rattle.graft_texts.specs.LanguageTokens.{Token, token_of}
use Rattle.graft_texts.specs.LanguageWords.{Word, words, last_line}
use Rattle.graft_texts.specs.LanguageGrammar as g
use Rattle.graft_texts.specs.LanguageGrammar.{follow, follow_all, first_goals, is_met}
use Rattle.graft_texts.specs.LanguageReading.{Reading, Syntax, LineFault, first_reading, with_token, read_on, checked}
use Rattle.graft_texts.specs.LanguageReading.{followed, fault_of, read_token, read_by, read_words, ended, read}
use Rattle.graft_texts.specs.LanguageReading.{refused}
use Rattle.graft_texts.specs.LanguageMeaning as l
use Rattle.graft_texts.specs.LanguageImages.{Behaves, IsCompiled}
use Rattle.graft_syntax.specs.Laws.{IsMet}
use Rattle.graft_syntax.proofs.Filling.{read_tokens_are_spelled}
use Rattle.graft_lang.specs.Sizes.{program_tokens, semicolons}
use Rattle.graft_lang.specs.Code.{puts, zeros_code, prologue, program_code}
use Rattle.graft_lang.specs.Accepted.{AcceptedProgramsRun, AcceptedTextsAreSpelled}
use Rattle.graft_lang.specs.Writing.{Writing, HasRoom, appended, IsWritten}
use Rattle.graft_lang.proofs.Sizes.{programs_are_short, prologue_short, total, boxed_place-total}
use Rattle.graft_lang.proofs.Accepted.{accepted, ends_in, program_counts}

-- ---- a program is spelled

-- tokens, and one more
follow_one : (goals next last : List Goal) (ts : List Token) (t : Token)
    → follow_all goals ts ≡ Ok next → follow next t ≡ Ok last
    → follow_all goals (ts ++ t ∷ []) ≡ Ok last
follow_one goals next last [] t h k =
    let is : goals ≡ next = cc in
    ap (λ (f : Result (List Goal) LangKind). elim f as (λ _. Result (List Goal) LangKind)
    [ Err kind ↦ Err kind | Ok n ↦ Ok n ]) (ap (λ gs. follow gs t) is ∙ k)
follow_one goals next last (u ∷ ts) t h k =
    by (follow goals u) h (λ n e. follow_one n next last ts t e k)
  where
    by : (f : Result (List Goal) LangKind)
        → elim f as (λ _. Result (List Goal) LangKind)
        [ Err kind ↦ Err kind | Ok n ↦ follow_all n ts ] ≡ Ok next
        → ((n : List Goal) → follow_all n ts ≡ Ok next → follow_all n (ts ++ t ∷ []) ≡ Ok last)
        → elim f as (λ _. Result (List Goal) LangKind)
        [ Err kind ↦ Err kind | Ok n ↦ follow_all n (ts ++ t ∷ []) ] ≡ Ok last
    by (Err kind) e later = absurd cc
    by (Ok n) e later = later n e

-- what is known while a text is read: the goals are those behind its tokens
record Follows (r : Reading) : Type 0 where
  goals_are : length r.tokens ≤ 120 → follow_all first_goals r.tokens ≡ Ok r.goals

follows_on : (r : Reading) (t : Token) (goals : List Goal) → follow r.goals t ≡ Ok goals → Follows r
    → Follows (read_on r t goals)
follows_on r t goals is before = by (nat_lt 120 (length r.tokens)) refl
  where
    high : nat_lt 120 (length r.tokens) ≡ true → 120 < length r.tokens
    high e = grind (arith, nat_tests, e)

    by : (b : Bool) → nat_lt 120 (length r.tokens) ≡ b → Follows (read_on r t goals)
    by true e =
        let same : with_token r.tokens t ≡ r.tokens =
        ap (λ b. cond b r.tokens (r.tokens ++ t ∷ [])) e in
        record {
          goals_are = λ low. absurd (omega
              (arith, high e, subst (λ ts. length ts ≤ 120) same low));
        }
    by false e =
        let more : with_token r.tokens t ≡ r.tokens ++ t ∷ [] =
        ap (λ b. cond b r.tokens (r.tokens ++ t ∷ [])) e in
        record {
          goals_are = λ low.
              let short : length (r.tokens ++ t ∷ []) ≤ 120 =
              subst (λ ts. length ts ≤ 120) more low in
              let long = length-append r.tokens (t ∷ []) in
              ap (follow_all first_goals) more
              ∙ follow_one first_goals r.goals goals r.tokens t
              (before.goals_are (omega (arith, short, long))) is;
        }

follows_token : (r s : Reading) (t : Token) → read_token r t ≡ Ok s → Follows r → Follows s
follows_token r s t h before = by (follow r.goals t) refl h
  where
    by : (f : Result (List Goal) LangKind) → follow r.goals t ≡ f → followed r t f ≡ Ok s
        → Follows s
    by (Err kind) e k = absurd cc
    by (Ok goals) e k = inner (fault_of r.goals r.names t) k
      where
        inner : (o : Option LangKind) → checked r t o goals ≡ Ok s → Follows s
        inner (Some kind) k = absurd cc
        inner None k = let is : read_on r t goals ≡ s = cc in
            subst Follows is (follows_on r t goals e before)

follows_words : (ws : List Word) (r s : Reading) → read_words r ws ≡ Ok s → Follows r → Follows s
follows_words [] r s h before = let is : r ≡ s = cc in subst Follows is before
follows_words (w ∷ ws) r s h before = by (token_of w.bytes) h (λ u k. follows_words ws u s k)
  where
    inner : (t : Token) (f : Result Reading LangKind) → read_token r t ≡ f
        → elim f as (λ _. Result Reading LineFault)
        [ Err kind ↦ Err (record { line = w.line; kind = kind }) | Ok u ↦ read_words u ws ] ≡ Ok s
        → ((u : Reading) → read_words u ws ≡ Ok s → Follows u → Follows s) → Follows s
    inner t (Err kind) is k later = absurd cc
    inner t (Ok u) is k later = later u k (follows_token r u t is before)

    by : (o : Option Token)
        → elim (read_by r o) as (λ _. Result Reading LineFault)
        [ Err kind ↦ Err (record { line = w.line; kind = kind }) | Ok u ↦ read_words u ws ] ≡ Ok s
        → ((u : Reading) → read_words u ws ≡ Ok s → Follows u → Follows s) → Follows s
    by None k later = absurd cc
    by (Some t) k later = inner t (read_token r t) refl k later

-- a program may end behind the tokens of an accepted text
pub accepted_is_met : (text : List ℕ) (s : Syntax) → read text ≡ Ok s
    → IsMet (follow_all first_goals s.tokens)
accepted_is_met text s h = by (read_words first_reading (words text)) refl h
  where
    at_end : (r : Reading) → Follows r → (a b : Bool) → is_met r.goals ≡ a
        → nat_lt 120 (length r.tokens) ≡ b
        → cond a (cond b (refused (last_line text) TooManyTokens)
        (Ok (record { tokens = r.tokens; names = r.names })))
        (refused (last_line text) NoProgram) ≡ Ok s → IsMet (follow_all first_goals s.tokens)
    at_end r before false b met e k = absurd cc
    at_end r before true true met e k = absurd cc
    at_end r before true false met e k =
        let t : Syntax = record { tokens = r.tokens; names = r.names } in
        let is : t ≡ s = cc in
        subst (λ (x : Syntax). IsMet (follow_all first_goals x.tokens)) is
        (subst IsMet (sym (before.goals_are (below (length r.tokens) e))) met)
      where
        below : (n : ℕ) → nat_lt 120 n ≡ false → n ≤ 120
        below n e = grind (arith, nat_tests, e)

    by : (f : Result Reading LineFault) → read_words first_reading (words text) ≡ f
        → ended (last_line text) f ≡ Ok s
        → IsMet (follow_all first_goals s.tokens)
    by (Err fault) e k = absurd cc
    by (Ok r) e k =
        at_end r (follows_words (words text) first_reading r e (record { goals_are = λ low. refl }))
        (is_met r.goals)
        (nat_lt 120 (length r.tokens)) refl refl k

-- so it spells a program
pub accepted_texts_are_spelled : AcceptedTextsAreSpelled
accepted_texts_are_spelled text s h = read_tokens_are_spelled s.tokens (accepted_is_met text s h)

-- ---- lengths

-- few variables
pub few_names : (text : List ℕ) (s : Syntax) → read text ≡ Ok s → length s.names ≤ 124
few_names text s h =
    let a = accepted text s h in omega (arith, a.few, a.short, ends_within s.tokens)
  where
    ends_within : (ts : List Token) → ends_in ts ≤ length ts
    ends_within [] = omega arith
    ends_within (t ∷ ts) = let e = ends_within ts in grind (arith, nat_tests, e)

length-total : (is : List Instr) → length is ≤ total is
length-total [] = omega arith
length-total (i ∷ is) = let e = length-total is in omega (arith, e, one i)
  where
    one : (i : Instr) → 1 ≤ boxed_length i
    one i = grind (arith, nat_tests)

pub prologue_long : (v : ℕ) → v ≤ 124 → length (prologue v) ≤ 500
prologue_long v h = omega (arith, length-total (prologue v), prologue_short v)

-- the code of an accepted program
pub accepted_code_long : (text : List ℕ) (s : Syntax) (p : g.Program) → read text ≡ Ok s
    → g.spelled p ≡ s.tokens
    → length (program_code (length s.names) (l.numbered s.names p)) ≤ 1024
accepted_code_long text s p h is =
    let a = accepted text s h in
    let q = l.numbered s.names p in
    let code = program_code (length s.names) q in
    let counts = program_counts s.names p [] in
    let ends : ends_in (g.spelled p) ≡ ends_in s.tokens = ap ends_in is in
    let long : length (g.spelled p) ≡ length s.tokens = ap length is in
    let few : program_tokens q ≤ 120 = omega (arith, counts.tokens_are, long, a.short) in
    let variables : length s.names ≤ 4 + semicolons q =
    omega (arith, counts.ends_are, ends, a.few) in
    let short = programs_are_short (length s.names) q a.least variables in
    omega (arith, few, short, boxed_place-total code, length-total code)

-- ---- zeros

pub zeros_more : (v i : ℕ) (w u : Writing) → i < v → u ≡ appended (puts 4 i) w
    → appended (zeros_code (i + 1) (v - (i + 1))) u ≡ appended (zeros_code i (v - i)) w
zeros_more v i w u low is =
    let next : v - i ≡ suc (v - (i + 1)) = omega (arith, low) in
    let more : i + 1 ≡ suc i = omega arith in
    let n = v - (i + 1) in
    ap (λ x. appended (zeros_code (i + 1) n) x) is
    ∙ ap (λ k. appended (zeros_code k n) (appended (puts 4 i) w)) more
    ∙ ap (λ c. record { tokens = w.tokens; code = c })
    (append_assoc w.code (puts 4 i) (zeros_code (suc i) n))
    ∙ ap (λ k. appended (zeros_code i k) w) (sym next)

-- ---- whole programs

-- there is room for statements behind what comes before them
pub prologue_room : (v : ℕ) (w u : Writing) (ts us : List Token)
    → w ≡ record { tokens = ts; code = [] } → ts ≡ us → length us ≤ 120
    → v ≤ 124 → u ≡ appended (prologue v) w → HasRoom 16 v u
prologue_room v w u ts us w_is same few low is =
    let all = is ∙ ap (appended (prologue v)) w_is in
    let same_length = ap (λ xs. length xs) same in
    let tokens = ap (λ (x : Writing). length x.tokens) all in
    let code = ap (λ (x : Writing). length x.code) all in
    record {
      slots = omega (arith, few, low, same_length, tokens);
      code = omega (arith, few, same_length, prologue_long v low, code, tokens);
    }

-- the image of written code
pub compiled : (text : List ℕ) (s : Syntax) (code : List Instr) (body : List ℕ) (image : Image)
    → read text ≡ Ok s
    → (p : g.Program) × (g.spelled p ≡ s.tokens) → IsWritten s code
    → image ≡ plain_image code body → body ≡ []
    → AcceptedProgramsRun → IsCompiled text image
compiled text s code body image h found written is empty run =
    let code_is : image.code ≡ code = ap (λ (i : Image). i.code) is in
    record {
      syntax = s;
      is_read = h;
      program = found.0;
      is_spelled = found.1;
      behaves = λ p spelled.
          subst (Behaves (l.numbered s.names p)) (sym (code_is ∙ written p spelled))
          (run text s p h spelled).0;
      is_boxed = subst (λ c. rewrite c ≡ Ok (boxed_code c))
          (sym (code_is ∙ written found.0 found.1)) (run text s found.0 h found.1).1;
      no_data = ap (λ (i : Image). i.body) is ∙ empty;
    }
