-- The variables that are known, where those that were assigned are kept in their order.
use Rattle.std.proofs.Common.{◌≡◌, ℕ, ◌+◌, ◌<◌, Bool, true, false, cond, ◌||◌, List, [], ◌∷◌, ◌++◌}
use Rattle.std.proofs.Common.{length, take, get_or}
use Rattle.std.proofs.Common.{refl, ap, sym, ◌∙◌}
use Rattle.std.specs.List.{list_any}
use Rattle.std.specs.Cmp.Lexicographic.{same_text}
use Rattle.std.proofs.lemmas.List.{map-append, take_more}
use Rattle.std.proofs.lemmas.List.Folds.{list_any_at}
use Rattle.graft_texts.specs.World.{same_bytes}
use Rattle.graft_texts.specs.LanguageReading.{is_known, with_name, arguments}
use Rattle.graft_syntax.specs.declared.names.Entry.{Entry}
use Rattle.graft_syntax.specs.Places.{word_at, words_at, with_names, known_names}

-- a test of the entries is one of their names
pub is_known_by_test : (text name : List ℕ) (es : List Entry)
    → list_any (λ (e : Entry). same_bytes name (word_at text e.start)) es ≡ is_known name (words_at text es)
is_known_by_test text name [] = refl
is_known_by_test text name (e ∷ es) =
    ap (λ b. same_bytes name (word_at text e.start) || b) (is_known_by_test text name es)

-- an entry has the name
pub is_known_entry : (text name : List ℕ) (es : List Entry) (i : ℕ) (e : Entry) → i < length es → e ≡ get_or es i e
    → same_bytes name (word_at text e.start) ≡ true → is_known name (words_at text es) ≡ true
is_known_entry text name es i e within is same =
    sym (is_known_by_test text name es)
    ∙ list_any_at (λ (x : Entry). same_bytes name (word_at text x.start)) es i e within
    (ap (λ (x : Entry). same_bytes name (word_at text x.start)) (sym is) ∙ same)

-- a name that is known adds nothing
pub with_name-known : (name : List ℕ) (names : List (List ℕ)) → is_known name names ≡ true →
    with_name name names ≡ names
with_name-known name [] h = cc
with_name-known name (k ∷ names) h = by (same_bytes name k) h (with_name-known name names)
  where
    by : (b : Bool) → (b || is_known name names) ≡ true → (is_known name names ≡ true → with_name name names ≡ names)
        → cond b (k ∷ names) (k ∷ with_name name names) ≡ k ∷ names
    by true g later = refl
    by false g later = ap (λ (ns : List (List ℕ)). k ∷ ns) (later g)

-- which names are known with one more
is_known-with_name : (name more : List ℕ) (names : List (List ℕ)) →
    is_known name (with_name more names) ≡ (is_known name names || same_bytes name more)
is_known-with_name name more [] = or-false (same_bytes name more)
  where
    or-false : (b : Bool) → (b || false) ≡ b
    or-false true = refl
    or-false false = refl
is_known-with_name name more (k ∷ names) = by (same_bytes more k) (is_known-with_name name more names) refl
  where
    again : (p q r : Bool) → (r ≡ true → p ≡ true) → (p || q) ≡ ((p || q) || r)
    again true q r h = refl
    again false true r h = refl
    again false false true h = h refl
    again false false false h = refl

    later : (p q r : Bool) → (p || (q || r)) ≡ ((p || q) || r)
    later true q r = refl
    later false q r = refl

    by : (b : Bool) →
        is_known name (with_name more names) ≡ (is_known name names || same_bytes name more) →
        same_bytes more k ≡ b
        → is_known name (cond b (k ∷ names) (k ∷ with_name more names))
        ≡ ((same_bytes name k || is_known name names) || same_bytes name more)
    by true step h =
        let is : more ≡ k = same_text more k (sym h) in
        again (same_bytes name k) (is_known name names) (same_bytes name more)
        (λ g. ap (λ x. same_bytes name x) (sym is) ∙ g)
    by false step h =
        ap (λ b. same_bytes name k || b) step
        ∙ later (same_bytes name k) (is_known name names) (same_bytes name more)

is_known-with_names : (name : List ℕ) (names more : List (List ℕ)) →
    is_known name (with_names names more) ≡ (is_known name names || is_known name more)
is_known-with_names name names [] = or-false (is_known name names)
  where
    or-false : (b : Bool) → b ≡ (b || false)
    or-false true = refl
    or-false false = refl
is_known-with_names name names (x ∷ xs) =
    is_known-with_names name (with_name x names) xs ∙ ap (λ b. b || is_known name xs) (is_known-with_name name x names)
    ∙ along (is_known name names) (same_bytes name x) (is_known name xs)
  where
    along : (p q r : Bool) → ((p || q) || r) ≡ (p || (q || r))
    along true q r = refl
    along false q r = refl

-- a variable is known where it is an argument or was assigned
pub is_known_name : (text name : List ℕ) (es : List Entry)
    → is_known name (known_names text es) ≡ (is_known name arguments || is_known name (words_at text es))
is_known_name text name es = is_known-with_names name arguments (words_at text es)

with_names-push : (names more : List (List ℕ)) (x : List ℕ) →
    with_names names (more ++ x ∷ []) ≡ with_name x (with_names names more)
with_names-push names [] x = refl
with_names-push names (y ∷ more) x = with_names-push (with_name y names) more x

-- one more is assigned
pub known_names_push : (text : List ℕ) (es : List Entry) (e : Entry)
    → known_names text (es ++ e ∷ []) ≡ with_name (word_at text e.start) (known_names text es)
known_names_push text es e =
    ap (with_names arguments) (map-append (λ (x : Entry). word_at text x.start) es (e ∷ []))
    ∙ with_names-push arguments (words_at text es) (word_at text e.start)

or-right : (p q : Bool) → q ≡ true → (p || q) ≡ true
or-right true q h = refl
or-right false q h = h

-- one is assigned that was assigned before
pub known_names_same : (text name : List ℕ) (es : List Entry) → is_known name (words_at text es) ≡ true
    → known_names text es ≡ with_name name (known_names text es)
known_names_same text name es h =
    sym (with_name-known name (known_names text es)
    (is_known_name text name es ∙ or-right (is_known name arguments) (is_known name (words_at text es)) h))

-- one more of those that were assigned
pub known_names_more : (text : List ℕ) (es : List Entry) (i : ℕ) (e : Entry) → i < length es
    → known_names text (take (i + 1) es) ≡ with_name (word_at text (get_or es i e).start) (known_names text (take i es))
known_names_more text es i e h =
    ap (known_names text) (take_more es i e h) ∙ known_names_push text (take i es) (get_or es i e)
