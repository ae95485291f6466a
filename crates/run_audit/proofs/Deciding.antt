-- Comparing byte by byte, and line by line.
use Rattle.std.proofs.Common.{◌≡◌, ◌&&◌, ℕ, suc, ◌+◌, ◌==◌, Bool, true, false, cond, List, [], ◌∷◌}
use Rattle.std.proofs.Common.{◌++◌, Option, None, Some, refl, sym, ap, ◌∙◌, append_assoc, arith}
use Rattle.std.proofs.lemmas.Bool.{eqb-true, eq-eqb}
use Rattle.std.proofs.lemmas.Slice.Eq.{bytes_eq-Decides}
use Rattle.kernel_data.specs.World.{same_bytes}
use Rattle.script_model.specs.declared.Verdict.TheVariants.{Yes, No}
use Rattle.script_model.specs.Audits.{last_piece, lines_from, first_difference, verdict_by, verdict}
use Rattle.run_audit.specs.Progress.{Progress, begun, differing, after_byte, after_bytes, concluded, YesIsEqual}

-- one byte more
pub after_more : (xs : List ℕ) (x : ℕ) (s : Progress) →
    after_bytes (xs ++ x ∷ []) s ≡ after_byte x (after_bytes xs s)
after_more [] x s = refl
after_more (y ∷ ys) x s = after_more ys x (after_byte y s)

-- once a line differs, nothing changes any more
pub stays_different : (bs rest : List ℕ) (n : ℕ) →
    after_bytes bs (record { rest = rest; line = n; differs = true })
    ≡ record { rest = rest; line = n; differs = true }
stays_different [] rest n = refl
stays_different (b ∷ bs) rest n = stays_different bs rest n

-- ---- lines

-- the list of lines begins with one that goes on so
abbrev pub BeginsWith : (line : List ℕ) → ℕ → List (List ℕ) → Type 0
BeginsWith line c lines = (more : List ℕ) × (later : List (List ℕ)) × (lines ≡ (line ++ c ∷ more) ∷ later)

-- a line of one byte more, at the end
whole : (line : List ℕ) (c : ℕ) → last_piece (line ++ c ∷ []) ≡ (line ++ c ∷ []) ∷ []
whole [] c = refl
whole (b ∷ bs) c = refl

-- what begins the line that is being read
first_begins : (cs line : List ℕ) (c : ℕ) → BeginsWith line c (lines_from line (c ∷ cs))
first_begins [] line c = by (c == 10) refl
  where
    by : (b : Bool) → (c == 10) ≡ b → BeginsWith line c (lines_from line (c ∷ []))
    by true e = (
      [],
      [],
      ap (λ (b : Bool). elim b as (λ _. List (List ℕ)) [
        | true ↦ (line ++ c ∷ []) ∷ []
        | false ↦ last_piece (line ++ c ∷ [])
      ]) e,
    )
    by false e = (
      [],
      [],
      ap (λ (b : Bool). elim b as (λ _. List (List ℕ)) [
        | true ↦ (line ++ c ∷ []) ∷ []
        | false ↦ last_piece (line ++ c ∷ [])
      ]) e ∙ whole line c,
    )
first_begins (d ∷ ds) line c = by (c == 10) refl (first_begins ds (line ++ c ∷ []) d)
  where
    by : (b : Bool) → (c == 10) ≡ b →
        BeginsWith (line ++ c ∷ []) d (lines_from (line ++ c ∷ []) (d ∷ ds)) →
        BeginsWith line c (lines_from line (c ∷ d ∷ ds))
    by true e rest = (
      [],
      lines_from [] (d ∷ ds),
      ap (λ (b : Bool). elim b as (λ _. List (List ℕ)) [
        | true ↦ (line ++ c ∷ []) ∷ lines_from [] (d ∷ ds)
        | false ↦ lines_from (line ++ c ∷ []) (d ∷ ds)
      ]) e,
    )
    by false e rest = (
      d ∷ rest.0,
      rest.1,
      ap (λ (b : Bool). elim b as (λ _. List (List ℕ)) [
        | true ↦ (line ++ c ∷ []) ∷ lines_from [] (d ∷ ds)
        | false ↦ lines_from (line ++ c ∷ []) (d ∷ ds)
      ]) e ∙ rest.2 ∙ ap (λ (x : List ℕ). x ∷ rest.1) (append_assoc line (c ∷ []) (d ∷ rest.0)),
    )

-- ---- texts beside each other

-- a text is one with itself
same_as_itself : (xs : List ℕ) → same_bytes xs xs ≡ true
same_as_itself xs = (bytes_eq-Decides xs xs).1 refl

-- a line differs from one that is longer
longer_differs : (line : List ℕ) (c : ℕ) (more : List ℕ) →
    (same_bytes line (line ++ c ∷ more) ≡ false) × (same_bytes (line ++ c ∷ more) line ≡ false)
longer_differs [] c more = (refl, refl)
longer_differs (x ∷ xs) c more =
    let rest = longer_differs xs c more in
    let self : (x == x) ≡ true = eq-eqb x x refl in (
      ap (λ (b : Bool). b && same_bytes xs (xs ++ c ∷ more)) self
          ∙ rest.0,
      ap (λ (b : Bool). b && same_bytes (xs ++ c ∷ more) xs) self ∙ rest.1,
    )

-- two lines differ that go on differently
other_differs : (line : List ℕ) (c b : ℕ) (more others : List ℕ) → (c == b) ≡ false →
    same_bytes (line ++ c ∷ more) (line ++ b ∷ others) ≡ false
other_differs [] c b more others e = ap (λ (x : Bool). x && same_bytes more others) e
other_differs (x ∷ xs) c b more others e =
    let self : (x == x) ≡ true = eq-eqb x x refl in
    ap (λ (y : Bool). y && same_bytes (xs ++ c ∷ more) (xs ++ b ∷ others)) self
    ∙ other_differs xs c b more others e

-- the first lines differ
first_differs : (n : ℕ) (x y : List ℕ) (xs ys : List (List ℕ)) → same_bytes x y ≡ false →
    first_difference n (x ∷ xs) (y ∷ ys) ≡ Some n
first_differs n x y xs ys e =
    ap (λ (b : Bool). elim b as (λ _. Option ℕ) [ true ↦ first_difference (suc n) xs ys | false ↦ Some n ]) e

-- the first lines are one
first_same : (n : ℕ) (x : List ℕ) (xs ys : List (List ℕ)) →
    first_difference n (x ∷ xs) (x ∷ ys) ≡ first_difference (suc n) xs ys
first_same n x xs ys =
    ap (λ (b : Bool). elim b as
    (λ _. Option ℕ) [ true ↦ first_difference (suc n) xs ys | false ↦ Some n ]) (same_as_itself x)

-- two lists of one line, or of none
alone : (n : ℕ) (line : List ℕ) → first_difference n (last_piece line) (last_piece line) ≡ None
alone n [] = refl
alone n (b ∷ bs) = first_same n (b ∷ bs) [] []

-- what is left of one text is more than what is left of the other
one_longer : (n : ℕ) (line : List ℕ) (c : ℕ) (cs : List ℕ) →
    (first_difference n (lines_from line (c ∷ cs)) (last_piece line) ≡ Some n) ×
    (first_difference n (last_piece line) (lines_from line (c ∷ cs)) ≡ Some n)
one_longer n [] c cs =
    let f = first_begins cs [] c in (
      ap (λ (xs : List (List ℕ)). first_difference n xs []) f.2,
      ap
          (λ (xs : List (List ℕ)). first_difference n [] xs) f.2,
    )
one_longer n (x ∷ xs) c cs =
    let f = first_begins cs (x ∷ xs) c in
    let d = longer_differs (x ∷ xs) c f.0 in (
      ap (λ (ys : List (List ℕ)). first_difference n ys ((x ∷ xs) ∷ [])) f.2
          ∙ first_differs n ((x ∷ xs) ++ c ∷ f.0) (x ∷ xs) f.1 [] d.1,
      ap (λ (ys : List (List ℕ)). first_difference n ((x ∷ xs) ∷ []) ys) f.2
          ∙ first_differs n (x ∷ xs) ((x ∷ xs) ++ c ∷ f.0) [] f.1 d.0,
    )

-- both go on, differently
both_longer : (n : ℕ) (line : List ℕ) (c b : ℕ) (cs bs : List ℕ) → (c == b) ≡ false →
    first_difference n (lines_from line (c ∷ cs)) (lines_from line (b ∷ bs)) ≡ Some n
both_longer n line c b cs bs e =
    let f = first_begins cs line c in
    let g = first_begins bs line b in
    ap (λ (xs : List (List ℕ)). first_difference n xs (lines_from line (b ∷ bs))) f.2
    ∙ ap (λ (ys : List (List ℕ)). first_difference n ((line ++ c ∷ f.0) ∷ f.1) ys) g.2
    ∙ first_differs n (line ++ c ∷ f.0) (line ++ b ∷ g.0) f.1 g.1 (other_differs line c b f.0 g.0 e)

-- ---- the verdict

-- how far two texts are compared that are the same up to here
abbrev at_line : List ℕ → ℕ → Progress
at_line claim n = record { rest = claim; line = n; differs = false }

-- both texts go on with this byte, which may end the line
abbrev lines_by : (line : List ℕ) → ℕ → List ℕ → Bool → List (List ℕ)
lines_by line b bs ends = elim ends [
  | true ↦ (line ++ b ∷ []) ∷ lines_from [] bs
  | false ↦ lines_from (line ++ b ∷ []) bs
]

-- what is decided of the rest of two texts, wherever in a line they stand
abbrev pub IsDecided : (wanted claim line : List ℕ) → ℕ → Type 0
IsDecided wanted claim line n =
    concluded (after_bytes wanted (at_line claim n))
    ≡ verdict_by (first_difference n (lines_from line claim) (lines_from line wanted))

-- both texts go on with the same byte
same_byte : (bs cs line : List ℕ) (b n : ℕ) (ends : Bool) → (b == 10) ≡ ends →
    ((line : List ℕ) (n : ℕ) → IsDecided bs cs line n) →
    concluded (after_bytes bs (at_line cs (n + cond (b == 10) 1 0)))
    ≡ verdict_by (first_difference n (lines_from line (b ∷ cs)) (lines_from line (b ∷ bs)))
same_byte bs cs line b n true ends rest =
    ap (λ (x : Bool). concluded (after_bytes bs (at_line cs (n + cond x 1 0)))) ends
    ∙ rest [] (n + 1)
    ∙ sym (ap verdict_by
    (ap (λ (x : Bool). first_difference n (lines_by line b cs x) (lines_by line b bs x)) ends
    ∙ first_same n (line ++ b ∷ []) (lines_from [] cs) (lines_from [] bs)
    ∙ ap (λ (m : ℕ). first_difference m (lines_from [] cs) (lines_from [] bs))
    (let e : suc n ≡ n + 1 = omega arith in e)))
same_byte bs cs line b n false ends rest =
    ap (λ (x : Bool). concluded (after_bytes bs (at_line cs (n + cond x 1 0)))) ends
    ∙ ap (λ (m : ℕ). concluded (after_bytes bs (at_line cs m))) (let e : n + 0 ≡ n = omega arith in e)
    ∙ rest (line ++ b ∷ []) n
    ∙ sym (ap verdict_by
    (ap (λ (x : Bool). first_difference n (lines_by line b cs x) (lines_by line b bs x)) ends))

decided : (wanted claim line : List ℕ) (n : ℕ) → IsDecided wanted claim line n
decided [] [] line n = sym (ap verdict_by (alone n line))
decided [] (c ∷ cs) line n = sym (ap verdict_by (one_longer n line c cs).0)
decided (b ∷ bs) [] line n =
    ap concluded (stays_different bs [] n) ∙ sym (ap verdict_by (one_longer n line b bs).1)
decided (b ∷ bs) (c ∷ cs) line n = by (c == b) refl (λ line n. decided bs cs line n)
  where
    by : (x : Bool) → (c == b) ≡ x → ((line : List ℕ) (n : ℕ) → IsDecided bs cs line n) →
        IsDecided (b ∷ bs) (c ∷ cs) line n
    by true e rest =
        ap (λ (x : Bool). concluded (after_bytes bs (elim x as (λ _. Progress) [
          | true ↦ at_line cs (n + cond (b == 10) 1 0)
          | false ↦ differing (at_line (c ∷ cs) n)
        ]))) e
        ∙ same_byte bs cs line b n (b == 10) refl rest
        ∙ ap (λ (x : ℕ). verdict_by
        (first_difference n (lines_from line (x ∷ cs)) (lines_from line (b ∷ bs)))) (sym (eqb-true c b e))
    by false e rest =
        ap (λ (x : Bool). concluded (after_bytes bs (elim x as (λ _. Progress) [
          | true ↦ at_line cs (n + cond (b == 10) 1 0)
          | false ↦ differing (at_line (c ∷ cs) n)
        ]))) e
        ∙ ap concluded (stays_different bs (c ∷ cs) n)
        ∙ sym (ap verdict_by (both_longer n line c b cs bs e))

-- comparing byte by byte gives the verdict
pub comparing_decides : (claim wanted : List ℕ) →
    concluded (after_bytes wanted (begun claim)) ≡ verdict claim wanted
comparing_decides claim wanted = decided wanted claim [] 1

-- ---- yes

-- once a line differs, it isn't yes
differs_is_no : (bs rest : List ℕ) (n : ℕ) →
    concluded (after_bytes bs (record { rest = rest; line = n; differs = true })) ≡ Yes → ⊥
differs_is_no bs rest n h = let no : No n ≡ Yes = sym (ap concluded (stays_different bs rest n)) ∙ h in cc

-- yes is for the same text alone
same_text : (wanted claim : List ℕ) (n : ℕ) → concluded (after_bytes wanted (at_line claim n)) ≡ Yes →
    claim ≡ wanted
same_text [] [] n h = refl
same_text [] (c ∷ cs) n h = cc
same_text (b ∷ bs) [] n h = absurd (differs_is_no bs [] n h)
same_text (b ∷ bs) (c ∷ cs) n h = by (c == b) refl (λ m. same_text bs cs m)
  where
    by : (x : Bool) → (c == b) ≡ x →
        ((m : ℕ) → concluded (after_bytes bs (at_line cs m)) ≡ Yes → cs ≡ bs) → c ∷ cs ≡ b ∷ bs
    by true e rest =
        let on = ap (λ (x : Bool). concluded (after_bytes bs (elim x as (λ _. Progress) [
          | true ↦ at_line cs (n + cond (b == 10) 1 0)
          | false ↦ differing (at_line (c ∷ cs) n)
        ]))) e in
        ap (λ (y : ℕ). y ∷ cs) (eqb-true c b e)
        ∙ ap (λ (ys : List ℕ). b ∷ ys) (rest (n + cond (b == 10) 1 0) (sym on ∙ h))
    by false e rest =
        let off = ap (λ (x : Bool). concluded (after_bytes bs (elim x as (λ _. Progress) [
          | true ↦ at_line cs (n + cond (b == 10) 1 0)
          | false ↦ differing (at_line (c ∷ cs) n)
        ]))) e in
        absurd (differs_is_no bs (c ∷ cs) n (sym off ∙ h))

-- the same text is yes
its_own : (text : List ℕ) (n : ℕ) → concluded (after_bytes text (at_line text n)) ≡ Yes
its_own [] n = refl
its_own (b ∷ bs) n =
    ap (λ (x : Bool). concluded (after_bytes bs (elim x as (λ _. Progress) [
      | true ↦ at_line bs (n + cond (b == 10) 1 0)
      | false ↦ differing (at_line (b ∷ bs) n)
    ]))) (eq-eqb b b refl)
    ∙ its_own bs (n + cond (b == 10) 1 0)

pub yes_is_equal : YesIsEqual
yes_is_equal = record {
  equal = λ claim wanted h. same_text wanted claim 1 (comparing_decides claim wanted ∙ h);
  yes = λ claim. sym (comparing_decides claim claim) ∙ its_own claim 1;
}
