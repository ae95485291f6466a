-- The records in order of age, and the levels that own them.
use Rattle.std.proofs.Common.{◌≡◌, ℕ, suc, ◌-◌, ◌<◌, ◌≤◌, Bool, true, false, cond, List, []}
use Rattle.std.proofs.Common.{◌∷◌, ◌++◌, length, map, reverse, take, drop, get_or, replicate, refl}
use Rattle.std.proofs.Common.{arith, sym, ◌∙◌, ap, subst}
use Rattle.std.specs.Prelude.{nat_le, min}
use Rattle.std.proofs.lemmas.Bool.Decides.{nat_tests}
use Rattle.std.proofs.lemmas.Grind.{reverse_onto}
use Rattle.std.proofs.lemmas.List.{reverse-reverse, length-reverse, length-replicate, length-take}
use Rattle.std.proofs.lemmas.List.{length-drop, map-append, take-append-drop}
use Rattle.std.proofs.lemmas.List.{get_or-reverse, get_or_append_left}
use Rattle.std.proofs.lemmas.List.{get_or-append_right, get_or-replicate, length-map}
use Rattle.kernel_model.specs.UndoLog.{numbered_log}
use Rattle.undo_calls.specs.UndoLevels.{cut, are_marks, levels_of, records_of, owners_of, owner_by, IsStack}
use Rattle.undo_calls.proofs.Cuts.{within, outside, length-cut, length-log}
use Rattle.undo_calls.proofs.Cuts.{test-at_most}

map-reverse : {X Y : Type 0} (f : X → Y) (xs : List X) → map f (reverse xs) ≡ reverse (map f xs)
map-reverse f [] = refl
map-reverse f (x ∷ xs) =
    ap (map f) (reverse_onto xs x []) ∙ map-append f (reverse xs) (x ∷ [])
    ∙ ap (λ ys. ys ++ f x ∷ []) (map-reverse f xs)
    ∙ sym (reverse_onto (map f xs) (f x) [])

-- records with their level: the records, and the level
numbered-records : {A : Type 0} (d : ℕ) (is : List A) → map (λ (r : ℕ × A). r.1) (map (λ i. (d, i)) is) ≡ is
numbered-records d [] = refl
numbered-records d (i ∷ is) = ap (λ js. i ∷ js) (numbered-records d is)

numbered-levels : {A : Type 0} (d : ℕ) (is : List A) →
    map (λ (r : ℕ × A). r.0) (map (λ i. (d, i)) is) ≡ replicate (length is) d
numbered-levels d [] = refl
numbered-levels d (i ∷ is) = ap (λ ds. d ∷ ds) (numbered-levels d is)

-- the records outside a mark
length-outside : {A : Type 0} (m : ℕ) (rs : List A) → m ≤ length rs → length (drop (length rs - m) rs) ≡ m
length-outside m rs small =
    length-drop (length rs - m) rs ∙ (let e : length rs - (length rs - m) ≡ m = omega arith in e)

marks-outside : {A : Type 0} (m : ℕ) (ms : List ℕ) (rs : List A) →
    are_marks (m ∷ ms) (length rs) ≡ true → are_marks ms (length (drop (length rs - m) rs)) ≡ true
marks-outside m ms rs h =
    subst (λ n. are_marks ms n ≡ true) (sym (length-outside m rs (within m ms (length rs) h)))
    (outside m ms (length rs) h)

none-left : {A : Type 0} (rs : List A) → are_marks [] (length rs) ≡ true → rs ≡ []
none-left [] h = refl
none-left (i ∷ rs) h = absurd (let never : ⊥ = grind (arith, nat_tests) in never)

records-cut : {A : Type 0} (ms : List ℕ) (rs : List A) → are_marks ms (length rs) ≡ true →
    map (λ (r : ℕ × A). r.1) (numbered_log (cut ms rs)) ≡ rs
records-cut [] rs h = sym (none-left rs h)
records-cut {A} (m ∷ ms) rs h =
    let k = length rs - m in
    let rest = cut ms (drop k rs) in
    map-append (λ (r : ℕ × A). r.1) (map (λ i. (length rest, i)) (take k rs)) (numbered_log rest)
    ∙ ap (λ (is : List A). is ++ map (λ (r : ℕ × A). r.1) (numbered_log rest))
    (numbered-records (length rest) (take k rs))
    ∙ ap (λ (is : List A). take k rs ++ is) (records-cut ms (drop k rs) (marks-outside m ms rs h))
    ∙ take-append-drop k rs

-- the records of the levels are those of the stack
pub records-levels : {A : Type 0} (marks : List ℕ) (records : List A) → IsStack marks records →
    records_of (levels_of marks records) ≡ records
records-levels {A} marks records h =
    map-reverse (λ (r : ℕ × A). r.1) (numbered_log (levels_of marks records))
    ∙ ap reverse
    (records-cut (reverse marks) (reverse records)
    (subst (λ n. are_marks (reverse marks) n ≡ true) (sym (length-reverse records)) h.in_order))
    ∙ reverse-reverse records

-- the levels of the records, newest first
abbrev owners : {A : Type 0} → List (List A) → List ℕ
owners {A} log = map (λ (r : ℕ × A). r.0) (numbered_log log)

owners-cut : {A : Type 0} (m : ℕ) (ms : List ℕ) (rs : List A) → owners (cut (m ∷ ms) rs) ≡ replicate
    (length (take (length rs - m) rs)) (length ms) ++ owners (cut ms (drop (length rs - m) rs))
owners-cut {A} m ms rs =
    let k = length rs - m in
    let rest = cut ms (drop k rs) in
    map-append (λ (r : ℕ × A). r.0) (map (λ i. (length rest, i)) (take k rs)) (numbered_log rest)
    ∙ ap (λ (ds : List ℕ). ds ++ owners rest) (numbered-levels (length rest) (take k rs))
    ∙ ap (λ (d : ℕ). replicate (length (take k rs)) d ++ owners rest) (length-cut ms (drop k rs))

-- a level's own records are at most all
least : (n m : ℕ) → min (n - m) n ≡ n - m
least n m = grind (arith, nat_tests)

length-inside : {A : Type 0} (m : ℕ) (rs : List A) → length (take (length rs - m) rs) ≡ length rs - m
length-inside m rs = length-take (length rs - m) rs ∙ least (length rs) m

test-above : (m i : ℕ) → nat_le m i ≡ false → i < m
test-above m i h = grind (arith, nat_tests)

-- one level further in, by whether it began at the place or before it
owner-one : (b : Bool) (m : ℕ) (ms : List ℕ) (i k n : ℕ) (ds : List ℕ) → nat_le m i ≡ b →
    m ≤ n → k ≡ n - m → i < n → (i < m → get_or ds (m - 1 - i) 0 ≡ owner_by ms i) →
    get_or (replicate k (length ms) ++ ds) (n - 1 - i) 0 ≡ cond b (length ms) (owner_by ms i)
owner-one true m ms i k n ds test small size inside further =
    let began = test-at_most m i test in
    let len = length-replicate k (length ms) in
    get_or_append_left (replicate k (length ms)) ds 0 (n - 1 - i) (omega arith)
    ∙ get_or-replicate k (n - 1 - i) (length ms) 0 (omega arith)
owner-one false m ms i k n ds test small size inside further =
    let later = test-above m i test in
    get_or-append_right (replicate k (length ms)) ds k (n - 1 - i) 0 (length-replicate k (length ms)) (omega arith)
    ∙ ap (λ j. get_or ds j 0) (let e : (n - 1 - i) - k ≡ m - 1 - i = omega arith in e)
    ∙ further later

owner-cut : {A : Type 0} (ms : List ℕ) (rs : List A) (i : ℕ) → are_marks ms (length rs) ≡ true →
    i < length rs → get_or (owners (cut ms rs)) (length rs - 1 - i) 0 ≡ owner_by ms i
owner-cut [] rs i h inside = let none = ap length (none-left rs h) in absurd (let never : ⊥ = omega arith in never)
owner-cut (m ∷ ms) rs i h inside =
    let k = length rs - m in
    let small = within m ms (length rs) h in
    let further : i < m → get_or (owners (cut ms (drop k rs))) (m - 1 - i) 0 ≡ owner_by ms i = λ later.
    subst (λ l. get_or (owners (cut ms (drop k rs))) (l - 1 - i) 0 ≡ owner_by ms i) (length-outside m rs small)
    (owner-cut ms (drop k rs) i (marks-outside m ms rs h) (let out = length-outside m rs small in omega arith)) in
    ap (λ ds. get_or ds (length rs - 1 - i) 0) (owners-cut m ms rs)
    ∙ owner-one (nat_le m i) m ms i (length (take k rs)) (length rs) (owners (cut ms (drop k rs)))
    refl small (length-inside m rs) inside further

length-owners : {A : Type 0} (ms : List ℕ) (rs : List A) → are_marks ms (length rs) ≡ true →
    length (owners (cut ms rs)) ≡ length rs
length-owners {A} ms rs h =
    length-map (numbered_log (cut ms rs)) (λ (r : ℕ × A). r.0)
    ∙ sym (length-map (numbered_log (cut ms rs)) (λ (r : ℕ × A). r.1))
    ∙ ap length (records-cut ms rs h)

-- the owner of a record
pub owner-levels : {A : Type 0} (marks : List ℕ) (records : List A) (i : ℕ) →
    IsStack marks records → i < length records →
    get_or (owners_of (levels_of marks records)) i 0 ≡ owner_by (reverse marks) i
owner-levels {A} marks records i h inside =
    let rs = reverse records in
    let len = length-reverse records in
    let order : are_marks (reverse marks) (length rs) ≡ true =
    subst (λ n. are_marks (reverse marks) n ≡ true) (sym len) h.in_order in
    let all = owners (cut (reverse marks) rs) in
    let size = length-owners (reverse marks) rs order in
    ap (λ ds. get_or ds i 0) (map-reverse (λ (r : ℕ × A). r.0) (numbered_log (cut (reverse marks) rs)))
    ∙ get_or-reverse all i 0 (omega arith)
    ∙ ap (λ n. get_or all (n - 1 - i) 0) size
    ∙ owner-cut (reverse marks) rs i order (omega arith)

owner-within : (b : Bool) (n d : ℕ) → d < suc n → cond b n d < suc n
owner-within true n d h = omega arith
owner-within false n d h = h

pub owner-below : (ms : List ℕ) (i : ℕ) → 0 < length ms → owner_by ms i < length ms
owner-below [] i some = omega arith
owner-below (m ∷ []) i some = owner-within (nat_le m i) 0 0 (omega arith)
owner-below (m ∷ l ∷ ms) i some =
    let below = owner-below (l ∷ ms) i (omega arith) in
    owner-within (nat_le m i) (length (l ∷ ms)) (owner_by (l ∷ ms) i) (omega arith)

marks-some : (ms : List ℕ) (n : ℕ) → are_marks ms n ≡ true → 0 < n → 0 < length ms
marks-some [] n h some = grind (arith, nat_tests)
marks-some (m ∷ ms) n h some = omega arith

-- there is a level where there is a record
pub level-some : {A : Type 0} (marks : List ℕ) (records : List A) → IsStack marks records →
    0 < length records → 0 < length (reverse marks)
level-some marks records h some = marks-some (reverse marks) (length records) h.in_order some

-- ---- the same for what a stack is seen as

pub records-log : {A : Type 0} (marks : List ℕ) (records : List A) (log : List (List A)) →
    IsStack marks records → levels_of marks records ≡ log → records_of log ≡ records
records-log marks records log h view = ap records_of (sym view) ∙ records-levels marks records h

pub length-records : {A : Type 0} (marks : List ℕ) (records : List A) (log : List (List A)) →
    IsStack marks records → levels_of marks records ≡ log → length (records_of log) ≡ length records
length-records marks records log h view = ap length (records-log marks records log h view)

pub owner-log : {A : Type 0} (marks : List ℕ) (records : List A) (log : List (List A)) (i : ℕ) →
    IsStack marks records → levels_of marks records ≡ log → i < length (records_of log) →
    get_or (owners_of log) i 0 ≡ owner_by (reverse marks) i
owner-log {A} marks records log i h view inside =
    ap (λ (l : List (List A)). get_or (owners_of l) i 0) (sym view)
    ∙ owner-levels marks records i h (let size = length-records marks records log h view in omega arith)

pub owner-log_below : {A : Type 0} (marks : List ℕ) (records : List A) (log : List (List A))
    (i : ℕ) → IsStack marks records → levels_of marks records ≡ log → i < length (records_of log) →
    owner_by (reverse marks) i < length log
owner-log_below marks records log i h view inside =
    let size = length-records marks records log h view in
    let levels = length-log marks records log view in
    let back = length-reverse marks in
    let below = owner-below (reverse marks) i (level-some marks records h (omega arith)) in
    omega arith
