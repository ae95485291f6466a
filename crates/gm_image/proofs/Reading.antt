-- Reading code word by word.
use Rattle.std.proofs.Common.{◌≡◌, ℕ, suc, ◌+◌, ◌-◌, ◌*◌, ◌≤◌, Bool, true, false, not, List}
use Rattle.std.proofs.Common.{[], ◌∷◌, ◌++◌, length, take, drop, Result, Ok, Err, refl, sym, ap}
use Rattle.std.proofs.Common.{◌∙◌, append_assoc, add-one, arith, length-append, length-drop, ltb}
use Rattle.std.proofs.Common.{codes}
use Rattle.std.proofs.lemmas.List.Folds.{list_all-append}
use Rattle.std.specs.List.{list_all}
use Rattle.graft_code.specs.declared.Instr.{Instr}
use Rattle.graft_code.specs.declared.IsaFault.{IsaFault}
use Rattle.std.proofs.lemmas.Bool.{eq-eqb}
use Rattle.std.proofs.lemmas.Bool.Decides.{nat_tests}
use Rattle.graft_code.specs.Bytes.{word_at}
use Rattle.graft_code.specs.World.{same_bytes}
use Rattle.graft_code.specs.Images.{LoadFault, BadOp, with_first, decoded, is_too_large, parts_of, read_raw}
use Rattle.graft_code.specs.Instructions.{decode, fits}

-- instructions before the others, unless one of these is refused
abbrev pub behind : List Instr → Result (List Instr) LoadFault → Result (List Instr) LoadFault
behind front (Err fault) = Err fault
behind front (Ok rest) = Ok (front ++ rest)

-- one more instruction goes to the front
pub behind-with_first : (front : List Instr) (i : Instr) (pc : ℕ) (rest : Result (List Instr) LoadFault)
    → behind front (with_first (Ok i) pc rest) ≡ behind (front ++ i ∷ []) rest
behind-with_first front i pc (Err fault) = refl
behind-with_first front i pc (Ok rest) = ap Ok (sym (append_assoc front (i ∷ []) rest))

-- the first of n words are these instructions, and the rest are still to be read
pub record Reads (n : ℕ) (bytes : List ℕ) (code : List Instr) (pc : ℕ) (rest : List ℕ) : Type 0 where
  pub said : decoded n 0 bytes ≡ behind code (decoded (n - pc) pc rest)
  pub left : length rest + 8 * pc ≡ 8 * n
  pub count : length code ≡ pc
  pub fit : list_all fits code ≡ true

-- what is said of the first of some words
said_first : (code : List Instr) (n m pc : ℕ) (rest : List ℕ) (i : Instr) → n ≡ suc m → decode (take 8 rest) ≡ Ok i
    → behind code (decoded n pc rest) ≡ behind (code ++ i ∷ []) (decoded m (suc pc) (drop 8 rest))
said_first code n m pc rest i e d = rw e (rw d (behind-with_first code i pc (decoded m (suc pc) (drop 8 rest))))

-- one more word is an instruction
pub Reads-more : (n : ℕ) (bytes : List ℕ) (code : List Instr) (pc : ℕ) (rest : List ℕ) (i : Instr) →
    Reads n bytes code pc rest → 8 ≤ length rest
    → decode (take 8 rest) ≡ Ok i → fits i ≡ true → Reads n bytes (code ++ i ∷ []) (pc + 1) (drop 8 rest)
Reads-more n bytes code pc rest i h room d f =
    let e : n - pc ≡ suc (n - (pc + 1)) = omega (arith, h.left) in
    record {
      said = h.said ∙ rw add-one (said_first code _ _ pc rest i (rw add-one at e) d);
      left = omega (arith, h.left, length-drop 8 rest);
      count = omega (arith, h.count, length-append code (i ∷ []));
      fit = rw list_all-append (rw h.fit (rw f refl));
    }

-- a word that is no instruction
pub Reads-stop : (n : ℕ) (bytes : List ℕ) (code : List Instr) (pc : ℕ) (rest : List ℕ)
    (fault : IsaFault) → Reads n bytes code pc rest → 8 ≤ length rest
    → decode (take 8 rest) ≡ Err fault → decoded n 0 bytes ≡ Err (BadOp pc)
Reads-stop n bytes code pc rest fault h room d =
    let e : n - pc ≡ suc (n - (pc + 1)) = omega (arith, h.left) in
    h.said ∙ rw e (rw d refl)

-- a test that isn't passed
pub not_below : (m n : ℕ) → n ≤ m → ltb m n ≡ false
not_below m n h = grind (arith, nat_tests)

-- sizes within the limits
pub few : (n d : ℕ) → n ≤ 1024 → d ≤ 4096 → is_too_large n d ≡ false
few n d h g = rw (not_below 1024 n h) (rw (not_below 4096 d g) refl)

-- a test that fails when it is turned round
pub not_false : (b : Bool) → false ≡ not b → b ≡ true
not_false true h = refl
not_false false h = cc

-- an image whose head, sizes and length are right is its parts
pub read_raw-parts : (bytes magic : List ℕ) (n d : ℕ) → 12 ≤ length bytes →
    false ≡ not (same_bytes (take 4 bytes) magic) → magic ≡ codes "VGR0"
    → n ≡ word_at bytes 4 → d ≡ word_at bytes 8 → n ≤ 1024 → d ≤ 4096 →
    length bytes ≡ 12 + 8 * n + d → read_raw bytes ≡ parts_of n (drop 12 bytes)
read_raw-parts bytes magic n d head same magic_is n_is d_is h g len =
    let sized : length bytes ≡ 12 + 8 * word_at bytes 4 + word_at bytes 8 = omega (arith, len, n_is, d_is) in
    let small : is_too_large (word_at bytes 4) (word_at bytes 8) ≡ false =
    few (word_at bytes 4) (word_at bytes 8) (omega (arith, h, n_is)) (omega (arith, g, d_is)) in
    rw (not_below (length bytes) 12 head, read_raw)
    (rw (rw magic_is at (not_false (same_bytes (take 4 bytes) magic) same))
    (rw small (rw (eq-eqb (length bytes) (12 + 8 * word_at bytes 4 + word_at bytes 8) sized)
    (ap (λ (m : ℕ). parts_of m (drop 12 bytes)) (sym n_is)))))
