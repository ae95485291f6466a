-- Linking instruction by instruction.
use Rattle.std.proofs.Common.{◌≡◌, ℕ, zero, suc, ◌+◌, ◌<◌, Bool, true, false, ◌&&◌, List, [], ◌∷◌}
use Rattle.std.proofs.Common.{◌++◌, length, map, drop, get_or, Result, Ok, Err, refl, sym, ap, ◌∙◌}
use Rattle.std.proofs.Common.{append_assoc, add-one, arith, length-append}
use Rattle.std.proofs.lemmas.List.Folds.{list_all-append}
use Rattle.std.specs.List.{list_all}
use Rattle.graft_texts.specs.declared.Instr.{Instr}
use Rattle.graft_texts.specs.Assembler as spec
use Rattle.graft_texts.specs.Assembler.{Label, LineFault, linked_by, before_code, linked}
use Rattle.graft_texts.specs.Instructions.{fits}
use Rattle.gm_asm.specs.Faults.{Refuses}
use Rattle.gm_asm.specs.declared.AsmFault.{AsmFault}
use Rattle.gm_asm.specs.declared.AsmFault.TheVariants.{At, NoMemory}

-- instructions before the others, unless one of these is refused
abbrev pub behind : List Instr → Result (List Instr) LineFault → Result (List Instr) LineFault
behind front (Err fault) = Err fault
behind front (Ok rest) = Ok (front ++ rest)

-- one more instruction goes to the front
behind-before_code : (front : List Instr) (i : Instr) (rest : Result (List Instr) LineFault)
    → behind front (before_code (Ok i) rest) ≡ behind (front ++ i ∷ []) rest
behind-before_code front i (Err fault) = refl
behind-before_code front i (Ok rest) = ap Ok (sym (append_assoc front (i ∷ []) rest))

-- an element of a list whose elements all pass
pub all_at : {A : Type 0} (p : A → Bool) (xs : List A) (n : ℕ) (d : A) → list_all p xs ≡ true →
    n < length xs → p (get_or xs n d) ≡ true
all_at p [] n d h within = absurd (omega (arith, within))
all_at p (x ∷ xs) zero d h within = first (p x) (list_all p xs) h
  where
    first : (a b : Bool) → (a && b) ≡ true → a ≡ true
    first true b g = refl
    first false b g = cc
all_at p (x ∷ xs) (suc n) d h within = all_at p xs n d (second (p x) (list_all p xs) h) (omega (arith, within))
  where
    second : (a b : Bool) → (a && b) ≡ true → b ≡ true
    second true b g = g
    second false b g = cc

-- what is left, with its first
left_is : {A : Type 0} (labels : List Label) (f : A → spec.Placed) (code : List A) (n : ℕ) (d : A) → n < length code
    → linked labels (drop n (map f code)) ≡ before_code (linked_by labels (f (get_or code n d))
    (f (get_or code n d)).label) (linked labels (drop (suc n) (map f code)))
left_is labels f [] n d h = absurd (omega (arith, h))
left_is labels f (x ∷ xs) zero d h = refl
left_is labels f (x ∷ xs) (suc n) d h = left_is labels f xs n d (omega (arith, h))

-- the first n of these are linked, and the rest are still to be linked
pub record Links (labels : List Label) (code : List spec.Placed) (n : ℕ) (front : List Instr) : Type 0 where
  pub said : linked labels code ≡ behind front (linked labels (drop n code))
  pub count : length front ≡ n
  pub fit : list_all fits front ≡ true

-- one more is linked
pub Links-more : {A : Type 0} (labels : List Label) (f : A → spec.Placed) (code : List A) (n : ℕ)
    (front : List Instr) (d : A) (i : Instr)
    → Links labels (map f code) n front → n < length code →
    linked_by labels (f (get_or code n d)) (f (get_or code n d)).label ≡ Ok i → fits i ≡ true
    → Links labels (map f code) (n + 1) (front ++ i ∷ [])
Links-more labels f code n front d i h within e g =
    record {
      said = rw add-one (h.said ∙ ap (behind front) (left_is labels f code n d within
          ∙ ap (λ (r : Result Instr LineFault). before_code r (linked labels (drop (suc n) (map f code)))) e)
          ∙ behind-before_code front i (linked labels (drop (suc n) (map f code))));
      count = omega (arith, h.count, length-append front (i ∷ []));
      fit = rw list_all-append (rw h.fit (rw g refl));
    }

-- one that can't be linked
Links-stop : {A : Type 0} (labels : List Label) (f : A → spec.Placed) (code : List A) (n : ℕ)
    (front : List Instr) (d : A) (fault : LineFault)
    → Links labels (map f code) n front → n < length code →
    linked_by labels (f (get_or code n d)) (f (get_or code n d)).label ≡ Err fault
    → linked labels (map f code) ≡ Err fault
Links-stop labels f code n front d fault h within e =
    h.said ∙ ap (behind front) (left_is labels f code n d within
    ∙ ap (λ (r : Result Instr LineFault). before_code r (linked labels (drop (suc n) (map f code)))) e)

-- the refusal of one that can't be linked
pub Links-refuses : {A : Type 0} (labels : List Label) (f : A → spec.Placed) (code : List A) (n : ℕ)
    (front : List Instr) (d : A) (fault : AsmFault)
    → Links labels (map f code) n front → n < length code →
    Refuses fault (linked_by labels (f (get_or code n d)) (f (get_or code n d)).label)
    → Refuses fault (linked labels (map f code))
Links-refuses labels f code n front d (At line kind) h within e = Links-stop labels f code n front d _ h within e
Links-refuses labels f code n front d NoMemory h within e = tt
