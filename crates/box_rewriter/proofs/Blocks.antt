-- Boxed code as the blocks that stand for the instructions of raw code.
use Rattle.std.proofs.Common.{◌≡◌, ℕ, zero, suc, ◌+◌, ◌-◌, ◌<◌, ◌≤◌, Bool, true, false, cond, ◌&&◌}
use Rattle.std.proofs.Common.{◌||◌, List, [], ◌∷◌, ◌++◌, length, length-append, sym, ap, ◌∙◌, refl}
use Rattle.std.proofs.Common.{arith, inl, inr}
use Rattle.std.specs.Prelude.{◌==◌, ◌⊎◌, slice_get, flat_map, Option, None, Some}
use Rattle.std.proofs.lemmas.Bool.{or_parts, cases_lt}
use Rattle.std.proofs.lemmas.List.{append-nil}
use Rattle.graft_code.specs.declared.Instr.{Instr}
use Rattle.graft_code.specs.declared.Op.{Op}
use Rattle.graft_code.specs.declared.Op.TheVariants.{Or, Andi}
use Rattle.graft_code.specs.Instructions.{names_register}
use Rattle.graft_code.specs.Machine.{Width, mask}
use Rattle.graft_code.specs.Boxed.{access_width, is_jump, is_end, is_andi, is_or, is_first}
use Rattle.graft_code.specs.Boxed.{is_second, ends_well, boxed_length, boxed_place, boxed_access}
use Rattle.graft_code.specs.Boxed.{boxed_instr, instr}

-- an instruction that names neither r14 nor r15
abbrev pub IsUnreserved : Instr → Type 0
IsUnreserved i = (names_register 14 i || names_register 15 i) ≡ false

block_by : (code : List Instr) (i : Instr) (o : Option Width) (jump : Bool)
    → length {A = Instr} (elim o [
      | Some width ↦ boxed_access i width
      | None ↦ cond jump (record i { imm = boxed_place code i.imm } ∷ []) (i ∷ [])
    ])
    ≡ elim o [ None ↦ 1 | Some width ↦ 3 ]
block_by code i (Some w) jump = refl
block_by code i None true = refl
block_by code i None false = refl

-- as many instructions stand for one as its length says
pub block_length : (code : List Instr) (i : Instr) → length (boxed_instr code i) ≡ boxed_length i
block_length code i = block_by code i (access_width i.op) (is_jump i.op)

-- the length of boxed code
pub boxed_size : (code is : List Instr) → length (flat_map (boxed_instr code) is) ≡ boxed_place is (length is)
boxed_size code [] = refl
boxed_size code (i ∷ is) =
    length-append (boxed_instr code i) (flat_map (boxed_instr code) is)
    ∙ ap (λ (n : ℕ). n + length (flat_map (boxed_instr code) is)) (block_length code i)
    ∙ ap (λ (n : ℕ). boxed_length i + n) (boxed_size code is)

-- an element of the first of two lists, and of the second
get_front : (xs ys : List Instr) (k : ℕ) → k < length xs → slice_get (xs ++ ys) k ≡ slice_get xs k
get_front [] ys k h = absurd (omega arith)
get_front (x ∷ xs) ys zero h = refl
get_front (x ∷ xs) ys (suc k) h = get_front xs ys k (omega arith)

get_back : (xs ys : List Instr) (k : ℕ) → slice_get (xs ++ ys) (length xs + k) ≡ slice_get ys k
get_back [] ys k = let e : 0 + k ≡ k = omega arith in rw e refl
get_back (x ∷ xs) ys k = let e : suc (length xs) + k ≡ suc (length xs + k) = omega arith in rw e (get_back xs ys k)

-- an instruction of the block of raw instruction n
pub block_at : (code is : List Instr) (n k : ℕ) (i : Instr) → slice_get is n ≡ Some i → k < boxed_length i
    → slice_get (flat_map (boxed_instr code) is) (boxed_place is n + k) ≡ slice_get (boxed_instr code i) k
block_at code [] n k i h l = cc
block_at code (x ∷ is) zero k i h l =
    let same : x ≡ i = cc in
    let e : 0 + k ≡ k = omega arith in
    rw e (get_front (boxed_instr code x) (flat_map (boxed_instr code) is)
    k (omega (arith, block_length code x, ap boxed_length same))
    ∙ ap (λ (j : Instr). slice_get (boxed_instr code j) k) same)
block_at code (x ∷ is) (suc n) k i h l =
    let e : boxed_length x + boxed_place is n + k ≡ length (boxed_instr code x)
    + (boxed_place is n + k) = omega (arith, block_length code x) in
    rw e (get_back (boxed_instr code x) (flat_map (boxed_instr code) is) (boxed_place is n + k)
    ∙ block_at code is n k i h l)

-- where a place of boxed code comes from: instruction k of the block of raw instruction n
pub record Origin (code is : List Instr) (q : ℕ) : Type 0 where
  pub n : ℕ
  pub k : ℕ
  pub i : Instr
  pub raw : slice_get is n ≡ Some i
  pub within : k < boxed_length i
  pub place : q ≡ boxed_place is n + k

length_positive : (i : Instr) → 0 < boxed_length i
length_positive i = by_width (access_width i.op)
  where
    by_width : (o : Option Width) → 0 < elim o [ None ↦ 1 | Some width ↦ 3 ]
    by_width None = omega arith
    by_width (Some w) = omega arith

origin_later : (code is : List Instr) (x : Instr) (q r : ℕ) → q ≡ boxed_length x + r →
    Origin code is r → Origin code (x ∷ is) q
origin_later code is x q r e o =
    record { n = suc o.n; k = o.k; i = o.i; raw = o.raw; within = o.within; place = omega (arith, e, o.place) }

origin_by : (code is : List Instr) (x : Instr) (q : ℕ) →
    ((q < boxed_length x) ⊎ (boxed_length x ≤ q)) →
    ((r : ℕ) → q ≡ boxed_length x + r → Origin code is r)
    → Origin code (x ∷ is) q
origin_by code is x q (inl low) later = record { n = 0; k = q; i = x; raw = refl; within = low; place = omega arith }
origin_by code is x q (inr high) later =
    let e : q ≡ boxed_length x + (q - boxed_length x) = omega arith in
    origin_later code is x q (q - boxed_length x) e (later (q - boxed_length x) e)

pub origin_of : (code is : List Instr) (q : ℕ) → q < boxed_place is (length is) → Origin code is q
origin_of code [] q h = absurd (omega arith)
origin_of code (x ∷ is) q h =
    origin_by code is x q (cases_lt q (boxed_length x))
    (λ r e. origin_of code is r (omega (arith, e, h)))

-- ---- the end

ends_behind : (x y : Instr) (xs ys : List Instr) → ends_well (x ∷ (xs ++ y ∷ ys)) ≡ ends_well (y ∷ ys)
ends_behind x y [] ys = refl
ends_behind x y (z ∷ xs) ys = ends_behind z y xs ys

ends_append : (xs : List Instr) (y : Instr) (ys : List Instr) → ends_well (xs ++ y ∷ ys) ≡ ends_well (y ∷ ys)
ends_append [] y ys = refl
ends_append (x ∷ xs) y ys = ends_behind x y xs ys

ends_rest : (xs ys : List Instr) → 0 < length ys → ends_well (xs ++ ys) ≡ ends_well ys
ends_rest xs [] h = absurd (omega arith)
ends_rest xs (y ∷ ys) h = ends_append xs y ys

-- the last instruction of a block: it begins no triple and is no second one, and ends code where
-- the raw instruction does
pub record Block (code : List Instr) (i : Instr) : Type 0 where
  pub front : List Instr
  pub last : Instr
  pub is : boxed_instr code i ≡ front ++ last ∷ []
  pub ends : is_end last.op ≡ is_end i.op
  pub no_first : (w : Width) → is_first w last ≡ false
  pub no_second : is_second last ≡ false

-- an instruction that isn't reserved is no `andi` or `or` into r14
andi_into_14 : (op : Op) (a b c imm : ℕ) → IsUnreserved (instr op a b c imm) → (is_andi op && a == 14) ≡ false
andi_into_14 Andi a b c imm h =
    (or_parts (a == 14) (b == 14) (or_parts (a == 14 || b == 14) false (or_parts
    (names_register 14 (instr Andi a b c imm)) (names_register 15 (instr Andi a b c imm)) h).0).0).0
andi_into_14 _ a b c imm h = refl

or_into_14 : (op : Op) (a b c imm : ℕ) → IsUnreserved (instr op a b c imm) → (is_or op && a == 14) ≡ false
or_into_14 Or a b c imm h =
    (or_parts (a == 14) (b == 14) (or_parts (a == 14 || b == 14) (c == 14) (or_parts
    (names_register 14 (instr Or a b c imm)) (names_register 15 (instr Or a b c imm)) h).0).0).0
or_into_14 _ a b c imm h = refl

access_no_andi : (op : Op) (w : Width) → access_width op ≡ Some w → is_andi op ≡ false
access_no_andi Andi w h = cc
access_no_andi _ w h = refl

access_no_or : (op : Op) (w : Width) → access_width op ≡ Some w → is_or op ≡ false
access_no_or Or w h = cc
access_no_or _ w h = refl

-- the block of an instruction that isn't an access
one_block : (code : List Instr) (i last : Instr) → IsUnreserved i → last.op ≡ i.op → last.a ≡ i.a →
    boxed_instr code i ≡ last ∷ [] → Block code i
one_block code i last free op a e = record {
  front = [];
  last = last;
  is = e;
  ends = ap is_end op;
  no_first =
      λ w. let h : (is_andi last.op && last.a == 14) ≡ false =
      rw (op, a) (andi_into_14 i.op i.a i.b i.c i.imm free) in rw h refl;
  no_second =
      let h : (is_or last.op && last.a == 14) ≡ false =
      rw (op, a) (or_into_14 i.op i.a i.b i.c i.imm free) in
      rw h refl;
}

block_of_by : (code : List Instr) (i : Instr) (o : Option Width) (jump : Bool) → IsUnreserved i →
    access_width i.op ≡ o → is_jump i.op ≡ jump → Block code i
block_of_by code i (Some w) jump free e j = record {
  front = instr Andi 14 i.b 0 (mask w) ∷ instr Or 14 14 15 0 ∷ [];
  last = instr i.op i.a 14 0 0;
  is = rw (e, boxed_instr) refl;
  ends = refl;
  no_first = λ u. rw (access_no_andi i.op w e) refl;
  no_second = rw (access_no_or i.op w e) refl;
}
block_of_by code i None true free e j =
    one_block code i (record i { imm = boxed_place code i.imm }) free refl refl
    (rw (e, boxed_instr) (rw j refl))
block_of_by code i None false free e j = one_block code i i free refl refl (rw (e, boxed_instr) (rw j refl))

pub block_of : (code : List Instr) (i : Instr) → IsUnreserved i → Block code i
block_of code i free = block_of_by code i (access_width i.op) (is_jump i.op) free refl refl

-- all instructions of a list are unreserved
pub record AreFree (is : List Instr) : Type 0 where
  pub each : (n : ℕ) (i : Instr) → slice_get is n ≡ Some i → IsUnreserved i

rest_free : (x : Instr) (is : List Instr) → AreFree (x ∷ is) → AreFree is
rest_free x is f = record { each = λ n i h. f.each (suc n) i h }

blocks_some : (code : List Instr) (x : Instr) (is : List Instr) → 0 < length (flat_map (boxed_instr code) (x ∷ is))
blocks_some code x is =
    omega (
      arith,
      length-append (boxed_instr code x) (flat_map (boxed_instr code) is),
      block_length code x,
      length_positive x,
    )

-- boxed code ends as raw code does
pub ends_boxed : (code is : List Instr) → AreFree is → ends_well (flat_map (boxed_instr code) is) ≡ ends_well is
ends_boxed code [] f = refl
ends_boxed code (x ∷ []) f =
    let b = block_of code x (f.each 0 x refl) in
    ap ends_well (append-nil (boxed_instr code x)) ∙ ap ends_well b.is ∙ ends_append b.front b.last [] ∙ b.ends
ends_boxed code (x ∷ y ∷ is) f =
    ends_rest (boxed_instr code x) (flat_map (boxed_instr code) (y ∷ is)) (blocks_some code y is)
    ∙ ends_boxed code (y ∷ is) (rest_free x (y ∷ is) f)

-- ---- what stands before a target

-- the instruction at this place begins no triple and is no second one
pub record IsBlockEnd (code : List Instr) (q : ℕ) : Type 0 where
  pub j : Instr
  pub here : slice_get code q ≡ Some j
  pub no_first : (w : Width) → is_first w j ≡ false
  pub no_second : is_second j ≡ false

last_of_block : (code is : List Instr) (x : Instr) (q : ℕ) → Block code x → boxed_length x ≡ suc q →
    IsBlockEnd (flat_map (boxed_instr code) (x ∷ is)) q
last_of_block code is x q b e =
    let size : length b.front + 1 ≡ suc q = sym (length-append b.front (b.last ∷ []))
    ∙ ap length (sym b.is) ∙ block_length code x ∙ e in
    let at_end : q ≡ length b.front + 0 = omega (arith, size) in
    let inside : q < length (boxed_instr code x) = omega (arith, block_length code x, e) in
    record {
      j = b.last;
      here =
          get_front (boxed_instr code x) (flat_map (boxed_instr code) is) q inside
          ∙ ap (λ (l : List Instr). slice_get l q) b.is
          ∙ ap (λ (k : ℕ). slice_get (b.front ++ b.last ∷ []) k) at_end ∙ get_back b.front (b.last ∷ []) 0;
      no_first = b.no_first;
      no_second = b.no_second;
    }

end_later : (code is : List Instr) (x : Instr) (q m : ℕ) → q ≡ boxed_length x + m →
    IsBlockEnd (flat_map (boxed_instr code) is) m
    → IsBlockEnd (flat_map (boxed_instr code) (x ∷ is)) q
end_later code is x q m e b =
    let place : q ≡ length (boxed_instr code x) + m = omega (arith, e, block_length code x) in
    record {
      j = b.j;
      here = ap (λ (k : ℕ). slice_get (boxed_instr code x ++ flat_map (boxed_instr code) is) k) place
          ∙ get_back (boxed_instr code x) (flat_map (boxed_instr code) is) m ∙ b.here;
      no_first = b.no_first;
      no_second = b.no_second;
    }

end_by : (code is : List Instr) (x : Instr) (q p : ℕ) → Block code x → boxed_length x + p ≡ suc q →
    ((m : ℕ) → p ≡ suc m → IsBlockEnd (flat_map (boxed_instr code) is) m)
    → IsBlockEnd (flat_map (boxed_instr code) (x ∷ is)) q
end_by code is x q zero b e later = last_of_block code is x q b (omega (arith, e))
end_by code is x q (suc m) b e later = end_later code is x q m (omega (arith, e)) (later m refl)

-- what stands right before the block of a raw instruction
pub before_target : (code is : List Instr) (t q : ℕ) → AreFree is → t ≤ length is →
    boxed_place is t ≡ suc q → IsBlockEnd (flat_map (boxed_instr code) is) q
before_target code [] t q f h e = cc
before_target code (x ∷ is) zero q f h e = cc
before_target code (x ∷ is) (suc n) q f h e =
    end_by code is x q (boxed_place is n) (block_of code x (f.each 0 x refl)) e
    (λ m g. before_target code is n m (rest_free x is f) (omega arith) g)

-- the block of a raw instruction begins within boxed code
pub place_below : (is : List Instr) (t : ℕ) → t < length is → boxed_place is t < boxed_place is (length is)
place_below [] t h = absurd (omega arith)
place_below (x ∷ is) zero h = omega (arith, length_positive x)
place_below (x ∷ is) (suc n) h = omega (arith, place_below is n (omega arith))

-- the place behind the block of a raw instruction
pub place_next : (is : List Instr) (n : ℕ) (i : Instr) → slice_get is n ≡ Some i →
    boxed_place is (n + 1) ≡ boxed_place is n + boxed_length i
place_next [] n i h = cc
place_next (x ∷ is) zero i h = let same : x ≡ i = cc in first is ∙ ap boxed_length same ∙ sum (boxed_length i)
  where
    first : (l : List Instr) → boxed_length x + boxed_place l 0 ≡ boxed_length x
    first [] = omega arith
    first (y ∷ l) = omega arith

    sum : (n : ℕ) → n ≡ 0 + n
    sum n = omega arith
place_next (x ∷ is) (suc n) i h =
    let e : suc n + 1 ≡ suc (n + 1) = omega arith in rw e (omega (arith, place_next is n i h))
