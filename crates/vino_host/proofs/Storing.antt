-- An image as a plug-in's bytes.
use Rattle.std.proofs.Common.{◌≡◌, ℕ, ◌+◌, ◌-◌, ◌*◌, ◌%◌, ◌/◌, ◌<◌, ◌≤◌, ◌==◌, Bool, true, false}
use Rattle.std.proofs.Common.{List, [], ◌∷◌, ◌++◌, length, take, drop, refl, sym, ap, subst, ◌∙◌, arith, eq-eqb}
use Rattle.std.specs.Prelude.{get_or, min}
use Rattle.std.specs.List.{list_all}
use Rattle.std.proofs.Math.Nat.{min-eq_left}
use Rattle.std.proofs.Math.Seq.{drop-append_seam, take-append_seam}
use Rattle.std.proofs.lemmas.List.{flat_map_more, take_more, append_assoc, drop-drop, drop-take, take-append-drop}
use Rattle.std.proofs.lemmas.List.{length-append, length-take-le}
use Rattle.sha2.specs.Sha256.{sha256}
use Rattle.sha2.proofs.Facts256.{length-sha256}
use Rattle.graft_code.specs.declared.Instr.{Instr}
use Rattle.graft_code.specs.Bytes.{word_at}
use Rattle.graft_code.specs.Instructions.{encode, fits}
use Rattle.graft_code.specs.Images.{code_bytes, flags_with}
use Rattle.graft_code.specs.World.{Image, same_bytes}
use Rattle.vino_host.specs.HostMachine.{code_in}
use Rattle.vino_host.specs.Plugins.{size_of, body_size_of, code_part, body_of, image_of, content_of, is_whole}
use Rattle.vino_host.specs.Plugins.{first_words, content_by, needed, with_image}
use Rattle.vino_host.proofs.Holding.{word_back, code_back}

-- ---- how it is written

-- the first k instructions stand at a place, and what is behind the place of all is as before
pub record CodePut (at : ℕ) (code : List Instr) (old new : List ℕ) (k : ℕ) : Type 0 where
  pub front : take (at + 8 * k) new ≡ take at old ++ code_bytes (take k code)
  pub back : (n : ℕ) → at + 8 * length code ≤ n → drop n new ≡ drop n old
  pub size : length new ≡ length old

-- one more
pub code_more : (at : ℕ) (code : List Instr) (old to new : List ℕ) (k : ℕ) (i : Instr) → CodePut at code old to k →
    k < length code → i ≡ get_or code k i →
    take (at + 8 * k + 8) new ≡ take (at + 8 * k) to ++ encode i →
    ((n : ℕ) → at + 8 * k + 8 ≤ n → drop n new ≡ drop n to) → length new ≡ length to →
    CodePut at code old new (k + 1)
code_more at code old to new k i h room is front back size =
    let place : at + 8 * (k + 1) ≡ at + 8 * k + 8 = omega arith in
    record {
      front =
          ap (λ (n : ℕ). take n new) place ∙ front ∙ ap (λ (xs : List ℕ). xs ++ encode i) h.front
          ∙ flat_map_more encode (take at old) (take k code) i
          ∙ ap (λ (xs : List Instr). take at old ++ code_bytes xs)
          (ap (λ (x : Instr). take k code ++ x ∷ []) is ∙ sym (take_more code k i room));
      back = λ n far. let near : at + 8 * k + 8 ≤ n = omega (arith, far, room) in back n near ∙ h.back n far;
      size = size ∙ h.size;
    }

-- the three parts behind the mark
pub content_put : (i : Image) (old p1 p2 p3 words body : List ℕ) (code : List Instr) → words ≡ first_words i →
    code ≡ i.code → body ≡ i.body → take (32 + length words) p1 ≡ take 32 old ++ words →
    take (44 + 8 * length code) p2 ≡ take 44 p1 ++ code_bytes code →
    take (44 + 8 * length code + length body) p3 ≡ take (44 + 8 * length code) p2 ++ body →
    take (needed i) p3 ≡ take 32 old ++ content_by i
content_put i old p1 p2 p3 words body code w c b one two three =
    let first : take 44 p1 ≡ take 32 old ++ first_words i =
    subst (λ (xs : List ℕ). take (32 + length xs) p1 ≡ take 32 old ++ xs) w one in
    let second : take (44 + 8 * length i.code) p2 ≡ take 44 p1 ++ code_bytes i.code =
    subst (λ (xs : List Instr). take (44 + 8 * length xs) p2 ≡ take 44 p1 ++ code_bytes xs) c two in
    let third : take (44 + 8 * length i.code + length i.body) p3 ≡ take (44 + 8 * length i.code) p2 ++ i.body =
    subst (λ (xs : List ℕ). take (44 + 8 * length i.code + length xs) p3
    ≡ take (44 + 8 * length i.code) p2 ++ xs) b
    (subst (λ (xs : List Instr). take (44 + 8 * length xs + length body) p3
    ≡ take (44 + 8 * length xs) p2 ++ body) c three) in
    third ∙ ap (λ (xs : List ℕ). xs ++ i.body) (second ∙ ap (λ (xs : List ℕ). xs ++ code_bytes i.code) first)
    ∙ append_assoc (take 32 old ++ first_words i) (code_bytes i.code) i.body
    ∙ append_assoc (take 32 old) (first_words i) (code_bytes i.code ++ i.body)

-- the mark before them
pub image_put : (i : Image) (old mid new digest : List ℕ) (room : ℕ) → room ≡ needed i →
    digest ≡ sha256 (take (room - 32) (drop 32 mid)) →
    take (needed i) mid ≡ take 32 old ++ content_by i → drop (needed i) mid ≡ drop (needed i) old →
    needed i ≤ length old → take (0 + length digest) new ≡ digest →
    ((n : ℕ) → 0 + length digest ≤ n → drop n new ≡ drop n mid) → new ≡ with_image i old
image_put i old mid new digest room r d front back fits_in mark rest =
    let more : ℕ = 12 + 8 * length i.code + length i.body in
    let whole : needed i ≡ 32 + more = omega arith in
    let long : 32 ≤ length old = omega (arith, fits_in) in
    let content : take more (drop 32 mid) ≡ content_by i =
    sym (drop-take 32 more mid) ∙ ap (λ (n : ℕ). drop 32 (take n mid)) (sym whole)
    ∙ ap (λ (xs : List ℕ). drop 32 xs) front
    ∙ subst (λ (n : ℕ). drop n (take 32 old ++ content_by i) ≡ content_by i) (length-take-le 32 old long)
    (drop-append_seam (take 32 old) (content_by i)) in
    let left : room - 32 ≡ more = omega (arith, r, whole) in
    let is_digest : digest ≡ sha256 (content_by i) =
    d ∙ ap (λ (xs : List ℕ). sha256 xs) (ap (λ (n : ℕ). take n (drop 32 mid)) left ∙ content) in
    let long_digest : length digest ≡ 32 =
    ap (λ (xs : List ℕ). length xs) is_digest ∙ length-sha256 (content_by i) in
    let at : 0 + length digest ≡ 32 = omega (arith, long_digest) in
    let near : 0 + length digest ≤ 32 = omega (arith, long_digest) in
    let front_is : take 32 new ≡ sha256 (content_by i) =
    ap (λ (n : ℕ). take n new) (sym at) ∙ mark ∙ is_digest in
    let back_is : drop 32 new ≡ content_by i ++ drop (needed i) old =
    rest 32 near ∙ sym (take-append-drop more (drop 32 mid))
    ∙ ap (λ (xs : List ℕ). xs ++ drop more (drop 32 mid)) content
    ∙ ap (λ (xs : List ℕ). content_by i ++ xs)
    (drop-drop more 32 mid ∙ ap (λ (n : ℕ). drop n mid) (sym whole) ∙ back) in
    sym (take-append-drop 32 new) ∙ ap (λ (xs : List ℕ). xs ++ drop 32 new) front_is
    ∙ ap (λ (xs : List ℕ). sha256 (content_by i) ++ xs) back_is

-- ---- how it is read

-- what stands behind the mark
pub behind_mark : (i : Image) (old : List ℕ) → drop 32 (with_image i old) ≡ content_by i ++ drop (needed i) old
behind_mark i old =
    subst (λ (n : ℕ). drop n (with_image i old) ≡ content_by i ++ drop (needed i) old) (length-sha256 (content_by i))
    (drop-append_seam (sha256 (content_by i)) (content_by i ++ drop (needed i) old))

-- the mark
mark_back : (i : Image) (old : List ℕ) → take 32 (with_image i old) ≡ sha256 (content_by i)
mark_back i old =
    subst (λ (n : ℕ). take n (with_image i old) ≡ sha256 (content_by i)) (length-sha256 (content_by i))
    (take-append_seam (sha256 (content_by i)) (content_by i ++ drop (needed i) old))

size_back : (i : Image) (old : List ℕ) → length i.code ≤ 1024 → size_of (with_image i old) ≡ length i.code
size_back i old few =
    ap (λ (xs : List ℕ). min (word_at xs 0) 1024) (behind_mark i old)
    ∙ ap (λ (n : ℕ). min n 1024) (word_back (length i.code) (omega (arith, few))) ∙ min-eq_left few

body_size_back : (i : Image) (old : List ℕ) → length i.body ≤ 4096 →
    body_size_of (with_image i old) ≡ length i.body
body_size_back i old few =
    ap (λ (xs : List ℕ). min (word_at xs 4) 4096) (behind_mark i old)
    ∙ ap (λ (n : ℕ). min n 4096) (word_back (length i.body) (omega (arith, few))) ∙ min-eq_left few

-- whether segments are kept
keep_back : (i : Image) (old : List ℕ) → (word_at (drop 32 (with_image i old)) 8 == 1) ≡ i.keep
keep_back i old = ap (λ (xs : List ℕ). word_at xs 8 == 1) (behind_mark i old) ∙ by_keep i.keep
  where
    by_keep : (k : Bool) → (flags_with k % 256 + 256 * (flags_with k / 256 % 256)
        + 65536 * (flags_with k / 65536 % 256) + 16777216 * (flags_with k / 16777216 % 256) == 1) ≡ k
    by_keep true = refl
    by_keep false = refl

-- code has eight bytes for each instruction
long_code : (code : List Instr) → length (code_bytes code) ≡ 8 * length code
long_code [] = refl
long_code (i ∷ is) = omega (arith, long_code is)

-- what stands behind the three words
behind_words : (i : Image) (old : List ℕ) →
    drop 44 (with_image i old) ≡ code_bytes i.code ++ (i.body ++ drop (needed i) old)
behind_words i old =
    sym (drop-drop 12 32 (with_image i old)) ∙ ap (λ (xs : List ℕ). drop 12 xs) (behind_mark i old)
    ∙ append_assoc (code_bytes i.code) i.body (drop (needed i) old)

code_part_back : (i : Image) (old : List ℕ) → length i.code ≤ 1024 →
    code_part (with_image i old) ≡ code_bytes i.code
code_part_back i old few =
    let rest : List ℕ = i.body ++ drop (needed i) old in
    ap (λ (n : ℕ). take (8 * n) (drop 44 (with_image i old))) (size_back i old few)
    ∙ ap (λ (xs : List ℕ). take (8 * length i.code) xs) (behind_words i old)
    ∙ ap (λ (n : ℕ). take n (code_bytes i.code ++ rest)) (sym (long_code i.code))
    ∙ take-append_seam (code_bytes i.code) rest

body_back : (i : Image) (old : List ℕ) → length i.code ≤ 1024 → length i.body ≤ 4096 →
    body_of (with_image i old) ≡ i.body
body_back i old few short =
    let rest : List ℕ = i.body ++ drop (needed i) old in
    let p : List ℕ = with_image i old in
    ap (λ (n : ℕ). take n (drop (44 + 8 * size_of p) p)) (body_size_back i old short)
    ∙ ap (λ (xs : List ℕ). take (length i.body) xs)
    (ap (λ (n : ℕ). drop (44 + 8 * n) p) (size_back i old few) ∙ sym (drop-drop (8 * length i.code) 44 p)
    ∙ ap (λ (xs : List ℕ). drop (8 * length i.code) xs) (behind_words i old)
    ∙ ap (λ (n : ℕ). drop n (code_bytes i.code ++ rest)) (sym (long_code i.code))
    ∙ drop-append_seam (code_bytes i.code) rest)
    ∙ take-append_seam i.body (drop (needed i) old)

-- the bytes hold the image
pub image_back : (i : Image) (old : List ℕ) → length i.code ≤ 1024 → length i.body ≤ 4096 →
    list_all fits i.code ≡ true → image_of (with_image i old) ≡ i
image_back i old few short fit =
    by_parts _ _ _ (ap (λ (xs : List ℕ). code_in xs) (code_part_back i old few) ∙ code_back i.code fit)
    (body_back i old few short) (keep_back i old)
  where
    by_parts : (code : List Instr) (body : List ℕ) (keep : Bool) → code ≡ i.code → body ≡ i.body → keep ≡ i.keep →
        ◌≡◌ {A = Image} (record { code = code; body = body; keep = keep }) i
    by_parts code body keep p q r =
        ap (λ (x : List Instr). image x body keep) p ∙ ap (λ (x : List ℕ). image i.code x keep) q
        ∙ ap (λ (x : Bool). image i.code i.body x) r
      where
        image : List Instr → List ℕ → Bool → Image
        image code body keep = record { code = code; body = body; keep = keep }

-- how much content there is
long_content : (i : Image) → length (content_by i) ≡ 12 + 8 * length i.code + length i.body
long_content i =
    omega (arith, length-append (code_bytes i.code) i.body, long_code i.code)

-- the content
pub content_back : (i : Image) (old : List ℕ) → length i.code ≤ 1024 → length i.body ≤ 4096 →
    content_of (with_image i old) ≡ content_by i
content_back i old few short =
    let p : List ℕ = with_image i old in
    ap (λ (n : ℕ). take (12 + 8 * n + body_size_of p) (drop 32 p)) (size_back i old few)
    ∙ ap (λ (n : ℕ). take (12 + 8 * length i.code + n) (drop 32 p)) (body_size_back i old short)
    ∙ ap (λ (xs : List ℕ). take (12 + 8 * length i.code + length i.body) xs) (behind_mark i old)
    ∙ ap (λ (n : ℕ). take n (content_by i ++ drop (needed i) old)) (sym (long_content i))
    ∙ take-append_seam (content_by i) (drop (needed i) old)

-- bytes are those that they are
same_self : (xs : List ℕ) → same_bytes xs xs ≡ true
same_self [] = refl
same_self (x ∷ xs) = rw (eq-eqb x x refl) (same_self xs)

-- the mark is that of the content
pub whole : (i : Image) (old : List ℕ) → length i.code ≤ 1024 → length i.body ≤ 4096 →
    is_whole (with_image i old) ≡ true
whole i old few short =
    ap (λ (xs : List ℕ). same_bytes (sha256 xs) (take 32 (with_image i old))) (content_back i old few short)
    ∙ ap (λ (xs : List ℕ). same_bytes (sha256 (content_by i)) xs) (mark_back i old)
    ∙ same_self (sha256 (content_by i))

-- what is behind the image
pub behind_image : (i : Image) (old : List ℕ) → length i.code ≤ 1024 → length i.body ≤ 4096 →
    drop (32 + length (content_of (with_image i old))) (with_image i old)
    ≡ drop (32 + length (content_of (with_image i old))) old
behind_image i old few short =
    let p : List ℕ = with_image i old in
    let content : length (content_of p) ≡ length (content_by i) =
    ap (λ (xs : List ℕ). length xs) (content_back i old few short) in
    let all : 32 + length (content_of p) ≡ needed i = omega (arith, content, long_content i) in
    let more : length (content_of p) ≡ length (content_by i) = content in
    sym (drop-drop (length (content_of p)) 32 p)
    ∙ ap (λ (n : ℕ). drop n (drop 32 p)) more
    ∙ ap (λ (xs : List ℕ). drop (length (content_by i)) xs) (behind_mark i old)
    ∙ drop-append_seam (content_by i) (drop (needed i) old)
    ∙ ap (λ (n : ℕ). drop n old) (sym all)
