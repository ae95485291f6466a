-- The text of an image, read back.
use Rattle.std.proofs.Common.{◌≡◌, ℕ, zero, suc, ◌+◌, ◌*◌, ◌/◌, ◌%◌, ◌<◌, ◌≤◌, true, false, not}
use Rattle.std.proofs.Common.{◌&&◌, eqb, ltb, leb, List, [], ◌∷◌, ◌++◌, length, map, get_or, codes}
use Rattle.std.proofs.Common.{None, Some, Ok, refl, sym, ap, ◌∙◌, append_assoc, arith}
use Rattle.std.proofs.Common.{length-append}
use Rattle.std.specs.Prelude.{flat_map}
use Rattle.std.specs.List.{list_all}
use Rattle.std.proofs.lemmas.Bool.Decides.{nat_tests}
use Rattle.std.proofs.lemmas.List.{append-nil}
use Rattle.hex.proofs.HexLemmas.{decode_of-encode_lower}
use Rattle.hex.specs.Hex.{decode_of}
use Rattle.graft_texts.specs.declared.Instr.{Instr}
use Rattle.graft_texts.specs.Bytes.{hex_digit as hex_glyph, hex_text, hex_bytes, hex_word}
use Rattle.graft_texts.specs.World.{Image, plain_image}
use Rattle.graft_texts.specs.Images.{IsRawImage}
use Rattle.graft_texts.specs.Instructions.{fits}
use Rattle.graft_texts.specs.Assembler.{Assembly, Placed, Data, lines_of, words_of, is_empty}
use Rattle.graft_texts.specs.Assembler.{statement_of, instr_line, instr_text, body_text, with_line}
use Rattle.graft_texts.specs.Assembler.{with_lines, data_after, linked, image_of, empty_assembly}
use Rattle.graft_texts.specs.Assembler.{assemble, disassemble}
use Rattle.gm_asm.proofs.Hex.{said, hex_bytes-said, encode-hex_text}
use Rattle.gm_asm.proofs.Texts.{list_all-joined, split_behind}
use Rattle.gm_asm.proofs.Texts.{split_whole, is_plain, no_space, no_newline, statement_by}
use Rattle.gm_asm.proofs.Texts.{statement_of-line, line-no_newline}
use Rattle.gm_image.proofs.RoundTrips.{first_true}
use Rattle.gm_image.proofs.RoundTrips.{second_true}
use Rattle.gm_image.proofs.RoundTrips.{both_true}

-- ---- the lines of the text

-- the lines of code, and what is behind it
lines-code : (code : List Instr) (rest : List ℕ) → list_all fits code ≡ true
    → lines_of (flat_map instr_text code ++ rest) ≡ map instr_line code ++ lines_of rest
lines-code [] rest h = refl
lines-code (i ∷ is) rest h =
    let fit = first_true (fits i) (list_all fits is) h in
    let joined : (instr_line i ++ 10 ∷ []) ++ flat_map instr_text is ++ rest
    ≡ instr_line i ++ 10 ∷ (flat_map instr_text is ++ rest) =
    append_assoc (instr_line i ++ 10 ∷ []) (flat_map instr_text is) rest
    ∙ append_assoc (instr_line i) (10 ∷ []) (flat_map instr_text is ++ rest) in
    ap lines_of joined
    ∙ split_behind (λ b. eqb b 10) (instr_line i) 10 (flat_map instr_text is ++ rest) (line-no_newline i fit) refl
    ∙ ap (λ (ls : List (List ℕ)). instr_line i ∷ ls) (lines-code is rest (second_true (fits i) (list_all fits is) h))

-- ---- code

-- an instruction of this line
abbrev placed_at : ℕ → Instr → Placed
placed_at line i = record { instr = i; label = None; line = line }

-- instructions of the lines from this one on
abbrev placed_from : ℕ → List Instr → List Placed
placed_from line [] = []
placed_from line (i ∷ is) = placed_at line i ∷ placed_from (suc line) is

-- the line behind those of code
abbrev line_behind : ℕ → List Instr → ℕ
line_behind line [] = line
line_behind line (i ∷ is) = line_behind (suc line) is

-- an assembly of code alone
abbrev of_code : List Placed → Assembly
of_code code = record { code = code; body = []; labels = [] }

-- there is room for an instruction
room : (k : ℕ) → k < 1024 → leb 1024 k ≡ false
room k h = grind (arith, nat_tests)

-- a line that says an instruction
with_line-instr : (line : ℕ) (code : List Placed) (i : Instr) → fits i ≡ true → length code < 1024
    → with_line line (of_code code) (instr_line i) ≡ Ok (of_code (code ++ placed_at line i ∷ []))
with_line-instr line code i h g = rw (statement_of-line i h, with_line) (rw (room (length code) g) refl)

-- a line and others
with_lines-first : (line : ℕ) (a b : Assembly) (text : List ℕ) (texts : List (List ℕ)) → with_line line a text ≡ Ok b
    → with_lines line a (text ∷ texts) ≡ with_lines (suc line) b texts
with_lines-first line a b text texts h = rw (h, with_lines) refl

-- the lines of code
with_lines-code : (code : List Instr) (line : ℕ) (before : List Placed) (rest : List (List ℕ)) →
    list_all fits code ≡ true
    → length before + length code ≤ 1024
    → with_lines line (of_code before) (map instr_line code ++ rest)
    ≡ with_lines (line_behind line code) (of_code (before ++ placed_from line code)) rest
with_lines-code [] line before rest h g =
    ap (λ (ps : List Placed). with_lines line (of_code ps) rest) (sym (append-nil before))
with_lines-code (i ∷ is) line before rest h g =
    let fit = first_true (fits i) (list_all fits is) h in
    let first = with_line-instr line before i fit (omega (arith, g)) in
    with_lines-first line (of_code before)
    (of_code (before ++ placed_at line i ∷ [])) (instr_line i) (map instr_line is ++ rest) first
    ∙ with_lines-code is (suc line) (before ++ placed_at line i ∷ []) rest (second_true (fits i) (list_all fits is) h)
    (omega (arith, g, length-append before (placed_at line i ∷ [])))
    ∙ ap (λ (ps : List Placed). with_lines (line_behind (suc line) is) (of_code ps) rest)
    (append_assoc before (placed_at line i ∷ []) (placed_from (suc line) is))

-- ---- data

-- a hex digit is plain
plain_glyph : (n : ℕ) → n < 16 → is_plain (hex_glyph n) ≡ true
plain_glyph zero h = refl
plain_glyph (suc zero) h = refl
plain_glyph (suc (suc zero)) h = refl
plain_glyph (suc (suc (suc zero))) h = refl
plain_glyph (suc (suc (suc (suc zero)))) h = refl
plain_glyph (suc (suc (suc (suc (suc zero))))) h = refl
plain_glyph (suc (suc (suc (suc (suc (suc zero)))))) h = refl
plain_glyph (suc (suc (suc (suc (suc (suc (suc zero))))))) h = refl
plain_glyph (suc (suc (suc (suc (suc (suc (suc (suc zero)))))))) h = refl
plain_glyph (suc (suc (suc (suc (suc (suc (suc (suc (suc zero))))))))) h = refl
plain_glyph (suc (suc (suc (suc (suc (suc (suc (suc (suc (suc zero)))))))))) h = refl
plain_glyph (suc (suc (suc (suc (suc (suc (suc (suc (suc (suc (suc zero))))))))))) h = refl
plain_glyph (suc (suc (suc (suc (suc (suc (suc (suc (suc (suc (suc (suc zero)))))))))))) h = refl
plain_glyph (suc (suc (suc (suc (suc (suc (suc (suc (suc (suc (suc (suc (suc zero))))))))))))) h = refl
plain_glyph (suc (suc (suc (suc (suc (suc (suc (suc (suc (suc (suc (suc (suc (suc zero)))))))))))))) h = refl
plain_glyph (suc (suc (suc (suc (suc (suc (suc (suc (suc (suc (suc (suc (suc (suc (suc zero))))))))))))))) h = refl
plain_glyph (suc
    (suc (suc (suc (suc (suc (suc (suc (suc (suc (suc (suc (suc (suc (suc (suc n)))))))))))))))) h =
    absurd (omega (arith, h))

-- hex digits are plain
plain_hex : (bytes : List ℕ) → ((k : ℕ) → get_or bytes k 0 < 256) → list_all is_plain (hex_text bytes) ≡ true
plain_hex [] g = refl
plain_hex (b ∷ bytes) g =
    let small : b < 256 = g 0 in
    both_true (is_plain (hex_glyph (b / 16))) (is_plain (hex_glyph (b % 16))
    && list_all is_plain (hex_text bytes)) (plain_glyph (b / 16) (omega (arith, small)))
    (both_true (is_plain (hex_glyph (b % 16))) (list_all is_plain (hex_text bytes))
    (plain_glyph (b % 16) (omega arith)) (plain_hex bytes (λ k. g (suc k))))

-- there are two digits for each byte
length-hex_text : (bytes : List ℕ) → length (hex_text bytes) ≡ 2 * length bytes
length-hex_text [] = refl
length-hex_text (b ∷ bytes) = omega (arith, length-hex_text bytes)

-- hex digits read back
hex_bytes-text : (bytes : List ℕ) → ((k : ℕ) → get_or bytes k 0 < 256) → hex_bytes (hex_text bytes) ≡ Some bytes
hex_bytes-text bytes g =
    hex_bytes-said (hex_text bytes)
    ∙ ap (λ (t : List ℕ). said (decode_of t)) (sym (encode-hex_text bytes g))
    ∙ ap said (decode_of-encode_lower bytes g)

-- the tests of a hex word and of the data
data_tests : (digits bytes : List ℕ) → 2 ≤ length digits → length digits ≤ 65534 →
    hex_bytes digits ≡ Some bytes → length bytes ≤ 4096
    → data_after [] digits ≡ Some bytes
data_tests digits bytes h g e f = rw (word, data_after) (rw (small (length bytes) f) refl)
  where
    tests : (k : ℕ) → 2 ≤ k → k ≤ 65534 → (leb 2 k && leb k 65534) ≡ true
    tests k a b = grind (arith, nat_tests)

    word : hex_word 65534 digits ≡ Some bytes
    word = rw (tests (length digits) h g, hex_word) e

    small : (k : ℕ) → k ≤ 4096 → ltb 4096 (0 + k) ≡ false
    small k a = grind (arith, nat_tests)

-- the data of an assembly of code
abbrev of_image : List Placed → List ℕ → Assembly
of_image code body = record { code = code; body = body; labels = [] }

-- the line of data
data_line : (digits : List ℕ) → list_all is_plain digits ≡ true → is_empty digits ≡ false →
    statement_of (codes ".bytes " ++ digits) ≡ Ok (Data digits)
data_line digits h e =
    let words : words_of (codes ".bytes " ++ digits) ≡ codes ".bytes" ∷ digits ∷ [] =
    ap (λ (ws : List (List ℕ)). codes ".bytes" ∷ ws) (split_whole (λ b. eqb b 32) digits (no_space digits h)) in
    statement_by (codes ".bytes " ++ digits) (codes ".bytes" ∷ digits ∷ []) (Ok (Data digits)) refl
    words (rw e refl) refl

-- the line of data, and the empty line behind it
lines-data : (digits : List ℕ) → list_all is_plain digits ≡ true →
    lines_of (codes ".bytes " ++ digits ++ 10 ∷ []) ≡ (codes ".bytes " ++ digits) ∷ [] ∷ []
lines-data digits h =
    split_behind (λ b. eqb b 10) (codes ".bytes " ++ digits) 10 [] (list_all-joined
    (λ x. not (eqb x 10)) (codes ".bytes ") digits refl (no_newline digits h)) refl

-- the lines of the data
with_lines-body : (line : ℕ) (code : List Placed) (body : List ℕ) → length body ≤ 4096 →
    ((k : ℕ) → get_or body k 0 < 256)
    → with_lines line (of_code code) (lines_of (body_text body)) ≡ Ok (of_image code body)
with_lines-body line code [] h g = refl
with_lines-body line code (b ∷ bytes) h g =
    let digits = hex_text (b ∷ bytes) in
    let plain = plain_hex (b ∷ bytes) g in
    let size = length-hex_text (b ∷ bytes) in
    let after : data_after [] digits ≡ Some (b ∷ bytes) =
    data_tests digits (b ∷ bytes) (omega (arith, size)) (omega (arith, size, h)) (hex_bytes-text (b ∷ bytes) g) h in
    let first : with_line line (of_code code) (codes ".bytes " ++ digits) ≡ Ok (of_image code (b ∷ bytes)) =
    rw (data_line digits plain (filled digits (omega (arith, size))), with_line) (rw after refl) in
    ap (with_lines line (of_code code)) (lines-data digits plain)
    ∙ with_lines-first line (of_code code) (of_image code (b ∷ bytes)) (codes ".bytes " ++ digits) ([] ∷ []) first
  where
    filled : (xs : List ℕ) → 1 ≤ length xs → is_empty xs ≡ false
    filled xs a = grind (arith, nat_tests)

-- ---- the whole

-- instructions without labels are linked
linked-placed : (line : ℕ) (code : List Instr) → linked [] (placed_from line code) ≡ Ok code
linked-placed line [] = refl
linked-placed line (i ∷ is) = rw (linked-placed (suc line) is) refl

-- the text of an image assembles to the image
pub assemble-disassemble : (i : Image) → IsRawImage i → ((k : ℕ) → get_or i.body k 0 < 256)
    → assemble (disassemble i) ≡ Ok (plain_image i.code i.body)
assemble-disassemble i h g =
    let lines : with_lines 1 empty_assembly (lines_of (disassemble i)) ≡ Ok (of_image (placed_from 1 i.code) i.body) =
    ap (with_lines 1 empty_assembly) (lines-code i.code (body_text i.body) h.code_fits)
    ∙ with_lines-code i.code 1 [] (lines_of (body_text i.body)) h.code_fits (omega (arith, h.code_len))
    ∙ with_lines-body (line_behind 1 i.code) (placed_from 1 i.code) i.body h.body_len g in
    ap image_of lines ∙ rw (linked-placed 1 i.code) refl
