-- Masked addresses.
use Rattle.std.proofs.Common.{◌≡◌, ℕ, ◌+◌, ◌*◌, ◌%◌, ◌^◌, ◌<◌, ap, ◌∙◌, refl, arith}
use Rattle.std.specs.Prelude.{bit_and, bit_or, Some}
use Rattle.std.proofs.lemmas.Bool.{lt-ltb, le-leb}
use Rattle.std.proofs.lemmas.Nat.{and_le_r, and_mod, or_comm, or_shifted}
use Rattle.graft_code.specs.Machine.{Machine, Width, Word, Byte, aligned, word, mask, segment_base, segment_place}

-- an offset that leaves room for an access
pub record IsOffset (w : Width) (q : ℕ) : Type 0 where
  pub within : q < 4096
  pub room : w ≡ Word → q + 3 < 4096
  pub whole : w ≡ Word → q % 4 ≡ 0

-- what a mask leaves of an address is an offset
pub masked_offset : (w : Width) (x : ℕ) → IsOffset w (bit_and x (mask w))
masked_offset Byte x = record { within = omega (arith, and_le_r x 0xfff); room = λ h. cc; whole = λ h. cc }
masked_offset Word x = record {
  within = omega (arith, and_le_r x 0xffc);
  room = λ _. omega (arith, and_le_r x 0xffc);
  whole =
      λ _. let low : bit_and x 0xffc % 2 ^ 2 ≡ bit_and (x % 2 ^ 2) 0 = and_mod x 0xffc 2 in
      omega (arith, low, and_le_r (x % 2 ^ 2) 0);
}

-- it is a word
pub masked_word : (w : Width) (x : ℕ) → word (bit_and x (mask w)) ≡ bit_and x (mask w)
masked_word w x = let o = masked_offset w x in omega (arith, o.within)

-- the base of a segment joined to an offset is their sum
pub join_base : (slot offset : ℕ) → offset < 4096 → slot < 64 →
    word (bit_or offset (segment_base slot)) ≡ segment_base slot + offset
join_base slot offset h k =
    let small : offset < 2 ^ 12 = omega arith in
    let shifted : segment_base slot ≡ (64 + slot) * 2 ^ 12 = omega arith in
    let joined : bit_or offset (segment_base slot) ≡ segment_base slot + offset =
    or_comm offset (segment_base slot) ∙ rw shifted (or_shifted (64 + slot) 12 offset small) in
    rw joined (omega arith)

aligned_sum : (w : Width) (slot q a : ℕ) → IsOffset w q → a ≡ segment_base slot + q →
    aligned w a ≡ segment_base slot + q
aligned_sum Byte slot q a o e = e
aligned_sum Word slot q a o e = omega (arith, o.whole refl, e)

-- where the address in r14 is, if it is the base and an offset
pub place_found : (w : Width) (n : Machine) (slot q : ℕ) → n.regs 15 ≡ segment_base slot →
    n.regs 14 ≡ segment_base slot + q → IsOffset w q
    → segment_place n w (n.regs 14) ≡ Some q
place_found w n slot q base address o =
    let e : aligned w (n.regs 14) ≡ segment_base slot + q = aligned_sum w slot q (n.regs 14) o address in
    rw (le-leb (n.regs 15) (aligned w (n.regs 14)) (omega (arith, e, base)))
    (rw (lt-ltb (aligned w (n.regs 14)) (n.regs 15 + 4096) (omega (arith, e, base, o.within)))
    (ap Some (omega (arith, e, base))))
