-- Texts and what they assemble to, computed.
use Rattle.std.specs.Prelude.{◌≡◌, false, [], ◌∷◌, codes, refl, Ok, Err}
use Rattle.std.specs.Fmt.{digits}
use Rattle.graft_texts.specs.declared.AsmKind.TheVariants.{UnknownMnemonic, BadOperands, LabelNotSet, LabelSetTwice}
use Rattle.graft_texts.specs.declared.Op.TheVariants.{Li, Jmp, Ret}
use Rattle.graft_texts.specs.Assembler.{assemble, disassemble}

unset_label : assemble (codes "jmp a\n") ≡ Err (record { line = 1; kind = LabelNotSet })
unset_label = refl

label_set_twice : assemble (codes "a:\na:\nret\n") ≡ Err (record { line = 2; kind = LabelSetTwice })
label_set_twice = refl

register_16 : assemble (codes "mov r1 r16\n") ≡ Err (record { line = 1; kind = BadOperands })
register_16 = refl

unknown_before_unset : assemble (codes "jmp a\nfly r1\n")
    ≡ Err (record { line = 2; kind = UnknownMnemonic })
unknown_before_unset = refl

forward_jump : assemble (codes "jmp b\nret\nb:\n.bytes 00fF") ≡ Ok (record {
  code = record { op = Jmp; a = 0; b = 0; c = 0; imm = 2 }
      ∷ record { op = Ret; a = 0; b = 0; c = 0; imm = 0 } ∷ [];
  body = 0 ∷ 255 ∷ [];
  keep = false;
})
forward_jump = refl

written : disassemble (record {
  code = record { op = Li; a = 4; b = 0; c = 0; imm = 16 } ∷ [];
  body = 10 ∷ [];
  keep = false;
}) ≡ codes "li r4 16\n.bytes 0a\n"
unfolding digits
written = refl
