-- An instruction of a plug-in is one with each address masked.
use Rattle.std.proofs.Common.{◌≡◌, ℕ, ◌%◌, ◌^◌, ◌<◌, ◌≤◌, Option, None, Some, refl, sym, ap, ◌∙◌, arith}
use Rattle.std.specs.Prelude.{bit_and, slice_get}
use Rattle.std.proofs.lemmas.Nat.{and_mask, and_assoc}
use Rattle.std.proofs.lemmas.Nat.Bits.{and_high_mask}
use mathlib.Core.Path.{fun_ext}
use Rattle.graft_code.specs.declared.Instr.{Instr}
use Rattle.graft_code.specs.Machine.{Machine, Done, Width, Word, Byte, Places, aligned, mask, masked_place, exec}
use Rattle.vino_host.specs.HostMachine.{wrapped_place}
use Rattle.host_laws.specs.Claims.{StepsAreRaw}

-- an address that counts modulo 4,096 is a masked one
pub masked : (w : Width) (a : ℕ) → aligned w (a % 4096) ≡ bit_and a (mask w)
masked Byte a = sym (and_mask a 12)
masked Word a =
    let small : a % 4096 < 2 ^ 12 = omega arith in
    let within : 2 ≤ 12 = omega arith in
    sym (and_high_mask 12 2 within (a % 4096) small)
    ∙ ap (λ (x : ℕ). bit_and x 4092) (sym (and_mask a 12)) ∙ and_assoc 4092 a 4095

same_place : wrapped_place ≡ masked_place
same_place = fun_ext (λ m. fun_ext (λ w. fun_ext (λ a. ap (λ (x : ℕ). Some x) (masked w a))))

by_instr : (m : Machine) (o : Option Instr) →
    ◌≡◌ {A = Done} (elim o as (λ _. Done) [
      | None ↦ Done.PastEnd
      | Some i ↦ exec wrapped_place i.op i.a i.b i.c i.imm m
    ]) (elim o as (λ _. Done) [
      | None ↦ Done.PastEnd
      | Some i ↦ exec masked_place i.op i.a i.b i.c i.imm m
    ])
by_instr m None = refl
by_instr m (Some i) = ap (λ (p : Places). exec p i.op i.a i.b i.c i.imm m) same_place

pub steps_are_raw : StepsAreRaw
steps_are_raw code m = by_instr m (slice_get code m.pc)
