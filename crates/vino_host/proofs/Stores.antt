-- An instruction that stores a word.
use Rattle.std.proofs.Common.{◌≡◌, ℕ, ◌+◌, ◌%◌, List, sym, ap}
use Rattle.std.specs.Prelude.{slice_index}
use Rattle.graft_code.specs.Machine.{Done, Word, aligned, store, writes}
use Rattle.vino_host.specs.declared.Machine.{Machine}
use Rattle.vino_host.specs.HostMachine.{by_place, machine_of, wrapped_place}

pub word_stored : (cpu : Machine) (segment new : List ℕ) (a b x v : ℕ) → slice_index cpu.regs a ≡ v →
    slice_index cpu.regs b ≡ x → by_place new ≡ store Word (by_place segment) (aligned Word (x % 4096)) v →
    writes (machine_of cpu segment) Word (slice_index cpu.regs a)
    (wrapped_place (machine_of cpu segment) Word (slice_index cpu.regs b))
    ≡ Done.Went (machine_of (record cpu { pc = cpu.pc + 1 }) new)
word_stored cpu segment new a b x v va xb e =
    rw (va, xb) (ap (λ (f : ℕ → ℕ). Done.Went
    (record { regs = by_place cpu.regs; pc = cpu.pc + 1; memory = f })) (sym e))
