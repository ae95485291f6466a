-- What a call comes to doesn't depend on where the machine stood before it, but by the registers.
use Rattle.std.proofs.Common.{◌≡◌, ℕ, List, refl, ap, ◌∙◌}
use Rattle.kernel_model.specs.Objects.{Objects}
use Rattle.kernel_model.specs.World.{World, ImageTable}
use Rattle.kernel_model.specs.Machine.{Machine, Called}
use Rattle.kernel_model.specs.Levels.{Level, Outcome, with_machine}
use Rattle.kernel_model.specs.GraftStep.{after_machine}

-- a machine of these registers that stood where another one did
abbrev pub standing_at : Machine → (ℕ → ℕ) → Machine
standing_at m regs = record { regs = regs; pc = m.pc; memory = m.memory }

-- what the call comes to, by the registers
abbrev pub by_registers : World → ImageTable → ℕ → Objects → Level → List Level → Machine → ℕ →
    Machine → (ℕ → ℕ) → Outcome
by_registers v images p w l ls m id old regs =
    after_machine v images p w (with_machine (standing_at old regs) l) ls (Called id m)

-- it is the same whatever else the machine was
elsewhere : (v : World) (images : ImageTable) (p : ℕ) (w : Objects) (l : Level) (ls : List Level)
    (m : Machine) (id : ℕ) (old : Machine) →
    after_machine v images p w (with_machine m l) ls (Called id m) ≡ by_registers v images p w l ls
    m id old m.regs
elsewhere v images p w l ls m id old = refl

pub same_call : (v : World) (images : ImageTable) (p : ℕ) (w : Objects) (l : Level)
    (ls : List Level) (m : Machine) (id : ℕ) (old : Machine) →
    m.regs ≡ old.regs →
    after_machine v images p w (with_machine m l) ls (Called id m)
    ≡ after_machine v images p w (with_machine old l) ls (Called id m)
same_call v images p w l ls m id old e =
    elsewhere v images p w l ls m id old ∙ ap (by_registers v images p w l ls m id old) e
