-- The machine of the code as that of the definitions.
use Rattle.std.specs.Prelude.{Bool, true, false}
use Rattle.audit_table.specs.Tables.{by_place}
use Rattle.graft_code.specs.Machine as model
use Rattle.audit_machine.specs.declared.Machine.{Machine}
use Rattle.audit_machine.specs.declared.Done.{Done}
use Rattle.audit_machine.specs.declared.Done.TheVariants.{Went, Called, Returned, DividedByZero}
use Rattle.audit_machine.specs.declared.Done.TheVariants.{Trapped, Outside, PastEnd}

-- the machine of the definitions
abbrev pub machine_of : Machine → model.Machine
machine_of m = record { regs = by_place m.regs; pc = m.pc; memory = by_place m.memory.items }

-- what was done, where this is the machine afterwards
abbrev pub done_of : Done → model.Machine → model.Done
done_of Went m = model.Went m
done_of (Called id) m = model.Called id m
done_of Returned m = model.Returned
done_of DividedByZero m = model.DividedByZero
done_of (Trapped code) m = model.Trapped code
done_of Outside m = model.Outside
done_of PastEnd m = model.PastEnd

-- the machine goes on after this
abbrev pub goes_on : Done → Bool
goes_on Went = true
goes_on (Called id) = true
goes_on _ = false
