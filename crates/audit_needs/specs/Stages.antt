-- The stages of calls in the code as those of the definitions, and the objects that pieces are
-- looked up in.
use Rattle.std.specs.Prelude.{ℕ, List, Result, Ok, Err}
use Rattle.kernel_model.specs.declared.SysCall.{SysCall}
use Rattle.kernel_model.specs.declared.Refusal.{Refusal}
use Rattle.kernel_model.specs.Bare.{call_with}
use Rattle.kernel_model.specs.Objects.{Objects}
use Rattle.kernel_model.specs.Meaning as model
use Rattle.audit_state.specs.declared.Accounts.{Accounts}
use Rattle.audit_state.specs.declared.Things.{Things}
use Rattle.audit_state.specs.Accounts.{accounts_of}
use Rattle.audit_state.specs.Things.{things_of}
use Rattle.audit_needs.specs.declared.Stage.{Stage}

-- the call of a stage
abbrev pub call_of : Stage → SysCall
call_of t = call_with t.call t.given.items

-- a stage
abbrev pub stage_of : Stage → model.Stage
stage_of t =
    record {
      call = call_of t;
      piece = t.piece;
      handlers = t.handlers.items;
      answers = t.answers;
      bytes = t.bytes.items;
    }

-- the stage at which a call begins, or its refusal
abbrev pub begun_of : Result Stage Refusal → Result model.Stage Refusal
begun_of (Ok t) = Ok (stage_of t)
begun_of (Err refusal) = Err refusal

-- the objects, where the frames hold these bytes
abbrev pub objects_of : (ℕ → List ℕ) → Accounts → Things → Objects
objects_of bytes a w = record { accounts = accounts_of a; things = things_of bytes w }
