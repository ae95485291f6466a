use Rattle.std.proofs.Common.{ℕ, List, Ok, sym, ap, ◌∙◌}
use Rattle.std.specs.Prelude.{slice_index}
use Rattle.kernel_model.specs.Access as model
use Rattle.audit_state.specs.declared.Callable.{Callable}
use Rattle.audit_state.specs.declared.Callable.TheVariants.{CellSet, NiceSet, WindowSet, FramesMine}
use Rattle.audit_state.specs.declared.Callable.TheVariants.{FrameAt, FrameMark, TuneGet, TuneSet}
use Rattle.audit_state.specs.Access.{callable_of}
use Rattle.audit_state.specs.Things.{things_of}
use Rattle.audit_state.proofs.Accessing.{kind_is}
use Rattle.audit_state.proofs.Things.access_by.Goals as goal

pub returns-in-CellGet-clause-value : goal.returns-in-CellGet-clause-value
returns-in-CellGet-clause-value c = λ bytes.
    let by = λ (bytes : ℕ → List ℕ) (k : Callable).
    model.access_by (callable_of k) c.args.id (slice_index c.args.args 0) (slice_index c.args.args 1)
    (slice_index c.args.args 2) c.args.q (things_of bytes c.args.self.now) in
    ap model.Gives (c.cell.ensures bytes) ∙ sym (ap (by bytes) c.in-CellGet.is)

pub returns-in-WindowGet-clause-value : goal.returns-in-WindowGet-clause-value
returns-in-WindowGet-clause-value c = λ bytes.
    let by = λ (bytes : ℕ → List ℕ) (k : Callable).
    model.access_by (callable_of k) c.args.id (slice_index c.args.args 0) (slice_index c.args.args 1)
    (slice_index c.args.args 2) c.args.q (things_of bytes c.args.self.now) in
    c.access_window.ensures.value bytes ∙ sym (ap (by bytes) c.in-WindowGet.is)

pub returns-in-FrameBlock-clause-value : goal.returns-in-FrameBlock-clause-value
returns-in-FrameBlock-clause-value c = λ bytes.
    let by = λ (bytes : ℕ → List ℕ) (k : Callable).
    model.access_by (callable_of k) c.args.id (slice_index c.args.args 0) (slice_index c.args.args 1)
    (slice_index c.args.args 2) c.args.q (things_of bytes c.args.self.now) in
    c.access_block.ensures.value bytes ∙ sym (ap (by bytes) c.in-FrameBlock.is)

pub returns-in-CellSet-clause-value : goal.returns-in-CellSet-clause-value
returns-in-CellSet-clause-value c =
    kind_is c.access_cell.result (λ (bytes : ℕ → List ℕ). things_of bytes c.args.self.now)
    (λ (bytes : ℕ → List ℕ). things_of bytes c.access_cell.new.self) c.args.what CellSet c.args.id
    (slice_index c.args.args 0) (slice_index c.args.args 1) (slice_index c.args.args 2) c.args.q
    c.in-CellSet.is c.access_cell.ensures.value

pub returns-in-NiceSet-clause-value : goal.returns-in-NiceSet-clause-value
returns-in-NiceSet-clause-value c =
    kind_is c.access_nice.result (λ (bytes : ℕ → List ℕ). things_of bytes c.args.self.now)
    (λ (bytes : ℕ → List ℕ). things_of bytes c.access_nice.new.self) c.args.what NiceSet c.args.id
    (slice_index c.args.args 0) (slice_index c.args.args 1) (slice_index c.args.args 2) c.args.q
    c.in-NiceSet.is c.access_nice.ensures.value

pub returns-in-WindowSet-clause-value : goal.returns-in-WindowSet-clause-value
returns-in-WindowSet-clause-value c =
    kind_is c.access_window_set.result (λ (bytes : ℕ → List ℕ). things_of bytes c.args.self.now)
    (λ (bytes : ℕ → List ℕ). things_of bytes c.access_window_set.new.self) c.args.what WindowSet c.args.id
    (slice_index c.args.args 0) (slice_index c.args.args 1) (slice_index c.args.args 2) c.args.q
    c.in-WindowSet.is c.access_window_set.ensures.value

pub returns-in-FramesMine-clause-value : goal.returns-in-FramesMine-clause-value
returns-in-FramesMine-clause-value c =
    kind_is c.access_frames.result (λ (bytes : ℕ → List ℕ). things_of bytes c.args.self.now)
    (λ (bytes : ℕ → List ℕ). things_of bytes c.args.self.now) c.args.what FramesMine c.args.id
    (slice_index c.args.args 0) (slice_index c.args.args 1) (slice_index c.args.args 2) c.args.q
    c.in-FramesMine.is c.access_frames.ensures.value

pub returns-in-FrameAt-clause-value : goal.returns-in-FrameAt-clause-value
returns-in-FrameAt-clause-value c =
    kind_is c.access_frame_at.result (λ (bytes : ℕ → List ℕ). things_of bytes c.args.self.now)
    (λ (bytes : ℕ → List ℕ). things_of bytes c.args.self.now) c.args.what FrameAt c.args.id
    (slice_index c.args.args 0) (slice_index c.args.args 1) (slice_index c.args.args 2) c.args.q
    c.in-FrameAt.is c.access_frame_at.ensures.value

pub returns-in-FrameMark-clause-value : goal.returns-in-FrameMark-clause-value
returns-in-FrameMark-clause-value c =
    kind_is c.access_mark.result (λ (bytes : ℕ → List ℕ). things_of bytes c.args.self.now)
    (λ (bytes : ℕ → List ℕ). things_of bytes c.access_mark.new.self) c.args.what FrameMark c.args.id
    (slice_index c.args.args 0) (slice_index c.args.args 1) (slice_index c.args.args 2) c.args.q
    c.in-FrameMark.is c.access_mark.ensures.value

pub returns-in-TuneGet-clause-value : goal.returns-in-TuneGet-clause-value
returns-in-TuneGet-clause-value c =
    kind_is c.access_tune.result (λ (bytes : ℕ → List ℕ). things_of bytes c.args.self.now)
    (λ (bytes : ℕ → List ℕ). things_of bytes c.args.self.now) c.args.what TuneGet c.args.id
    (slice_index c.args.args 0) (slice_index c.args.args 1) (slice_index c.args.args 2) c.args.q
    c.in-TuneGet.is c.access_tune.ensures.value

pub returns-in-TuneSet-clause-value : goal.returns-in-TuneSet-clause-value
returns-in-TuneSet-clause-value c =
    kind_is c.access_tune_set.result (λ (bytes : ℕ → List ℕ). things_of bytes c.args.self.now)
    (λ (bytes : ℕ → List ℕ). things_of bytes c.access_tune_set.new.self) c.args.what TuneSet c.args.id
    (slice_index c.args.args 0) (slice_index c.args.args 1) (slice_index c.args.args 2) c.args.q
    c.in-TuneSet.is c.access_tune_set.ensures.value
