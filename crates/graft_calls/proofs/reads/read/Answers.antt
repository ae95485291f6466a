use Rattle.std.proofs.Common.{ℕ, List, slice_index, ap, ◌∙◌, sym}
use Rattle.graft_calls.proofs.reads.read.Goals as goal

pub returns-in-0 : goal.returns-in-0
returns-in-0 g c =
    λ code m k same.
    rw c.in-0.is (c.cell.ensures code m k (ap (λ (f : ℕ → ℕ). f 0) same ∙ sym c.reg.ensures))

pub returns-in-2 : goal.returns-in-2
returns-in-2 g c = λ code m k same. rw c.in-2.is (c.nice.ensures code m k)

pub returns-in-4 : goal.returns-in-4
returns-in-4 g c =
    λ code m k same.
    rw c.in-4.is (c.window.ensures code m k (ap (λ (f : ℕ → ℕ). f 0) same ∙ sym c.reg-in-4.ensures))

pub returns-in-6 : goal.returns-in-6
returns-in-6 g c = λ code m k same. rw c.in-6.is (c.frames.ensures code m k)

pub returns-in-7 : goal.returns-in-7
returns-in-7 g c =
    λ code m k same.
    rw c.in-7.is (c.frame.ensures code m k (ap (λ (f : ℕ → ℕ). f 0) same ∙ sym c.reg-in-7.ensures))

pub returns-in-8 : goal.returns-in-8
returns-in-8 g c =
    λ code m k same.
    rw c.in-8.is (c.block.ensures code m k (ap (λ (f : ℕ → ℕ). f 0) same ∙ sym c.reg-in-8.ensures))

pub returns-in_default : goal.returns-in_default
returns-in_default g c = λ code m k same.
    c.look.ensures code m k
    (record {
      first = ap (λ (f : ℕ → ℕ). f 0) same ∙ sym (ap (λ (xs : List ℕ). slice_index xs 0) c.arguments.ensures);
      second = ap (λ (f : ℕ → ℕ). f 1) same ∙ sym (ap (λ (xs : List ℕ). slice_index xs 1) c.arguments.ensures);
      third = ap (λ (f : ℕ → ℕ). f 2) same ∙ sym (ap (λ (xs : List ℕ). slice_index xs 2) c.arguments.ensures);
    })
