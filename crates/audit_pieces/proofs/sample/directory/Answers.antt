use Rattle.std.proofs.Common.{ℕ, List, ◌++◌, replicate, ap, ◌∙◌}
use Rattle.kernel_model.specs.Directory.{sample_directory}
use Rattle.audit_pieces.proofs.sample.directory.Goals as goal

pub returns : goal.returns
unfolding sample_directory
returns c =
    c.in_ok-append_zeros.ensures
    ∙ ap (λ (xs : List ℕ). xs ++ replicate 416 0)
    (c.in_ok-append-3.ensures
    ∙ ap (λ (xs : List ℕ). xs ++ _)
    (c.in_ok-append-2.ensures
    ∙ ap (λ (xs : List ℕ). xs ++ _)
    (c.in_ok-append.ensures ∙ ap (λ (xs : List ℕ). xs ++ _) c.new-bytes.ensures.items)))
