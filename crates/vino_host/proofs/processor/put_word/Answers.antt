use Rattle.std.proofs.Common.{◌+◌, ◌/◌, ◌%◌, ℕ, ap, ◌∙◌}
use Rattle.graft_code.specs.Objects.{at}
use Rattle.vino_host.proofs.processor.put_word.Goals as goal

pub returns : goal.returns
returns c =
    let i = c.args.i in
    let v = c.args.v in
    c.put_byte-4.ensures ∙ ap (λ (m : ℕ → ℕ). at (i + 3) (v / 16777216) m)
    (c.put_byte-3.ensures ∙ ap (λ (m : ℕ → ℕ). at (i + 2) (v / 65536 % 256) m)
    (c.put_byte-2.ensures ∙ ap (λ (m : ℕ → ℕ). at (i + 1) (v / 256 % 256) m) c.put_byte.ensures))
