use Rattle.std.proofs.Common.{arith, sym, ap, ◌/◌, ◌^◌, ◌<◌, ℕ, ◌+◌, ◌∙◌}
use Rattle.std.proofs.lemmas.Fmt.{length-decimal-le}
use Rattle.line_text.proofs.Lengths.{four_more}
use Rattle.line_text.proofs.digits.+count_digits.Goals as goal

pub overflow_add-result : goal.overflow_add-result
overflow_add-result t c =
    let small : c.args.n / 10000 < 2 ^ 64 = omega (arith, c.ranges.n.fits) in
    omega (
      arith,
      c.count_digits.ensures,
      length-decimal-le 20 (c.args.n / 10000) (omega arith)
          (omega (arith, small)) small,
    )

pub returns : goal.returns
returns t c =
    ap (λ (k : ℕ). 4 + k) c.count_digits.ensures ∙ sym (four_more c.args.n c.if-n-lt10000.false c.ranges.n.fits)
