-- The level at this place is level d of the chain.
use Rattle.std.proofs.Common.{length, arith, ap, sym, ◌∙◌, ◌≡◌, refl}
use Rattle.std.proofs.lemmas.List.{length-reverse}
use Rattle.std.proofs.lemmas.Option.{slice_get_read}
use Rattle.running_kernel.proofs.ShownLemmas.{level_row_is}
use Rattle.running_kernel.proofs.shown.row_of_level.Goals as goal

pub returns : goal.returns
returns c = λ ram t log w.
    let out = c.as_slice.result.now in
    let many : length c.args.levels.now ≡ length out = ap length (sym c.as_slice.ensures.value) ∙ length-reverse out in
    level_row_is c.args.p ram t out c.args.levels.now log w c.args.d c.index-as_slice-d.result
    c.as_slice.ensures.value (omega (arith, many, c.requires))
    (slice_get_read out (length out) c.args.d c.index-as_slice-d.result refl
    (omega (arith, many, c.requires)) c.index-as_slice-d.is)
