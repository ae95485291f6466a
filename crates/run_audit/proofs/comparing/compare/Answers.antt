use Rattle.std.proofs.Common.{ℕ, sym, ap, ◌∙◌, List, take, get_or}
use Rattle.std.proofs.lemmas.List.{take_more}
use Rattle.run_audit.specs.Progress.{Progress, after_byte, after_bytes, progress_of}
use Rattle.run_audit.proofs.Deciding.{after_more}
use Rattle.run_audit.proofs.comparing.compare.Goals as goal

pub loop-byte-preserved : goal.loop-byte-preserved
loop-byte-preserved c =
    let claim = c.args.claim.now in
    let from = progress_of claim c.args.place in
    let i = c.loop-byte.byte-index in
    let more = take_more c.args.written.now i 0 c.loop-byte-test.true in (
      c.compare_byte-place.ensures.took
          ∙ ap (λ (s : Progress). after_byte (get_or c.args.written.now i 0) s) c.loop-byte.invariant.0
          ∙ sym (ap (λ (xs : List ℕ). after_bytes xs from) more
          ∙ after_more (take i c.args.written.now) (get_or c.args.written.now i 0) from),
      c.compare_byte-place.ensures.within,
    )
