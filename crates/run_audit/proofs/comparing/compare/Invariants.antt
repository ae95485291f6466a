use Rattle.std.proofs.Common.{◌≡◌, take}
use Rattle.run_audit.specs.Progress.{after_bytes, progress_of, IsWithin}
use Rattle.run_audit.proofs.comparing.compare.Given as goal

abbrev pub invariant-loop-byte : goal.invariant-loop-byte
invariant-loop-byte l =
    (progress_of l.claim l.place ≡ after_bytes (take l.byte-index l.written) (progress_of l.claim l.initial.place))
    × IsWithin l.claim l.place
