-- Each call has fewer wanted lines.
use Rattle.std.proofs.Common.{◌≡◌, ◌+◌, ◌*◌, drop, length}
use Rattle.lab_matching.specs.Matching.{follows, some_suffix}
use Rattle.lab_matching.proofs.following.+following.Given as goal

abbrev pub decreases-follows : goal.decreases-follows
decreases-follows l = 2 * length l.wants.now

abbrev pub decreases-some_suffix : goal.decreases-some_suffix
decreases-some_suffix l = 2 * length l.wants.now + 1

-- none of the suffixes so far passes
abbrev pub invariant-some_suffix-loop-i : goal.invariant-some_suffix-loop-i
invariant-some_suffix-loop-i l =
    some_suffix (follows l.wants) l.lines ≡ some_suffix (follows l.wants) (drop l.i l.lines)
