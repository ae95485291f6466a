use Rattle.std.proofs.Common.{◌≡◌, ◌++◌, drop, map}
use Rattle.lab_story.specs.Records.{undone, put_back}
use Rattle.lab_story.proofs.marks.put_records.Given as goal

abbrev pub invariant-loop-record : goal.invariant-loop-record
invariant-loop-record l =
    map undone l.out.items ++ put_back l.place l.process l.level (drop l.record-index l.records)
    ≡ map undone l.initial.out.items ++ put_back l.place l.process l.level l.records
