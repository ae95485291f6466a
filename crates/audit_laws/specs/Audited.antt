-- What a run writes over the sample disk is what an audit of it wants.
use Rattle.std.specs.Prelude.{◌≡◌, ℕ, Bool, List}
use Rattle.script_model.specs.declared.Keys.{Keys}
use Rattle.script_model.specs.Directory.{sample_disk}
use Rattle.script_model.specs.Session.{whole}
use Rattle.script_model.specs.Outcome.{End, outcome, written}
use Rattle.script_model.specs.Audits.{verdict, wanted}
use Rattle.script_model.specs.declared.Verdict.TheVariants.{Yes}
use Rattle.failure_laws.specs.Failures.{NothingFails}

-- what the run of a script writes over the sample disk, where these lists say which of its calls of
-- the disk fail
abbrev pub run_written : Keys → List ℕ → List (List Bool) → List ℕ
run_written keys script ios = written (outcome whole keys script End sample_disk ios)

-- What a run writes gets yes, where no call of the disk fails.
abbrev pub RunIsAudited : Type 0
RunIsAudited =
    (keys : Keys) (script : List ℕ) (ios : List (List Bool)) → NothingFails ios →
    verdict (run_written keys script ios) (wanted keys script) ≡ Yes

-- And what gets yes is what such a run writes.
abbrev pub YesIsTheRun : Type 0
YesIsTheRun =
    (keys : Keys) (script claim : List ℕ) (ios : List (List Bool)) → NothingFails ios →
    verdict claim (wanted keys script) ≡ Yes → claim ≡ run_written keys script ios
