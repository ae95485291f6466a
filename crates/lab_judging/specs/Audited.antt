-- When a claim of what a lab file writes is right.
use Rattle.std.specs.Prelude.{◌≡◌, ◌≢◌, ℕ, List, [], Option, None, Some}
use Rattle.script_model.specs.World.{Image}
use Rattle.script_model.specs.declared.Keys.{Keys}
use Rattle.script_model.specs.declared.Verdict.{Verdict}
use Rattle.script_model.specs.declared.Verdict.TheVariants.{Yes}
use Rattle.script_model.specs.Audits.{verdict, wanted}
use Rattle.graft_loader.specs.Keys.{keys_of}
use Rattle.lab_reader.specs.Lab.{Lab}
use Rattle.lab_lowering.specs.Lowering.{Lowers}

-- a lab file asks for the sample disk, none of whose calls fails, and a claim of what its script
-- writes under its keys is judged so
pub record ClaimJudged (IsSo : Verdict → Type 0) (lab : Lab) (script : List ℕ) : Type 0 where
  pub disk : lab.settings.disk ≡ None
  pub fails : lab.settings.fails ≡ []
  pub keys : Keys
  pub keyed : keys_of lab.settings.word ≡ Some keys
  pub claim : List ℕ
  pub judged : IsSo (verdict claim (wanted keys script))

-- the same of a text, which is a lab file
pub record Audited (IsSo : Verdict → Type 0) : Type 0 where
  pub text : List ℕ
  pub lab : Lab
  pub images : List Image
  pub script : List ℕ
  pub lowers : Lowers text lab images script
  pub claim : ClaimJudged IsSo lab script

-- a claim is what the script writes
abbrev pub IsRight : Verdict → Type 0
IsRight v = v ≡ Yes

-- it isn't
abbrev pub IsWrong : Verdict → Type 0
IsWrong v = v ≢ Yes
