-- How a claim of what a lab file writes is judged.
use Rattle.std.proofs.Common.{◌≡◌, ℕ, List, [], Option, None, Some}
use Rattle.script_model.specs.World.{Image}
use Rattle.script_model.specs.declared.Keys.{Keys}
use Rattle.script_model.specs.declared.Verdict.{Verdict}
use Rattle.script_model.specs.Audits.{verdict, wanted}
use Rattle.graft_loader.specs.Keys.{keys_of}
use Rattle.lab_reader.specs.Lab.{Lab}
use Rattle.lab_lowering.specs.Lowering.{Lowers}
use Rattle.lab_judging.specs.Audited.{ClaimJudged, Audited}

-- a claim of a lab file over the sample disk
pub judged : (IsSo : Verdict → Type 0) (l : Lab) (script claim : List ℕ) (keys : Keys) →
    l.settings.disk ≡ None → l.settings.fails ≡ [] → keys_of l.settings.word ≡ Some keys →
    IsSo (verdict claim (wanted keys script)) → ClaimJudged IsSo l script
judged IsSo l script claim keys disk fails keyed so =
    record { disk = disk; fails = fails; keys = keys; keyed = keyed; claim = claim; judged = so }

-- a text that is a lab file, and such a claim of it
pub audited : (IsSo : Verdict → Type 0) (text : List ℕ) (l : Lab) (images : List Image) (script : List ℕ) →
    Lowers text l images script → ClaimJudged IsSo l script → Audited IsSo
audited IsSo text l images script lowers claim =
    record { text = text; lab = l; images = images; script = script; lowers = lowers; claim = claim }
