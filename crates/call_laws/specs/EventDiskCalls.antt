-- The table of event points meets the laws of disk calls: no piece makes one.
use Rattle.std.specs.Prelude.{◌≡◌, true, false}
use Rattle.std.proofs.Common.{arith, refl, sym, ap, ◌∙◌}
use Rattle.kernel_model.specs.Laws.{DiskLaws}
use Rattle.kernel_model.specs.EventPoints.{event_points}
use Rattle.call_laws.specs.QuickPieces.{is_faulty}
use Rattle.call_laws.specs.EventPieces.{event_quiet}

-- the laws of disk calls hold of event points
pub disk_calls_of_events : DiskLaws event_points
disk_calls_of_events = record {
  own_calls = λ v images s blocks p t answer io rest few. refl;
  few_calls = λ v images s blocks p t answer io ready.
      let none = (event_quiet t.call t s blocks p answer).calls in omega (arith, none);
  fault = λ v images s blocks p t answer io e.
      let no : true ≡ false =
      sym (ap is_faulty e) ∙ (event_quiet t.call t s blocks p answer).faultless in absurd cc;
}
