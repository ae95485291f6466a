-- A kernel in which no call is in flight stands for itself.
use Rattle.std.specs.Prelude.{◌≡◌, ℕ, [], Option, map}
use Rattle.std.proofs.Common.{refl, sym, ap}
use Rattle.kernel_model.specs.Meaning.{Meaning}
use Rattle.kernel_model.specs.Kernel.{Call}
use Rattle.kernel_model.specs.Blocking.{config_in, levels_in, trace_of, levels_of}
use Rattle.kernel_model.specs.InPlace.{in_place, is_changed_in}
use Rattle.graft_laws.proofs.EffectLemmas.{same_back}
use Rattle.graft_laws.proofs.InPlaceLemmas.{in_place_reads}
use Rattle.placed_laws.specs.Placed.{bare}
use Rattle.placed_laws.specs.Stands.{without_history}
use Rattle.placed_laws.specs.Keeping.{QuietKernelsStand}

pub quiet_kernels_stand : (m : Meaning) → QuietKernelsStand m
quiet_kernels_stand m k sound none =
    record {
      world = refl;
      images = refl;
      clock = refl;
      order = refl;
      calls = λ p. ap without_history (sym (none p));
      levels = λ p. ap (map bare) (sym (no_levels p));
      objects =
          λ o range. same_back o (in_place m k) k.objects
          ((in_place_reads m).committed k o (λ q. ap (λ ls. is_changed_in ls o) (no_levels q)));
      store = sound.state.store;
      kernel = sound;
    }
  where
    no_levels : (p : ℕ) → levels_of m k p ≡ []
    no_levels p = ap (λ (y : Option Call). levels_in (config_in (trace_of m k p y))) (none p)
