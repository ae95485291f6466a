use Rattle.std.proofs.Common.{ℕ, ap, refl}
use Rattle.kernel_data.specs.Objects.{PolValue}
use Rattle.process_table.specs.Processes.{processes_of}
use Rattle.graft_accounts.specs.Table.{accounts_of}
use Rattle.kernel_state.specs.Stores.{objects_with, cache_of}
use Rattle.kernel_state.proofs.Store.choose.Goals as goal

pub returns : goal.returns
returns g c =
    let s = c.args.self.now in
    record {
      objects =
          ap (λ (pol : ℕ → PolValue). objects_with (accounts_of s.accounts) (processes_of s.procs)
          (cache_of s) pol s.kept) (c.choose.ensures.policies _);
      queue = refl;
      living = λ q. refl;
      views = refl;
      world = refl;
      memory = refl;
    }
