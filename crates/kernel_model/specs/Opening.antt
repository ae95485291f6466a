-- The state after boot.
use Rattle.std.specs.Prelude.{ℕ, ◌==◌, cond, [], ◌∷◌, None}
use Rattle.kernel_data.specs.World.{World}
use Rattle.kernel_data.specs.Objects.{Objects, Accounts, Things, AcctValue, PolValue}
use Rattle.kernel_model.specs.Kernel.{Kernel}

-- root has the whole grant, and nothing is spent
abbrev pub opening_account : ℕ → ℕ → AcctValue
opening_account grant q = record { balance = λ k. cond (q == 0) grant 0; spent = λ k. 0 }

-- read-ahead has policy 1, with 2 blocks; policy 2 of that kind has 1 block; every other kind has
-- policy 0, and every other parameter is 0
abbrev pub opening_policy : ℕ → PolValue
opening_policy kind =
    record {
      chosen = cond (kind == 0) 1 0;
      param = λ j. cond (kind == 0) (cond (j == 1) 2 (cond (j == 2) 1 0)) 0;
    }

-- nothing is installed, and root has the whole grant
abbrev pub opening_accounts : ℕ → Accounts
opening_accounts grant = record { graft = λ q pt. None; acct = opening_account grant }

-- only process 0 lives; nothing is open, held or in a frame
abbrev pub opening_things : Things
opening_things =
    record {
      cell = λ q k. 0;
      file = λ q fd. None;
      queue = record { process = 0; nice = 20; slices = 0 } ∷ [];
      cache = record { frame = λ f. None; lru = [] };
      lock = λ u. None;
      pol = opening_policy;
      segment = λ q pt. None;
      handlers = [];
    }

-- the state after boot
abbrev pub opening_objects : ℕ → Objects
opening_objects grant = record { accounts = opening_accounts grant; things = opening_things }

-- the kernel after boot: no image is loaded, no call is in flight, the clock is 0
abbrev pub opening_kernel : World → Kernel
opening_kernel v =
    record {
      world = v;
      images = λ slot. None;
      objects = opening_objects v.grant;
      clock = 0;
      call = λ p. None;
      order = [];
    }
