-- The state after boot is sound.
use Rattle.std.specs.Prelude.{◌≡◌, ◌≢◌, ℕ, ◌+◌, ◌<◌, ◌≤◌, ◌==◌, Bool, true, false, cond, List, []}
use Rattle.std.specs.Prelude.{◌∷◌, Some, None, Contains, map, slice_index_or, zero, suc}
use Rattle.std.proofs.Common.{arith, refl, ap, ◌∙◌}
use Rattle.std.proofs.lemmas.Bool.Decides.{nat_tests}
use Rattle.std.proofs.lemmas.List.Elements.{All-contains, All-from_recursion}
use Rattle.kernel_model.specs.declared.Kind.{Kind}
use Rattle.kernel_model.specs.declared.QueueRow.{QueueRow}
use Rattle.kernel_model.specs.World.{processes}
use Rattle.kernel_model.specs.Policies.{lives}
use Rattle.kernel_model.specs.Meaning.{Meaning}
use Rattle.kernel_model.specs.Levels.{Level, touched_at}
use Rattle.kernel_model.specs.Blocking.{levels_of, holds}
use Rattle.kernel_model.specs.Access.{param_top}
use Rattle.kernel_model.specs.Opening.{opening_account, opening_accounts, opening_policy, opening_kernel}
use Rattle.kernel_model.specs.Sound.{IsSoundPolicy, ParamFits, count_of, once_if, in_queue, ledger}
use Rattle.kernel_model.specs.Sound.{sum_below, graft_balance, clash}
use Rattle.call_laws.specs.Ledgers.{sum_one, sum_zero}
use Rattle.kernel_laws.specs.Soundness.{OpeningIsSound, OpeningKernelIsSound}

-- the queue after boot
abbrev first_queue : List QueueRow
first_queue = record { process = 0; nice = 20; slices = 0 } ∷ []

-- process 0 lives, and no other
only_root : (p : ℕ) → lives first_queue p ≡ true → p ≡ 0
only_root p h = grind (arith, nat_tests)

not_root : (p : ℕ) → lives first_queue p ≡ false → (p == 0) ≡ false
not_root p h = grind (arith, nat_tests)

once_each : (p : ℕ) → count_of p (in_queue first_queue) ≡ once_if (lives first_queue p)
once_each p = grind (arith, nat_tests)

first_nices : (r : QueueRow) → Contains first_queue r → r.nice ≤ 39
first_nices r c =
    All-contains (λ (x : QueueRow). x.nice ≤ 39) first_queue r
    (All-from_recursion (λ (x : QueueRow). x.nice ≤ 39) first_queue (low_nice, tt)) c
  where
    low_nice : 20 ≤ 39
    low_nice = omega arith

-- nothing stands where nothing is
pub none_some : {A : Type 0} (x : A) → None ≡ Some x → ⊥
none_some x e = cc

-- a parameter of at most 2 is in the range of each policy that has one
fits_by : (b c d : Bool) (x : ℕ) → x ≤ 2 → ParamFits (cond b None (cond c (Some 8) (cond d (Some 255) (Some 39)))) x
fits_by true c d x low = tt
fits_by false true d x low = omega arith
fits_by false false true x low = omega arith
fits_by false false false x low = omega arith

-- the parameters after boot
low_param : (kind j : ℕ) → (opening_policy kind).param j ≤ 2
low_param kind j = grind (arith, nat_tests)

first_param : (kind j : ℕ) → ParamFits (param_top kind j) ((opening_policy kind).param j)
first_param kind j = fits_by (j == 0) (kind == 0) (kind == 1) ((opening_policy kind).param j) (low_param kind j)

first_policies : (kind : ℕ) → kind < 3 → IsSoundPolicy kind (opening_policy kind)
first_policies kind low = record { chosen = grind (arith, nat_tests); params = λ j few. first_param kind j }

-- the ledgers after boot
first_ledgers : (grant : ℕ) (k : Kind) → sum_below 16 (ledger (opening_accounts grant) k) ≡ grant
first_ledgers grant k =
    let nothing : sum_below 16 (λ pt. graft_balance k None) ≡ 0 =
    sum_zero 16 (λ pt. graft_balance k None) (λ i low. refl) in
    let others = sum_one 16 0 (ledger (opening_accounts grant) k) (λ i. 0) (omega arith)
    (λ i low ne. ap (λ n. (opening_account grant i).balance k + 0 + n) nothing
    ∙ other_balance grant k i ne) in
    let zeros = sum_zero 16 (λ i. 0) (λ i low. refl) in
    omega arith
  where
    other_balance : (grant : ℕ) (k : Kind) (i : ℕ) → i ≢ 0 → (opening_account grant i).balance k + 0 + 0 ≡ 0
    other_balance grant k i ne = grind (arith, nat_tests)

-- the state after boot is sound
pub opening_is_sound : OpeningIsSound
opening_is_sound v images world disk =
    record {
      store = record {
        world = world;
        root = refl;
        once = once_each;
        numbers = λ p e. below_sixteen p (only_root p e);
        nices = first_nices;
        in_use = λ f. refl;
        frame_numbers = λ f e. absurd (not_some e);
        one_frame = λ f g x y e k b. absurd (none_some x e);
        frames = λ f x e. absurd (none_some x e);
        holders = λ u p e. absurd (none_some p e);
        grafts = λ q pt g e. absurd (none_some g e);
        gone =
            λ p e. record {
              cells = λ k. refl;
              files = λ fd. refl;
              balances = λ k. ap (λ b. cond b v.grant 0) (not_root p e);
              spent = λ k. refl;
            };
        files = λ p fd o e. absurd (none_some o e);
        policies = first_policies;
        handlers = record { once = λ q pt. omega arith; points = refl; most = λ pt. omega arith };
        handlers_live = λ q pt e. absurd (not_some e);
        segments = λ q pt out. refl;
        ledgers = first_ledgers v.grant;
      };
      images_loaded = λ q pt g e. absurd (none_some g e);
      disk = disk;
    }
  where
    below_sixteen : (p : ℕ) → p ≡ 0 → p < 16
    below_sixteen p e = omega arith

    not_some : false ≡ true → ⊥
    not_some e = cc

-- a table of lists that are all empty
all_empty : (f : ℕ → List Level) → ((q : ℕ) → f q ≡ []) → (ps : List ℕ) (q : ℕ) → slice_index_or (map f ps) q [] ≡ []
all_empty f h [] q = refl
all_empty f h (p ∷ ps) zero = h p
all_empty f h (p ∷ ps) (suc q) = all_empty f h ps q

-- the kernel after boot is sound
pub opening_kernel_is_sound : (m : Meaning) → OpeningKernelIsSound m
opening_kernel_is_sound m v world disk =
    let k = opening_kernel v in
    record {
      state = opening_is_sound v (λ slot. None) world disk;
      runs = λ p c ks e marked. absurd (none_some c e);
      grafts = λ p f l e c. absurd (none_some f e);
      apart =
          λ p q d e o ne. ap (λ (ls : List Level). clash (touched_at ls d o) (holds m k q e o))
          (all_empty (levels_of m k) (λ i. refl) processes p);
      callers = λ p c e. absurd (none_some c e);
      granted = λ p c e. absurd (none_some c e);
      fit = λ p c e. absurd (none_some c e);
      pieces = λ p e. absurd (not_some e);
      others = λ e c away. absurd (none_below c.0 c.1);
    }
  where
    not_some : false ≡ true → ⊥
    not_some e = cc

    none_below : (k : ℕ) → k < 0 → ⊥
    none_below k h = omega arith
