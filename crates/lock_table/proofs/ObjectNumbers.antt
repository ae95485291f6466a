-- Lemmas on the numbers of objects.
use Rattle.std.proofs.Common.{◌≡◌, ℕ, ◌+◌, ◌-◌, ◌/◌, ◌%◌, ◌<◌, Bool, true, false, ◌≤◌, nat_lt, refl, arith, ◌∙◌}
use Rattle.std.proofs.lemmas.Bool.Decides.{nat_tests}
use Rattle.kernel_model.specs.declared.Object.{Object}
use Rattle.kernel_model.specs.declared.Object.TheVariants.{Graft, Acct, Cell, OpenFile, Queue, Cache, Lock, Pol}
use Rattle.kernel_model.specs.Laws.{IsInRange}
use Rattle.lock_table.specs.Numbers.{number_of, is_in_range, NumbersTellApart, NumbersAreBelow, TestIsRange}

pub below : NumbersAreBelow
unfolding number_of
below (Graft q pt) h = omega (arith, h.0, h.1)
below (Acct q) h = omega (arith, h)
below (Cell q k) h = omega (arith, h.0, h.1)
below (OpenFile q fd) h = omega (arith, h.0, h.1)
below Queue h = omega arith
below Cache h = omega arith
below (Lock u) h = omega (arith, h)
below (Pol kind) h = omega (arith, h)

pub tell_apart : NumbersTellApart
unfolding number_of
tell_apart a b ha hb e = grind (arith, nat_tests)

pub in_range : (o : Object) → IsInRange o → is_in_range o ≡ true
unfolding is_in_range
in_range o h = grind (arith, nat_tests)

pub ranged : (o : Object) → is_in_range o ≡ true → IsInRange o
unfolding is_in_range
ranged o h = grind (arith, nat_tests)

pub test_is_range : TestIsRange
test_is_range o = (ranged o, in_range o)

-- an object that has a number
pub record Numbered (n : ℕ) : Type 0 where
  pub object : Object
  pub range : IsInRange object
  pub is : number_of object ≡ n

graft_numbered : (n : ℕ) → n < 256 → Numbered n
unfolding number_of
graft_numbered n lt =
    record {
      object = Graft (n / 16) (n % 16);
      range = (omega (arith, lt), omega arith);
      is = omega arith;
    }

cell_numbered : (n : ℕ) → n < 64 → Numbered (272 + n)
unfolding number_of
cell_numbered n lt =
    record {
      object = Cell (n / 4) (n % 4);
      range = (omega (arith, lt), omega arith);
      is = omega arith;
    }

file_numbered : (n : ℕ) → n < 64 → Numbered (336 + n)
unfolding number_of
file_numbered n lt =
    record {
      object = OpenFile (n / 4) (n % 4);
      range = (omega (arith, lt), omega arith);
      is = omega arith;
    }

account_numbered : (n : ℕ) → n < 16 → Numbered (256 + n)
unfolding number_of
account_numbered n lt = record { object = Acct n; range = lt; is = refl }

lock_numbered : (n : ℕ) → n < 16 → Numbered (402 + n)
unfolding number_of
lock_numbered n lt = record { object = Lock n; range = lt; is = refl }

policy_numbered : (n : ℕ) → n < 3 → Numbered (418 + n)
unfolding number_of
policy_numbered n lt = record { object = Pol n; range = lt; is = refl }

queue_numbered : Numbered 400
unfolding number_of
queue_numbered = record { object = Queue; range = tt; is = refl }

cache_numbered : Numbered 401
unfolding number_of
cache_numbered = record { object = Cache; range = tt; is = refl }

moved : (k n : ℕ) → k ≡ n → Numbered k → Numbered n
moved k n same x = record { object = x.object; range = x.range; is = x.is ∙ same }

-- each number is that of an object
pub numbered : (n : ℕ) → n < 421 → Numbered n
numbered n lt = grafts (nat_lt n 256) refl
  where
    policies : (b : Bool) → nat_lt n 418 ≡ b → 402 ≤ n → Numbered n
    policies true h le =
        moved (402 + (n - 402)) n
        (omega (arith, le)) (lock_numbered (n - 402) (grind (arith, nat_tests, h, le)))
    policies false h le =
        let from : 418 ≤ n = grind (arith, nat_tests, h) in
        moved (418 + (n - 418)) n
        (omega (arith, from)) (policy_numbered (n - 418) (omega (arith, lt, from)))

    singles : (b : Bool) → nat_lt n 401 ≡ b → (c : Bool) → nat_lt n 402 ≡ c → 400 ≤ n → Numbered n
    singles true h c i le = moved 400 n (grind (arith, nat_tests, h, le)) queue_numbered
    singles false h true i le = moved 401 n (grind (arith, nat_tests, h, i)) cache_numbered
    singles false h false i le = policies (nat_lt n 418) refl (grind (arith, nat_tests, i))

    files : (b : Bool) → nat_lt n 400 ≡ b → 336 ≤ n → Numbered n
    files true h le =
        moved (336 + (n - 336)) n
        (omega (arith, le)) (file_numbered (n - 336) (grind (arith, nat_tests, h, le)))
    files false h le = singles (nat_lt n 401) refl (nat_lt n 402) refl (grind (arith, nat_tests, h))

    cells : (b : Bool) → nat_lt n 336 ≡ b → 272 ≤ n → Numbered n
    cells true h le =
        moved (272 + (n - 272)) n
        (omega (arith, le)) (cell_numbered (n - 272) (grind (arith, nat_tests, h, le)))
    cells false h le = files (nat_lt n 400) refl (grind (arith, nat_tests, h))

    accounts : (b : Bool) → nat_lt n 272 ≡ b → 256 ≤ n → Numbered n
    accounts true h le =
        moved (256 + (n - 256)) n
        (omega (arith, le)) (account_numbered (n - 256) (grind (arith, nat_tests, h, le)))
    accounts false h le = cells (nat_lt n 336) refl (grind (arith, nat_tests, h))

    grafts : (b : Bool) → nat_lt n 256 ≡ b → Numbered n
    grafts true h = graft_numbered n (grind (arith, nat_tests, h))
    grafts false h = accounts (nat_lt n 272) refl (grind (arith, nat_tests, h))
