-- What holds of each object that a piece needs, part by part.
use Rattle.std.specs.Prelude.{◌≡◌, ℕ, Bool, true, false, cond, List, [], ◌∷◌, ◌++◌, map, Option}
use Rattle.std.specs.Prelude.{Some, None, Result, Ok, Err, Contains}
use Rattle.std.specs.List.{AllByRecursion, range_with_len}
use Rattle.std.proofs.Common.{refl}
use Rattle.std.proofs.lemmas.List.Elements.{All-contains, All-from_recursion}
use Rattle.kernel_model.specs.declared.Need.{Need}
use Rattle.kernel_model.specs.declared.Refusal.{Refusal}
use Rattle.kernel_model.specs.declared.Object.TheVariants.{Graft, Acct, OpenFile, Queue, Cache, Lock, Pol}
use Rattle.kernel_model.specs.declared.Object.{Object}
use Rattle.kernel_model.specs.World.{World}
use Rattle.kernel_model.specs.Objects.{Objects, Accounts, CacheValue, GraftValue}
use Rattle.kernel_model.specs.Needs.{shared, exclusive, point_needs, payer_needs, victim_needs}
use Rattle.kernel_model.specs.Needs.{owner_asked, fetch_needs, candidate_for, exit_needs}
use Rattle.kernel_model.specs.Needs.{slice_needs}

-- what holds of each of a list holds of what the list contains
pub each_contains : (P : Need → Type 0) (ns : List Need) (n : Need) → AllByRecursion P ns → Contains ns n →
    P n
each_contains P ns n each c = All-contains P ns n (All-from_recursion P ns each) c

-- of a list made from another
pub each_map : {A : Type 0} (P : Need → Type 0) (f : A → Need) (xs : List A) →
    AllByRecursion (λ x. P (f x)) xs → AllByRecursion P (map f xs)
each_map P f [] each = tt
each_map P f (x ∷ xs) each = (each.0, each_map P f xs each.1)

-- of two lists end to end
pub each_append : (P : Need → Type 0) (ms ns : List Need) → AllByRecursion P ms → AllByRecursion P ns →
    AllByRecursion P (ms ++ ns)
each_append P [] ns each rest = rest
each_append P (m ∷ ms) ns each rest = (each.0, each_append P ms ns each.1 rest)

-- of one of two lists
pub each_either : (P : Need → Type 0) (b : Bool) (ms ns : List Need) → AllByRecursion P ms → AllByRecursion P ns →
    AllByRecursion P (cond b ms ns)
each_either P true ms ns each other = each
each_either P false ms ns each other = other

-- of the account that may pay
each_of_payer : (P : Need → Type 0) (q : ℕ) (g : Option GraftValue) → P (exclusive (Acct q)) →
    AllByRecursion P (payer_needs q g)
each_of_payer P q None account = tt
each_of_payer P q (Some g) account = (account, tt)

-- of the objects of a point
pub each_of_point : (P : Need → Type 0) (a : Accounts) (q pt : ℕ) → P (exclusive (Graft q pt)) →
    P (exclusive (Acct q)) → AllByRecursion P (point_needs a q pt)
each_of_point P a q pt graft account = (graft, each_of_payer P q (a.graft q pt) account)

-- of the objects of a candidate for the processor
pub each_of_slice : (P : Need → Type 0) (a : Accounts) (x : Option ℕ) →
    ((c : ℕ) → x ≡ Some c → P (exclusive (Graft c 5)) × P (exclusive (Acct c))) →
    AllByRecursion P (slice_needs a x)
each_of_slice P a None h = tt
each_of_slice P a (Some c) h = each_of_point P a c 5 (h c refl).0 (h c refl).1

-- of the objects of a victim
pub each_of_victim : (P : Need → Type 0) (a : Accounts) (c : CacheValue) (x : Option ℕ) →
    P (shared (Pol 1)) →
    ((f : ℕ) → P (exclusive (Graft (owner_asked c f) 4)) × P (exclusive (Acct (owner_asked c f)))) →
    AllByRecursion P (victim_needs a c x)
each_of_victim P a c None pol h = tt
each_of_victim P a c (Some f) pol h = (pol, each_of_point P a (owner_asked c f) 4 (h f).0 (h f).1)

-- of the objects of a fetch
pub each_of_fetch : (P : Need → Type 0) (v : World) (s : Objects) (r : Result ℕ Refusal) →
    P (exclusive Cache) → P (shared (Pol 1)) →
    ((f : ℕ) → P (exclusive (Graft (owner_asked s.things.cache f) 4))
    × P (exclusive (Acct (owner_asked s.things.cache f)))) → AllByRecursion P (fetch_needs v s r)
each_of_fetch P v s (Err why) cache pol h = tt
each_of_fetch P v s (Ok b) cache pol h = (
  cache,
  each_of_victim P s.accounts s.things.cache
      (candidate_for v (s.things.pol 1) s.things.cache b) pol h,
)

-- of all that is of a process, and what takes it over
pub each_of_exit : (P : Need → Type 0) (p : ℕ) → P (exclusive Queue) → P (exclusive Cache) →
    P (exclusive (Acct p)) → P (exclusive (Acct 0)) →
    AllByRecursion (λ pt. P (exclusive (Graft p pt))) (range_with_len 0 16) →
    AllByRecursion (λ fd. P (exclusive (OpenFile p fd))) (range_with_len 0 4) →
    AllByRecursion (λ k. P (exclusive (Object.Cell p k))) (range_with_len 0 4) →
    AllByRecursion (λ u. P (exclusive (Lock u))) (range_with_len 0 16) → AllByRecursion P (exit_needs p)
each_of_exit P p queue cache account root grafts files cells locks =
    let last = map (λ (u : ℕ). exclusive (Lock u)) (range_with_len 0 16) in
    let third = map (λ (k : ℕ). exclusive (Object.Cell p k)) (range_with_len 0 4) in
    let second = map (λ (fd : ℕ). exclusive (OpenFile p fd)) (range_with_len 0 4) in
    let first = map (λ (pt : ℕ). exclusive (Graft p pt)) (range_with_len 0 16) in (
      queue,
      (
        cache,
        (
          account,
          (
            root,
            each_append P first (second ++ third
                ++ last) (each_map P (λ pt. exclusive (Graft p pt)) (range_with_len 0 16) grafts)
                (each_append P second (third ++ last)
                (each_map P (λ fd. exclusive (OpenFile p fd)) (range_with_len 0 4) files)
                (each_append P third last
                (each_map P (λ k. exclusive (Object.Cell p k)) (range_with_len 0 4) cells)
                (each_map P (λ u. exclusive (Lock u)) (range_with_len 0 16) locks))),
          ),
        ),
      ),
    )
