-- Lemmas on handlers.
use Rattle.std.proofs.Common.{◌≡◌, ℕ, ◌+◌, ◌<◌, ◌≤◌, Bool, true, List, [], ◌∷◌, ◌++◌, length}
use Rattle.std.proofs.Common.{filter, not, ◌&&◌, ◌==◌, nat_le, nat_lt, refl, arith, length-append}
use Rattle.std.specs.List.{list_any, list_all}
use Rattle.std.proofs.lemmas.Bool.Decides.{nat_tests}
use Rattle.std.proofs.lemmas.List.Elements.{filter-append}
use Rattle.std.proofs.lemmas.List.Folds.{list_all-append}
use Rattle.kernel_model.specs.Handlers.{is_handler, handlers_at, handlers_without, has_room, AreHandlers, handlers_pass}
use Rattle.process_table.proofs.Lists.{length-below}

-- a point of a handler
abbrev pub is_point : ℕ × ℕ → Bool
is_point h = nat_le 6 h.1 && nat_le h.1 13

-- fewer pass two tests than one
length-twice : (p q : ℕ × ℕ → Bool) (hs : List (ℕ × ℕ)) → length (filter p (filter q hs)) ≤ length (filter p hs)
length-twice p q [] = omega arith
length-twice p q (h ∷ hs) = grind (arith, length-twice p q hs)

-- a handler that was taken out doesn't stand
gone : (q pt : ℕ) (hs : List (ℕ × ℕ)) → length (filter (is_handler q pt) (handlers_without q pt hs)) ≡ 0
gone q pt [] = refl
gone q pt (h ∷ hs) = grind (arith, nat_tests, gone q pt hs)

-- one that stood makes room at its point
fewer : (q pt : ℕ) (hs : List (ℕ × ℕ)) → list_any (is_handler q pt) hs ≡ true →
    length (handlers_at pt (handlers_without q pt hs)) < length (handlers_at pt hs)
fewer q pt [] h = grind arith
fewer q pt (x ∷ hs) h =
    grind (
      arith,
      nat_tests,
      fewer q pt hs,
      length-twice (λ (y : ℕ × ℕ). y.1 == pt)
          (λ y. not (is_handler q pt y)) hs,
    )

-- where a handler has room, fewer than 8 others stand at its point
pub room-at : (q pt : ℕ) (hs : List (ℕ × ℕ)) → has_room q pt hs ≡ true → AreHandlers hs →
    length (handlers_at pt (handlers_without q pt hs)) < 8
room-at q pt hs room h =
    grind (
      arith,
      nat_tests,
      fewer q pt hs,
      h.most pt,
      length-twice (λ (y : ℕ × ℕ). y.1 == pt)
          (λ y. not (is_handler q pt y)) hs,
    )

within : (hs : List (ℕ × ℕ)) (k : ℕ) → list_all is_point hs ≡ true →
    list_any (λ (h : ℕ × ℕ). h.1 == k) hs ≡ true → (6 ≤ k) × (k < 6 + 8)
within [] k all some = grind arith
within (h ∷ hs) k all some = grind (arith, nat_tests, within hs k)

-- where a handler has room, fewer than 64 others stand
pub room : (q pt : ℕ) (hs : List (ℕ × ℕ)) → 6 ≤ pt → pt ≤ 13 → has_room q pt hs ≡ true →
    AreHandlers hs → length (handlers_without q pt hs) < 64
room q pt hs low high has h =
    let kept = handlers_pass (λ x. not (is_handler q pt x)) hs h in
    length-below (λ (x : ℕ × ℕ). x.1) (handlers_without q pt hs) 6 8 8 pt
    (λ k some. within (handlers_without q pt hs) k kept.points some) kept.most low (omega arith)
    (room-at q pt hs has h)

-- a handler is put last
pub added : (q pt : ℕ) (hs : List (ℕ × ℕ)) → 6 ≤ pt → pt ≤ 13 → has_room q pt hs ≡ true →
    AreHandlers hs → AreHandlers (handlers_without q pt hs ++ (q, pt) ∷ [])
added q pt hs low high has h =
    let kept = handlers_pass (λ x. not (is_handler q pt x)) hs h in
    record {
      once = λ r pu. rw filter-append (rw length-append (grind (arith, nat_tests, gone q pt hs, kept.once r pu)));
      points = rw list_all-append (grind (arith, nat_tests, kept.points));
      most = λ pu. rw filter-append (rw length-append (grind (arith, nat_tests, room-at q pt hs has h, kept.most pu)));
    }

-- handlers that pass a test are of processes below 16, where all are
pub low_pass : (p : ℕ × ℕ → Bool) (hs : List (ℕ × ℕ)) → list_all (λ (h : ℕ × ℕ). nat_lt h.0 16) hs ≡ true
    → list_all (λ (h : ℕ × ℕ). nat_lt h.0 16) (filter p hs) ≡ true
low_pass p [] h = refl
low_pass p (x ∷ hs) h = grind (arith, nat_tests, low_pass p hs)

-- and so they are where one of such a process is put last
pub low_added : (q pt : ℕ) (hs : List (ℕ × ℕ)) → q < 16 → list_all (λ (h : ℕ × ℕ). nat_lt h.0 16) hs ≡ true
    → list_all (λ (h : ℕ × ℕ). nat_lt h.0 16) (handlers_without q pt hs ++ (q, pt) ∷ []) ≡ true
low_added q pt hs low h =
    let kept = low_pass (λ x. not (is_handler q pt x)) hs h in
    rw list_all-append (grind (arith, nat_tests, kept))
