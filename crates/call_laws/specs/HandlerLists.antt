-- Handlers stay handlers when one joins or leaves, and those at the point of a port are of that
-- port.
use Rattle.std.specs.Prelude.{◌≡◌, ℕ, ◌+◌, ◌<◌, ◌≤◌, Bool, true, false, cond, not, ◌&&◌, ◌||◌, ◌==◌}
use Rattle.std.specs.Prelude.{nat_le, List, [], ◌∷◌, ◌++◌, filter, length}
use Rattle.std.specs.List.{list_all, list_any}
use Rattle.std.proofs.Common.{refl, arith, ap, ◌∙◌}
use Rattle.std.proofs.lemmas.Bool.{or_right}
use Rattle.std.proofs.lemmas.Bool.Decides.{nat_tests}
use Rattle.std.proofs.lemmas.List.Elements.{filter-append}
use Rattle.std.proofs.lemmas.List.{length-append}
use Rattle.std.proofs.lemmas.List.Folds.{list_all-append}
use Rattle.kernel_model.specs.Handlers.{is_handler, AreHandlers, handlers_at, handlers_with}
use Rattle.kernel_model.specs.Handlers.{handlers_without, has_room, handlers_pass}
use Rattle.kernel_model.specs.EventPoints.{point_of_port, is_of_port}

-- ---- who stands there

-- who stands among those that pass a test stands among all
stands_before : (p : ℕ × ℕ → Bool) (q pt : ℕ) (hs : List (ℕ × ℕ)) →
    list_any (is_handler q pt) (filter p hs) ≡ true → list_any (is_handler q pt) hs ≡ true
stands_before p q pt [] h = h
stands_before p q pt (x ∷ hs) h = grind (arith, nat_tests, stands_before p q pt hs)

-- who stands where one is put behind stood before, or is put there
stands_after : (q pt r pu : ℕ) (hs : List (ℕ × ℕ)) →
    list_any (is_handler r pu) (hs ++ (q, pt) ∷ []) ≡ true →
    (list_any (is_handler r pu) hs || q == r) ≡ true
stands_after q pt r pu [] h = grind (arith, nat_tests)
stands_after q pt r pu (x ∷ hs) h = grind (arith, nat_tests, stands_after q pt r pu hs)

-- who stands after one left stood before
pub stands_without : (q pt r pu : ℕ) (hs : List (ℕ × ℕ)) →
    list_any (is_handler r pu) (handlers_without q pt hs) ≡ true →
    list_any (is_handler r pu) hs ≡ true
stands_without q pt r pu hs h = stands_before (λ x. not (is_handler q pt x)) r pu hs h

-- who stands after one joined stood before, or is of its process
pub stands_with : (q pt r pu : ℕ) (hs : List (ℕ × ℕ)) →
    list_any (is_handler r pu) (handlers_with q pt hs) ≡ true →
    (list_any (is_handler r pu) hs || q == r) ≡ true
stands_with q pt r pu hs h =
    let last = stands_after q pt r pu (handlers_without q pt hs) in
    let before = stands_without q pt r pu hs in grind (arith, nat_tests, last, before)

-- ---- one leaves

-- the handlers without one
pub are_handlers_without : (q pt : ℕ) (hs : List (ℕ × ℕ)) → AreHandlers hs →
    AreHandlers (handlers_without q pt hs)
are_handlers_without q pt hs h = handlers_pass (λ x. not (is_handler q pt x)) hs h

-- none is left of the handler that left
none_left : (q pt : ℕ) (hs : List (ℕ × ℕ)) →
    length (filter (is_handler q pt) (handlers_without q pt hs)) ≡ 0
none_left q pt [] = refl
none_left q pt (x ∷ hs) = grind (arith, nat_tests, none_left q pt hs)

-- at the point there aren't more than before
fewer_at : (q pt : ℕ) (hs : List (ℕ × ℕ)) →
    length (handlers_at pt (handlers_without q pt hs)) ≤ length (handlers_at pt hs)
fewer_at q pt [] = omega arith
fewer_at q pt (x ∷ hs) = grind (arith, nat_tests, fewer_at q pt hs)

-- and there is one fewer, if it stood there
one_fewer : (q pt : ℕ) (hs : List (ℕ × ℕ)) → list_any (is_handler q pt) hs ≡ true →
    length (handlers_at pt (handlers_without q pt hs)) < length (handlers_at pt hs)
one_fewer q pt [] h = cc
one_fewer q pt (x ∷ hs) h = grind (arith, nat_tests, one_fewer q pt hs, fewer_at q pt hs)

-- ---- one joins

-- what a list has and one more pass a test
passed_more : (p : ℕ × ℕ → Bool) (hs : List (ℕ × ℕ)) (x : ℕ × ℕ) →
    length (filter p (hs ++ x ∷ [])) ≡ length (filter p hs) + length (filter p (x ∷ []))
passed_more p hs x =
    ap length (filter-append p hs (x ∷ [])) ∙ length-append (filter p hs) (filter p (x ∷ []))

-- each stands once where another is put behind those without it
joined_once : (q pt r pu : ℕ) (hs : List (ℕ × ℕ)) → AreHandlers hs →
    length (filter (is_handler r pu) (handlers_without q pt hs ++ (q, pt) ∷ [])) ≤ 1
joined_once q pt r pu hs h =
    let more = passed_more (is_handler r pu) (handlers_without q pt hs) (q, pt) in
    let none = none_left q pt hs in
    let few = (are_handlers_without q pt hs h).once r pu in
    grind (arith, nat_tests)

-- and no more than eight at a point, if it has room
joined_most : (q pt pu : ℕ) (hs : List (ℕ × ℕ)) → AreHandlers hs → has_room q pt hs ≡ true →
    length (handlers_at pu (handlers_without q pt hs ++ (q, pt) ∷ [])) ≤ 8
joined_most q pt pu hs h room =
    let more = passed_more (λ x. x.1 == pu) (handlers_without q pt hs) (q, pt) in
    let before = h.most pt in
    let few = (are_handlers_without q pt hs h).most pu in
    let fewer = fewer_at q pt hs in
    grind (arith, nat_tests, one_fewer q pt hs)

-- so they are handlers, if it is one of an event point
handlers_join : (q pt : ℕ) (hs : List (ℕ × ℕ)) → AreHandlers hs → 6 ≤ pt → pt ≤ 13 →
    has_room q pt hs ≡ true → AreHandlers (handlers_without q pt hs ++ (q, pt) ∷ [])
handlers_join q pt hs h low high room = record {
  once = λ r pu. joined_once q pt r pu hs h;
  points = list_all-append (λ (x : ℕ × ℕ). nat_le 6 x.1
      && nat_le x.1 13) (handlers_without q pt hs) ((q, pt) ∷ [])
      ∙ grind (arith, nat_tests, (are_handlers_without q pt hs h).points);
  most = λ pu. joined_most q pt pu hs h room;
}

-- the handlers with one more of an event point
pub are_handlers_with : (q pt : ℕ) (hs : List (ℕ × ℕ)) → AreHandlers hs → 6 ≤ pt → pt ≤ 13 →
    AreHandlers (handlers_with q pt hs)
are_handlers_with q pt hs h low high = by_test (has_room q pt hs) refl
  where
    by_test : (b : Bool) → has_room q pt hs ≡ b →
        AreHandlers (cond b (handlers_without q pt hs ++ (q, pt) ∷ []) hs)
    by_test true room = handlers_join q pt hs h low high room
    by_test false room = h

-- ---- the handlers of a port

-- those at its point are of the port, if their processes are numbers of processes
pub of_port : (port : ℕ) (hs : List (ℕ × ℕ)) →
    ((q pt : ℕ) → list_any (is_handler q pt) hs ≡ true → q < 16) →
    list_all (is_of_port port) (handlers_at (point_of_port port) hs) ≡ true
of_port port [] low = refl
of_port port (x ∷ hs) low =
    let here = low x.0 x.1 (grind (arith, nat_tests)) in
    let rest = of_port port hs (λ q pt h. low q pt (or_right (is_handler q pt x) _ h)) in
    grind (arith, nat_tests)
