-- Lemmas on lists of handlers.
use Rattle.std.proofs.Common.{◌≡◌, ℕ, ◌+◌, ◌<◌, ◌≤◌, Bool, true, zero, suc, ◌&&◌, List, [], ◌∷◌}
use Rattle.std.proofs.Common.{length, take, drop, filter, nat_lt, get_or, refl, sym, ap, ◌∙◌}
use Rattle.std.proofs.Common.{arith, length-append}
use Rattle.std.specs.List.{list_all}
use Rattle.std.proofs.lemmas.Bool.Decides.{nat_tests}
use Rattle.std.proofs.lemmas.List.{take-append-drop}
use Rattle.std.proofs.lemmas.List.Elements.{filter-append}
use Rattle.std.proofs.lemmas.List.Filters.{length-filter_more}
use Rattle.kernel_model.specs.Handlers.{handlers_at}
use Rattle.kernel_model.specs.EventPoints.{PORTS, is_of_port, point_of_port, serve_fits}

-- fewer of the first pass a test than of all
pub first_few : (p : ℕ × ℕ → Bool) (hs : List (ℕ × ℕ)) (i : ℕ) →
    length (filter p (take i hs)) ≤ length (filter p hs)
first_few p hs i =
    let all : length (filter p hs) ≡ length (filter p (take i hs)) + length (filter p (drop i hs)) =
    ap (λ (xs : List (ℕ × ℕ)). length (filter p xs)) (sym (take-append-drop i hs))
    ∙ ap (λ (xs : List (ℕ × ℕ)). length xs) (filter-append p (take i hs) (drop i hs))
    ∙ length-append (filter p (take i hs)) (filter p (drop i hs)) in
    omega (arith, all)

-- one that passes has room beside those before it, where all that pass do
pub room_for : (p : ℕ × ℕ → Bool) (hs : List (ℕ × ℕ)) (i : ℕ) (d : ℕ × ℕ) → i < length hs →
    p (get_or hs i d) ≡ true → length (filter p hs) ≤ 8 → length (filter p (take i hs)) < 8
room_for p hs i d less passes few =
    let more = length-filter_more p hs i d less in
    let most = first_few p hs (i + 1) in
    grind (arith, more, most, passes, few)

-- handlers of processes below 16 at the point of a port are of that port
pub of_port : (port : ℕ) (hs : List (ℕ × ℕ)) → list_all (λ (h : ℕ × ℕ). nat_lt h.0 16) hs ≡ true →
    list_all (is_of_port port) (handlers_at (point_of_port port) hs) ≡ true
of_port port [] low = refl
of_port port (h ∷ hs) low = grind (arith, nat_tests, of_port port hs)

-- handlers of a port are at a point below 16
pub at_points : (port : ℕ) (hs : List (ℕ × ℕ)) → port < 8 → list_all (is_of_port port) hs ≡ true →
    list_all (λ (h : ℕ × ℕ). nat_lt h.1 16) hs ≡ true
at_points port [] low own = refl
at_points port (h ∷ hs) low own = grind (arith, nat_tests, at_points port hs)

-- so are those whose pieces are to come
pub stand_at_points : (n port : ℕ) (hs : List (ℕ × ℕ)) (answers : ℕ) → (n ≡ 0 → ⊥) →
    (nat_lt port PORTS && serve_fits n port hs answers) ≡ true →
    list_all (λ (h : ℕ × ℕ). nat_lt h.1 16) hs ≡ true
stand_at_points zero port hs answers later fits = absurd (later refl)
stand_at_points (suc n) port hs answers later fits =
    at_points port hs (grind (arith, nat_tests)) (grind (arith, nat_tests))
