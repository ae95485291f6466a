-- The handlers of the event points, each a process and a point, in the order of their last
-- `install`.
use Rattle.std.specs.Prelude.{◌≡◌, ◌≤◌, ℕ, Bool, true, cond, not, ◌&&◌, ◌||◌, ◌==◌, nat_le, nat_lt}
use Rattle.std.specs.Prelude.{List, [], ◌∷◌, ◌++◌, filter, length}
use Rattle.std.specs.List.{list_all, list_any}
use Rattle.std.proofs.Common.{refl, arith}
use Rattle.std.proofs.lemmas.Bool.Decides.{nat_tests}

-- a handler is the one of process q at point pt
abbrev pub is_handler : ℕ → ℕ → ℕ × ℕ → Bool
is_handler q pt h = h.0 == q && h.1 == pt

-- the handlers except the one of process q at point pt
abbrev pub handlers_without : ℕ → ℕ → List (ℕ × ℕ) → List (ℕ × ℕ)
handlers_without q pt handlers = filter (λ h. not (is_handler q pt h)) handlers

-- the handlers except those of a process
abbrev pub handlers_without_process : ℕ → List (ℕ × ℕ) → List (ℕ × ℕ)
handlers_without_process p handlers = filter (λ (h : ℕ × ℕ). not (h.0 == p)) handlers

-- the handlers at a point
abbrev pub handlers_at : ℕ → List (ℕ × ℕ) → List (ℕ × ℕ)
handlers_at pt handlers = filter (λ (h : ℕ × ℕ). h.1 == pt) handlers

-- the handlers: each once, at points 6 to 13, at most 8 at each
pub record AreHandlers (handlers : List (ℕ × ℕ)) : Type 0 where
  pub once : (q pt : ℕ) → length (filter (is_handler q pt) handlers) ≤ 1
  pub points : list_all (λ (h : ℕ × ℕ). nat_le 6 h.1 && nat_le h.1 13) handlers ≡ true
  pub most : (pt : ℕ) → length (handlers_at pt handlers) ≤ 8

-- an existing handler may be put last; a new one joins if fewer than 8 are at its point
abbrev pub has_room : ℕ → ℕ → List (ℕ × ℕ) → Bool
has_room q pt handlers = list_any (is_handler q pt) handlers
    || nat_lt (length (handlers_at pt handlers)) 8

-- a handler is put last, if there is room for it
abbrev pub handlers_with : ℕ → ℕ → List (ℕ × ℕ) → List (ℕ × ℕ)
handlers_with q pt handlers =
    cond (has_room q pt handlers) (handlers_without q pt handlers ++ (q, pt) ∷ []) handlers

-- ---- handlers that pass a test

-- no more pass two tests than one
fewer_pass : (p q : ℕ × ℕ → Bool) (hs : List (ℕ × ℕ)) →
    length (filter p (filter q hs)) ≤ length (filter p hs)
fewer_pass p q [] = omega arith
fewer_pass p q (h ∷ hs) = grind (arith, fewer_pass p q hs)

-- the points of those that pass are still 6 to 13
points_pass : (p : ℕ × ℕ → Bool) (hs : List (ℕ × ℕ)) →
    list_all (λ (h : ℕ × ℕ). nat_le 6 h.1 && nat_le h.1 13) hs ≡ true →
    list_all (λ (h : ℕ × ℕ). nat_le 6 h.1 && nat_le h.1 13) (filter p hs) ≡ true
points_pass p [] h = refl
points_pass p (x ∷ hs) h = grind (arith, nat_tests, points_pass p hs)

-- those that pass are handlers
pub handlers_pass : (p : ℕ × ℕ → Bool) (hs : List (ℕ × ℕ)) → AreHandlers hs →
    AreHandlers (filter p hs)
handlers_pass p hs h = record {
  once = λ q pt. omega (arith, fewer_pass (is_handler q pt) p hs, h.once q pt);
  points = points_pass p hs h.points;
  most = λ pt. omega (arith, fewer_pass (λ (x : ℕ × ℕ). x.1 == pt) p hs, h.most pt);
}
