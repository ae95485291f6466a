-- Pieces that are put into the order of the lines of the script.
use Rattle.std.proofs.Common.{◌≡◌, ◌≤◌, ◌<◌, ℕ, suc, List, [], ◌∷◌, ◌++◌, map, length, take, drop}
use Rattle.std.proofs.Common.{get_or, max, refl, sym, ap, ◌∙◌, append_assoc, arith}
use Rattle.std.proofs.Math.Nat.{le_trans, le-max_left, max-eq_right}
use Rattle.std.proofs.Math.Seq.{take-suc, drop-cons}
use Rattle.std.proofs.lemmas.Bool.Decides.{nat_tests}
use Rattle.std.proofs.lemmas.List.{append-nil, drop_all, map-append, take_all}
use Rattle.lab_lines.specs.declared.pieces.Piece.{Piece}
use Rattle.lab_lines.specs.Told.{lines_in, lines_of}
use Rattle.lab_lines.specs.Written.{writer}
use Rattle.lab_lines.specs.AsWanted.{AreInOrder}
use Rattle.lab_lines.proofs.Lines.{one_more}

-- the lines of the script to which pieces belong
abbrev pub writers : (last : ℕ) → List Piece → List ℕ
writers last pieces = map (writer last) pieces

-- These pieces are in order, those behind them come from this line on; they have the lines of those
-- that were there, and belong to the same lines where all were in order.
pub record Ordered (last from : ℕ) (ordered done rest : List Piece) : Type 0 where
  pub least : 1 ≤ from
  pub in_order : (ns : List ℕ) → AreInOrder from ns → AreInOrder 1 (writers last ordered ++ ns)
  pub lines : lines_in ordered ≡ lines_in done
  pub kept : AreInOrder 1 (writers last (done ++ rest)) →
      (writers last ordered ≡ writers last done) × AreInOrder from (writers last rest)

-- before the first piece
pub none_yet : (last : ℕ) (pieces : List Piece) → Ordered last 1 [] [] pieces
none_yet last pieces =
    record { least = omega arith; in_order = λ ns h. h; lines = refl; kept = λ h. (refl, h) }

-- a piece that is put behind the others, at this line
abbrev moved : Piece → (owner : ℕ) → Piece
moved p owner = record { owner = owner; bytes = p.bytes }

-- a piece belongs to the line at which it is put
writer_moved : (last owner : ℕ) (p : Piece) → 1 ≤ owner → writer last (moved p owner) ≡ owner
writer_moved last owner p least = grind (arith, nat_tests)

-- one piece more, in lists
writers_more : (last owner : ℕ) (ordered : List Piece) (p : Piece) (ns : List ℕ) → 1 ≤ owner →
    writers last (ordered ++ moved p owner ∷ []) ++ ns ≡ writers last ordered ++ owner ∷ ns
writers_more last owner ordered p ns least =
    ap (λ t. t ++ ns) (map-append (writer last) ordered (moved p owner ∷ []))
    ∙ append_assoc (writers last ordered) (writer last (moved p owner) ∷ []) ns
    ∙ ap (λ n. writers last ordered ++ n ∷ ns) (writer_moved last owner p least)

-- where all were in order, it belongs to its own line
kept_more : (last from : ℕ) (ordered done rest : List Piece) (p : Piece) → 1 ≤ max from (writer last p) →
    Ordered last from ordered done (p ∷ rest) →
    AreInOrder 1 (writers last ((done ++ p ∷ []) ++ rest)) →
    (writers last (ordered ++ moved p (max from (writer last p)) ∷ []) ≡ writers last (done ++ p ∷ []))
    × AreInOrder (max from (writer last p)) (writers last rest)
kept_more last from ordered done rest p least o h =
    let w = writer last p in
    let all : AreInOrder 1 (writers last (done ++ p ∷ rest)) =
    rw (sym (append_assoc done (p ∷ []) rest)) h in
    let before = o.kept all in
    let own : max from w ≡ w = max-eq_right before.1.0 in (
      map-append (writer last) ordered (moved p (max from w) ∷ [])
          ∙ ap (λ n. writers last ordered ++ n ∷ []) (writer_moved last (max from w) p least ∙ own)
          ∙ ap (λ t. t ++ w ∷ []) before.0
          ∙ sym (map-append (writer last) done (p ∷ [])),
      rw own before.1.1,
    )

-- one piece more
more : (last from : ℕ) (ordered done rest : List Piece) (p : Piece) →
    Ordered last from ordered done (p ∷ rest) →
    Ordered last (max from (writer last p)) (ordered ++ moved p (max from (writer last p)) ∷ [])
    (done ++ p ∷ []) rest
more last from ordered done rest p o =
    let w = writer last p in
    let least : 1 ≤ max from w = le_trans o.least (le-max_left from w) in
    record {
      least = least;
      in_order = λ ns h. rw (writers_more last (max from w) ordered p ns least)
          (o.in_order (max from w ∷ ns) (le-max_left from w, h));
      lines = one_more ordered (moved p (max from w)) ∙ ap (λ t. t ++ lines_of p.bytes.now) o.lines
          ∙ sym (one_more done p);
      kept = kept_more last from ordered done rest p least o;
    }

-- one piece more of a list
pub one_more_of : (pieces : List Piece) (k : ℕ) (d : Piece) (last from owner : ℕ)
    (ordered new : List Piece) → k < length pieces →
    Ordered last from ordered (take k pieces) (drop k pieces) →
    owner ≡ max from (writer last (get_or pieces k d)) →
    new ≡ ordered ++ moved (get_or pieces k d) owner ∷ [] →
    Ordered last owner new (take (suc k) pieces) (drop (suc k) pieces)
one_more_of pieces k d last from owner ordered new within o is put =
    let rest : Ordered last from ordered (take k pieces) (get_or pieces k d ∷ drop (suc k) pieces) =
    rw (sym (drop-cons pieces k d within)) o in
    rw (put, is, take-suc pieces k d within)
    (more last from ordered (take k pieces) (drop (suc k) pieces) (get_or pieces k d) rest)

-- all pieces are put into order
pub all_ordered : (pieces : List Piece) (k last from : ℕ) (ordered : List Piece) → length pieces ≤ k →
    Ordered last from ordered (take k pieces) (drop k pieces) → Ordered last from ordered pieces []
all_ordered pieces k last from ordered past o =
    rw (sym (take_all k pieces past), sym (drop_all k pieces past)) o

-- they are in order
pub ends_in_order : (last from : ℕ) (ordered pieces : List Piece) → Ordered last from ordered pieces [] →
    AreInOrder 1 (writers last ordered)
ends_in_order last from ordered pieces o = rw (sym (append-nil (writers last ordered))) (o.in_order [] tt)

-- where all were in order, they belong to the same lines as before
pub ends_kept : (last from : ℕ) (ordered pieces : List Piece) → Ordered last from ordered pieces [] →
    AreInOrder 1 (writers last pieces) → writers last ordered ≡ writers last pieces
ends_kept last from ordered pieces o h = (o.kept (rw (append-nil pieces) h)).0

-- what pieces in order need
pub ruleset ordering = (none_yet, one_more_of, all_ordered, ends_in_order, ends_kept)
