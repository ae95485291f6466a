-- What a piece left for some whole blocks of the disk.
use Rattle.std.proofs.Common.{◌≡◌, ℕ, Bool, List, [], ◌++◌, length, Option, Some, None, refl, sym, ◌∙◌, ap, subst}
use Rattle.kernel_model.specs.declared.Refusal.{Refusal}
use Rattle.kernel_model.specs.World.{World, Blocks}
use Rattle.kernel_model.specs.Objects.{Objects}
use Rattle.kernel_model.specs.Meaning.{Piece, After, Fails}
use Rattle.kernel_model.specs.FilePieces.{refuses}
use Rattle.kernel_state.specs.Calls.{Knows, blocks_in}
use Rattle.call_needs.proofs.FetchLaws.{some_told}
use Rattle.call_pieces.specs.Matching.{PieceMatches, PieceLeaves, PieceMatchesSome}

-- a piece for all blocks
pub some_of_all : (v : World) (q : Blocks → List Bool → Piece) (s : Objects)
    (gave : Option (List ℕ)) (after : After) (io : List Bool)
    → ((blocks : Blocks) (rest : List Bool) →
    PieceLeaves (q blocks (io ++ rest)) s gave after (length io)) →
    PieceMatchesSome v q s gave after io
some_of_all v q s gave after io all =
    let there = some_told v in
    record {
      blocks = blocks_in there.0;
      whole = there.1;
      left = λ rest. all (blocks_in there.0) rest;
    }

-- a piece without a call of the disk, whatever a disk tells
pub some_quick : (v : World) (q : Blocks → List Bool → Piece) (s : Objects) (gave : Option (List ℕ))
    (after : After) (io : List Bool) → io ≡ []
    → ((blocks : Blocks) (known : Option (List (List ℕ))) (w : List Bool) → Knows known blocks →
    PieceMatches (q blocks w) s known gave after 0) → PieceMatchesSome v q s gave after io
some_quick v q s gave after io none came =
    let there = some_told v in
    record {
      blocks = blocks_in there.0;
      whole = there.1;
      left = λ rest. let so = came (blocks_in there.0) (Some there.0) (io ++ rest) refl in
          record {
            objects = so.objects;
            bytes = so.bytes;
            next = so.next;
            calls_made = ap (λ (w : List Bool). length w) none ∙ so.calls_made;
          };
    }

-- a piece in other words
pub some_as : (v : World) (q r : Blocks → List Bool → Piece) (s : Objects) (gave : Option (List ℕ))
    (after : After) (io : List Bool)
    → ((blocks : Blocks) (w : List Bool) → q blocks w ≡ r blocks w) →
    PieceMatchesSome v r s gave after io → PieceMatchesSome v q s gave after io
some_as v q r s gave after io is some =
    record {
      blocks = some.blocks;
      whole = some.whole;
      left =
          λ rest. subst (λ (x : Piece). PieceLeaves x s gave after (length io))
          (sym (is some.blocks (io ++ rest))) (some.left rest);
    }

-- a piece that is refused, and leaves all as it was
pub some_refused : (v : World) (q : Blocks → List Bool → Piece) (s : Objects) (why : Refusal) (io :
    List Bool) → io ≡ [] → ((blocks : Blocks) (w : List Bool) → q blocks w ≡ refuses s blocks why)
    → PieceMatchesSome v q s None (Fails why) io
some_refused v q s why io none is =
    some_as v q (λ blocks w. refuses s blocks why) s None (Fails why) io is
    (some_of_all v (λ blocks w. refuses s blocks why) s None (Fails why) io
    (λ blocks rest. record {
      objects = refl;
      bytes = refl;
      next = refl;
      calls_made = ap (λ (w : List Bool). length w) none;
    }))
