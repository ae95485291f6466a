-- A piece of the table of high marks is one of the plain table, with an answer of its own.
use Rattle.std.proofs.Common.{Result, ◌≡◌, ℕ, ◌<◌, nat_lt, Bool, true, false, List, [], ◌∷◌, ◌++◌}
use Rattle.std.proofs.Common.{length, Option, None, Some, Ok, Err, refl, sym, subst, ap, ◌∙◌}
use Rattle.std.proofs.Common.{arith}
use Rattle.std.proofs.lemmas.Bool.Decides.{nat_tests}
use Rattle.kernel_model.specs.declared.Refusal.{Refusal}
use Rattle.kernel_model.specs.declared.Refusal.TheVariants.{BadIndex}
use Rattle.kernel_model.specs.declared.Reply.{Reply}
use Rattle.kernel_model.specs.declared.Reply.TheVariants.{One}
use Rattle.kernel_model.specs.declared.SysCall.{SysCall}
use Rattle.kernel_model.specs.declared.SysCall.TheVariants.{Poke}
use Rattle.kernel_model.specs.World.{World, ImageTable, Blocks}
use Rattle.kernel_model.specs.Objects.{Objects}
use Rattle.kernel_model.specs.Meaning.{Meaning, Stage, stage, Answer, Piece, After, EndsWith}
use Rattle.kernel_model.specs.Early.{refused, begins_unless}
use Rattle.call_pieces.specs.declared.Next.{Next}
use Rattle.call_pieces.specs.declared.Next.TheVariants.{Ends}
use Rattle.call_pieces.specs.Matching.{comes_after, PieceMatchesSome}
use Rattle.kernel_model.specs.Pieces.{plain_calls, piece_of}
use Rattle.kernel_model.specs.Beside.{beside}
use Rattle.high_marks.specs.HighMarks.{is_mark_call, mark, marked, as_plain, told_after, told, high_marks}

-- with the answer, where only that differs
told_some : (v : World) (piece : Blocks → List Bool → Piece) (c : SysCall) (u : Objects)
    (gave : Option (List ℕ)) (before now : After) (io : List Bool) → now ≡ told_after c before →
    PieceMatchesSome v piece u gave before io →
    PieceMatchesSome v (λ blocks rest. told c (piece blocks rest)) u gave now io
told_some v piece c u gave before now io e h =
    record {
      blocks = h.blocks;
      whole = h.whole;
      left = λ rest. let l = h.left rest in
          record {
            objects = l.objects;
            bytes = l.bytes;
            next = e ∙ ap (told_after c) l.next;
            calls_made = l.calls_made;
          };
    }

-- for the call as the plain table does it, and the registers of the answer
pub mark_some : (v : World) (s : Objects) (p n : ℕ) (c d : SysCall) (a b : Option (List ℕ))
    (u : Objects) (gave : Option (List ℕ)) (before now : After) (io : List Bool) →
    d ≡ as_plain s p c → b ≡ a → now ≡ told_after d before →
    PieceMatchesSome v (λ blocks rest. piece_of d n v s blocks p a rest) u gave before io →
    PieceMatchesSome v (λ blocks rest. told (as_plain s p c)
    (piece_of (as_plain s p c) n v s blocks p b rest)) u gave now io
mark_some v s p n c d a b u gave before now io same seen e h =
    subst (λ (k : SysCall). PieceMatchesSome v
    (λ blocks rest. told k (piece_of k n v s blocks p b rest)) u gave now io) same
    (subst (λ (r : Option (List ℕ)). PieceMatchesSome v
    (λ blocks rest. told d (piece_of d n v s blocks p r rest)) u gave now io) (sym seen)
    (told_some v (λ blocks rest. piece_of d n v s blocks p a rest) d u gave before now io e h))

-- ---- one poke

-- a call that isn't refused begins before its first piece
begun_at : (c : SysCall) (r : Option Refusal) (t : Stage) → Ok t ≡ begins_unless c r →
    t ≡ stage c 0
begun_at c None t h = cc
begun_at c (Some why) t h = cc

-- so does a poke
pub poke_begun : (k x : ℕ) (t : Stage) →
    Ok t ≡ begins_unless (Poke k x) (refused (nat_lt 3 k) BadIndex None) → t ≡ stage (Poke k x) 0
poke_begun k x t h = begun_at (Poke k x) (refused (nat_lt 3 k) BadIndex None) t h

-- where it is refused, there is no cell of this number
refused_by : (b : Bool) (c : SysCall) (why : Refusal) →
    Err why ≡ begins_unless c (refused b BadIndex None) → (b ≡ true) × (why ≡ BadIndex)
refused_by true c why h = (refl, cc)
refused_by false c why h = cc

-- the number of its cell is above 3
pub poke_refused : (k x : ℕ) (why : Refusal) →
    Err why ≡ begins_unless (Poke k x) (refused (nat_lt 3 k) BadIndex None) →
    (why ≡ BadIndex) × (3 < k)
poke_refused k x why h =
    let high = refused_by (nat_lt 3 k) (Poke k x) why h in
    let test = high.0 in (high.1, grind (arith, nat_tests))

-- a piece that ends its call with a reply
pub ends_with : (next : Next) (t : Stage) (reply : Reply) → comes_after next t ≡ EndsWith reply →
    next ≡ Ends reply
ends_with Next.Goes t reply h = cc
ends_with (Ends r) t reply h = cc
ends_with (Next.Fails why) t reply h = cc

-- the two tables as one
abbrev pub marked_calls : Meaning
marked_calls = beside is_mark_call high_marks plain_calls

-- what the piece of a poke leaves by them
poke_leaves : (v : World) (images : ImageTable) (s : Objects) (blocks : Blocks)
    (p q k x : ℕ) (t : Stage) (answer : Option Answer) (io : List Bool) →
    t ≡ stage (Poke k x) 0 → q ≡ p →
    ((marked_calls.piece v images s blocks q t answer io).objects ≡ marked p k (mark p k x s) s)
    × ((marked_calls.piece v images s blocks q t answer io).after ≡ EndsWith (One (mark p k x s)))
    × ((marked_calls.piece v images s blocks q t answer io).calls ≡ 0)
poke_leaves v images s blocks p q k x t answer io e f =
    subst (λ (r : ℕ).
    ((marked_calls.piece v images s blocks r t answer io).objects ≡ marked p k (mark p k x s) s)
    × ((marked_calls.piece v images s blocks r t answer io).after ≡ EndsWith (One (mark p k x s)))
    × ((marked_calls.piece v images s blocks r t answer io).calls ≡ 0))
    (sym f)
    (subst (λ (u : Stage).
    ((marked_calls.piece v images s blocks p u answer io).objects ≡ marked p k (mark p k x s) s)
    × ((marked_calls.piece v images s blocks p u answer io).after ≡ EndsWith (One (mark p k x s)))
    × ((marked_calls.piece v images s blocks p u answer io).calls ≡ 0))
    (sym e) (refl, refl, refl))

-- a list of no calls
no_calls : (io : List Bool) → length io ≡ 0 → io ≡ []
no_calls [] h = refl
no_calls (b ∷ io) h = cc

-- what a poke leaves that came out as they have it
pub poke_left : (v : World) (images : ImageTable) (s u : Objects) (p q k x : ℕ) (t : Stage)
    (answer : Option Answer) (gave : Option (List ℕ)) (after : After) (log : List Bool) →
    t ≡ stage (Poke k x) 0 → q ≡ p →
    PieceMatchesSome v (λ blocks io. marked_calls.piece v images s blocks q t answer io) u gave
    after log →
    (u ≡ marked p k (mark p k x s) s) × (after ≡ EndsWith (One (mark p k x s))) × (log ≡ [])
poke_left v images s u p q k x t answer gave after log e f h =
    let l = h.left [] in
    let m = poke_leaves v images s h.blocks p q k x t answer (log ++ []) e f in
    (l.objects ∙ m.0, l.next ∙ m.1, no_calls log (l.calls_made ∙ m.2))
