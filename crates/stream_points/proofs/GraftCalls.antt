-- The calls of this table on grafts, which are those of the plain table.
use Rattle.std.proofs.Common.{◌≡◌, ℕ, ◌<◌, ◌&&◌, ◌==◌, Bool, true, false, cond, List, Option, Some}
use Rattle.std.proofs.Common.{refl, sym, ap, ◌∙◌, subst, arith}
use Rattle.std.specs.Result.{is_ok}
use Rattle.std.proofs.lemmas.Bool.Decides.{nat_tests}
use Rattle.kernel_model.specs.declared.BareCall.{BareCall}
use Rattle.kernel_model.specs.declared.BareCall.TheVariants as bare
use Rattle.kernel_model.specs.declared.Refusal.{Refusal}
use Rattle.kernel_model.specs.declared.Refusal.TheVariants.{BadPoint}
use Rattle.kernel_model.specs.declared.SysCall.{SysCall}
use Rattle.kernel_model.specs.declared.SysCall.TheVariants.{Install, Remove, Fund, Bill}
use Rattle.kernel_model.specs.Bare.{call_with}
use Rattle.kernel_model.specs.World.{World, ImageTable, Blocks}
use Rattle.kernel_model.specs.Objects.{Objects, Things}
use Rattle.kernel_model.specs.Meaning.{Stage}
use Rattle.kernel_model.specs.Early.{plain_early, begins_unless}
use Rattle.kernel_model.specs.Needs.{piece_ask}
use Rattle.kernel_model.specs.Pieces.{piece_fits, pieces_left, piece_of}
use Rattle.kernel_model.specs.StreamPoints.{is_stream_point, stream_points, stream_fits, stream_ask, stream_piece}
use Rattle.call_pieces.specs.Works.{IsDue, IsPlainDue, answer_seen}

-- the call is one of those on grafts
abbrev is_graft_call : SysCall → Bool
is_graft_call (Install pt i limit) = true
is_graft_call (Remove pt) = true
is_graft_call (Fund pt kind n) = true
is_graft_call (Bill pt) = true
is_graft_call c = false

-- a call is one of those, at a stage where it may stand
pub record IsGraftCall (c : SysCall) (t : Stage) : Type 0 where
  pub named : is_graft_call c ≡ true
  pub first : t.piece ≡ 0

-- the number of a piece that is the first
is_first : (own : Bool) (n : ℕ) → (own && n == 0) ≡ true → n ≡ 0
is_first own n h = grind (arith, nat_tests)

-- all calls of this table are, but a stream read and a stream write
pub graft_call : (c : BareCall) (bytes : List ℕ) (t : Stage) →
    ((fd i off len : ℕ) → c ≡ bare.StreamRead fd i off len → ⊥) →
    ((fd i off : ℕ) → c ≡ bare.StreamWrite fd i off → ⊥) →
    stream_fits (call_with c bytes) t ≡ true → IsGraftCall (call_with c bytes) t
graft_call (bare.StreamRead fd i off len) bytes t read write fits = absurd (read fd i off len refl)
graft_call (bare.StreamWrite fd i off) bytes t read write fits = absurd (write fd i off refl)
graft_call (bare.Install pt i limit) bytes t read write fits =
    record { named = refl; first = is_first (is_stream_point pt) t.piece fits }
graft_call (bare.Remove pt) bytes t read write fits =
    record { named = refl; first = is_first (is_stream_point pt) t.piece fits }
graft_call (bare.Fund pt kind n) bytes t read write fits =
    record { named = refl; first = is_first (is_stream_point pt) t.piece fits }
graft_call (bare.Bill pt) bytes t read write fits =
    record { named = refl; first = is_first (is_stream_point pt) t.piece fits }
graft_call c bytes t read write fits = cc

-- ---- such a call in the plain table

-- it asks the same point, which is none
pub same_ask : (c : SysCall) (n : ℕ) (t : Stage) (v : World) (w : Things) (p : ℕ) →
    is_graft_call c ≡ true → stream_ask c t v w p ≡ piece_ask c n v w p
same_ask (Install pt i limit) n t v w p named = refl
same_ask (Remove pt) n t v w p named = refl
same_ask (Fund pt kind x) n t v w p named = refl
same_ask (Bill pt) n t v w p named = refl
same_ask c n t v w p named = cc

-- its piece is the same
pub same_piece : (c : SysCall) (t : Stage) (v : World) (s : Objects) (blocks : Blocks) (p : ℕ)
    (ram : List ℕ) (answer : Option (List ℕ)) (io : List Bool) → is_graft_call c ≡ true →
    stream_piece c t v s blocks p (answer_seen ram p answer) io
    ≡ piece_of c t.piece v s blocks p answer io
same_piece (Install pt i limit) t v s blocks p ram answer io named = refl
same_piece (Remove pt) t v s blocks p ram answer io named = refl
same_piece (Fund pt kind n) t v s blocks p ram answer io named = refl
same_piece (Bill pt) t v s blocks p ram answer io named = refl
same_piece c t v s blocks p ram answer io named = cc

-- it has one piece
pub one_left : (c : SysCall) (n : ℕ) (w : Things) (p : ℕ) → is_graft_call c ≡ true →
    pieces_left c n w p ≡ 1
one_left (Install pt i limit) n w p named = refl
one_left (Remove pt) n w p named = refl
one_left (Fund pt kind x) n w p named = refl
one_left (Bill pt) n w p named = refl
one_left c n w p named = cc

-- it may stand before its first
first_fits : (c : SysCall) (w : Things) (p : ℕ) → is_graft_call c ≡ true →
    piece_fits c 0 w p ≡ true
first_fits (Install pt i limit) w p named = refl
first_fits (Remove pt) w p named = refl
first_fits (Fund pt kind x) w p named = refl
first_fits (Bill pt) w p named = refl
first_fits c w p named = cc

-- what isn't refused here isn't refused there
not_refused : (own : Bool) (c : SysCall) (x : Option Refusal) →
    is_ok (begins_unless c (cond own x (Some BadPoint))) ≡ true → is_ok (begins_unless c x) ≡ true
not_refused true c x h = h
not_refused false c x h = cc

-- it is granted there
granted : (c : SysCall) (v : World) (images : ImageTable) (p : ℕ) → is_graft_call c ≡ true →
    is_ok (stream_points.early v images p c) ≡ true → is_ok (plain_early 15 v images p c) ≡ true
granted (Install pt i limit) v images p named h =
    not_refused (is_stream_point pt) (Install pt i limit) _ h
granted (Remove pt) v images p named h = not_refused (is_stream_point pt) (Remove pt) _ h
granted (Fund pt kind n) v images p named h = not_refused (is_stream_point pt) (Fund pt kind n) _ h
granted (Bill pt) v images p named h = not_refused (is_stream_point pt) (Bill pt) _ h
granted c v images p named h = cc

-- its piece may come there too
pub plain_due : (v : World) (s : Objects) (p : ℕ) (t : Stage) → IsGraftCall t.call t →
    IsDue stream_points v s p t → IsPlainDue v s p t
plain_due v s p t h due =
    let left = one_left t.call t.piece s.things p h.named in
    record {
      top = 15;
      few = omega arith;
      due = record {
        images = due.images;
        alive = due.alive;
        granted = granted t.call v due.images p h.named due.granted;
        fits = subst (λ n. piece_fits t.call n s.things p ≡ true) (sym h.first)
            (first_fits t.call s.things p h.named);
        left = omega (arith, left);
      };
    }

-- so no piece follows it
pub no_more : (c d : SysCall) (n m : ℕ) (w x : Things) (p q : ℕ) → is_graft_call c ≡ true →
    d ≡ c → pieces_left d m x q < pieces_left c n w p → ⊥
no_more c d n m w x p q named same fewer =
    let here = one_left c n w p named in
    let there : pieces_left d m x q ≡ 1 =
    ap (λ k. pieces_left k m x q) same ∙ one_left c m x q named in
    absurd (omega (arith, fewer, here, there))
