-- The table of event points meets the laws of what pieces look at and change.
use Rattle.std.specs.Prelude.{◌≡◌, ℕ, zero, suc, true, false, List, [], ◌∷◌, ◌++◌, Option, Some, None, is_some, length}
use Rattle.std.proofs.Common.{arith, refl, ap}
use Rattle.std.proofs.lemmas.Bool.{or_left}
use Rattle.std.proofs.lemmas.Bool.Decides.{nat_tests}
use Rattle.kernel_model.specs.declared.Object.{Object}
use Rattle.kernel_model.specs.declared.Object.TheVariants.{Graft, Acct, Queue}
use Rattle.kernel_model.specs.declared.Point.{Point}
use Rattle.kernel_model.specs.declared.Refusal.TheVariants.{BadPoint, Taken}
use Rattle.kernel_model.specs.declared.SysCall.{SysCall}
use Rattle.kernel_model.specs.declared.SysCall.TheVariants.{Serve, Install, Remove, Fund, Bill}
use Rattle.kernel_model.specs.World.{World, Blocks}
use Rattle.kernel_model.specs.Objects.{Objects, GraftValue, SameAt, same_object}
use Rattle.kernel_model.specs.SameObject.{same_object_self}
use Rattle.kernel_model.specs.Meaning.{Stage, Answer}
use Rattle.kernel_model.specs.Needs.{exclusive, payer_needs}
use Rattle.kernel_model.specs.Pieces.{new_graft}
use Rattle.kernel_model.specs.Alike.{AgreeOn, is_needed_exclusively}
use Rattle.kernel_model.specs.Laws.{FootprintLaws, IsInRange}
use Rattle.kernel_model.specs.EventPoints.{point_of_port, handlers_unless, handlers_where}
use Rattle.kernel_model.specs.EventPoints.{handler_joins, handler_leaves, serves_on, serve_piece}
use Rattle.kernel_model.specs.EventPoints.{serve_needs, serve_ask, event_needs, event_ask}
use Rattle.kernel_model.specs.EventPoints.{event_piece, event_points}
use Rattle.kernel_model.specs.Handlers.{handlers_at}
use Rattle.call_laws.specs.Changes.{piece_changes}
use Rattle.call_laws.specs.FileChanges.{same_self}
use Rattle.call_laws.specs.Looks.{piece_looks}
use Rattle.call_laws.specs.SamePieces.{SamePiece, same_refusal}
use Rattle.call_laws.specs.Footprint.{alike_on}

-- ---- what a piece looks at

-- states that agree on the objects of an install have the same graft at the point, and the same
-- handlers where none stands
agree_unless : (s u : Objects) (p pt : ℕ) (g : Option GraftValue) →
    AgreeOn (exclusive (Graft p pt) ∷ handlers_unless g) s u →
    (s.accounts.graft p pt ≡ u.accounts.graft p pt)
    × (g ≡ None → s.things.handlers ≡ u.things.handlers)
unfolding same_object
agree_unless s u p pt None h =
    ((h (Graft p pt) (or_left _ _ (same_object_self (Graft p pt)))).0, λ e. (h Queue refl).1)
agree_unless s u p pt (Some g) h =
    ((h (Graft p pt) (or_left _ _ (same_object_self (Graft p pt)))).0, λ e. cc)

-- on those of a remove: and the same account and handlers where one stands
agree_where : (s u : Objects) (p pt : ℕ) (g : Option GraftValue) →
    AgreeOn (exclusive (Graft p pt) ∷ payer_needs p g ++ handlers_where g) s u →
    (s.accounts.graft p pt ≡ u.accounts.graft p pt)
    × (is_some g ≡ true → s.accounts.acct p ≡ u.accounts.acct p)
    × (is_some g ≡ true → s.things.handlers ≡ u.things.handlers)
unfolding same_object
agree_where s u p pt None h =
    ((h (Graft p pt) (or_left _ _ (same_object_self (Graft p pt)))).0, λ e. cc, λ e. cc)
agree_where s u p pt (Some g) h = (
  (h (Graft p pt) (or_left _ _ (same_object_self (Graft p pt)))).0,
  λ e. h (Acct p) (or_left _ _ (same_object_self (Acct p))),
  λ e. (h Queue refl).1,
)

-- a graft put in place
join_same : (s u : Objects) (p pt : ℕ) (new : GraftValue) (g k : Option GraftValue)
    (blocks : Blocks) → g ≡ k → (g ≡ None → s.things.handlers ≡ u.things.handlers) →
    SamePiece s u (handler_joins s p pt new g blocks) (handler_joins u p pt new k blocks)
join_same s u p pt new None None blocks e h = let same = h refl in grind (arith, nat_tests)
join_same s u p pt new None (Some k) blocks e h = cc
join_same s u p pt new (Some g) None blocks e h = cc
join_same s u p pt new (Some g) (Some k) blocks e h = same_refusal s u blocks Taken Taken refl

-- a graft taken out
leave_same : (s u : Objects) (p pt : ℕ) (blocks : Blocks) →
    s.accounts.graft p pt ≡ u.accounts.graft p pt →
    (is_some (s.accounts.graft p pt) ≡ true → s.accounts.acct p ≡ u.accounts.acct p) →
    (is_some (s.accounts.graft p pt) ≡ true → s.things.handlers ≡ u.things.handlers) →
    SamePiece s u (handler_leaves s p pt (s.accounts.graft p pt) blocks)
    (handler_leaves u p pt (u.accounts.graft p pt) blocks)
leave_same s u p pt blocks e a h = grind (arith, nat_tests)

-- a piece of a `serve`
serve_same : (n : ℕ) (c : SysCall) (port : ℕ) (hs : List (ℕ × ℕ)) (answers : ℕ) (s u : Objects)
    (blocks : Blocks) (answer : Option Answer) →
    (n ≡ 0 → s.things.handlers ≡ u.things.handlers) →
    SamePiece s u (serve_piece n c port hs answers s blocks answer)
    (serve_piece n c port hs answers u blocks answer)
serve_same zero c port hs answers s u blocks answer h =
    record {
      objects = λ o e. e;
      blocks = refl;
      gave = refl;
      after = ap (λ hs. serves_on c 1 (handlers_at (point_of_port port) hs) 0) (h refl);
      calls = refl;
    }
serve_same (suc n) c port [] answers s u blocks answer h =
    record { objects = λ o e. e; blocks = refl; gave = refl; after = refl; calls = refl }
serve_same (suc n) c port (x ∷ hs) answers s u blocks answer h =
    record { objects = λ o e. e; blocks = refl; gave = refl; after = refl; calls = refl }

-- its first piece needs the queue, which has the handlers
agree_first : (n : ℕ) (hs : List (ℕ × ℕ)) (s u : Objects) → AgreeOn (serve_needs n s hs) s u →
    n ≡ 0 → s.things.handlers ≡ u.things.handlers
unfolding same_object
agree_first zero hs s u h e = (h Queue refl).1
agree_first (suc n) hs s u h e = absurd (omega arith)

-- it asks no point
first_asks_none : (n port count p : ℕ) (hs : List (ℕ × ℕ)) (a : Point) →
    serve_ask n port count p hs ≡ Some a → n ≡ 0 → ⊥
first_asks_none zero port count p hs a e z = cc
first_asks_none (suc n) port count p hs a e z = omega arith

-- a piece does the same on states that agree on what it needs
same_by : (c : SysCall) (t : Stage) (v : World) (s u : Objects) (blocks : Blocks) (p : ℕ)
    (answer : Option Answer) → AgreeOn (event_needs c t.piece t.handlers s p) s u →
    SamePiece s u (event_piece c t s blocks p answer) (event_piece c t u blocks p answer)
same_by (Serve port bytes) t v s u blocks p answer h =
    serve_same t.piece t.call port t.handlers t.answers s u blocks answer
    (agree_first t.piece t.handlers s u h)
same_by (Install pt i limit) t v s u blocks p answer h =
    let a = agree_unless s u p pt (s.accounts.graft p pt) h in
    join_same s u p pt (new_graft i limit) (s.accounts.graft p pt) (u.accounts.graft p pt) blocks
    a.0 a.1
same_by (Remove pt) t v s u blocks p answer h =
    let a = agree_where s u p pt (s.accounts.graft p pt) h in
    leave_same s u p pt blocks a.0 a.1 a.2
same_by (Fund pt kind x) t v s u blocks p answer h =
    piece_looks (Fund pt kind x) 0 v s u blocks p None [] h
same_by (Bill pt) t v s u blocks p answer h = piece_looks (Bill pt) 0 v s u blocks p None [] h
same_by c t v s u blocks p answer h = same_refusal s u blocks BadPoint BadPoint refl

-- a piece that asks does the same on all states
asking_same_by : (c : SysCall) (t : Stage) (s u : Objects) (blocks : Blocks) (p : ℕ)
    (answer : Option Answer) (a : Point) → event_ask c t.piece t.handlers p ≡ Some a →
    SamePiece s u (event_piece c t s blocks p answer) (event_piece c t u blocks p answer)
asking_same_by (Serve port bytes) t s u blocks p answer a e =
    serve_same t.piece t.call port t.handlers t.answers s u blocks answer
    (λ z. absurd (first_asks_none t.piece port (length bytes) p t.handlers a e z))
asking_same_by c t s u blocks p answer a e = cc

-- ---- what a piece changes

-- a graft put in place
join_changes : (s : Objects) (p pt : ℕ) (new : GraftValue) (g : Option GraftValue)
    (blocks : Blocks) (o : Object) →
    is_needed_exclusively o (exclusive (Graft p pt) ∷ handlers_unless g) ≡ false →
    SameAt o (handler_joins s p pt new g blocks).objects s
unfolding same_object
join_changes s p pt new None blocks o h = grind (arith, nat_tests)
join_changes s p pt new (Some g) blocks o h = same_self o s

-- a graft taken out
leave_changes : (s : Objects) (p pt : ℕ) (blocks : Blocks) (o : Object) →
    is_needed_exclusively o (exclusive (Graft p pt)
    ∷ payer_needs p (s.accounts.graft p pt) ++ handlers_where (s.accounts.graft p pt)) ≡ false →
    SameAt o (handler_leaves s p pt (s.accounts.graft p pt) blocks).objects s
unfolding same_object
leave_changes s p pt blocks o h = grind (arith, nat_tests)

-- a piece of a `serve` changes nothing
serve_keeps : (n : ℕ) (c : SysCall) (port : ℕ) (hs : List (ℕ × ℕ)) (answers : ℕ) (s : Objects)
    (blocks : Blocks) (answer : Option Answer) (o : Object) →
    SameAt o (serve_piece n c port hs answers s blocks answer).objects s
serve_keeps zero c port hs answers s blocks answer o = same_self o s
serve_keeps (suc n) c port [] answers s blocks answer o = same_self o s
serve_keeps (suc n) c port (x ∷ hs) answers s blocks answer o = same_self o s

-- a piece changes no object but those that it needs exclusively
changes_by : (c : SysCall) (t : Stage) (v : World) (s : Objects) (blocks : Blocks) (p : ℕ)
    (answer : Option Answer) (o : Object) → IsInRange o →
    is_needed_exclusively o (event_needs c t.piece t.handlers s p) ≡ false →
    SameAt o (event_piece c t s blocks p answer).objects s
changes_by (Serve port bytes) t v s blocks p answer o range h =
    serve_keeps t.piece t.call port t.handlers t.answers s blocks answer o
changes_by (Install pt i limit) t v s blocks p answer o range h =
    join_changes s p pt (new_graft i limit) (s.accounts.graft p pt) blocks o h
changes_by (Remove pt) t v s blocks p answer o range h = leave_changes s p pt blocks o h
changes_by (Fund pt kind x) t v s blocks p answer o range h =
    piece_changes (Fund pt kind x) 0 v s blocks p None [] o range h
changes_by (Bill pt) t v s blocks p answer o range h =
    piece_changes (Bill pt) 0 v s blocks p None [] o range h
changes_by c t v s blocks p answer o range h = same_self o s

-- a piece that asks changes nothing
asking_changes_by : (c : SysCall) (t : Stage) (s : Objects) (blocks : Blocks) (p : ℕ)
    (answer : Option Answer) (a : Point) (o : Object) →
    event_ask c t.piece t.handlers p ≡ Some a →
    SameAt o (event_piece c t s blocks p answer).objects s
asking_changes_by (Serve port bytes) t s blocks p answer a o e =
    serve_keeps t.piece t.call port t.handlers t.answers s blocks answer o
asking_changes_by c t s blocks p answer a o e = cc

-- ---- the laws

-- the laws of what pieces look at and change hold of event points
pub footprint_of_events : FootprintLaws event_points
footprint_of_events = record {
  looks = λ v images s u blocks p t answer io ready other agree living.
      alike_on (event_needs t.call t.piece t.handlers s p) s u _ _ agree
      (same_by t.call t v s u blocks p answer agree);
  changes = λ v images s blocks p t answer io o ready range free.
      changes_by t.call t v s blocks p answer o range free;
  asking_looks = λ v images s u blocks p t answer io a ready other asks agree living.
      alike_on _ s u _ _ agree (asking_same_by t.call t s u blocks p answer a asks);
  asking_changes = λ v images s blocks p t answer io a o ready range asks free.
      asking_changes_by t.call t s blocks p answer a o asks;
}
