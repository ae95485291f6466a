-- The table of event points meets the laws of the objects that pieces need.
use Rattle.std.specs.Prelude.{◌≡◌, ℕ, zero, suc, ◌+◌, ◌-◌, ◌≤◌, ◌<◌, Bool, true, false, ◌&&◌, ◌||◌}
use Rattle.std.specs.Prelude.{List, [], ◌∷◌, ◌++◌, length, take, Contains, Option, Some, None}
use Rattle.std.specs.List.{AllByRecursion, list_any}
use Rattle.std.proofs.Common.{arith, refl, sym, subst, ap, ◌∙◌}
use Rattle.std.proofs.lemmas.Bool.Decides.{nat_tests}
use Rattle.std.proofs.lemmas.List.Folds.{list_any_at}
use Rattle.kernel_model.specs.declared.Mode.{Mode}
use Rattle.kernel_model.specs.declared.Need.{Need}
use Rattle.kernel_model.specs.declared.Object.{Object}
use Rattle.kernel_model.specs.declared.Object.TheVariants.{Graft, Acct, OpenFile, Queue, Lock}
use Rattle.kernel_model.specs.declared.Point.{Point}
use Rattle.kernel_model.specs.declared.SysCall.{SysCall}
use Rattle.kernel_model.specs.declared.SysCall.TheVariants.{TakeLock, Serve, Install, Remove, Fund, Bill}
use Rattle.kernel_model.specs.World.{World, ImageTable}
use Rattle.kernel_model.specs.Objects.{Objects, GraftValue, same_object}
use Rattle.kernel_model.specs.SameObject.{same_object_self}
use Rattle.kernel_model.specs.Policies.{PointKind, kind_of}
use Rattle.kernel_model.specs.Meaning.{Stage}
use Rattle.kernel_model.specs.Needs.{shared, exclusive, payer_needs, point_needs}
use Rattle.kernel_model.specs.Events.{wanted}
use Rattle.kernel_model.specs.Alike.{is_exclusive, is_needed, is_needed_exclusively}
use Rattle.kernel_model.specs.Laws.{NeedLaws, IsOwnFile, waits_for_user, needs_of_point}
use Rattle.kernel_model.specs.Laws.{before_point, IsStanding, answer_objects}
use Rattle.kernel_model.specs.EventPoints.{handlers_unless, handlers_where, event_needs, event_ask}
use Rattle.kernel_model.specs.EventPoints.{event_fits, event_points}
use Rattle.call_laws.specs.NeedParts.{each_contains, each_append, each_of_point}
use Rattle.call_laws.specs.NeedOrder.{Follows, follows_next, follows_piece}
use Rattle.call_laws.specs.NeedKinds.{piece_few}
use Rattle.call_laws.specs.NeedRanges.{NeedIsInRange}
use Rattle.call_laws.specs.GrantedCalls.{install_granted, remove_granted, fund_granted, bill_granted}
use Rattle.call_laws.specs.EventGranted.{IsBegun, other_begun, stage_of, handler_stands}

-- ---- what holds of each object

-- the point whose objects a piece may need: of a `serve` that of its next handler, else the call's
abbrev points_of : SysCall → ℕ → List (ℕ × ℕ) → ℕ → List (ℕ × ℕ)
points_of (Serve port bytes) zero handlers p = []
points_of (Serve port bytes) (suc n) [] p = []
points_of (Serve port bytes) (suc n) (h ∷ hs) p = h ∷ []
points_of (Install pt i limit) n handlers p = (p, pt) ∷ []
points_of (Remove pt) n handlers p = (p, pt) ∷ []
points_of (Fund pt kind x) n handlers p = (p, pt) ∷ []
points_of (Bill pt) n handlers p = (p, pt) ∷ []
points_of c n handlers p = []

-- it holds of the objects of a point
abbrev HoldsAt : (Need → Type 0) → ℕ × ℕ → Type 0
HoldsAt P h = P (exclusive (Graft h.0 h.1)) × P (exclusive (Acct h.0))

-- a `serve` before its first piece
abbrev is_first : SysCall → ℕ → Bool
is_first (Serve port bytes) zero = true
is_first c n = false

-- of the queue where no graft stands
each_unless : (P : Need → Type 0) (g : Option GraftValue) → P (exclusive Queue) →
    AllByRecursion P (handlers_unless g)
each_unless P None queue = (queue, tt)
each_unless P (Some g) queue = tt

-- and where one stands
each_where : (P : Need → Type 0) (g : Option GraftValue) → P (exclusive Queue) →
    AllByRecursion P (handlers_where g)
each_where P None queue = tt
each_where P (Some g) queue = (queue, tt)

-- of each object of a piece
each_event : (P : Need → Type 0) (c : SysCall) (n : ℕ) (hs : List (ℕ × ℕ)) (s : Objects)
    (p : ℕ) → (is_first c n ≡ true → P (shared Queue)) → P (exclusive Queue) →
    AllByRecursion (HoldsAt P) (points_of c n hs p) → AllByRecursion P (event_needs c n hs s p)
each_event P (Serve port bytes) zero hs s p first queue points = (first refl, tt)
each_event P (Serve port bytes) (suc n) [] s p first queue points = tt
each_event P (Serve port bytes) (suc n) (h ∷ hs) s p first queue points =
    each_of_point P s.accounts h.0 h.1 points.0.0 points.0.1
each_event P (Install pt i limit) n hs s p first queue points =
    (points.0.0, each_unless P (s.accounts.graft p pt) queue)
each_event P (Remove pt) n hs s p first queue points =
    each_append P (point_needs s.accounts p pt) (handlers_where (s.accounts.graft p pt))
    (each_of_point P s.accounts p pt points.0.0 points.0.1)
    (each_where P (s.accounts.graft p pt) queue)
each_event P (Fund pt kind x) n hs s p first queue points =
    each_of_point P s.accounts p pt points.0.0 points.0.1
each_event P (Bill pt) n hs s p first queue points = (points.0.0, tt)
each_event P c n hs s p first queue points = tt

-- what holds at all points holds at these
each_point : (P : Need → Type 0) → ((q pt : ℕ) → HoldsAt P (q, pt)) → (hs : List (ℕ × ℕ)) →
    AllByRecursion (HoldsAt P) hs
each_point P h [] = tt
each_point P h (x ∷ hs) = (h x.0 x.1, each_point P h hs)

-- ---- which objects they are

-- grafts, accounts and the queue
abbrev is_of_events : Object → Bool
is_of_events (Graft q pt) = true
is_of_events (Acct q) = true
is_of_events Queue = true
is_of_events o = false

-- no user lock's holder hinders at such an object
abbrev IsOfEvents : Need → Type 0
IsOfEvents n = (is_of_events n.object ≡ true) × (n.by_user ≡ false)

-- each object of a piece is one
of_events : (c : SysCall) (n : ℕ) (hs : List (ℕ × ℕ)) (s : Objects) (p : ℕ) →
    AllByRecursion IsOfEvents (event_needs c n hs s p)
of_events c n hs s p =
    each_event IsOfEvents c n hs s p (λ h. (refl, refl)) (refl, refl)
    (each_point IsOfEvents (λ q pt. ((refl, refl), (refl, refl))) (points_of c n hs p))

-- no open file is needed
no_file : (p : ℕ) (o : Object) → is_of_events o ≡ true → IsOwnFile p o
no_file p (OpenFile q fd) h = cc
no_file p o h = tt

-- nor a user lock
no_lock : (c : SysCall) (o : Object) → is_of_events o ≡ true → false ≡ waits_for_user c o
no_lock (TakeLock u) (Lock l) h = cc
no_lock (TakeLock u) o h = refl
no_lock c o h = refl

-- ---- modes

-- an object is needed exclusively
abbrev IsExclusive : Need → Type 0
IsExclusive n = n.mode ≡ Mode.Exclusive

-- all but the queue of a `serve` are needed exclusively
exclusive_event : (c : SysCall) (n : ℕ) (hs : List (ℕ × ℕ)) (s : Objects) (p : ℕ) →
    is_first c n ≡ false → AllByRecursion IsExclusive (event_needs c n hs s p)
exclusive_event c n hs s p later =
    each_event IsExclusive c n hs s p (λ h. let no : true ≡ false = sym h ∙ later in absurd cc) refl
    (each_point IsExclusive (λ q pt. (refl, refl)) (points_of c n hs p))

-- an object that is needed in such a list is needed exclusively
taken : (o : Object) (ns : List Need) → AllByRecursion IsExclusive ns →
    is_needed_exclusively o ns ≡ is_needed o ns
taken o [] each = refl
taken o (n ∷ ns) each =
    ap (λ m. is_exclusive m && same_object o n.object || is_needed_exclusively o ns) each.0
    ∙ ap (λ b. same_object o n.object || b) (taken o ns each.1)

-- a graft is needed exclusively
graft_taken : (c : SysCall) (n : ℕ) (hs : List (ℕ × ℕ)) (s : Objects) (p q pt : ℕ) →
    is_needed (Graft q pt) (event_needs c n hs s p) ≡ true →
    is_needed_exclusively (Graft q pt) (event_needs c n hs s p) ≡ true
unfolding same_object
graft_taken (Serve port bytes) zero hs s p q pt h = cc
graft_taken c n hs s p q pt h =
    taken (Graft q pt) (event_needs c n hs s p) (exclusive_event c n hs s p refl) ∙ h

-- an object of a list whose needs have one mode is wanted in it
wanted_in : (mode : Mode) (o : Object) (ns : List Need) → AllByRecursion (λ (n : Need). n.mode ≡ mode) ns →
    list_any (λ (n : Need). same_object n.object o) ns ≡ true → wanted o ns ≡ mode
wanted_in mode o [] each h = cc
wanted_in mode o (n ∷ ns) each h =
    by_test (same_object n.object o) each.0 (wanted_in mode o ns each.1) h
  where
    by_test : (b : Bool) → n.mode ≡ mode →
        (list_any (λ (n : Need). same_object n.object o) ns ≡ true → wanted o ns ≡ mode) →
        (b || list_any (λ (n : Need). same_object n.object o) ns) ≡ true →
        elim b as (λ _. Mode) [ true ↦ n.mode | false ↦ wanted o ns ] ≡ mode
    by_test true here later h = here
    by_test false here later h = later h

-- each need of such a list is wanted in its mode
one_mode : (mode : Mode) (ns : List Need) (n : Need) → AllByRecursion (λ (x : Need). x.mode ≡ mode) ns →
    Contains ns n → wanted n.object ns ≡ n.mode
one_mode mode ns n each c =
    wanted_in mode n.object ns each
    (list_any_at (λ (x : Need). same_object x.object n.object) ns c.0 n c.1
    (ap (λ (x : Need). same_object x.object n.object) c.2 ∙ same_object_self n.object))
    ∙ sym (each_contains (λ (x : Need). x.mode ≡ mode) ns n each c)

-- each object of a piece is wanted in its mode
event_modes : (c : SysCall) (k : ℕ) (hs : List (ℕ × ℕ)) (s : Objects) (p : ℕ) (n : Need) →
    Contains (event_needs c k hs s p) n → wanted n.object (event_needs c k hs s p) ≡ n.mode
event_modes (Serve port bytes) zero hs s p n c =
    one_mode Mode.Shared (shared Queue ∷ []) n (refl, tt) c
event_modes c k hs s p n contained =
    one_mode Mode.Exclusive (event_needs c k hs s p) n (exclusive_event c k hs s p refl) contained

-- ---- order

-- the queue where no graft stands, for the same graft
follows_unless : (s u : Objects) (g k : Option GraftValue) → g ≡ k →
    Follows s u (handlers_unless g) (handlers_unless k)
follows_unless s u None None e = (refl, λ h. tt)
follows_unless s u None (Some k) e = cc
follows_unless s u (Some g) None e = cc
follows_unless s u (Some g) (Some k) e = tt

-- the payer and the queue where one stands
follows_where : (s u : Objects) (p : ℕ) (g k : Option GraftValue) → g ≡ k →
    Follows s u (payer_needs p g ++ handlers_where g) (payer_needs p k ++ handlers_where k)
follows_where s u p None None e = tt
follows_where s u p None (Some k) e = cc
follows_where s u p (Some g) None e = cc
follows_where s u p (Some g) (Some k) e = (refl, λ h. (refl, λ i. tt))

-- the objects of each piece
follows_event : (c : SysCall) (n : ℕ) (hs : List (ℕ × ℕ)) (v : World) (s u : Objects) (p : ℕ) →
    Follows s u (event_needs c n hs s p) (event_needs c n hs u p)
follows_event (Serve port bytes) zero hs v s u p = (refl, λ h. tt)
follows_event (Serve port bytes) (suc n) [] v s u p = tt
follows_event (Serve port bytes) (suc n) (x ∷ hs) v s u p = follows_piece (Remove x.1) 0 v s u x.0
follows_event (Install pt i limit) n hs v s u p =
    (refl, λ h. follows_unless s u (s.accounts.graft p pt) (u.accounts.graft p pt) h.0)
follows_event (Remove pt) n hs v s u p =
    (refl, λ h. follows_where s u p (s.accounts.graft p pt) (u.accounts.graft p pt) h.0)
follows_event (Fund pt kind x) n hs v s u p = follows_piece (Remove pt) 0 v s u p
follows_event (Bill pt) n hs v s u p = (refl, λ h. tt)
follows_event c n hs v s u p = tt

-- ---- how many

-- at most the account that may pay and the queue
few_where : (p : ℕ) (g : Option GraftValue) →
    length (payer_needs p g ++ handlers_where g) ≤ 2
few_where p None = omega arith
few_where p (Some g) = omega arith

-- at most the queue
few_unless : (g : Option GraftValue) → length (handlers_unless g) ≤ 1
few_unless None = omega arith
few_unless (Some g) = omega arith

-- a piece needs at most 255 objects
event_few : (c : SysCall) (n : ℕ) (hs : List (ℕ × ℕ)) (v : World) (s : Objects) (p : ℕ) →
    length (event_needs c n hs s p) ≤ 255
event_few (Serve port bytes) zero hs v s p = omega arith
event_few (Serve port bytes) (suc n) [] v s p = omega arith
event_few (Serve port bytes) (suc n) (h ∷ hs) v s p = piece_few (Remove h.1) 0 v s h.0
event_few (Install pt i limit) n hs v s p =
    let few = few_unless (s.accounts.graft p pt) in omega (arith, few)
event_few (Remove pt) n hs v s p =
    let few = few_where p (s.accounts.graft p pt) in omega (arith, few)
event_few (Fund pt kind x) n hs v s p = piece_few (Remove pt) 0 v s p
event_few (Bill pt) n hs v s p = omega arith
event_few c n hs v s p = omega arith

-- ---- ranges

-- the numbers of a point of a process
point_low : (p pt : ℕ) → p < 16 → pt < 16 → HoldsAt NeedIsInRange (p, pt)
point_low p pt l m = ((l, m), l)

-- the numbers of a piece's point are in their ranges
points_low : (c : SysCall) (n : ℕ) (hs : List (ℕ × ℕ)) (answers : ℕ) (bytes : List ℕ) (v : World)
    (images : ImageTable) (p : ℕ) →
    p < 16 → IsBegun v images p c → event_fits c (stage_of c n hs answers bytes) ≡ true →
    AllByRecursion (HoldsAt NeedIsInRange) (points_of c n hs p)
points_low (Serve port event) zero hs answers bytes v images p low begun fits = tt
points_low (Serve port event) (suc n) [] answers bytes v images p low begun fits = tt
points_low (Serve port event) (suc n) (h ∷ hs) answers bytes v images p low begun fits =
    let k = handler_stands port n h hs answers fits in
    let l = k.low in
    let e = k.point in (point_low h.0 h.1 k.process (omega arith), tt)
points_low (Install pt i limit) n hs answers bytes v images p low begun fits =
    let granted = other_begun v images p (Install pt i limit) refl begun in
    (point_low p pt low (install_granted v images p pt i limit granted), tt)
points_low (Remove pt) n hs answers bytes v images p low begun fits =
    let granted = other_begun v images p (Remove pt) refl begun in
    (point_low p pt low (remove_granted v images p pt granted), tt)
points_low (Fund pt kind x) n hs answers bytes v images p low begun fits =
    let granted = other_begun v images p (Fund pt kind x) refl begun in
    (point_low p pt low (fund_granted v images p pt kind x granted), tt)
points_low (Bill pt) n hs answers bytes v images p low begun fits =
    let granted = other_begun v images p (Bill pt) refl begun in
    (point_low p pt low (bill_granted v images p pt granted), tt)
points_low c n hs answers bytes v images p low begun fits = tt

-- and so are those of its objects
event_ranges : (v : World) (images : ImageTable) (s : Objects) (p : ℕ) (t : Stage) →
    IsStanding event_points v images s p t →
    AllByRecursion NeedIsInRange (event_needs t.call t.piece t.handlers s p)
event_ranges v images s p t h =
    each_event NeedIsInRange t.call t.piece t.handlers s p (λ e. tt) tt
    (points_low t.call t.piece t.handlers t.answers t.bytes v images p
    (h.store.numbers p h.caller) h.granted h.fits)

-- ---- the point that is asked

-- the objects of a piece that asks are those of its point
pub asked_needs : (c : SysCall) (n : ℕ) (hs : List (ℕ × ℕ)) (s : Objects) (p : ℕ) (a : Point) →
    event_ask c n hs p ≡ Some a → event_needs c n hs s p ≡ needs_of_point s a
asked_needs (Serve port bytes) zero hs s p a e = cc
asked_needs (Serve port bytes) (suc n) [] s p a e = cc
asked_needs (Serve port bytes) (suc n) (h ∷ hs) s p a e =
    let same : record {
      installer = h.0;
      point = h.1;
      args = port ∷ length bytes ∷ p ∷ 0 ∷ [];
    } ≡ a = cc in ap (needs_of_point s) same
asked_needs c n hs s p a e = cc

-- none stand before them
pub asked_alone : (c : SysCall) (n : ℕ) (hs : List (ℕ × ℕ)) (s : Objects) (p : ℕ) (a : Point) →
    event_ask c n hs p ≡ Some a → before_point s a (event_needs c n hs s p) ≡ []
asked_alone c n hs s p a e =
    let ns = needs_of_point s a in
    let none : length ns - length ns ≡ 0 = omega arith in
    ap (λ xs. take (length xs - length ns) xs) (asked_needs c n hs s p a e)
    ∙ ap (λ k. take k ns) none

-- the points of ports are those of events
event_kind : (port : ℕ) → port < 8 → kind_of (6 + port) ≡ PointKind.Serve
event_kind port l = grind (arith, nat_tests)

-- so the point that a piece asks is one
pub asked_kind : (c : SysCall) (n : ℕ) (hs : List (ℕ × ℕ)) (answers : ℕ) (bytes : List ℕ) (p : ℕ)
    (a : Point) → event_fits c (stage_of c n hs answers bytes) ≡ true →
    event_ask c n hs p ≡ Some a → kind_of a.point ≡ PointKind.Serve
asked_kind (Serve port event) zero hs answers bytes p a fits e = cc
asked_kind (Serve port event) (suc n) [] answers bytes p a fits e = cc
asked_kind (Serve port event) (suc n) (h ∷ hs) answers bytes p a fits e =
    let k = handler_stands port n h hs answers fits in
    let same : a.point ≡ h.1 = cc in ap kind_of (same ∙ k.point) ∙ event_kind port k.low
asked_kind c n hs answers bytes p a fits e = cc

-- ---- the laws

-- the laws of needed objects hold of event points
pub needs_of_events : NeedLaws event_points
needs_of_events =
    record {
      prefix = λ v s u p t i h k a.
          follows_next s u (event_needs t.call t.piece t.handlers s p)
          (event_needs t.call t.piece t.handlers u p) i
          (follows_event t.call t.piece t.handlers v s u p) a;
      files = λ v s p t n h c.
          no_file p n.object (each_contains IsOfEvents
          (event_needs t.call t.piece t.handlers s p) n
          (of_events t.call t.piece t.handlers s p) c).0;
      user = λ v s p t n h c.
          let k = each_contains IsOfEvents (event_needs t.call t.piece t.handlers s p) n
          (of_events t.call t.piece t.handlers s p) c in
          k.1 ∙ no_lock t.call n.object k.0;
      most = λ v s p t h. event_few t.call t.piece t.handlers v s p;
      ranges = λ v images s p t n h c.
          each_contains NeedIsInRange (event_needs t.call t.piece t.handlers s p) n
          (event_ranges v images s p t h) c;
      point = λ v s p t a h e.
          asked_needs t.call t.piece t.handlers s p a e
          ∙ sym (ap (λ ns. ns ++ needs_of_point s a)
          (asked_alone t.call t.piece t.handlers s p a e));
      grafts = λ v s p t q pt h e. graft_taken t.call t.piece t.handlers s p q pt e;
      modes = λ v s p t n h c. event_modes t.call t.piece t.handlers s p n c;
      answers = λ v images s p t a h e.
          subst (λ kind. AllByRecursion (λ (o : Object). is_needed o
          (event_needs t.call t.piece t.handlers s p) ≡ true) (answer_objects kind))
          (sym (asked_kind t.call t.piece t.handlers t.answers t.bytes p a h.fits e)) tt;
    }
