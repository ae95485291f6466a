-- The calls of stream points meet the laws of the objects that pieces need.
use Rattle.std.specs.Prelude.{◌≡◌, ℕ, zero, suc, ◌≤◌, true, false, length, take, List, ◌++◌, Some, Contains}
use Rattle.std.specs.List.{AllByRecursion}
use Rattle.std.proofs.Common.{arith, refl, ap, sym, subst, ◌∙◌}
use Rattle.kernel_model.specs.declared.Need.{Need}
use Rattle.kernel_model.specs.declared.Object.{Object}
use Rattle.kernel_model.specs.declared.Object.TheVariants.{Graft}
use Rattle.kernel_model.specs.declared.Point.{Point}
use Rattle.kernel_model.specs.declared.SysCall.{SysCall}
use Rattle.kernel_model.specs.declared.SysCall.TheVariants.{Write, StreamRead, StreamWrite}
use Rattle.kernel_model.specs.World.{World, ImageTable}
use Rattle.kernel_model.specs.Objects.{Objects}
use Rattle.kernel_model.specs.Policies.{kind_of}
use Rattle.kernel_model.specs.Meaning.{Stage, stage}
use Rattle.kernel_model.specs.Events.{wanted}
use Rattle.kernel_model.specs.Needs.{file_block, point_needs}
use Rattle.kernel_model.specs.Alike.{AgreeOn, is_needed, is_needed_exclusively}
use Rattle.kernel_model.specs.StreamPoints.{READ_POINT, stream_points, stream_fits, stream_point}
use Rattle.kernel_model.specs.Laws.{NeedLaws, IsStanding, IsInRange, IsOwnFile, waits_for_user}
use Rattle.kernel_model.specs.Laws.{needs_of_point, before_point, answer_objects}
use Rattle.call_laws.specs.StreamPlainStages.{plain_laws, at_stage, need_stage, plain_stands, in_block}
use Rattle.call_laws.specs.NeedOrder.{follows_next}
use Rattle.call_laws.specs.StreamAskedPoints.{same_asks, write_point, read_ends, read_before}
use Rattle.call_laws.specs.StreamAskedPoints.{write_ends, write_before}
use Rattle.call_laws.specs.StreamObjects.{same_needs, need_fits, same_waits, need_stands}
use Rattle.call_laws.specs.StreamObjects.{first_needs, of_first, follows_first, first_few}
use Rattle.call_laws.specs.StreamObjects.{first_takes, first_modes}

-- states that agree on the first objects have the same next one
next_needs : (c : SysCall) (n : ℕ) (t : Stage) (v : World) (s u : Objects) (p i : ℕ) →
    stream_fits c (at_stage c n t) ≡ true →
    AgreeOn (take i (stream_points.need v s p (at_stage c n t))) s u →
    take (suc i) (stream_points.need v s p (at_stage c n t))
    ≡ take (suc i) (stream_points.need v u p (at_stage c n t))
next_needs (StreamWrite fd i off given) zero t v s u p k fits agree =
    follows_next s u (first_needs s p fd (file_block v (s.things.file p fd) i off (length given)))
    (first_needs u p fd (file_block v (u.things.file p fd) i off (length given))) k
    (follows_first v s u p fd i off (length given)) agree
next_needs c n t v s u p i fits agree =
    ap (take (suc i)) (same_needs c n t v s p refl)
    ∙ plain_laws.need.prefix v s u p (need_stage c n t) i (need_fits c n t v s p refl fits)
    (need_fits c n t v u p refl fits)
    (subst (λ ns. AgreeOn (take i ns) s u) (same_needs c n t v s p refl) agree)
    ∙ sym (ap (take (suc i)) (same_needs c n t v u p refl))

-- an open file that is needed is the caller's
own_files : (c : SysCall) (n : ℕ) (t : Stage) (v : World) (s : Objects) (p : ℕ) (need : Need) →
    stream_fits c (at_stage c n t) ≡ true →
    Contains (stream_points.need v s p (at_stage c n t)) need → IsOwnFile p need.object
own_files (StreamWrite fd i off given) zero t v s p need fits contained =
    of_first (λ (x : Need). IsOwnFile p x.object) s p fd
    (file_block v (s.things.file p fd) i off (length given)) need refl tt tt contained
own_files c n t v s p need fits contained =
    plain_laws.need.files v s p (need_stage c n t) need (need_fits c n t v s p refl fits)
    (subst (λ ns. Contains ns need) (same_needs c n t v s p refl) contained)

-- a user lock's holder hinders none of these calls
no_user : (c : SysCall) (n : ℕ) (t : Stage) (v : World) (s : Objects) (p : ℕ) (need : Need) →
    stream_fits c (at_stage c n t) ≡ true →
    Contains (stream_points.need v s p (at_stage c n t)) need →
    need.by_user ≡ waits_for_user c need.object
no_user (StreamWrite fd i off given) zero t v s p need fits contained =
    of_first (λ (x : Need). x.by_user ≡ false) s p fd
    (file_block v (s.things.file p fd) i off (length given)) need refl refl refl contained
no_user c n t v s p need fits contained =
    plain_laws.need.user v s p (need_stage c n t) need (need_fits c n t v s p refl fits)
    (subst (λ ns. Contains ns need) (same_needs c n t v s p refl) contained)
    ∙ same_waits c n t need.object refl

-- there are at most 255
few_needs : (c : SysCall) (n : ℕ) (t : Stage) (v : World) (s : Objects) (p : ℕ) →
    stream_fits c (at_stage c n t) ≡ true →
    length (stream_points.need v s p (at_stage c n t)) ≤ 255
few_needs (StreamWrite fd i off given) zero t v s p fits =
    first_few s p fd (file_block v (s.things.file p fd) i off (length given))
few_needs c n t v s p fits =
    subst (λ (ns : List Need). length ns ≤ 255) (sym (same_needs c n t v s p refl))
    (plain_laws.need.most v s p (need_stage c n t) (need_fits c n t v s p refl fits))

-- their numbers are in their ranges
needs_in_range : (c : SysCall) (n : ℕ) (t : Stage) (v : World) (images : ImageTable) (s : Objects)
    (p : ℕ) (need : Need) → IsStanding stream_points v images s p (at_stage c n t) →
    Contains (stream_points.need v s p (at_stage c n t)) need → IsInRange need.object
needs_in_range (StreamWrite fd i off given) zero t v images s p need h contained =
    let low = h.store.numbers p h.caller in
    of_first (λ (x : Need). IsInRange x.object) s p fd
    (file_block v (s.things.file p fd) i off (length given)) need
    (low, (in_block (StreamWrite fd i off given) fd off (length given) h.granted).descriptor)
    (low, omega arith) low contained
needs_in_range c n t v images s p need h contained =
    plain_laws.need.ranges v images s p (need_stage c n t) need
    (need_stands c n t v images s p refl h)
    (subst (λ ns. Contains ns need) (same_needs c n t v s p refl) contained)

-- grafts are needed exclusively
grafts_taken : (c : SysCall) (n : ℕ) (t : Stage) (v : World) (s : Objects) (p q pt : ℕ) →
    stream_fits c (at_stage c n t) ≡ true →
    is_needed (Graft q pt) (stream_points.need v s p (at_stage c n t)) ≡ true →
    is_needed_exclusively (Graft q pt) (stream_points.need v s p (at_stage c n t)) ≡ true
grafts_taken (StreamWrite fd i off given) zero t v s p q pt fits h =
    first_takes v s p fd q pt (file_block v (s.things.file p fd) i off (length given)) h
grafts_taken c n t v s p q pt fits h =
    subst (λ ns. is_needed (Graft q pt) ns ≡ true → is_needed_exclusively (Graft q pt) ns ≡ true)
    (sym (same_needs c n t v s p refl))
    (plain_laws.need.grafts v s p (need_stage c n t) q pt (need_fits c n t v s p refl fits)) h

-- each object is needed in one mode
one_mode : (c : SysCall) (n : ℕ) (t : Stage) (v : World) (s : Objects) (p : ℕ) (need : Need) →
    stream_fits c (at_stage c n t) ≡ true →
    Contains (stream_points.need v s p (at_stage c n t)) need →
    wanted need.object (stream_points.need v s p (at_stage c n t)) ≡ need.mode
one_mode (StreamWrite fd i off given) zero t v s p need fits contained =
    first_modes v s p fd (file_block v (s.things.file p fd) i off (length given)) need contained.0
    contained.1 contained.2
one_mode c n t v s p need fits contained =
    subst (λ ns. Contains ns need → wanted need.object ns ≡ need.mode)
    (sym (same_needs c n t v s p refl))
    (λ inside. plain_laws.need.modes v s p (need_stage c n t) need
    (need_fits c n t v s p refl fits) inside) contained

-- where the piece asks a point, the list ends with that point's objects
point_last : (c : SysCall) (n : ℕ) (t : Stage) (v : World) (s : Objects) (p : ℕ) (a : Point) →
    stream_fits c (at_stage c n t) ≡ true →
    stream_points.asks v s p (at_stage c n t) ≡ Some a →
    stream_points.need v s p (at_stage c n t)
    ≡ before_point s a (stream_points.need v s p (at_stage c n t)) ++ needs_of_point s a
point_last (StreamRead fd i off len) zero t v s p a fits e =
    subst (λ ns. ns ≡ before_point s a ns ++ needs_of_point s a)
    (sym (same_needs (StreamRead fd i off len) 0 t v s p refl))
    (plain_laws.need.point v s p (need_stage (StreamRead fd i off len) 0 t) a refl
    (sym (same_asks (StreamRead fd i off len) 0 t v s p refl) ∙ e))
point_last (StreamRead fd i off len) (suc n) t v s p a fits e =
    let same : stream_point p READ_POINT (length t.bytes) i off fd ≡ a = cc in
    read_ends s p (length t.bytes) i off fd a same
    ∙ sym (ap (λ ns. ns ++ needs_of_point s a) (read_before s p (length t.bytes) i off fd a same))
point_last (StreamWrite fd i off given) zero t v s p a fits e =
    let r = file_block v (s.things.file p fd) i off (length given) in
    write_ends s p fd i off (length given) r a e
    ∙ sym (ap (λ ns. ns ++ needs_of_point s a)
    (write_before s p fd i off (length given) r a e))
point_last (StreamWrite fd i off given) (suc n) t v s p a fits e =
    plain_laws.need.point v s p (stage (Write fd i off t.bytes) 0) a refl e
point_last c n t v s p a fits e = cc

-- what tells whether an answer is valid is needed: for a point of streams nothing is
answers_needed : (c : SysCall) (n : ℕ) (t : Stage) (v : World) (images : ImageTable) (s : Objects)
    (p : ℕ) (a : Point) → IsStanding stream_points v images s p (at_stage c n t) →
    stream_points.asks v s p (at_stage c n t) ≡ Some a →
    AllByRecursion (λ (o : Object). is_needed o (stream_points.need v s p (at_stage c n t)) ≡ true)
    (answer_objects (kind_of a.point))
answers_needed (StreamRead fd i off len) zero t v images s p a h e =
    subst (λ ns. AllByRecursion (λ (o : Object). is_needed o ns ≡ true) (answer_objects (kind_of a.point)))
    (sym (same_needs (StreamRead fd i off len) 0 t v s p refl))
    (plain_laws.need.answers v images s p (need_stage (StreamRead fd i off len) 0 t) a
    (need_stands (StreamRead fd i off len) 0 t v images s p refl h)
    (sym (same_asks (StreamRead fd i off len) 0 t v s p refl) ∙ e))
answers_needed (StreamRead fd i off len) (suc n) t v images s p a h e =
    let same : stream_point p READ_POINT (length t.bytes) i off fd ≡ a = cc in
    subst (λ (x : Point). AllByRecursion (λ (o : Object). is_needed o (point_needs s.accounts p READ_POINT)
    ≡ true) (answer_objects (kind_of x.point))) same tt
answers_needed (StreamWrite fd i off given) zero t v images s p a h e =
    let r = file_block v (s.things.file p fd) i off (length given) in
    subst (λ (x : Point). AllByRecursion (λ (o : Object). is_needed o (first_needs s p fd r) ≡ true)
    (answer_objects (kind_of x.point))) (write_point p fd i off (length given) r a e) tt
answers_needed (StreamWrite fd i off given) (suc n) t v images s p a h e =
    plain_laws.need.answers v images s p (stage (Write fd i off t.bytes) 0) a
    (plain_stands (StreamWrite fd i off given) (suc n) t v images s p refl h) e
answers_needed c n t v images s p a h e = cc

-- The laws of needed objects hold of the calls of stream points.
pub needs_of_streams : NeedLaws stream_points
needs_of_streams =
    record {
      prefix = λ v s u p t i fits other agree. next_needs t.call t.piece t v s u p i fits agree;
      files = λ v s p t need fits contained. own_files t.call t.piece t v s p need fits contained;
      user = λ v s p t need fits contained. no_user t.call t.piece t v s p need fits contained;
      most = λ v s p t fits. few_needs t.call t.piece t v s p fits;
      ranges = λ v images s p t need h contained.
          needs_in_range t.call t.piece t v images s p need h contained;
      point = λ v s p t a fits e. point_last t.call t.piece t v s p a fits e;
      grafts = λ v s p t q pt fits h. grafts_taken t.call t.piece t v s p q pt fits h;
      modes = λ v s p t need fits contained. one_mode t.call t.piece t v s p need fits contained;
      answers = λ v images s p t a h e. answers_needed t.call t.piece t v images s p a h e;
    }
