-- The calls of stream points meet the laws of the points that pieces ask.
use Rattle.std.specs.Prelude.{◌≡◌, ℕ, zero, suc, ◌+◌, ◌≤◌, ◌<◌, true, length, List, ◌∷◌, Option}
use Rattle.std.specs.Prelude.{Some, None, Result, Ok, Err}
use Rattle.std.proofs.Common.{arith, refl, ap, sym, subst, ◌∙◌}
use Rattle.std.proofs.lemmas.Bool.{or_left}
use Rattle.kernel_model.specs.declared.Need.{Need}
use Rattle.kernel_model.specs.declared.Object.TheVariants.{OpenFile}
use Rattle.kernel_model.specs.declared.OpenRow.{OpenRow}
use Rattle.kernel_model.specs.declared.Point.{Point}
use Rattle.kernel_model.specs.declared.Refusal.{Refusal}
use Rattle.kernel_model.specs.declared.SysCall.{SysCall}
use Rattle.kernel_model.specs.declared.SysCall.TheVariants.{Write, StreamRead, StreamWrite}
use Rattle.kernel_model.specs.World.{World, ImageTable, file_row}
use Rattle.kernel_model.specs.Objects.{Objects, same_object}
use Rattle.kernel_model.specs.SameObject.{same_object_self}
use Rattle.kernel_model.specs.Policies.{kind_of}
use Rattle.kernel_model.specs.Meaning.{Stage, stage}
use Rattle.kernel_model.specs.Needs.{shared, file_block, file_block_in}
use Rattle.kernel_model.specs.Alike.{AgreeOn, AreAlike, is_needed, windowless}
use Rattle.kernel_model.specs.StreamPoints.{READ_POINT, WRITE_POINT, stream_points, stream_fits}
use Rattle.kernel_model.specs.StreamPoints.{stream_point, stream_point_needs, stream_write_asks}
use Rattle.kernel_model.specs.Laws.{AskLaws, IsStanding, IsRightPoint, SameKindOfPoint, SameAheadAsk, before_point}
use Rattle.call_laws.specs.StreamPlainStages.{plain_table, plain_laws, at_stage, need_stage}
use Rattle.call_laws.specs.StreamPlainStages.{plain_stands, in_block, read_carries}
use Rattle.call_laws.specs.StreamObjects.{same_needs, need_stands}
use Rattle.call_laws.specs.StreamAskedPoints.{same_asks, write_point, read_before, write_before}
use Rattle.call_laws.specs.StreamAskedPoints.{right_point, block_below}

-- ---- states that agree

-- states that agree on what the first piece of a write needs have the same file
pub file_agrees : (s u : Objects) (p fd : ℕ) (ns : List Need) →
    AgreeOn (shared (OpenFile p fd) ∷ ns) s u → s.things.file p fd ≡ u.things.file p fd
file_agrees s u p fd ns agree =
    agree (OpenFile p fd) (or_left (same_object (OpenFile p fd) (OpenFile p fd))
    (is_needed (OpenFile p fd) ns) (same_object_self (OpenFile p fd)))

-- states that agree on the objects of a piece have the same point asked
same_asked : (c : SysCall) (n : ℕ) (t : Stage) (v : World) (s u : Objects) (p : ℕ) →
    stream_fits c (at_stage c n t) ≡ true →
    AgreeOn (stream_points.need v s p (at_stage c n t)) s u →
    stream_points.asks v s p (at_stage c n t) ≡ stream_points.asks v u p (at_stage c n t)
same_asked (StreamRead fd i off len) zero t v s u p fits agree =
    same_asks (StreamRead fd i off len) 0 t v s p refl
    ∙ plain_laws.ask.looks v s u p (need_stage (StreamRead fd i off len) 0 t) refl refl
    (subst (λ ns. AgreeOn ns s u) (same_needs (StreamRead fd i off len) 0 t v s p refl) agree)
    ∙ sym (same_asks (StreamRead fd i off len) 0 t v u p refl)
same_asked (StreamRead fd i off len) (suc n) t v s u p fits agree = refl
same_asked (StreamWrite fd i off given) zero t v s u p fits agree =
    ap (λ row. stream_write_asks p fd i off (length given)
    (file_block v row i off (length given)))
    (file_agrees s u p fd
    (stream_point_needs s p (file_block v (s.things.file p fd) i off (length given))) agree)
same_asked (StreamWrite fd i off given) (suc n) t v s u p fits agree =
    plain_laws.ask.looks v s u p (stage (Write fd i off t.bytes) 0) refl refl agree
same_asked c n t v s u p fits agree = refl

-- ---- numbers in their ranges

-- the point of stream writes, for the block that is to be written
write_right : (p fd i off count : ℕ) (r : Result ℕ Refusal) (a : Point) → p < 16 → fd < 4 →
    off + count ≤ 512 → ((b : ℕ) → r ≡ Ok b → i < 4096) →
    stream_write_asks p fd i off count r ≡ Some a → IsRightPoint a
write_right p fd i off count (Err why) a caller descriptor within low e = cc
write_right p fd i off count (Ok b) a caller descriptor within low e =
    subst IsRightPoint (write_point p fd i off count (Ok b) a e)
    (right_point p WRITE_POINT count i off fd caller (omega arith) (omega (arith, within))
    (low b refl) (omega (arith, within)) descriptor)

-- the point's numbers are in their ranges, and its arguments are four words
asked_right : (c : SysCall) (n : ℕ) (t : Stage) (v : World) (images : ImageTable) (s : Objects)
    (p : ℕ) (a : Point) → IsStanding stream_points v images s p (at_stage c n t) →
    stream_points.asks v s p (at_stage c n t) ≡ Some a → IsRightPoint a
asked_right (StreamRead fd i off len) zero t v images s p a h e =
    plain_laws.ask.ranges v images s p (need_stage (StreamRead fd i off len) 0 t) a
    (need_stands (StreamRead fd i off len) 0 t v images s p refl h)
    (sym (same_asks (StreamRead fd i off len) 0 t v s p refl) ∙ e)
asked_right (StreamRead fd i off len) (suc n) t v images s p a h e =
    let here = in_block (StreamRead fd i off len) fd off len h.granted in
    let within = here.within in
    let carried = read_carries fd i off len n t h.fits in
    let same : stream_point p READ_POINT (length t.bytes) i off fd ≡ a = cc in
    subst IsRightPoint same
    (right_point p READ_POINT (length t.bytes) i off fd (h.store.numbers p h.caller) (omega arith)
    carried.bytes carried.block (omega (arith, within)) here.descriptor)
asked_right (StreamWrite fd i off given) zero t v images s p a h e =
    let here = in_block (StreamWrite fd i off given) fd off (length given) h.granted in
    write_right p fd i off (length given)
    (file_block v (s.things.file p fd) i off (length given)) a (h.store.numbers p h.caller)
    here.descriptor here.within
    (λ b same. block_below v (s.things.file p fd) i off (length given) b h.store.world same) e
asked_right (StreamWrite fd i off given) (suc n) t v images s p a h e =
    plain_laws.ask.ranges v images s p (stage (Write fd i off t.bytes) 0) a
    (plain_stands (StreamWrite fd i off given) (suc n) t v images s p refl h) e
asked_right c n t v images s p a h e = cc

-- ---- alike states

-- the file of an open file, or 0
abbrev file_or_zero : Option OpenRow → ℕ
file_or_zero None = 0
file_or_zero (Some o) = o.file

-- the block that is to be read or written doesn't look at the window
same_block : (v : World) (i off len : ℕ) (o r : Option OpenRow) → windowless o ≡ windowless r →
    file_block v o i off len ≡ file_block v r i off len
same_block v i off len None None e = refl
same_block v i off len None (Some r) e = cc
same_block v i off len (Some o) None e = cc
same_block v i off len (Some o) (Some r) e =
    ap (λ n. file_block_in (file_row v n) i off len) (ap file_or_zero e)

-- two points of stream writes are of one kind
write_kind : (p fd i off count : ℕ) (r q : Result ℕ Refusal) → r ≡ q →
    SameKindOfPoint (stream_write_asks p fd i off count r) (stream_write_asks p fd i off count q)
write_kind p fd i off count (Err why) (Err other) e = tt
write_kind p fd i off count (Err why) (Ok b) e = cc
write_kind p fd i off count (Ok a) (Err why) e = cc
write_kind p fd i off count (Ok a) (Ok b) e = refl

-- a point of the same kind is asked on both, or none
same_kind : (c : SysCall) (n : ℕ) (t : Stage) (v : World) (s u : Objects) (p : ℕ) →
    stream_fits c (at_stage c n t) ≡ true → AreAlike s u →
    SameKindOfPoint (stream_points.asks v s p (at_stage c n t))
    (stream_points.asks v u p (at_stage c n t))
same_kind (StreamRead fd i off len) zero t v s u p fits alike =
    subst (λ x. SameKindOfPoint x (stream_points.asks v u p
    (at_stage (StreamRead fd i off len) 0 t)))
    (sym (same_asks (StreamRead fd i off len) 0 t v s p refl))
    (subst (λ x. SameKindOfPoint (plain_table.asks v s p
    (need_stage (StreamRead fd i off len) 0 t)) x)
    (sym (same_asks (StreamRead fd i off len) 0 t v u p refl))
    (plain_laws.ask.alike v s u p (need_stage (StreamRead fd i off len) 0 t) refl alike))
same_kind (StreamRead fd i off len) (suc n) t v s u p fits alike = refl
same_kind (StreamWrite fd i off given) zero t v s u p fits alike =
    write_kind p fd i off (length given)
    (file_block v (s.things.file p fd) i off (length given))
    (file_block v (u.things.file p fd) i off (length given))
    (same_block v i off (length given) (s.things.file p fd) (u.things.file p fd)
    (alike.files p fd))
same_kind (StreamWrite fd i off given) (suc n) t v s u p fits alike =
    plain_laws.ask.alike v s u p (stage (Write fd i off t.bytes) 0) refl alike
same_kind c n t v s u p fits alike = tt

-- the objects before the point are the same
same_before : (c : SysCall) (n : ℕ) (t : Stage) (v : World) (s u : Objects) (p : ℕ) (a b : Point) →
    stream_fits c (at_stage c n t) ≡ true → AreAlike s u →
    stream_points.asks v s p (at_stage c n t) ≡ Some a →
    stream_points.asks v u p (at_stage c n t) ≡ Some b →
    before_point s a (stream_points.need v s p (at_stage c n t))
    ≡ before_point u b (stream_points.need v u p (at_stage c n t))
same_before (StreamRead fd i off len) zero t v s u p a b fits alike e f =
    ap (before_point s a) (same_needs (StreamRead fd i off len) 0 t v s p refl)
    ∙ plain_laws.ask.alike_before v s u p (need_stage (StreamRead fd i off len) 0 t) a b refl alike
    (sym (same_asks (StreamRead fd i off len) 0 t v s p refl) ∙ e)
    (sym (same_asks (StreamRead fd i off len) 0 t v u p refl) ∙ f)
    ∙ sym (ap (before_point u b) (same_needs (StreamRead fd i off len) 0 t v u p refl))
same_before (StreamRead fd i off len) (suc n) t v s u p a b fits alike e f =
    let here : stream_point p READ_POINT (length t.bytes) i off fd ≡ a = cc in
    let there : stream_point p READ_POINT (length t.bytes) i off fd ≡ b = cc in
    read_before s p (length t.bytes) i off fd a here
    ∙ sym (read_before u p (length t.bytes) i off fd b there)
same_before (StreamWrite fd i off given) zero t v s u p a b fits alike e f =
    write_before s p fd i off (length given)
    (file_block v (s.things.file p fd) i off (length given)) a e
    ∙ sym (write_before u p fd i off (length given)
    (file_block v (u.things.file p fd) i off (length given)) b f)
same_before (StreamWrite fd i off given) (suc n) t v s u p a b fits alike e f =
    plain_laws.ask.alike_before v s u p (stage (Write fd i off t.bytes) 0) a b refl alike e f
same_before c n t v s u p a b fits alike e f = cc

-- two points that are one point of streams are the same
same_points : (point a b : Point) → point ≡ a → point ≡ b →
    SameAheadAsk (kind_of point.point) point point → SameAheadAsk (kind_of a.point) a b
same_points point a b e f same =
    subst (λ (x : Point). SameAheadAsk (kind_of x.point) x b) e
    (subst (λ (y : Point). SameAheadAsk (kind_of point.point) point y) f same)

-- the same change of a stream is asked
same_change : (c : SysCall) (n : ℕ) (t : Stage) (v : World) (s u : Objects) (p : ℕ) (a b : Point) →
    stream_fits c (at_stage c n t) ≡ true → AreAlike s u →
    stream_points.asks v s p (at_stage c n t) ≡ Some a →
    stream_points.asks v u p (at_stage c n t) ≡ Some b → SameAheadAsk (kind_of a.point) a b
same_change (StreamRead fd i off len) zero t v s u p a b fits alike e f =
    plain_laws.ask.alike_ahead v s u p (need_stage (StreamRead fd i off len) 0 t) a b refl alike
    (sym (same_asks (StreamRead fd i off len) 0 t v s p refl) ∙ e)
    (sym (same_asks (StreamRead fd i off len) 0 t v u p refl) ∙ f)
same_change (StreamRead fd i off len) (suc n) t v s u p a b fits alike e f =
    let here : stream_point p READ_POINT (length t.bytes) i off fd ≡ a = cc in
    let there : stream_point p READ_POINT (length t.bytes) i off fd ≡ b = cc in
    same_points (stream_point p READ_POINT (length t.bytes) i off fd) a b here there refl
same_change (StreamWrite fd i off given) zero t v s u p a b fits alike e f =
    same_points (stream_point p WRITE_POINT (length given) i off fd) a b
    (write_point p fd i off (length given)
    (file_block v (s.things.file p fd) i off (length given)) a e)
    (write_point p fd i off (length given)
    (file_block v (u.things.file p fd) i off (length given)) b f) refl
same_change (StreamWrite fd i off given) (suc n) t v s u p a b fits alike e f =
    plain_laws.ask.alike_ahead v s u p (stage (Write fd i off t.bytes) 0) a b refl alike e f
same_change c n t v s u p a b fits alike e f = cc

-- The laws of asked points hold of the calls of stream points.
pub asks_of_streams : AskLaws stream_points
asks_of_streams =
    record {
      looks = λ v s u p t fits other agree. same_asked t.call t.piece t v s u p fits agree;
      ranges = λ v images s p t a h e. asked_right t.call t.piece t v images s p a h e;
      alike = λ v s u p t fits alike. same_kind t.call t.piece t v s u p fits alike;
      alike_before = λ v s u p t a b fits alike e f.
          same_before t.call t.piece t v s u p a b fits alike e f;
      alike_ahead = λ v s u p t a b fits alike e f.
          same_change t.call t.piece t v s u p a b fits alike e f;
    }
