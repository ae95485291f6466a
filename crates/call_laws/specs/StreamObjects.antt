-- The objects that pieces of stream calls need: those of the first piece of a write, and that all
-- others need what their plain stages need.
use Rattle.std.specs.Prelude.{◌≡◌, ℕ, zero, suc, ◌+◌, ◌≤◌, ◌<◌, true, false, length, replicate}
use Rattle.std.specs.Prelude.{slice_index_or, List, ◌∷◌, Result, Ok, Err}
use Rattle.std.specs.Prelude.{Contains}
use Rattle.std.specs.List.{AllByRecursion}
use Rattle.std.proofs.Common.{arith, refl, ap, sym, subst, ◌∙◌}
use Rattle.std.proofs.lemmas.List.{length-replicate}
use Rattle.kernel_model.specs.declared.Mode.{Mode}
use Rattle.kernel_model.specs.declared.Mode.TheVariants.{Shared}
use Rattle.kernel_model.specs.declared.Need.{Need}
use Rattle.kernel_model.specs.declared.Object.{Object}
use Rattle.kernel_model.specs.declared.Object.TheVariants.{Graft, Acct, OpenFile}
use Rattle.kernel_model.specs.declared.Refusal.{Refusal}
use Rattle.kernel_model.specs.declared.SysCall.{SysCall}
use Rattle.kernel_model.specs.declared.SysCall.TheVariants.{Write, Remove, StreamRead, StreamWrite}
use Rattle.kernel_model.specs.World.{World, ImageTable}
use Rattle.kernel_model.specs.Objects.{Objects, same_object}
use Rattle.kernel_model.specs.SameObject.{same_object_self}
use Rattle.kernel_model.specs.Meaning.{Stage, stage}
use Rattle.kernel_model.specs.Events.{wanted}
use Rattle.kernel_model.specs.Needs.{shared, exclusive, fetch_needs, file_block}
use Rattle.kernel_model.specs.Alike.{is_needed, is_needed_exclusively}
use Rattle.kernel_model.specs.StreamPoints.{WRITE_POINT, stream_points, stream_fits, stream_point_needs}
use Rattle.kernel_model.specs.Laws.{IsStanding, waits_for_user}
use Rattle.call_laws.specs.StreamPlainStages.{plain_table, plain_laws, at_stage, is_first_write}
use Rattle.call_laws.specs.StreamPlainStages.{need_stage, plain_fits, plain_stands, in_block}
use Rattle.call_laws.specs.StreamPlainStages.{range_granted}
use Rattle.call_laws.specs.NeedOrder.{Follows, follows_piece}
use Rattle.call_laws.specs.NeedParts.{each_contains, each_of_point}
use Rattle.call_laws.specs.NeedKinds.{payer_few}

-- ---- all pieces but the first of a write

-- such a piece needs what its plain stage needs
pub same_needs : (c : SysCall) (n : ℕ) (t : Stage) (v : World) (s : Objects) (p : ℕ) →
    is_first_write c n ≡ false →
    stream_points.need v s p (at_stage c n t) ≡ plain_table.need v s p (need_stage c n t)
same_needs (StreamRead fd i off len) zero t v s p other =
    ap (λ count. shared (OpenFile p fd)
    ∷ fetch_needs v s (file_block v (s.things.file p fd) i off count))
    (sym (length-replicate len 0))
same_needs (StreamRead fd i off len) (suc n) t v s p other = refl
same_needs (StreamWrite fd i off given) zero t v s p other = cc
same_needs (StreamWrite fd i off given) (suc n) t v s p other = refl
same_needs c n t v s p other = refl

-- the plain stage fits
pub need_fits : (c : SysCall) (n : ℕ) (t : Stage) (v : World) (s : Objects) (p : ℕ) →
    is_first_write c n ≡ false → stream_fits c (at_stage c n t) ≡ true →
    plain_table.fits v s p (need_stage c n t) ≡ true
need_fits (StreamRead fd i off len) zero t v s p other fits = refl
need_fits (StreamRead fd i off len) (suc n) t v s p other fits = refl
need_fits (StreamWrite fd i off given) zero t v s p other fits = cc
need_fits (StreamWrite fd i off given) (suc n) t v s p other fits = refl
need_fits c n t v s p other fits = plain_fits c n t v s p refl fits

-- a user lock hinders it as little
pub same_waits : (c : SysCall) (n : ℕ) (t : Stage) (o : Object) → is_first_write c n ≡ false →
    waits_for_user (need_stage c n t).call o ≡ waits_for_user c o
same_waits (StreamRead fd i off len) zero t o other = refl
same_waits (StreamRead fd i off len) (suc n) t o other = refl
same_waits (StreamWrite fd i off given) zero t o other = cc
same_waits (StreamWrite fd i off given) (suc n) t o other = refl
same_waits c n t o other = refl

-- and the call stands there
pub need_stands : (c : SysCall) (n : ℕ) (t : Stage) (v : World) (images : ImageTable) (s : Objects)
    (p : ℕ) → is_first_write c n ≡ false →
    IsStanding stream_points v images s p (at_stage c n t) →
    IsStanding plain_table v images s p (need_stage c n t)
need_stands (StreamRead fd i off len) zero t v images s p other h =
    let here = in_block (StreamRead fd i off len) fd off len h.granted in record {
      store = h.store;
      caller = h.caller;
      granted = range_granted (Write fd i off (replicate len 0)) fd off (length (replicate len 0))
          here.descriptor
          (subst (λ count. off + count ≤ 512) (sym (length-replicate len 0)) here.within);
      fits = refl;
    }
need_stands (StreamRead fd i off len) (suc n) t v images s p other h =
    record { store = h.store; caller = h.caller; granted = refl; fits = refl }
need_stands (StreamWrite fd i off given) zero t v images s p other h = cc
need_stands (StreamWrite fd i off given) (suc n) t v images s p other h =
    plain_stands (StreamWrite fd i off given) (suc n) t v images s p refl h
need_stands c n t v images s p other h = plain_stands c n t v images s p refl h

-- ---- the first piece of a write

-- what it needs, by the block that is to be written
abbrev pub first_needs : Objects → (p fd : ℕ) → Result ℕ Refusal → List Need
first_needs s p fd r = shared (OpenFile p fd) ∷ stream_point_needs s p r

-- what holds of the file, and of the point's objects, holds of each of a list of some
each_of_first : (P : Need → Type 0) (s : Objects) (p fd : ℕ) (r : Result ℕ Refusal) →
    P (shared (OpenFile p fd)) → P (exclusive (Graft p WRITE_POINT)) → P (exclusive (Acct p)) →
    AllByRecursion P (first_needs s p fd r)
each_of_first P s p fd (Err why) file graft account = (file, tt)
each_of_first P s p fd (Ok b) file graft account =
    (file, each_of_point P s.accounts p WRITE_POINT graft account)

-- and so of each that it needs
pub of_first : (P : Need → Type 0) (s : Objects) (p fd : ℕ) (r : Result ℕ Refusal) (need : Need) →
    P (shared (OpenFile p fd)) → P (exclusive (Graft p WRITE_POINT)) → P (exclusive (Acct p)) →
    Contains (first_needs s p fd r) need → P need
of_first P s p fd r need file graft account contained =
    each_contains P (first_needs s p fd r) need (each_of_first P s p fd r file graft account)
    contained

-- of two states with the same block the point's objects follow one another
follows_point : (v : World) (s u : Objects) (p : ℕ) (r q : Result ℕ Refusal) → r ≡ q →
    Follows s u (stream_point_needs s p r) (stream_point_needs u p q)
follows_point v s u p (Err why) (Err other) e = tt
follows_point v s u p (Err why) (Ok b) e = cc
follows_point v s u p (Ok a) (Err why) e = cc
follows_point v s u p (Ok a) (Ok b) e = follows_piece (Remove WRITE_POINT) 0 v s u p

-- and all that it needs does
pub follows_first : (v : World) (s u : Objects) (p fd i off count : ℕ) →
    Follows s u (first_needs s p fd (file_block v (s.things.file p fd) i off count))
    (first_needs u p fd (file_block v (u.things.file p fd) i off count))
follows_first v s u p fd i off count = (
  refl,
  λ same. follows_point v s u p (file_block v (s.things.file p fd) i off count)
      (file_block v (u.things.file p fd) i off count)
      (ap (λ row. file_block v row i off count) same),
)

-- there are at most 255 objects
pub first_few : (s : Objects) (p fd : ℕ) (r : Result ℕ Refusal) →
    length (first_needs s p fd r) ≤ 255
first_few s p fd (Err why) = omega arith
first_few s p fd (Ok b) =
    let few = payer_few p (s.accounts.graft p WRITE_POINT) in omega (arith, few)

-- a graft is needed exclusively
pub first_takes : (v : World) (s : Objects) (p fd q pt : ℕ) (r : Result ℕ Refusal) →
    is_needed (Graft q pt) (first_needs s p fd r) ≡ true →
    is_needed_exclusively (Graft q pt) (first_needs s p fd r) ≡ true
unfolding same_object
first_takes v s p fd q pt (Err why) h = h
first_takes v s p fd q pt (Ok b) h =
    plain_laws.need.grafts v s p (stage (Remove WRITE_POINT) 0) q pt refl h

-- an object has the mode of its later need where the file is another
later_mode : (p fd : ℕ) (n : Need) (ns : List Need) →
    same_object (OpenFile p fd) n.object ≡ false → wanted n.object ns ≡ n.mode →
    wanted n.object (shared (OpenFile p fd) ∷ ns) ≡ n.mode
later_mode p fd n ns other h =
    ap (λ b. elim b as (λ _. Mode) [ true ↦ Shared | false ↦ wanted n.object ns ]) other ∙ h

-- the file is none of the point's objects
other_objects : (s : Objects) (p fd : ℕ) (r : Result ℕ Refusal) →
    AllByRecursion (λ (n : Need). same_object (OpenFile p fd) n.object ≡ false) (stream_point_needs s p r)
unfolding same_object
other_objects s p fd (Err why) = tt
other_objects s p fd (Ok b) =
    each_of_point (λ (n : Need). same_object (OpenFile p fd) n.object ≡ false) s.accounts p
    WRITE_POINT refl refl

-- the point's objects are needed in one mode
point_modes : (v : World) (s : Objects) (p : ℕ) (r : Result ℕ Refusal) (n : Need) →
    Contains (stream_point_needs s p r) n → wanted n.object (stream_point_needs s p r) ≡ n.mode
point_modes v s p (Err why) n contained = absurd (let l = contained.1 in omega (arith, l))
point_modes v s p (Ok b) n contained =
    plain_laws.need.modes v s p (stage (Remove WRITE_POINT) 0) n refl contained

-- each object is needed in one mode
pub first_modes : (v : World) (s : Objects) (p fd : ℕ) (r : Result ℕ Refusal) (n : Need) (k : ℕ) →
    k < length (first_needs s p fd r) →
    slice_index_or (first_needs s p fd r) k n ≡ n →
    wanted n.object (first_needs s p fd r) ≡ n.mode
first_modes v s p fd r n zero low e =
    subst (λ (x : Need). wanted x.object (first_needs s p fd r)
    ≡ x.mode) e
    (ap (λ b. elim b as (λ _. Mode) [
      | true ↦ Shared
      | false ↦ wanted (OpenFile p fd) (stream_point_needs s p r)
    ]) (same_object_self (OpenFile p fd)))
first_modes v s p fd r n (suc k) low e =
    let inside : Contains (stream_point_needs s p r) n = (k, omega (arith, low), e) in
    later_mode p fd n (stream_point_needs s p r)
    (each_contains (λ (x : Need). same_object (OpenFile p fd) x.object ≡ false)
    (stream_point_needs s p r) n (other_objects s p fd r) inside)
    (point_modes v s p r n inside)
