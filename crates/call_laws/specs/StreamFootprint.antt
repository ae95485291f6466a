-- What the pieces of stream calls look at and change: the laws.
use Rattle.std.specs.Prelude.{◌≡◌, ℕ, zero, suc, Bool, true, false, length, replicate, List, []}
use Rattle.std.specs.Prelude.{◌∷◌, Option, Some, Result, Ok, Err}
use Rattle.std.proofs.Common.{refl, ap, sym, subst, ◌∙◌}
use Rattle.std.proofs.lemmas.Bool.{false≢true, or_left}
use Rattle.kernel_model.specs.declared.Need.{Need}
use Rattle.kernel_model.specs.declared.Object.{Object}
use Rattle.kernel_model.specs.declared.Object.TheVariants.{OpenFile, Cache, Pol}
use Rattle.kernel_model.specs.declared.Point.{Point}
use Rattle.kernel_model.specs.declared.Refusal.{Refusal}
use Rattle.kernel_model.specs.declared.SysCall.{SysCall}
use Rattle.kernel_model.specs.declared.SysCall.TheVariants.{Read, Write, StreamRead, StreamWrite}
use Rattle.kernel_model.specs.World.{World, ImageTable, Blocks}
use Rattle.kernel_model.specs.Objects.{Objects, SameAt, same_object}
use Rattle.kernel_model.specs.SameObject.{same_object_is}
use Rattle.kernel_model.specs.Meaning.{Stage, stage, Answer, Piece, After}
use Rattle.kernel_model.specs.Needs.{shared, exclusive, file_block}
use Rattle.kernel_model.specs.FilePieces.{with_cache}
use Rattle.kernel_model.specs.Alike.{AgreeOn, SameLiving, is_needed, is_needed_exclusively}
use Rattle.kernel_model.specs.StreamPoints.{stream_points, stream_changed, stream_point_needs, through}
use Rattle.kernel_model.specs.Laws.{FootprintLaws, IsReady, IsInRange, PieceAlike, before_point}
use Rattle.call_laws.specs.BeforePoint.{piece_before_point}
use Rattle.call_laws.specs.FileChanges.{same_self}
use Rattle.call_laws.specs.StreamPlainStages.{plain_table, plain_laws, at_stage, plain_stage, plain_ready, read_ready}
use Rattle.call_laws.specs.StreamObjects.{same_needs, first_needs}
use Rattle.call_laws.specs.StreamAskedPoints.{same_asks, write_before}
use Rattle.call_laws.specs.StreamPieces.{from_read, after_read, first_read, changed_nothing}
use Rattle.call_laws.specs.StreamAsks.{file_agrees}

-- ---- the first piece of a read

-- states with caches of two others are the same at each object where all are
same_cached : (o : Object) (s u a b : Objects) → SameAt o s u → SameAt o a b →
    SameAt o (with_cache a.things.cache s) (with_cache b.things.cache u)
same_cached (Object.Graft q pt) s u a b here there = here
same_cached (Object.Acct q) s u a b here there = here
same_cached (Object.Cell q k) s u a b here there = here
same_cached (OpenFile q fd) s u a b here there = here
same_cached Object.Queue s u a b here there = here
same_cached Cache s u a b here there = there
same_cached (Object.Lock l) s u a b here there = here
same_cached (Pol k) s u a b here there = here

-- where two plain reads do the same on some objects, so do the stream reads on those of them on
-- which the states agree
reads_alike : (c : SysCall) (ns ms : List Need) (s u : Objects) (x y : Piece) →
    ((o : Object) → is_needed o ms ≡ true → is_needed o ns ≡ true) → AgreeOn ms s u →
    PieceAlike ns x y → PieceAlike ms (from_read c s x) (from_read c u y)
reads_alike c ns ms s u x y among agree alike =
    record {
      objects = λ o needed.
          same_cached o s u x.objects y.objects (agree o needed)
          (alike.objects o (among o needed));
      blocks = alike.blocks;
      gave = refl;
      after = ap (λ gave. after_read c gave x.after) alike.gave
          ∙ ap (λ (after : After). after_read c y.gave after) alike.after;
      calls = alike.calls;
    }

-- a state with the cache of another is changed nowhere else
cache_changed : (o : Object) (s a : Objects) → (same_object o Cache ≡ true → SameAt Cache a s) →
    SameAt o (with_cache a.things.cache s) s
unfolding same_object
cache_changed (Object.Graft q pt) s a same = (refl, refl)
cache_changed (Object.Acct q) s a same = refl
cache_changed (Object.Cell q k) s a same = refl
cache_changed (OpenFile q fd) s a same = refl
cache_changed Object.Queue s a same = (refl, refl)
cache_changed Cache s a same = same refl
cache_changed (Object.Lock l) s a same = refl
cache_changed (Pol k) s a same = refl

-- the objects of a read's first piece before those of the point that it asks
front_of_read : (fd i off len : ℕ) (t : Stage) (v : World) (s : Objects) (p : ℕ)
    (a : Point) →
    stream_points.asks v s p (at_stage (StreamRead fd i off len) 0 t) ≡ Some a →
    before_point s a (stream_points.need v s p (at_stage (StreamRead fd i off len) 0 t))
    ≡ shared (OpenFile p fd) ∷ exclusive Cache ∷ shared (Pol 1) ∷ []
front_of_read fd i off len t v s p a e =
    ap (before_point s a) (same_needs (StreamRead fd i off len) 0 t v s p refl)
    ∙ piece_before_point (Write fd i off (replicate len 0)) 0 v s p a
    (sym (same_asks (StreamRead fd i off len) 0 t v s p refl) ∙ e)

-- they are those of a plain read, but for the mode of the file
same_front : (o : Object) (fd i off len : ℕ) (t : Stage) (v : World) (s : Objects) (p : ℕ)
    (a : Point) →
    stream_points.asks v s p (at_stage (StreamRead fd i off len) 0 t) ≡ Some a →
    is_needed o (before_point s a
    (stream_points.need v s p (at_stage (StreamRead fd i off len) 0 t)))
    ≡ is_needed o (before_point s a (plain_table.need v s p (stage (Read fd i off len) 0)))
same_front o fd i off len t v s p a e =
    ap (is_needed o) (front_of_read fd i off len t v s p a e)
    ∙ sym (ap (is_needed o) (piece_before_point (Read fd i off len) 0 v s p a e))

-- ---- the first piece of a write

-- what it does
abbrev first_write : World → Objects → Blocks → (p fd i off : ℕ) → List ℕ → Option Answer → Piece
first_write v s blocks p fd i off given answer =
    stream_changed (file_block v (s.things.file p fd) i off (length given))
    (StreamWrite fd i off given) s blocks (through answer given)

-- on states that agree on some objects it does the same, for the same block
changed_alike : (ns : List Need) (r q : Result ℕ Refusal) (c : SysCall) (s u : Objects)
    (blocks : Blocks) (out : List ℕ) → r ≡ q → AgreeOn ns s u →
    PieceAlike ns (stream_changed r c s blocks out) (stream_changed q c u blocks out)
changed_alike ns r q c s u blocks out e agree =
    subst (λ x. PieceAlike ns (stream_changed r c s blocks out) (stream_changed x c u blocks out)) e
    (by_block r)
  where
    -- for one block
    by_block : (x : Result ℕ Refusal) →
        PieceAlike ns (stream_changed x c s blocks out) (stream_changed x c u blocks out)
    by_block (Err why) =
        record { objects = agree; blocks = refl; gave = refl; after = refl; calls = refl }
    by_block (Ok b) =
        record { objects = agree; blocks = refl; gave = refl; after = refl; calls = refl }

-- of states with the same file
file_alike : (ns : List Need) (v : World) (s u : Objects) (blocks : Blocks) (p fd i off : ℕ)
    (given : List ℕ) (answer : Option Answer) → s.things.file p fd ≡ u.things.file p fd →
    AgreeOn ns s u →
    PieceAlike ns (first_write v s blocks p fd i off given answer)
    (first_write v u blocks p fd i off given answer)
file_alike ns v s u blocks p fd i off given answer same agree =
    changed_alike ns (file_block v (s.things.file p fd) i off (length given))
    (file_block v (u.things.file p fd) i off (length given)) (StreamWrite fd i off given) s u blocks
    (through answer given) (ap (λ row. file_block v row i off (length given)) same) agree

-- ---- the laws

-- on states that agree on what it needs a piece does the same
looks : (c : SysCall) (n : ℕ) (t : Stage) (v : World) (images : ImageTable) (s u : Objects)
    (blocks : Blocks) (p : ℕ) (answer : Option Answer) (io : List Bool) →
    IsReady stream_points v images s p (at_stage c n t) answer →
    IsReady stream_points v images u p (at_stage c n t) answer →
    AgreeOn (stream_points.need v s p (at_stage c n t)) s u → SameLiving s u →
    PieceAlike (stream_points.need v s p (at_stage c n t))
    (stream_points.piece v images s blocks p (at_stage c n t) answer io)
    (stream_points.piece v images u blocks p (at_stage c n t) answer io)
looks (StreamRead fd i off len) zero t v images s u blocks p answer io ready other agree living =
    let c = StreamRead fd i off len in
    let plain = stage (Read fd i off len) 0 in
    let ns = stream_points.need v s p (at_stage c 0 t) in
    subst (λ x. PieceAlike ns x
    (stream_points.piece v images u blocks p (at_stage c 0 t) answer io))
    (sym (first_read fd i off len t v images s blocks p answer io))
    (subst (PieceAlike ns (from_read c s
    (plain_table.piece v images s blocks p plain answer io)))
    (sym (first_read fd i off len t v images u blocks p answer io))
    (reads_alike c (plain_table.need v s p plain) ns s u
    (plain_table.piece v images s blocks p plain answer io)
    (plain_table.piece v images u blocks p plain answer io) (λ o needed. needed) agree
    (plain_laws.footprint.looks v images s u blocks p plain answer io
    (read_ready fd i off len t v images s p answer ready)
    (read_ready fd i off len t v images u p answer other) agree living)))
looks (StreamRead fd i off len) (suc n) t v images s u blocks p answer io ready other agree living =
    record { objects = agree; blocks = refl; gave = refl; after = refl; calls = refl }
looks (StreamWrite fd i off given) zero t v images s u blocks p answer io ready other agree living =
    file_alike (stream_points.need v s p (at_stage (StreamWrite fd i off given) 0 t)) v s u blocks p
    fd i off given answer
    (file_agrees s u p fd
    (stream_point_needs s p (file_block v (s.things.file p fd) i off (length given))) agree) agree
looks c n t v images s u blocks p answer io ready other agree living =
    plain_laws.footprint.looks v images s u blocks p (plain_stage c n t) answer io
    (plain_ready c n t v images s p answer refl ready)
    (plain_ready c n t v images u p answer refl other) agree living

-- a piece changes no object but those that it needs exclusively
changes : (c : SysCall) (n : ℕ) (t : Stage) (v : World) (images : ImageTable) (s : Objects)
    (blocks : Blocks) (p : ℕ) (answer : Option Answer) (io : List Bool) (o : Object) →
    IsReady stream_points v images s p (at_stage c n t) answer → IsInRange o →
    is_needed_exclusively o (stream_points.need v s p (at_stage c n t)) ≡ false →
    SameAt o (stream_points.piece v images s blocks p (at_stage c n t) answer io).objects s
unfolding same_object
changes (StreamRead fd i off len) zero t v images s blocks p answer io o ready range free =
    let plain = stage (Read fd i off len) 0 in
    subst (λ (x : Piece). SameAt o x.objects s)
    (sym (first_read fd i off len t v images s blocks p answer io))
    (cache_changed o s (plain_table.piece v images s blocks p plain answer io).objects
    (λ cache. plain_laws.footprint.changes v images s blocks p plain answer io Cache
    (read_ready fd i off len t v images s p answer ready) tt
    (subst (λ x. is_needed_exclusively x
    (stream_points.need v s p (at_stage (StreamRead fd i off len) 0 t)) ≡ false)
    (same_object_is o Cache cache) free)))
changes (StreamRead fd i off len) (suc n) t v images s blocks p answer io o ready range free =
    same_self o s
changes (StreamWrite fd i off given) zero t v images s blocks p answer io o ready range free =
    subst (λ x. SameAt o x s)
    (sym (changed_nothing (file_block v (s.things.file p fd) i off (length given))
    (StreamWrite fd i off given) s blocks (through answer given))) (same_self o s)
changes c n t v images s blocks p answer io o ready range free =
    plain_laws.footprint.changes v images s blocks p (plain_stage c n t) answer io o
    (plain_ready c n t v images s p answer refl ready) range free

-- a piece that asks looks at the objects before the point alone
asking_looks : (c : SysCall) (n : ℕ) (t : Stage) (v : World) (images : ImageTable) (s u : Objects)
    (blocks : Blocks) (p : ℕ) (answer : Option Answer) (io : List Bool) (a : Point) →
    IsReady stream_points v images s p (at_stage c n t) answer →
    IsReady stream_points v images u p (at_stage c n t) answer →
    stream_points.asks v s p (at_stage c n t) ≡ Some a →
    AgreeOn (before_point s a (stream_points.need v s p (at_stage c n t))) s u → SameLiving s u →
    PieceAlike (before_point s a (stream_points.need v s p (at_stage c n t)))
    (stream_points.piece v images s blocks p (at_stage c n t) answer io)
    (stream_points.piece v images u blocks p (at_stage c n t) answer io)
asking_looks (StreamRead fd i off len) zero t v images s u blocks p answer io a ready other e agree
    living =
    let c = StreamRead fd i off len in
    let plain = stage (Read fd i off len) 0 in
    let ns = before_point s a (stream_points.need v s p (at_stage c 0 t)) in
    subst (λ x. PieceAlike ns x
    (stream_points.piece v images u blocks p (at_stage c 0 t) answer io))
    (sym (first_read fd i off len t v images s blocks p answer io))
    (subst (PieceAlike ns (from_read c s
    (plain_table.piece v images s blocks p plain answer io)))
    (sym (first_read fd i off len t v images u blocks p answer io))
    (reads_alike c (before_point s a (plain_table.need v s p plain)) ns s u
    (plain_table.piece v images s blocks p plain answer io)
    (plain_table.piece v images u blocks p plain answer io)
    (λ o needed. sym (same_front o fd i off len t v s p a e) ∙ needed) agree
    (plain_laws.footprint.asking_looks v images s u blocks p plain answer io a
    (read_ready fd i off len t v images s p answer ready)
    (read_ready fd i off len t v images u p answer other) e
    (λ o needed. agree o (same_front o fd i off len t v s p a e ∙ needed)) living)))
asking_looks (StreamRead fd i off len) (suc n) t v images s u blocks p answer io a ready other e
    agree living =
    record { objects = agree; blocks = refl; gave = refl; after = refl; calls = refl }
asking_looks (StreamWrite fd i off given) zero t v images s u blocks p answer io a ready other e
    agree living =
    let r = file_block v (s.things.file p fd) i off (length given) in
    file_alike (before_point s a (first_needs s p fd r)) v s u blocks p fd i off given answer
    (file_agrees s u p fd []
    (subst (λ ns. AgreeOn ns s u) (write_before s p fd i off (length given) r a e) agree)) agree
asking_looks (StreamWrite fd i off given) (suc n) t v images s u blocks p answer io a ready other e
    agree living =
    let c = StreamWrite fd i off given in
    plain_laws.footprint.asking_looks v images s u blocks p (plain_stage c (suc n) t) answer io a
    (plain_ready c (suc n) t v images s p answer refl ready)
    (plain_ready c (suc n) t v images u p answer refl other) e agree living
asking_looks c n t v images s u blocks p answer io a ready other e agree living = absurd cc

-- and changes none but those before the point
asking_changes : (c : SysCall) (n : ℕ) (t : Stage) (v : World) (images : ImageTable) (s : Objects)
    (blocks : Blocks) (p : ℕ) (answer : Option Answer) (io : List Bool) (a : Point) (o : Object) →
    IsReady stream_points v images s p (at_stage c n t) answer → IsInRange o →
    stream_points.asks v s p (at_stage c n t) ≡ Some a →
    is_needed_exclusively o (before_point s a (stream_points.need v s p (at_stage c n t)))
    ≡ false →
    SameAt o (stream_points.piece v images s blocks p (at_stage c n t) answer io).objects s
asking_changes (StreamRead fd i off len) zero t v images s blocks p answer io a o ready range e
    free =
    let plain = stage (Read fd i off len) 0 in
    subst (λ (x : Piece). SameAt o x.objects s)
    (sym (first_read fd i off len t v images s blocks p answer io))
    (cache_changed o s (plain_table.piece v images s blocks p plain answer io).objects
    (λ cache. absurd (false≢true (sym free
    ∙ ap (is_needed_exclusively o) (front_of_read fd i off len t v s p a e)
    ∙ or_left (same_object o Cache) false cache))))
asking_changes (StreamRead fd i off len) (suc n) t v images s blocks p answer io a o ready range e
    free = same_self o s
asking_changes (StreamWrite fd i off given) zero t v images s blocks p answer io a o ready range e
    free =
    subst (λ x. SameAt o x s)
    (sym (changed_nothing (file_block v (s.things.file p fd) i off (length given))
    (StreamWrite fd i off given) s blocks (through answer given))) (same_self o s)
asking_changes (StreamWrite fd i off given) (suc n) t v images s blocks p answer io a o ready range
    e free =
    let c = StreamWrite fd i off given in
    plain_laws.footprint.asking_changes v images s blocks p (plain_stage c (suc n) t) answer io a o
    (plain_ready c (suc n) t v images s p answer refl ready) range e free
asking_changes c n t v images s blocks p answer io a o ready range e free = absurd cc

-- The laws of what pieces look at and change hold of the calls of stream points.
pub footprint_of_streams : FootprintLaws stream_points
footprint_of_streams = record {
  looks = λ v images s u blocks p t answer io ready other agree living.
      looks t.call t.piece t v images s u blocks p answer io ready other agree living;
  changes = λ v images s blocks p t answer io o ready range free.
      changes t.call t.piece t v images s blocks p answer io o ready range free;
  asking_looks = λ v images s u blocks p t answer io a ready other e agree living.
      asking_looks t.call t.piece t v images s u blocks p answer io a ready other e agree living;
  asking_changes = λ v images s blocks p t answer io a o ready range e free.
      asking_changes t.call t.piece t v images s blocks p answer io a o ready range e free;
}
