-- Reads, writes, syncs and opens change no object but those that they need exclusively.
use Rattle.std.specs.Prelude.{◌≡◌, ℕ, zero, suc, ◌+◌, ◌-◌, Bool, true, false, map, List, ◌∷◌}
use Rattle.std.specs.Prelude.{Option, None, Some, Result, Ok, Err}
use Rattle.std.specs.List.{range_with_len}
use Rattle.std.proofs.Common.{arith, refl, subst, sym, ap, ◌∙◌, inl, inr}
use Rattle.std.proofs.lemmas.Bool.{cases_Bool, false≢true}
use Rattle.kernel_model.specs.SameObject.{same_object_is}
use Rattle.call_laws.specs.Exits.{in_family}
use Rattle.call_laws.specs.FreeNumbers.{free_descriptor_is}
use Rattle.std.proofs.lemmas.Bool.Decides.{nat_tests}
use Rattle.kernel_model.specs.declared.Object.{Object}
use Rattle.kernel_model.specs.declared.Object.TheVariants.{Graft, Acct, Cell, OpenFile, Queue, Cache, Lock, Pol}
use Rattle.kernel_model.specs.declared.Need.{Need}
use Rattle.kernel_model.specs.declared.OpenRow.{OpenRow}
use Rattle.kernel_model.specs.declared.Refusal.{Refusal}
use Rattle.kernel_model.specs.World.{World, Blocks}
use Rattle.kernel_model.specs.Objects.{Objects, CacheValue, FrameValue, SameAt, same_object, at}
use Rattle.kernel_model.specs.Meaning.{Piece, disk_fails}
use Rattle.kernel_model.specs.Policies.{ahead_default}
use Rattle.kernel_model.specs.Needs.{exclusive, fetch_needs, read_needs, file_block, ahead_block}
use Rattle.kernel_model.specs.Fetch.{Fetched, Got, Failed, fetch, fetch_ahead, with_patch, cleaned, dirty_value}
use Rattle.kernel_model.specs.FilePieces.{new_file, with_file, with_cache, free_descriptor}
use Rattle.kernel_model.specs.FilePieces.{read_piece, read_on, with_ahead, ahead_by, disk_failed}
use Rattle.kernel_model.specs.FilePieces.{open_piece, read_first, read_second, read_third}
use Rattle.kernel_model.specs.FilePieces.{read_first_at, read_third_at, write_fetched, write_piece}
use Rattle.kernel_model.specs.FilePieces.{sync_from}
use Rattle.kernel_model.specs.Alike.{is_needed_exclusively}

-- a state has its own values
pub same_self : (o : Object) (s : Objects) → SameAt o s s
same_self (Graft q pt) s = (refl, refl)
same_self (Acct q) s = refl
same_self (Cell q k) s = refl
same_self (OpenFile q fd) s = refl
same_self Queue s = (refl, refl)
same_self Cache s = refl
same_self (Lock u) s = refl
same_self (Pol k) s = refl

-- an open file and the cache
file_and_cache : (s : Objects) (p fd : ℕ) (row : Option OpenRow) (cache : CacheValue) (o : Object) →
    same_object o (OpenFile p fd) ≡ false → same_object o Cache ≡ false →
    SameAt o (with_file p fd row (with_cache cache s)) s
unfolding same_object
file_and_cache s p fd row cache o h c = grind (arith, nat_tests)

-- the first piece of a read, once its block is fetched
read_fetched_changes : (s : Objects) (blocks : Blocks) (p fd i off len : ℕ) (row : OpenRow)
    (f : Fetched) (o : Object) →
    same_object o (OpenFile p fd) ≡ false → same_object o Cache ≡ false →
    SameAt o (read_first s blocks p fd i off len row f).objects s
read_fetched_changes s blocks p fd i off len row (Failed calls) o h c = same_self o s
read_fetched_changes s blocks p fd i off len row (Got cache after frame calls) o h c =
    file_and_cache s p fd (Some (read_on i row)) cache o h c

-- a later piece of a read, once its block is fetched
ahead_fetched_changes : (s : Objects) (blocks : Blocks) (p fd i off len : ℕ) (row : OpenRow)
    (f : Fetched) (o : Object) →
    same_object o (OpenFile p fd) ≡ false → same_object o Cache ≡ false →
    SameAt o (read_third s blocks p fd i off len row f).objects s
ahead_fetched_changes s blocks p fd i off len row (Failed calls) o h c = same_self o s
ahead_fetched_changes s blocks p fd i off len row (Got cache after frame calls) o h c =
    file_and_cache s p fd (Some (with_ahead (row.start + 1) (row.count - 1) row)) cache o h c

-- the first piece of a read leaves what is neither its file nor the cache
read_first_leaves : (r : Result ℕ Refusal) (v : World) (s : Objects) (blocks : Blocks)
    (p fd i off len : ℕ) (row : OpenRow) (answer : Option (List ℕ)) (io : List Bool) (o : Object) →
    same_object o (OpenFile p fd) ≡ false → same_object o Cache ≡ false →
    SameAt o (read_first_at r v s blocks p fd i off len row answer io).objects s
read_first_leaves (Err refusal) v s blocks p fd i off len row answer io o h c = same_self o s
read_first_leaves (Ok b) v s blocks p fd i off len row answer io o h c =
    read_fetched_changes s blocks p fd i off len row
    (fetch v (s.things.pol 1) p b answer s.things.cache blocks io) o h c

-- so does a later piece
read_third_leaves : (r : Result ℕ Refusal) (v : World) (s : Objects) (blocks : Blocks)
    (p fd i off len : ℕ) (row : OpenRow) (answer : Option (List ℕ)) (io : List Bool) (o : Object) →
    same_object o (OpenFile p fd) ≡ false → same_object o Cache ≡ false →
    SameAt o (read_third_at r v s blocks p fd i off len row answer io).objects s
read_third_leaves (Err refusal) v s blocks p fd i off len row answer io o h c = same_self o s
read_third_leaves (Ok b) v s blocks p fd i off len row answer io o h c =
    ahead_fetched_changes s blocks p fd i off len row
    (fetch_ahead v (s.things.pol 1) p b answer s.things.cache blocks io) o h c

-- the first piece of a read, for the block that it names
read_first_changes : (r : Result ℕ Refusal) (v : World) (s : Objects) (blocks : Blocks)
    (p fd i off len : ℕ) (row : OpenRow) (answer : Option (List ℕ)) (io : List Bool) (o : Object) →
    is_needed_exclusively o (exclusive (OpenFile p fd) ∷ fetch_needs v s r) ≡ false →
    SameAt o (read_first_at r v s blocks p fd i off len row answer io).objects s
read_first_changes (Err refusal) v s blocks p fd i off len row answer io o h = same_self o s
read_first_changes (Ok b) v s blocks p fd i off len row answer io o h =
    read_first_leaves (Ok b) v s blocks p fd i off len row answer io o (grind arith) (grind arith)

-- a later piece of a read, for the block ahead
read_third_changes : (r : Result ℕ Refusal) (v : World) (s : Objects) (blocks : Blocks)
    (p fd i off len : ℕ) (row : OpenRow) (answer : Option (List ℕ)) (io : List Bool) (o : Object) →
    is_needed_exclusively o (exclusive (OpenFile p fd) ∷ fetch_needs v s r) ≡ false →
    SameAt o (read_third_at r v s blocks p fd i off len row answer io).objects s
read_third_changes (Err refusal) v s blocks p fd i off len row answer io o h = same_self o s
read_third_changes (Ok b) v s blocks p fd i off len row answer io o h =
    read_third_leaves (Ok b) v s blocks p fd i off len row answer io o (grind arith) (grind arith)

-- the second piece of a read
read_second_changes : (s : Objects) (blocks : Blocks) (p fd i off len : ℕ) (row : OpenRow)
    (ahead : ℕ × ℕ) (o : Object) →
    same_object o (OpenFile p fd) ≡ false →
    SameAt o (read_second s blocks p fd i off len row ahead).objects s
unfolding same_object
read_second_changes s blocks p fd i off len row ahead o h = grind (arith, nat_tests)

-- any piece of a read leaves what is neither its file nor the cache
pub read_leaves : (n : ℕ) (v : World) (s : Objects) (blocks : Blocks) (p fd i off len : ℕ)
    (row : Option OpenRow) (answer : Option (List ℕ)) (io : List Bool) (o : Object) →
    same_object o (OpenFile p fd) ≡ false → same_object o Cache ≡ false →
    SameAt o (read_piece n v s blocks p fd i off len row answer io).objects s
read_leaves n v s blocks p fd i off len None answer io o h c = same_self o s
read_leaves zero v s blocks p fd i off len (Some row) answer io o h c =
    read_first_leaves (file_block v (Some row) i off len) v s blocks p fd i off len row answer io o
    h c
read_leaves (suc zero) v s blocks p fd i off len (Some row) answer io o h c =
    read_second_changes s blocks p fd i off len row
    (ahead_by answer (ahead_default v (s.things.pol 0) (Some row))) o h
read_leaves (suc (suc n)) v s blocks p fd i off len (Some row) answer io o h c =
    read_third_leaves (ahead_block v (Some row)) v s blocks p fd i off len row answer io o h c

-- the second piece of a read leaves what isn't its file
pub ahead_leaves : (v : World) (s : Objects) (blocks : Blocks) (p fd i off len : ℕ)
    (row : Option OpenRow) (answer : Option (List ℕ)) (io : List Bool) (o : Object) →
    same_object o (OpenFile p fd) ≡ false →
    SameAt o (read_piece 1 v s blocks p fd i off len row answer io).objects s
ahead_leaves v s blocks p fd i off len None answer io o h = same_self o s
ahead_leaves v s blocks p fd i off len (Some row) answer io o h =
    read_second_changes s blocks p fd i off len row
    (ahead_by answer (ahead_default v (s.things.pol 0) (Some row))) o h

-- a piece of a read
pub read_changes : (n : ℕ) (v : World) (s : Objects) (blocks : Blocks) (p fd i off len : ℕ)
    (row : Option OpenRow) (answer : Option (List ℕ)) (io : List Bool) (o : Object) →
    s.things.file p fd ≡ row → is_needed_exclusively o (read_needs n v s p fd i off len) ≡ false →
    SameAt o (read_piece n v s blocks p fd i off len row answer io).objects s
read_changes n v s blocks p fd i off len None answer io o e h = same_self o s
read_changes zero v s blocks p fd i off len (Some row) answer io o e h =
    read_first_changes (file_block v (Some row) i off len) v s blocks p fd i off len row answer io o
    (subst (λ x. is_needed_exclusively o (exclusive (OpenFile p fd)
    ∷ fetch_needs v s (file_block v x i off len)) ≡ false) e h)
read_changes (suc zero) v s blocks p fd i off len (Some row) answer io o e h =
    ahead_leaves v s blocks p fd i off len (Some row) answer io o (grind arith)
read_changes (suc (suc n)) v s blocks p fd i off len (Some row) answer io o e h =
    read_third_changes (ahead_block v (Some row)) v s blocks p fd i off len row answer io o
    (subst (λ x. is_needed_exclusively o (exclusive (OpenFile p fd)
    ∷ fetch_needs v s (ahead_block v x)) ≡ false) e h)

-- a state with another cache
cache_alone : (s : Objects) (cache : CacheValue) (o : Object) → same_object o Cache ≡ false →
    SameAt o (with_cache cache s) s
unfolding same_object
cache_alone s cache o h = grind (arith, nat_tests)

-- a write, once its block is fetched
write_fetched_changes : (s : Objects) (blocks : Blocks) (off : ℕ) (new : List ℕ) (f : Fetched)
    (o : Object) →
    same_object o Cache ≡ false → SameAt o (write_fetched s blocks off new f).objects s
write_fetched_changes s blocks off new (Failed calls) o h = same_self o s
write_fetched_changes s blocks off new (Got cache after frame calls) o h =
    cache_alone s (with_patch frame off new cache) o h

-- a write leaves what isn't the cache
pub write_leaves : (r : Result ℕ Refusal) (v : World) (s : Objects) (blocks : Blocks) (p off : ℕ)
    (new : List ℕ) (answer : Option (List ℕ)) (io : List Bool) (o : Object) →
    same_object o Cache ≡ false → SameAt o (write_piece r v s blocks p off new answer io).objects s
write_leaves (Err refusal) v s blocks p off new answer io o h = same_self o s
write_leaves (Ok b) v s blocks p off new answer io o h =
    write_fetched_changes s blocks off new
    (fetch v (s.things.pol 1) p b answer s.things.cache blocks io) o h

-- a write
pub write_changes : (r : Result ℕ Refusal) (v : World) (s : Objects) (blocks : Blocks) (p off : ℕ)
    (new : List ℕ) (answer : Option (List ℕ)) (io : List Bool) (o : Object) →
    is_needed_exclusively o (fetch_needs v s r) ≡ false →
    SameAt o (write_piece r v s blocks p off new answer io).objects s
write_changes (Err refusal) v s blocks p off new answer io o h = same_self o s
write_changes (Ok b) v s blocks p off new answer io o h =
    write_leaves (Ok b) v s blocks p off new answer io o (grind arith)

-- the cache alone of another state
same_but_cache : (s t : Objects) (cache : CacheValue) (o : Object) → same_object o Cache ≡ false →
    SameAt o t (with_cache cache s) → SameAt o t s
unfolding same_object
same_but_cache s t cache o h e = grind (arith, nat_tests)

-- the frames that are written
pub sync_changes : (n f written : ℕ) (s : Objects) (blocks : Blocks) (io : List Bool) (o : Object) →
    same_object o Cache ≡ false → SameAt o (sync_from n f written s blocks io).objects s
sync_changes zero f written s blocks io o h = same_self o s
sync_changes (suc n) f written s blocks io o h =
    elim (dirty_value (s.things.cache.frame f)) as (λ (x : Option FrameValue). SameAt o
    (elim x as (λ (x : Option FrameValue). Piece) [
      | None ↦ sync_from n (suc f) written s blocks io
      | Some value ↦ elim (disk_fails io written) as (λ (b : Bool). Piece) [
        | true ↦ disk_failed s blocks (suc written)
        | false ↦ sync_from n (suc f) (suc written) (with_cache (cleaned f value s.things.cache) s)
            (at value.block value.bytes blocks) io
      ]
    ]).objects s) [
      | None ↦ sync_changes n (suc f) written s blocks io o h
      | Some value ↦ elim (disk_fails io written) as (λ (b : Bool). SameAt o
          (elim b as (λ (b : Bool). Piece) [
            | true ↦ disk_failed s blocks (suc written)
            | false ↦ sync_from n (suc f) (suc written)
                (with_cache (cleaned f value s.things.cache) s)
                (at value.block value.bytes blocks) io
          ]).objects s) [
            | true ↦ same_self o s
            | false ↦ same_but_cache s _ (cleaned f value s.things.cache) o h
                (sync_changes n (suc f) (suc written)
                (with_cache (cleaned f value s.things.cache) s)
                (at value.block value.bytes blocks) io o h)
          ]
    ]

-- an object that isn't needed is another than one that is
outside : (o b : Object) (ns : List Need) → is_needed_exclusively b ns ≡ true →
    is_needed_exclusively o ns ≡ false → same_object o b ≡ false
outside o b ns there gone = elim (cases_Bool (same_object o b)) [
  | inl e ↦ absurd (false≢true (sym gone
      ∙ ap (λ x. is_needed_exclusively x ns) (same_object_is o b e) ∙ there))
  | inr e ↦ e
]

-- a state with another open file
file_alone : (s : Objects) (p fd : ℕ) (row : Option OpenRow) (o : Object) →
    same_object o (OpenFile p fd) ≡ false → SameAt o (with_file p fd row s) s
unfolding same_object
file_alone s p fd row o h = grind (arith, nat_tests)

-- a file opened
pub open_changes : (s : Objects) (p : ℕ) (file fd : Option ℕ) (blocks : Blocks) (o : Object) →
    free_descriptor s.things p 4 0 ≡ fd →
    is_needed_exclusively o (map (λ fd. exclusive (OpenFile p fd)) (range_with_len 0 4))
    ≡ false →
    SameAt o (open_piece s p file fd blocks).objects s
open_changes s p None fd blocks o e h = same_self o s
open_changes s p (Some n) None blocks o e h = same_self o s
open_changes s p (Some n) (Some fd) blocks o e h =
    let free = free_descriptor_is s.things p 4 0 fd e in
    file_alone s p fd (Some (new_file n)) o
    (outside o (OpenFile p fd) (map (λ i. exclusive (OpenFile p i)) (range_with_len 0 4))
    (in_family (λ i. OpenFile p i) 4 0 fd free.low free.high) h)
