-- A sound store stays sound, whatever piece runs.
use Rattle.std.specs.Prelude.{◌≡◌, ℕ, ◌<◌, ◌==◌, nat_le, Bool, true, false, length, List, Option, None, Some}
use Rattle.std.proofs.Common.{refl, subst, sym, inl, inr}
use Rattle.std.proofs.lemmas.Bool.{cases_eq, and_parts, leb-true, cond-true, cond-false, eq-eqb, ne_eqb}
use Rattle.kernel_model.specs.declared.SysCall.{SysCall}
use Rattle.kernel_model.specs.declared.SysCall.TheVariants.{Spawn, Exit, Yield, OpenName, CloseFd}
use Rattle.kernel_model.specs.declared.SysCall.TheVariants.{Read, Write, Sync, TakeLock, FreeLock}
use Rattle.kernel_model.specs.declared.SysCall.TheVariants.{Poke, Peek, Tune, Choose, Give, Install}
use Rattle.kernel_model.specs.declared.SysCall.TheVariants.{Remove, Fund, Bill}
use Rattle.kernel_model.specs.declared.Refusal.TheVariants.{NotHeld, BadIndex}
use Rattle.kernel_model.specs.World.{World, ImageTable, Blocks, file_named}
use Rattle.kernel_model.specs.Objects.{Objects, PolValue, with_things}
use Rattle.kernel_model.specs.Access.{in_range, param_top, set_param, with_param}
use Rattle.kernel_model.specs.Policies.{lives}
use Rattle.kernel_model.specs.Early.{policy_count}
use Rattle.kernel_model.specs.Meaning.{Piece}
use Rattle.kernel_model.specs.Needs.{file_block, free_process}
use Rattle.kernel_model.specs.FilePieces.{leaves, refuses, well, free_descriptor}
use Rattle.kernel_model.specs.Pieces.{piece_of, lock_piece, unlock_piece, with_holder, tune_piece, choose_piece}
use Rattle.kernel_model.specs.Sound.{IsSoundStore, IsSoundPolicy, ParamFits, HasWholeBlocks}
use Rattle.call_laws.specs.SoundStores.{store_with_cell, store_with_holder, store_with_policy}
use Rattle.call_laws.specs.SoundProcesses.{spawn_store, yield_store, exit_store}
use Rattle.call_laws.specs.SoundAccounts.{give_store, install_store, remove_store, fund_store, bill_store}
use Rattle.call_laws.specs.SoundFiles.{open_store, close_store, read_store, write_store, file_block_is}
use Rattle.call_laws.specs.Syncs.{sync_store}
use Rattle.call_laws.specs.GrantedCalls.{PieceReady, exit_granted, close_granted, read_granted}
use Rattle.call_laws.specs.GrantedCalls.{write_granted, take_granted, free_granted, tune_granted}
use Rattle.call_laws.specs.GrantedCalls.{choose_granted, install_granted, remove_granted}
use Rattle.call_laws.specs.GrantedCalls.{fund_granted, bill_granted, fetched, read_ready}

-- ---- locks and policies

-- a lock taken
take_store : (v : World) (s : Objects) (p u : ℕ) (h : Option ℕ) (blocks : Blocks) →
    IsSoundStore v s → lives s.things.queue p ≡ true → u < 16 →
    IsSoundStore v (lock_piece s p u h blocks).objects
take_store v s p u (Some q) blocks h alive low = h
take_store v s p u None blocks h alive low =
    store_with_holder v s u (Some p) h low (λ q e. let same : p ≡ q = cc in
    subst (λ i. lives s.things.queue i ≡ true) same alive)

-- a lock let go
free_store : (v : World) (s : Objects) (p u : ℕ) (h : Option ℕ) (blocks : Blocks) →
    IsSoundStore v s → u < 16 → IsSoundStore v (unlock_piece s p u h blocks).objects
free_store v s p u None blocks h low = h
free_store v s p u (Some q) blocks h low =
    elim (q == p) as (λ (b : Bool). IsSoundStore v
    (elim b as (λ (x : Bool). Piece) [
      | true ↦ leaves (with_holder u None s) blocks well
      | false ↦ refuses s blocks NotHeld
    ]).objects) [
      | true ↦ store_with_holder v s u None h low (λ r e. cc)
      | false ↦ h
    ]

-- a value in the range of a parameter fits
in_range_fits : (top : Option ℕ) (k x : ℕ) → in_range top k x ≡ true → ParamFits top x
in_range_fits None k x h = cc
in_range_fits (Some top) k x h = leb-true x top (and_parts (k == 0) (nat_le x top) h).1

-- a policy with another parameter of the chosen one
pub tuned_policy : (kind k x : ℕ) (pol : PolValue) → IsSoundPolicy kind pol →
    in_range (param_top kind pol.chosen) k x ≡ true → IsSoundPolicy kind (with_param x pol)
tuned_policy kind k x pol h fits = record {
  chosen = h.chosen;
  params = λ j low. elim (cases_eq j pol.chosen) [
    | inl same ↦ subst (λ y. ParamFits (param_top kind j) y)
        (sym (cond-true (j == pol.chosen) x (pol.param j) (eq-eqb j pol.chosen same)))
        (subst (λ i. ParamFits (param_top kind i) x) (sym same)
        (in_range_fits (param_top kind pol.chosen) k x fits))
    | inr ne ↦ subst (λ y. ParamFits (param_top kind j) y)
        (sym (cond-false (j == pol.chosen) x (pol.param j) (ne_eqb j pol.chosen ne)))
        (h.params j low)
  ];
}

-- a parameter set
tune_store : (v : World) (s : Objects) (kind k x : ℕ) (blocks : Blocks) → IsSoundStore v s →
    kind < 3 → IsSoundStore v (tune_piece s kind k x blocks).objects
tune_store v s kind k x blocks h low =
    (elim (in_range (param_top kind (s.things.pol kind).chosen) k x) as
    (λ (b : Bool). in_range (param_top kind (s.things.pol kind).chosen) k x ≡ b →
    IsSoundStore v (elim b as (λ (q : Bool). Piece) [
      | true ↦ leaves (with_things (set_param kind x s.things) s) blocks well
      | false ↦ refuses s blocks BadIndex
    ]).objects) [
      | true ↦ λ e. store_with_policy v s kind (with_param x (s.things.pol kind)) h
          (tuned_policy kind k x (s.things.pol kind) (h.policies kind low) e)
      | false ↦ λ e. h
    ]) refl

-- a policy chosen
choose_store : (v : World) (s : Objects) (kind j : ℕ) (blocks : Blocks) → IsSoundStore v s →
    kind < 3 → j < policy_count kind →
    IsSoundStore v (choose_piece s kind j blocks).objects
choose_store v s kind j blocks h low chosen =
    store_with_policy v s kind (record (s.things.pol kind) { chosen = j }) h
    (record { chosen = chosen; params = (h.policies kind low).params })

-- ---- all calls

-- a sound store stays sound
pub store_by : (c : SysCall) (n : ℕ) (v : World) (images : ImageTable) (s : Objects)
    (blocks : Blocks) (p : ℕ) (answer : Option (List ℕ)) (io : List Bool) →
    PieceReady c n v images s p answer → HasWholeBlocks v blocks →
    IsSoundStore v (piece_of c n v s blocks p answer io).objects
store_by Spawn n v images s blocks p answer io h whole =
    spawn_store v s (free_process s.things.queue 16 0) blocks h.store refl
store_by Exit n v images s blocks p answer io h whole =
    exit_store v s p blocks h.store h.caller (exit_granted v images p h.granted)
store_by Yield n v images s blocks p answer io h whole = yield_store n v s p answer blocks h.store
store_by (OpenName name) n v images s blocks p answer io h whole =
    open_store v s p name (file_named v name)
    (free_descriptor s.things p 4 0) blocks h.store h.caller refl refl
store_by (CloseFd fd) n v images s blocks p answer io h whole =
    close_store v s p fd (s.things.file p fd) blocks h.store h.caller
    (close_granted v images p fd h.granted)
store_by (Read fd i off len) n v images s blocks p answer io h whole =
    read_store n v s blocks p fd i off len (s.things.file p fd) answer io h.store h.caller
    (read_granted v images p fd i off len h.granted)
    (λ o e. (
      (h.store.files p fd o e).1,
      read_ready n v images s blocks p fd i off len o answer io h whole e,
    ))
store_by (Write fd i off bytes) n v images s blocks p answer io h whole =
    write_store (file_block v (s.things.file p fd) i off (length bytes)) v s blocks p off bytes
    answer io h.store (write_granted v images p fd i off bytes h.granted)
    (λ b e. fetched v s blocks p b answer io h.store h.caller whole
    (file_block_is v (s.things.file p fd) i off
    (length bytes) b s.things.cache h.store.world h.disk e)
    (file_block v (s.things.file p fd) i off (length bytes)) e h.right)
store_by Sync n v images s blocks p answer io h whole =
    sync_store v v.frames 0 0 s blocks io h.store
store_by (TakeLock u) n v images s blocks p answer io h whole =
    take_store v s p u (s.things.lock u) blocks h.store h.caller
    (take_granted v images p u h.granted)
store_by (FreeLock u) n v images s blocks p answer io h whole =
    free_store v s p u (s.things.lock u) blocks h.store (free_granted v images p u h.granted)
store_by (Poke k x) n v images s blocks p answer io h whole =
    store_with_cell v s p k x h.store h.caller
store_by (Peek k) n v images s blocks p answer io h whole = h.store
store_by (Tune kind k x) n v images s blocks p answer io h whole =
    tune_store v s kind k x blocks h.store (tune_granted v images p kind k x h.granted)
store_by (Choose kind j) n v images s blocks p answer io h whole = let g =
    choose_granted v images p kind j h.granted in choose_store v s kind j blocks h.store g.0 g.1
store_by (Give q k x) n v images s blocks p answer io h whole =
    give_store v s p q k x blocks (lives s.things.queue q) refl h.store h.caller
store_by (Install pt i limit) n v images s blocks p answer io h whole =
    install_store v s p pt i limit (s.accounts.graft p pt) blocks refl h.store h.caller
    (install_granted v images p pt i limit h.granted)
store_by (Remove pt) n v images s blocks p answer io h whole =
    remove_store v s p pt (s.accounts.graft p pt) blocks h.store h.caller
    (remove_granted v images p pt h.granted)
store_by (Fund pt k x) n v images s blocks p answer io h whole =
    fund_store v s p pt k x (s.accounts.graft p pt) blocks refl h.store h.caller
    (fund_granted v images p pt k x h.granted)
store_by (Bill pt) n v images s blocks p answer io h whole =
    bill_store v s p pt (s.accounts.graft p pt) blocks refl h.store h.caller
    (bill_granted v images p pt h.granted)
-- the calls of other tables are refused
store_by c n v images s blocks p answer io h whole = h.store
