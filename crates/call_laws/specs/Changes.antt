-- A piece changes no object but those that it needs exclusively: for each call.
use Rattle.std.specs.Prelude.{◌≡◌, ℕ, zero, suc, ◌<◌, ◌==◌, length, Bool, false, List, [], ◌∷◌, Option, None, Some}
use Rattle.std.proofs.Common.{arith, refl, sym, ap, ◌∙◌, inl, inr}
use Rattle.std.proofs.lemmas.Bool.{cases_Bool, false≢true, eqb-true, or_parts, cond-false}
use Rattle.call_laws.specs.Exits.{graft_of_another, account_of_another, needs_graft, needs_file}
use Rattle.call_laws.specs.Exits.{needs_cell, needs_lock}
use Rattle.call_laws.specs.FileChanges.{same_self, read_changes, write_changes, sync_changes, open_changes}
use Rattle.std.proofs.lemmas.Bool.Decides.{nat_tests}
use Rattle.kernel_model.specs.declared.Object.{Object}
use Rattle.kernel_model.specs.declared.Object.TheVariants.{Graft, Acct, Cell, OpenFile, Queue, Cache, Lock, Pol}
use Rattle.kernel_model.specs.declared.SysCall.{SysCall}
use Rattle.kernel_model.specs.declared.SysCall.TheVariants.{Spawn, Exit, Yield, OpenName, CloseFd}
use Rattle.kernel_model.specs.declared.SysCall.TheVariants.{Read, Write, Sync, TakeLock, FreeLock}
use Rattle.kernel_model.specs.declared.SysCall.TheVariants.{Poke, Peek, Tune, Choose, Give, Install}
use Rattle.kernel_model.specs.declared.SysCall.TheVariants.{Remove, Fund, Bill}
use Rattle.kernel_model.specs.declared.Kind.{Kind}
use Rattle.kernel_model.specs.declared.OpenRow.{OpenRow}
use Rattle.kernel_model.specs.World.{World, Blocks, file_named}
use Rattle.kernel_model.specs.Objects.{Objects, Accounts, GraftValue, SameAt, same_object}
use Rattle.kernel_model.specs.Needs.{piece_needs, spawn_needs, exit_needs, free_process, exclusive, file_block}
use Rattle.kernel_model.specs.FilePieces.{free_descriptor, close_piece}
use Rattle.kernel_model.specs.Pieces.{piece_of, without_grafts, account_closed, exit_piece}
use Rattle.kernel_model.specs.Pieces.{new_graft, spawn_piece, yield_piece, poke_piece, lock_piece}
use Rattle.kernel_model.specs.Pieces.{unlock_piece, tune_piece, choose_piece, install_piece}
use Rattle.kernel_model.specs.Pieces.{bill_piece}
use Rattle.kernel_model.specs.Alike.{is_needed_exclusively}
use Rattle.kernel_model.specs.Laws.{IsInRange}

-- a new process
spawn_changes : (s : Objects) (c : Option ℕ) (blocks : Blocks) (o : Object) →
    is_needed_exclusively o (spawn_needs c) ≡ false → SameAt o (spawn_piece s c blocks).objects s
unfolding same_object
spawn_changes s None blocks o h = same_self o s
spawn_changes s (Some c) blocks o h = grind (arith, nat_tests)

-- a yield
yield_changes : (n : ℕ) (v : World) (s : Objects) (p : ℕ) (answer : Option (List ℕ))
    (blocks : Blocks) (o : Object) →
    is_needed_exclusively o (piece_needs Yield n v s p) ≡ false →
    SameAt o (yield_piece n s p answer blocks).objects s
unfolding same_object
yield_changes zero v s p answer blocks o h = grind (arith, nat_tests)
yield_changes (suc n) v s p answer blocks o h = grind (arith, nat_tests)

-- a close
close_changes : (s : Objects) (p fd : ℕ) (o : Option OpenRow) (blocks : Blocks) (b : Object) →
    is_needed_exclusively b (exclusive (OpenFile p fd) ∷ []) ≡ false →
    SameAt b (close_piece s p fd o blocks).objects s
unfolding same_object
close_changes s p fd o blocks b h = grind (arith, nat_tests)

-- a lock taken
take_changes : (s : Objects) (p u : ℕ) (holder : Option ℕ) (blocks : Blocks) (o : Object) →
    is_needed_exclusively o (exclusive (Lock u) ∷ []) ≡ false →
    SameAt o (lock_piece s p u holder blocks).objects s
unfolding same_object
take_changes s p u holder blocks o h = grind (arith, nat_tests)

-- a lock let go
free_changes : (s : Objects) (p u : ℕ) (holder : Option ℕ) (blocks : Blocks) (o : Object) →
    is_needed_exclusively o (exclusive (Lock u) ∷ []) ≡ false →
    SameAt o (unlock_piece s p u holder blocks).objects s
unfolding same_object
free_changes s p u holder blocks o h = grind (arith, nat_tests)

-- a cell written
poke_changes : (s : Objects) (p k x : ℕ) (blocks : Blocks) (o : Object) →
    is_needed_exclusively o (exclusive (Cell p k) ∷ []) ≡ false →
    SameAt o (poke_piece s p k x blocks).objects s
unfolding same_object
poke_changes s p k x blocks o h = grind (arith, nat_tests)

-- a parameter set
tune_changes : (s : Objects) (kind k x : ℕ) (blocks : Blocks) (o : Object) →
    is_needed_exclusively o (exclusive (Pol kind) ∷ []) ≡ false →
    SameAt o (tune_piece s kind k x blocks).objects s
unfolding same_object
tune_changes s kind k x blocks o h = grind (arith, nat_tests)

-- a policy chosen
choose_changes : (s : Objects) (kind j : ℕ) (blocks : Blocks) (o : Object) →
    is_needed_exclusively o (exclusive (Pol kind) ∷ []) ≡ false →
    SameAt o (choose_piece s kind j blocks).objects s
unfolding same_object
choose_changes s kind j blocks o h = grind (arith, nat_tests)

-- a gift
give_changes : (n q : ℕ) (kind : Kind) (x : ℕ) (v : World) (s : Objects) (blocks : Blocks) (p : ℕ)
    (answer : Option (List ℕ)) (io : List Bool) (o : Object) →
    is_needed_exclusively o (piece_needs (Give q kind x) n v s p) ≡ false →
    SameAt o (piece_of (Give q kind x) n v s blocks p answer io).objects s
unfolding same_object
give_changes n q kind x v s blocks p answer io o h = grind (arith, nat_tests)

-- a graft put in place
install_changes : (s : Objects) (p pt : ℕ) (new : GraftValue) (old : Option GraftValue)
    (blocks : Blocks) (o : Object) →
    is_needed_exclusively o (exclusive (Graft p pt) ∷ []) ≡ false →
    SameAt o (install_piece s p pt new old blocks).objects s
unfolding same_object
install_changes s p pt new old blocks o h = grind (arith, nat_tests)

-- a graft taken out
remove_changes : (n pt : ℕ) (v : World) (s : Objects) (blocks : Blocks) (p : ℕ)
    (answer : Option (List ℕ)) (io : List Bool) (o : Object) →
    is_needed_exclusively o (piece_needs (Remove pt) n v s p) ≡ false →
    SameAt o (piece_of (Remove pt) n v s blocks p answer io).objects s
unfolding same_object
remove_changes n pt v s blocks p answer io o h = grind (arith, nat_tests)

-- a graft funded
fund_changes : (n pt : ℕ) (kind : Kind) (x : ℕ) (v : World) (s : Objects) (blocks : Blocks) (p : ℕ)
    (answer : Option (List ℕ)) (io : List Bool) (o : Object) →
    is_needed_exclusively o (piece_needs (Fund pt kind x) n v s p) ≡ false →
    SameAt o (piece_of (Fund pt kind x) n v s blocks p answer io).objects s
unfolding same_object
fund_changes n pt kind x v s blocks p answer io o h = grind (arith, nat_tests)

-- a graft billed
bill_changes : (s : Objects) (p pt : ℕ) (old : Option GraftValue) (blocks : Blocks) (o : Object) →
    is_needed_exclusively o (exclusive (Graft p pt) ∷ []) ≡ false →
    SameAt o (bill_piece s p pt old blocks).objects s
unfolding same_object
bill_changes s p pt old blocks o h = grind (arith, nat_tests)

-- the second piece of a yield leaves what isn't the queue
pub slice_leaves : (n : ℕ) (s : Objects) (p : ℕ) (answer : Option (List ℕ)) (blocks : Blocks)
    (o : Object) →
    same_object o Queue ≡ false → SameAt o (yield_piece (suc n) s p answer blocks).objects s
unfolding same_object
slice_leaves n s p answer blocks o h = grind (arith, nat_tests)

-- a graft or an account of an exit
exit_graft_changes : (s : Objects) (p q pt : ℕ) → pt < 16 →
    is_needed_exclusively (Graft q pt) (exit_needs p) ≡ false →
    (without_grafts p 16 s.accounts).graft q pt ≡ s.accounts.graft q pt
exit_graft_changes s p q pt r h = elim (cases_Bool (q == p)) [
  | inl e ↦ absurd (false≢true (sym h
      ∙ ap (λ i. is_needed_exclusively (Graft i pt) (exit_needs p)) (eqb-true q p e)
      ∙ needs_graft p pt r))
  | inr e ↦ graft_of_another p 16 q pt s.accounts e
]

-- an account at the close
pub closed_account : (p q : ℕ) (a : Accounts) → (q == p) ≡ false → (q == 0) ≡ false →
    (account_closed p a).acct q ≡ a.acct q
closed_account p q a h z = grind (arith, nat_tests)

-- the tests of an account that an exit doesn't need
exit_account_free : (p q : ℕ) → is_needed_exclusively (Acct q) (exit_needs p) ≡ false →
    ((q == p) ≡ false) × ((q == 0) ≡ false)
unfolding same_object
exit_account_free p q h = let a = or_parts (q == p) _ h in (a.0, (or_parts (q == 0) _ a.1).0)

-- an account of an exit
exit_account_changes : (s : Objects) (p q : ℕ) →
    is_needed_exclusively (Acct q) (exit_needs p) ≡ false →
    (account_closed p (without_grafts p 16 s.accounts)).acct q ≡ s.accounts.acct q
exit_account_changes s p q h =
    let a = exit_account_free p q h in
    closed_account p q (without_grafts p 16 s.accounts) a.0 a.1
    ∙ account_of_another p 16 q s.accounts a.0

-- exit
exit_changes : (s : Objects) (p : ℕ) (blocks : Blocks) (o : Object) → IsInRange o →
    is_needed_exclusively o (exit_needs p) ≡ false → SameAt o (exit_piece s p blocks).objects s
unfolding same_object
exit_changes s p blocks (Graft q pt) r h = (exit_graft_changes s p q pt r.1 h, refl)
exit_changes s p blocks (Acct q) r h = exit_account_changes s p q h
exit_changes s p blocks (Cell q k) r h = elim (cases_Bool (q == p)) [
  | inl e ↦ absurd (false≢true (sym h
      ∙ ap (λ i. is_needed_exclusively (Cell i k) (exit_needs p)) (eqb-true q p e)
      ∙ needs_cell p k r.1))
  | inr e ↦ cond-false (q == p) _ _ e
]
exit_changes s p blocks (OpenFile q k) r h = elim (cases_Bool (q == p)) [
  | inl e ↦ absurd (false≢true (sym h
      ∙ ap (λ i. is_needed_exclusively (OpenFile i k) (exit_needs p)) (eqb-true q p e)
      ∙ needs_file p k r.1))
  | inr e ↦ cond-false (q == p) _ _ e
]
exit_changes s p blocks Queue r h = cc
exit_changes s p blocks Cache r h = cc
exit_changes s p blocks (Lock u) r h = absurd (false≢true (sym h ∙ needs_lock p u r))
exit_changes s p blocks (Pol u) r h = refl

-- a piece changes no object but those that it needs exclusively
pub piece_changes : (c : SysCall) (n : ℕ) (v : World) (s : Objects) (blocks : Blocks) (p : ℕ)
    (answer : Option (List ℕ)) (io : List Bool) (o : Object) →
    IsInRange o → is_needed_exclusively o (piece_needs c n v s p) ≡ false →
    SameAt o (piece_of c n v s blocks p answer io).objects s
piece_changes Spawn n v s blocks p answer io o r h =
    spawn_changes s (free_process s.things.queue 16 0) blocks o h
piece_changes Exit n v s blocks p answer io o r h = exit_changes s p blocks o r h
piece_changes Yield n v s blocks p answer io o r h = yield_changes n v s p answer blocks o h
piece_changes (OpenName name) n v s blocks p answer io o r h =
    open_changes s p (file_named v name) (free_descriptor s.things p 4 0) blocks o refl h
piece_changes (CloseFd fd) n v s blocks p answer io o r h =
    close_changes s p fd (s.things.file p fd) blocks o h
piece_changes (Read fd i off len) n v s blocks p answer io o r h =
    read_changes n v s blocks p fd i off len (s.things.file p fd) answer io o refl h
piece_changes (Write fd i off bytes) n v s blocks p answer io o r h =
    write_changes (file_block v (s.things.file p fd) i off (length bytes)) v s blocks p off bytes
    answer io o h
piece_changes Sync n v s blocks p answer io o r h =
    sync_changes v.frames 0 0 s blocks io o (or_parts _ _ h).0
piece_changes (TakeLock u) n v s blocks p answer io o r h =
    take_changes s p u (s.things.lock u) blocks o h
piece_changes (FreeLock u) n v s blocks p answer io o r h =
    free_changes s p u (s.things.lock u) blocks o h
piece_changes (Poke k x) n v s blocks p answer io o r h = poke_changes s p k x blocks o h
piece_changes (Peek k) n v s blocks p answer io o r h = same_self o s
piece_changes (Tune kind k x) n v s blocks p answer io o r h = tune_changes s kind k x blocks o h
piece_changes (Choose kind j) n v s blocks p answer io o r h = choose_changes s kind j blocks o h
piece_changes (Give q kind x) n v s blocks p answer io o r h =
    give_changes n q kind x v s blocks p answer io o h
piece_changes (Install pt i limit) n v s blocks p answer io o r h =
    install_changes s p pt (new_graft i limit) (s.accounts.graft p pt) blocks o h
piece_changes (Remove pt) n v s blocks p answer io o r h =
    remove_changes n pt v s blocks p answer io o h
piece_changes (Fund pt kind x) n v s blocks p answer io o r h =
    fund_changes n pt kind x v s blocks p answer io o h
piece_changes (Bill pt) n v s blocks p answer io o r h =
    bill_changes s p pt (s.accounts.graft p pt) blocks o h
-- the calls of other tables are refused
piece_changes c n v s blocks p answer io o r h = same_self o s
