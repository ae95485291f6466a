-- No piece of a system call spends a step, or gives one back.
use Rattle.std.specs.Prelude.{◌≡◌, ◌≢◌, ℕ, zero, suc, ◌+◌, ◌<◌, ◌==◌, Bool, true, false, cond, nat_lt, List, [], ◌∷◌}
use Rattle.std.specs.Prelude.{length, Option, Some, None, Result, Ok, Err}
use Rattle.std.specs.Result.{is_ok}
use Rattle.std.proofs.Common.{arith, refl, ap, sym, ◌∙◌}
use Rattle.std.proofs.lemmas.Bool.Decides.{nat_tests}
use Rattle.script_model.specs.declared.Kind.{Kind}
use Rattle.script_model.specs.declared.Kind.TheVariants.{Steps}
use Rattle.script_model.specs.declared.Refusal.{Refusal}
use Rattle.script_model.specs.declared.Refusal.TheVariants.{Denied, PortFull, Short}
use Rattle.script_model.specs.declared.SysCall.{SysCall}
use Rattle.script_model.specs.declared.SysCall.TheVariants.{Spawn, Exit, Yield, OpenName, CloseFd}
use Rattle.script_model.specs.declared.SysCall.TheVariants.{Read, Write, Sync, TakeLock, FreeLock}
use Rattle.script_model.specs.declared.SysCall.TheVariants.{Poke, Peek, Tune, Choose, Give, Install}
use Rattle.script_model.specs.declared.SysCall.TheVariants.{Remove, Fund, Bill, Serve, StreamRead}
use Rattle.script_model.specs.declared.SysCall.TheVariants.{StreamWrite}
use Rattle.script_model.specs.World.{World, ImageTable, Blocks, file_named}
use Rattle.script_model.specs.Objects.{Objects, Accounts, AcctValue, GraftValue, at, with_accounts}
use Rattle.script_model.specs.AllCalls.{all_calls}
use Rattle.script_model.specs.Charges.{removed}
use Rattle.script_model.specs.Early.{begins_unless}
use Rattle.script_model.specs.EventPoints.{is_event_call, event_piece, handler_joins, handler_leaves, serve_piece}
use Rattle.script_model.specs.EventPoints.{with_handlers}
use Rattle.script_model.specs.Handlers.{has_room, handlers_with}
use Rattle.script_model.specs.Fetch.{Fetched, Got, Failed, fetch}
use Rattle.script_model.specs.FilePieces.{leaves, refuses, well, free_descriptor}
use Rattle.script_model.specs.Meaning.{Stage, Answer, Piece, registers_of}
use Rattle.kernel_model.specs.Needs.{free_process, file_block}
use Rattle.script_model.specs.Pieces.{piece_of, exit_piece, without_grafts, account_closed}
use Rattle.script_model.specs.Pieces.{empty_account, joint_account}
use Rattle.script_model.specs.Pieces.{give_piece, pay_piece, less, more, install_piece, new_graft, remove_piece}
use Rattle.script_model.specs.Pieces.{fund_piece, bill_piece, with_graft, with_new_graft, accounts_funded}
use Rattle.script_model.specs.Policies.{lives}
use Rattle.script_model.specs.StreamPoints.{is_stream_call, stream_piece, stream_read_piece}
use Rattle.script_model.specs.StreamPoints.{stream_write_piece, stream_fetches, stream_taken, stream_changed, through}
use Rattle.call_laws.specs.Ledgers.{at_here, at_other, sum_one, sum_same}
use Rattle.call_laws.specs.SameAccounts.{spawn_accounts, yield_accounts, open_leaves, close_leaves}
use Rattle.call_laws.specs.SameAccounts.{take_leaves, free_leaves, tune_leaves, read_leaves_processes}
use Rattle.call_laws.specs.SameAccounts.{write_leaves_processes, sync_leaves}
use Rattle.session_laws.specs.Spending.{steps_of}
use Rattle.session_laws.proofs.SpendingLemmas.{removed_steps}
use Rattle.run_laws.specs.Grants.{steps_spent, SpendsNoSteps}

-- ---- accounts

-- a piece spends nothing
abbrev SpendsNone : Objects → Piece → Type 0
SpendsNone s q = steps_spent q.objects.accounts ≡ steps_spent s.accounts

-- where each process has spent as much
each_same : (a b : Accounts) → ((q : ℕ) → steps_of b q ≡ steps_of a q) → steps_spent b ≡ steps_spent a
each_same a b h = sum_same 16 (steps_of b) (steps_of a) (λ i low. h i)

-- one account changes, which has spent as much
one_account : (p : ℕ) (x : AcctValue) (f : ℕ → AcctValue) → x.spent Steps ≡ (f p).spent Steps → (q : ℕ) →
    (at p x f q).spent Steps ≡ (f q).spent Steps
one_account p x f same q = by_place (q == p) refl
  where
    is_it : (a b : ℕ) → (a == b) ≡ true → a ≡ b
    is_it a b h = grind (arith, nat_tests)

    by_place : (b : Bool) → (q == p) ≡ b → (cond b x (f q)).spent Steps ≡ (f q).spent Steps
    by_place true e = same ∙ ap (λ i. (f i).spent Steps) (sym (is_it q p e))
    by_place false e = refl

-- ---- the account of a process that leaves

without_spends : (p n : ℕ) (a : Accounts) (q : ℕ) → steps_of (without_grafts p n a) q ≡ steps_of a q
without_spends p zero a q = refl
without_spends p (suc n) a q =
    without_spends p n (removed p n a) q ∙ removed_steps a p n q (a.graft p n)

closed_spends : (p : ℕ) (a : Accounts) → p < 16 → p ≢ 0 → steps_spent (account_closed p a) ≡ steps_spent a
closed_spends p a low other =
    all (steps_spent a) (steps_spent joined) (steps_spent (account_closed p a)) (steps_of a p) (steps_of a 0)
    (steps_of joined 0) (steps_of joined p) (steps_of (account_closed p a) p)
    (sum_one 16 0 (steps_of joined) (steps_of a) root (λ i less ne. joined_other i ne))
    (ap (λ (x : AcctValue). x.spent Steps) (at_here 0 (joint_account (a.acct p) (a.acct 0)) a.acct))
    (joined_other p other)
    (sum_one 16 p (steps_of (account_closed p a)) (steps_of joined) low (λ i less ne. closed_other i ne))
    (ap (λ (x : AcctValue). x.spent Steps) (at_here p empty_account joined.acct))
  where
    root : 0 < 16
    root = omega arith

    joined : Accounts
    joined = record a { acct = at 0 (joint_account (a.acct p) (a.acct 0)) a.acct }

    joined_other : (i : ℕ) → i ≢ 0 → steps_of joined i ≡ steps_of a i
    joined_other i ne =
        ap (λ (x : AcctValue). x.spent Steps) (at_other 0 i (joint_account (a.acct p) (a.acct 0)) a.acct ne)

    closed_other : (i : ℕ) → i ≢ p → steps_of (account_closed p a) i ≡ steps_of joined i
    closed_other i ne = ap (λ (x : AcctValue). x.spent Steps) (at_other p i empty_account joined.acct ne)

    all : (s j c fp f0 j0 jp cp : ℕ) → j + f0 ≡ s + j0 → j0 ≡ fp + f0 → jp ≡ fp → c + jp ≡ j + cp → cp ≡ 0 → c ≡ s
    all s j c fp f0 j0 jp cp d e f g h = omega arith

exit_spends : (s : Objects) (p : ℕ) (blocks : Blocks) → p < 16 → p ≢ 0 → SpendsNone s (exit_piece s p blocks)
exit_spends s p blocks low other =
    closed_spends p (without_grafts p 16 s.accounts) low other
    ∙ each_same s.accounts (without_grafts p 16 s.accounts) (without_spends p 16 s.accounts)

-- ---- gifts and grafts

pay_spends : (s : Objects) (p q : ℕ) (k : Kind) (n : ℕ) (blocks : Blocks) (short : Bool) →
    SpendsNone s (pay_piece s p q k n blocks short)
pay_spends s p q k n blocks true = refl
pay_spends s p q k n blocks false =
    let u = at p (less k n (s.accounts.acct p)) s.accounts.acct in
    each_same s.accounts (pay_piece s p q k n blocks false).objects.accounts
    (λ i. one_account q (more k n (u q)) u refl i ∙ one_account p (less k n (s.accounts.acct p)) s.accounts.acct refl i)

give_spends : (s : Objects) (p q : ℕ) (k : Kind) (n : ℕ) (blocks : Blocks) (alive : Bool) →
    SpendsNone s (give_piece s p q k n blocks alive)
give_spends s p q k n blocks false = refl
give_spends s p q k n blocks true = pay_spends s p q k n blocks (nat_lt ((s.accounts.acct p).balance k) n)

install_spends : (s : Objects) (p pt : ℕ) (g : GraftValue) (x : Option GraftValue) (blocks : Blocks) →
    SpendsNone s (install_piece s p pt g x blocks)
install_spends s p pt g (Some h) blocks = refl
install_spends s p pt g None blocks = each_same s.accounts (with_new_graft p pt g s).accounts (λ q. refl)

joins_spends : (s : Objects) (p pt : ℕ) (g : GraftValue) (x : Option GraftValue) (blocks : Blocks) →
    SpendsNone s (handler_joins s p pt g x blocks)
joins_spends s p pt g (Some h) blocks = refl
joins_spends s p pt g None blocks = by_room (has_room p pt s.things.handlers)
  where
    by_room : (b : Bool) → SpendsNone s (elim b as (λ _. Piece) [
      | false ↦ refuses s blocks PortFull
      | true ↦ leaves (with_handlers (handlers_with p pt s.things.handlers) (with_new_graft p pt g s)) blocks well
    ])
    by_room true = each_same s.accounts (with_new_graft p pt g s).accounts (λ q. refl)
    by_room false = refl

taken_spends : (s : Objects) (p pt : ℕ) → steps_spent (removed p pt s.accounts) ≡ steps_spent s.accounts
taken_spends s p pt =
    each_same s.accounts (removed p pt s.accounts) (λ q. removed_steps s.accounts p pt q (s.accounts.graft p pt))

remove_spends : (s : Objects) (p pt : ℕ) (x : Option GraftValue) (blocks : Blocks) →
    SpendsNone s (remove_piece s p pt x blocks)
remove_spends s p pt None blocks = refl
remove_spends s p pt (Some g) blocks = taken_spends s p pt

leaves_spends : (s : Objects) (p pt : ℕ) (x : Option GraftValue) (blocks : Blocks) →
    SpendsNone s (handler_leaves s p pt x blocks)
leaves_spends s p pt None blocks = refl
leaves_spends s p pt (Some g) blocks = taken_spends s p pt

fund_spends : (s : Objects) (p pt : ℕ) (k : Kind) (n : ℕ) (x : Option GraftValue) (blocks : Blocks) →
    SpendsNone s (fund_piece s p pt k n x blocks)
fund_spends s p pt k n None blocks = refl
fund_spends s p pt k n (Some g) blocks = by_short (nat_lt ((s.accounts.acct p).balance k) n)
  where
    by_short : (b : Bool) → SpendsNone s (elim b as (λ _. Piece) [
      | true ↦ refuses s blocks (Short ((s.accounts.acct p).balance k))
      | false ↦ leaves (with_accounts (accounts_funded p pt k n g s.accounts) s) blocks well
    ])
    by_short true = refl
    by_short false =
        each_same s.accounts (accounts_funded p pt k n g s.accounts)
        (one_account p (less k n (s.accounts.acct p)) s.accounts.acct refl)

bill_spends : (s : Objects) (p pt : ℕ) (x : Option GraftValue) (blocks : Blocks) →
    SpendsNone s (bill_piece s p pt x blocks)
bill_spends s p pt None blocks = refl
bill_spends s p pt (Some g) blocks =
    each_same s.accounts (with_graft p pt (record g { billed = true }) s.accounts) (λ q. refl)

-- ---- handlers and streams

serve_spends : (n : ℕ) (c : SysCall) (port : ℕ) (hs : List (ℕ × ℕ)) (answers : ℕ) (s : Objects) (blocks : Blocks)
    (answer : Option Answer) → SpendsNone s (serve_piece n c port hs answers s blocks answer)
serve_spends zero c port hs answers s blocks answer = refl
serve_spends (suc n) c port [] answers s blocks answer = refl
serve_spends (suc n) c port (h ∷ hs) answers s blocks answer = refl

taken_reads : (c : SysCall) (s : Objects) (blocks : Blocks) (off len : ℕ) (x : Fetched) →
    SpendsNone s (stream_taken c s blocks off len x)
taken_reads c s blocks off len (Failed calls) = refl
taken_reads c s blocks off len (Got cache after frame calls) = refl

fetches_spend : (r : Result ℕ Refusal) (c : SysCall) (v : World) (s : Objects) (blocks : Blocks) (p off len : ℕ)
    (answer : Option Answer) (io : List Bool) → SpendsNone s (stream_fetches r c v s blocks p off len answer io)
fetches_spend (Err why) c v s blocks p off len answer io = refl
fetches_spend (Ok b) c v s blocks p off len answer io =
    taken_reads c s blocks off len (fetch v (s.things.pol 1) p b (registers_of answer) s.things.cache blocks io)

sread_spends : (n : ℕ) (t : Stage) (v : World) (s : Objects) (blocks : Blocks) (p fd i off len : ℕ)
    (answer : Option Answer) (io : List Bool) →
    SpendsNone s (stream_read_piece n t v s blocks p fd i off len answer io)
sread_spends zero t v s blocks p fd i off len answer io =
    fetches_spend (file_block v (s.things.file p fd) i off len) t.call v s blocks p off len answer io
sread_spends (suc n) t v s blocks p fd i off len answer io = refl

changed_spends : (r : Result ℕ Refusal) (c : SysCall) (s : Objects) (blocks : Blocks) (out : List ℕ) →
    SpendsNone s (stream_changed r c s blocks out)
changed_spends (Err why) c s blocks out = refl
changed_spends (Ok b) c s blocks out = refl

swrite_spends : (n : ℕ) (t : Stage) (v : World) (s : Objects) (blocks : Blocks) (p fd i off : ℕ) (given : List ℕ)
    (answer : Option Answer) (io : List Bool) →
    SpendsNone s (stream_write_piece n t v s blocks p fd i off given answer io)
swrite_spends zero t v s blocks p fd i off given answer io =
    changed_spends (file_block v (s.things.file p fd) i off (length given)) t.call s blocks (through answer given)
swrite_spends (suc n) t v s blocks p fd i off given answer io =
    ap steps_spent (write_leaves_processes (file_block v (s.things.file p fd) i off (length t.bytes)) v s blocks p
    off t.bytes (registers_of answer) io).accounts

-- ---- all calls

module _ (v : World) (images : ImageTable) (s : Objects) (blocks : Blocks) (p : ℕ) (t : Stage) (answer : Option Answer)
    (io : List Bool) (low : p < 16) where
  -- the piece of a call, by whose table it is
  abbrev piece_by : SysCall → Bool → Bool → Piece
  piece_by c stream event =
      cond stream (stream_piece c t v s blocks p answer io)
      (cond event (event_piece c t s blocks p answer) (piece_of c t.piece v s blocks p (registers_of answer) io))

  root_stays : is_ok (all_calls.early v images p Exit) ≡ true → p ≢ 0
  root_stays granted = λ e. denied (p == 0) (is_root p e) granted
    where
      is_root : (p : ℕ) → p ≡ 0 → (p == 0) ≡ true
      is_root p e = grind (arith, nat_tests)

      denied : (b : Bool) → b ≡ true → is_ok (begins_unless Exit (cond b (Some Denied) None)) ≡ true → ⊥
      denied true e h = absurd cc
      denied false e h = absurd cc

  by_table : (c : SysCall) → SpendsNone s (stream_piece c t v s blocks p answer io) →
      SpendsNone s (event_piece c t s blocks p answer) →
      SpendsNone s (piece_of c t.piece v s blocks p (registers_of answer) io) → (stream event : Bool) →
      SpendsNone s (piece_by c stream event)
  by_table c a b d true event = a
  by_table c a b d false true = b
  by_table c a b d false false = d

  call_spends : (c : SysCall) → is_ok (all_calls.early v images p c) ≡ true →
      SpendsNone s (piece_by c (is_stream_call c) (is_event_call c))
  call_spends Spawn granted = ap steps_spent (spawn_accounts s (free_process s.things.queue 16 0) blocks)
  call_spends Exit granted = exit_spends s p blocks low (root_stays granted)
  call_spends Yield granted = ap steps_spent (yield_accounts t.piece s p (registers_of answer) blocks)
  call_spends (OpenName name) granted =
      ap steps_spent (open_leaves s p (file_named v name) (free_descriptor s.things p 4 0) blocks).accounts
  call_spends (CloseFd fd) granted = ap steps_spent (close_leaves s p fd (s.things.file p fd) blocks).accounts
  call_spends (Read fd i off len) granted =
      ap steps_spent (read_leaves_processes t.piece v s blocks p fd i off len (s.things.file p fd)
      (registers_of answer) io).accounts
  call_spends (Write fd i off bytes) granted =
      ap steps_spent (write_leaves_processes (file_block v (s.things.file p fd) i off (length bytes)) v s blocks p
      off bytes (registers_of answer) io).accounts
  call_spends Sync granted = ap steps_spent (sync_leaves v.frames 0 0 s blocks io).accounts
  call_spends (TakeLock u) granted = ap steps_spent (take_leaves s p u (s.things.lock u) blocks).accounts
  call_spends (FreeLock u) granted = ap steps_spent (free_leaves s p u (s.things.lock u) blocks).accounts
  call_spends (Poke k x) granted = refl
  call_spends (Peek k) granted = refl
  call_spends (Tune kind k x) granted = ap steps_spent (tune_leaves s kind k x blocks).accounts
  call_spends (Choose kind j) granted = refl
  call_spends (Give q k x) granted = give_spends s p q k x blocks (lives s.things.queue q)
  call_spends (Install pt i limit) granted =
      by_table (Install pt i limit)
      (install_spends s p pt (new_graft i limit) (s.accounts.graft p pt) blocks)
      (joins_spends s p pt (new_graft i limit) (s.accounts.graft p pt) blocks)
      (install_spends s p pt (new_graft i limit) (s.accounts.graft p pt) blocks)
      (is_stream_call (Install pt i limit)) (is_event_call (Install pt i limit))
  call_spends (Remove pt) granted =
      by_table (Remove pt) (remove_spends s p pt (s.accounts.graft p pt) blocks)
      (leaves_spends s p pt (s.accounts.graft p pt) blocks) (remove_spends s p pt (s.accounts.graft p pt) blocks)
      (is_stream_call (Remove pt)) (is_event_call (Remove pt))
  call_spends (Fund pt k x) granted =
      let done = fund_spends s p pt k x (s.accounts.graft p pt) blocks in
      by_table (Fund pt k x) done done done (is_stream_call (Fund pt k x)) (is_event_call (Fund pt k x))
  call_spends (Bill pt) granted =
      let done = bill_spends s p pt (s.accounts.graft p pt) blocks in
      by_table (Bill pt) done done done (is_stream_call (Bill pt)) (is_event_call (Bill pt))
  call_spends (Serve port bytes) granted =
      serve_spends t.piece t.call port t.handlers t.answers s blocks answer
  call_spends (StreamRead fd i off len) granted = sread_spends t.piece t v s blocks p fd i off len answer io
  call_spends (StreamWrite fd i off bytes) granted = swrite_spends t.piece t v s blocks p fd i off bytes answer io

pub all_calls_spend_no_steps : SpendsNoSteps all_calls
all_calls_spend_no_steps v images s blocks p t answer io ready =
    call_spends v images s blocks p t answer io (ready.standing.store.numbers p ready.standing.caller) t.call
    ready.standing.granted
