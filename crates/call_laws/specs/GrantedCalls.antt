-- What is known of a call that stands at a stage: its numbers are in their ranges, and what its
-- piece fetches is of a file.
use Rattle.std.specs.Prelude.{◌≡◌, ◌≢◌, ℕ, zero, suc, ◌+◌, ◌<◌, ◌≤◌, ◌&&◌, nat_lt, nat_le, Bool}
use Rattle.std.specs.Prelude.{true, length, List, Option, None, Some, Result, Ok, slice_index}
use Rattle.std.specs.Result.{is_ok}
use Rattle.std.proofs.Common.{arith, subst, ap, ◌∙◌}
use Rattle.std.proofs.lemmas.Bool.{and_parts, leb-true, lt-ltb, cond-true}
use Rattle.std.proofs.lemmas.Bool.Decides.{nat_tests}
use Rattle.kernel_model.specs.declared.Kind.{Kind}
use Rattle.kernel_model.specs.declared.OpenRow.{OpenRow}
use Rattle.kernel_model.specs.declared.Refusal.{Refusal}
use Rattle.kernel_model.specs.declared.SysCall.{SysCall}
use Rattle.kernel_model.specs.declared.SysCall.TheVariants.{Exit, CloseFd, Read, Write, TakeLock}
use Rattle.kernel_model.specs.declared.SysCall.TheVariants.{FreeLock, Tune, Choose, Install, Remove}
use Rattle.kernel_model.specs.declared.SysCall.TheVariants.{Fund, Bill}
use Rattle.kernel_model.specs.World.{World, ImageTable, Blocks, blocks_of}
use Rattle.kernel_model.specs.Objects.{Objects}
use Rattle.kernel_model.specs.Policies.{PointKind, Ahead, kind_of, lives, args_by, open_blocks}
use Rattle.kernel_model.specs.Early.{plain_early, policy_count}
use Rattle.kernel_model.specs.Needs.{piece_ask, file_block, ahead_block, fetch_ask, read_ask}
use Rattle.kernel_model.specs.Fetch.{fetch, fetch_ahead}
use Rattle.kernel_model.specs.Pieces.{plain_upto, piece_fits, read_fits}
use Rattle.kernel_model.specs.Sound.{IsSoundStore, FitsDisk, HasWholeBlocks}
use Rattle.kernel_model.specs.Meaning.{Stage, Answer, registers_of}
use Rattle.kernel_model.specs.Laws.{IsStanding, IsReady, IsRightAnswer, accepted_by}
use Rattle.call_laws.specs.SoundCaches.{IsSoundCache}
use Rattle.call_laws.specs.FetchCases.{AllGot}
use Rattle.call_laws.specs.SoundFetches.{fetch_sound, ahead_sound}
use Rattle.call_laws.specs.SoundFiles.{IsFileBlock, file_block_is, ahead_block_is, fetch_ready, ReadReady}

-- a call that no early refusal holds of, where points go up to 15 at most
pub record IsGranted (v : World) (images : ImageTable) (p : ℕ) (c : SysCall) : Type 0 where
  pub top : ℕ
  pub most : top ≤ 15
  pub granted : is_ok (plain_early top v images p c) ≡ true

-- a call stands before the piece of this number
pub record PieceStands (c : SysCall) (n : ℕ) (v : World) (images : ImageTable) (s : Objects)
    (p : ℕ) : Type 0 where
  pub store : IsSoundStore v s
  pub caller : lives s.things.queue p ≡ true
  pub granted : IsGranted v images p c
  pub fits : piece_fits c n s.things p ≡ true

-- a piece whose call stands there, with a right answer
pub record PieceReady (c : SysCall) (n : ℕ) (v : World) (images : ImageTable) (s : Objects) (p : ℕ)
    (answer : Option (List ℕ)) : Type 0 where
  pub store : IsSoundStore v s
  pub caller : lives s.things.queue p ≡ true
  pub granted : IsGranted v images p c
  pub fits : piece_fits c n s.things p ≡ true
  pub disk : FitsDisk v s.things.cache
  pub right : IsRightAnswer s (piece_ask c n v s.things p) answer

-- what is known of a call that stands at a stage, call and number apart
pub piece_stands : (top : ℕ) (v : World) (images : ImageTable) (s : Objects) (p : ℕ) (t : Stage) →
    top ≤ 15 →
    IsStanding (plain_upto top) v images s p t → PieceStands t.call t.piece v images s p
piece_stands top v images s p t most h = record {
  store = h.store;
  caller = h.caller;
  granted = record { top = top; most = most; granted = h.granted };
  fits = h.fits;
}

-- and of a piece that is ready
pub piece_ready : (top : ℕ) (v : World) (images : ImageTable) (s : Objects) (p : ℕ) (t : Stage)
    (answer : Option Answer) → top ≤ 15 →
    IsReady (plain_upto top) v images s p t answer →
    PieceReady t.call t.piece v images s p (registers_of answer)
piece_ready top v images s p t answer most h = record {
  store = h.standing.store;
  caller = h.standing.caller;
  granted = record { top = top; most = most; granted = h.standing.granted };
  fits = h.standing.fits;
  disk = h.disk;
  right = h.right;
}

-- ---- ranges

-- process 0 doesn't exit
pub exit_granted : (v : World) (images : ImageTable) (p : ℕ) → IsGranted v images p Exit → p ≢ 0
exit_granted v images p h = let g = h.granted in let most = h.most in grind (arith, nat_tests)

-- the descriptor of a close is below 4
pub close_granted : (v : World) (images : ImageTable) (p fd : ℕ) →
    IsGranted v images p (CloseFd fd) → fd < 4
close_granted v images p fd h = let g = h.granted in let most = h.most in grind (arith, nat_tests)

-- so is that of a read
pub read_granted : (v : World) (images : ImageTable) (p fd i off len : ℕ) →
    IsGranted v images p (Read fd i off len) → fd < 4
read_granted v images p fd i off len h = let g = h.granted in let most = h.most in
    grind (arith, nat_tests)

-- what is written lies within a block
pub write_granted : (v : World) (images : ImageTable) (p fd i off : ℕ) (bytes : List ℕ) →
    IsGranted v images p (Write fd i off bytes) → off + length bytes ≤ 512
write_granted v images p fd i off bytes h = let g = h.granted in let most = h.most in
    grind (arith, nat_tests)

-- a user lock that is taken is below 16
pub take_granted : (v : World) (images : ImageTable) (p u : ℕ) → IsGranted v images p (TakeLock u) →
    u < 16
take_granted v images p u h = let g = h.granted in let most = h.most in grind (arith, nat_tests)

-- so is one that is let go
pub free_granted : (v : World) (images : ImageTable) (p u : ℕ) → IsGranted v images p (FreeLock u) →
    u < 16
free_granted v images p u h = let g = h.granted in let most = h.most in grind (arith, nat_tests)

-- a policy that is tuned is of one of the three kinds
pub tune_granted : (v : World) (images : ImageTable) (p kind k x : ℕ) →
    IsGranted v images p (Tune kind k x) → kind < 3
tune_granted v images p kind k x h = let g = h.granted in let most = h.most in
    grind (arith, nat_tests)

-- a chosen policy is one of its kind
pub choose_granted : (v : World) (images : ImageTable) (p kind j : ℕ) →
    IsGranted v images p (Choose kind j) → (kind < 3) × (j < policy_count kind)
choose_granted v images p kind j h = let g = h.granted in let most = h.most in
    grind (arith, nat_tests)

-- the point of a new graft is below 16
pub install_granted : (v : World) (images : ImageTable) (p pt i limit : ℕ) →
    IsGranted v images p (Install pt i limit) → pt < 16
install_granted v images p pt i limit h = let g = h.granted in let most = h.most in
    grind (arith, nat_tests)

-- so is that of a graft to be taken out
pub remove_granted : (v : World) (images : ImageTable) (p pt : ℕ) →
    IsGranted v images p (Remove pt) → pt < 16
remove_granted v images p pt h = let g = h.granted in let most = h.most in grind (arith, nat_tests)

-- of one to be funded
pub fund_granted : (v : World) (images : ImageTable) (p pt : ℕ) (k : Kind) (x : ℕ) →
    IsGranted v images p (Fund pt k x) → pt < 16
fund_granted v images p pt k x h = let g = h.granted in let most = h.most in
    grind (arith, nat_tests)

-- and of one to be billed
pub bill_granted : (v : World) (images : ImageTable) (p pt : ℕ) → IsGranted v images p (Bill pt) →
    pt < 16
bill_granted v images p pt h = let g = h.granted in let most = h.most in grind (arith, nat_tests)

-- ---- reads and writes

-- a fetch of a block of a file keeps the cache sound
pub fetched : (v : World) (s : Objects) (blocks : Blocks) (p b : ℕ) (answer : Option (List ℕ))
    (io : List Bool) → IsSoundStore v s →
    lives s.things.queue p ≡ true → HasWholeBlocks v blocks →
    IsFileBlock v b → (r : Result ℕ Refusal) → r ≡ Ok b →
    IsRightAnswer s (fetch_ask v s.things r) answer →
    AllGot (λ c after. IsSoundCache v s.things.queue c)
    (fetch v (s.things.pol 1) p b answer s.things.cache blocks io)
fetched v s blocks p b answer io h alive whole block r e right =
    fetch_sound v s.things.queue (s.things.pol 1) p b answer s.things.cache blocks io
    (fetch_ready v s p b answer h alive block
    (subst (λ x. IsRightAnswer s (fetch_ask v s.things x) answer) e right))
    (whole b block.on_disk)

-- so does a fetch ahead
fetched_ahead : (v : World) (s : Objects) (blocks : Blocks) (p b : ℕ) (answer : Option (List ℕ))
    (io : List Bool) → IsSoundStore v s →
    lives s.things.queue p ≡ true → HasWholeBlocks v blocks →
    IsFileBlock v b → (r : Result ℕ Refusal) → r ≡ Ok b →
    IsRightAnswer s (fetch_ask v s.things r) answer →
    AllGot (λ c after. IsSoundCache v s.things.queue c)
    (fetch_ahead v (s.things.pol 1) p b answer s.things.cache blocks io)
fetched_ahead v s blocks p b answer io h alive whole block r e right =
    ahead_sound v s.things.queue (s.things.pol 1) p b answer s.things.cache blocks io
    (fetch_ready v s p b answer h alive block
    (subst (λ x. IsRightAnswer s (fetch_ask v s.things x) answer) e right))
    (whole b block.on_disk)

-- what is left to read ahead is some where there is a later piece
pub some_ahead : (n : ℕ) (row : Option OpenRow) (o : OpenRow) →
    (nat_le n 2 && read_fits n row) ≡ true → row ≡ Some o → 2 ≤ n → 1 ≤ o.count
some_ahead zero row o h e low = absurd (omega arith)
some_ahead (suc zero) row o h e low = absurd (omega arith)
some_ahead (suc (suc n)) row o h e low =
    leb-true 1 o.count (subst (λ x. read_fits (suc (suc n)) x ≡ true) e
    (and_parts (nat_le (suc (suc n)) 2) (read_fits (suc (suc n)) row) h).1)

-- an answer that reading ahead accepts
accepted_ahead : (v : World) (s : Objects) (p fd : ℕ) (o : OpenRow) (a : List ℕ) → fd < 4 →
    s.things.file p fd ≡ Some o →
    accepted_by (kind_of fd) s (args_by Ahead v s.things p fd) a ≡ true → (slice_index a 1 ≤ 8)
    × (slice_index a 0 + slice_index a 1 ≤ blocks_of v o.file)
accepted_ahead v s p fd o a low e h =
    let kind : kind_of fd ≡ Ahead = cond-true (nat_lt fd 4) Ahead _ (lt-ltb fd 4 low) in
    let k : (nat_le (slice_index a 1) 8
    && nat_le (slice_index a 0 + slice_index a 1) (open_blocks v (s.things.file p fd)))
    ≡ true =
    subst (λ (q : PointKind). accepted_by q s (args_by Ahead v s.things p fd) a ≡ true) kind h in
    let parts = and_parts (nat_le (slice_index a 1) 8)
    (nat_le (slice_index a 0 + slice_index a 1) (open_blocks v (s.things.file p fd))) k in (
      leb-true (slice_index a 1) 8 parts.0,
      leb-true (slice_index a 0 + slice_index a 1) (blocks_of v o.file)
          (subst (λ x. nat_le (slice_index a 0 + slice_index a 1) (open_blocks v x)
          ≡ true) e parts.1),
    )

-- the answer of the second piece
second_right : (v : World) (s : Objects) (p fd i off len : ℕ) (o : OpenRow)
    (answer : Option (List ℕ)) (a : List ℕ) → fd < 4 → s.things.file p fd ≡ Some o →
    IsRightAnswer s (read_ask 1 v s.things p fd i off len) answer → answer ≡ Some a →
    (slice_index a 1 ≤ 8) × (slice_index a 0 + slice_index a 1 ≤ blocks_of v o.file)
second_right v s p fd i off len o None a low e h same = cc
second_right v s p fd i off len o (Some x) a low e h same =
    accepted_ahead v s p fd o a low e (let one : x ≡ a = cc in
    subst (λ (q : List ℕ). accepted_by (kind_of fd) s (args_by Ahead v s.things p fd) q
    ≡ true) one h)

-- what a piece of a read asks for
pub read_ready : (n : ℕ) (v : World) (images : ImageTable) (s : Objects) (blocks : Blocks)
    (p fd i off len : ℕ) (o : OpenRow) (answer : Option (List ℕ)) (io : List Bool) →
    PieceReady (Read fd i off len) n v images s p answer → HasWholeBlocks v blocks →
    s.things.file p fd ≡ Some o → ReadReady n v s blocks i off len o p answer io
read_ready zero v images s blocks p fd i off len o answer io h whole e = record {
  first = λ b z k. fetched v s blocks p b answer io h.store h.caller whole
      (file_block_is v (Some o) i off len b s.things.cache h.store.world h.disk k)
      (file_block v (s.things.file p fd) i off len) (ap (λ x. file_block v x i off len) e
      ∙ k) h.right;
  second = λ a z k. absurd (omega arith);
  third = λ b z k. absurd (omega arith);
  some = λ z. absurd (omega arith);
}
read_ready (suc zero) v images s blocks p fd i off len o answer io h whole e = record {
  first = λ b z k. absurd (omega arith);
  second = λ a z k. second_right v s p fd i off len o answer a
      (read_granted v images p fd i off len h.granted) e h.right k;
  third = λ b z k. absurd (omega arith);
  some = λ z. absurd (omega arith);
}
read_ready (suc (suc n)) v images s blocks p fd i off len o answer io h whole e =
    let some = some_ahead (suc (suc n)) (s.things.file p fd) o
    (and_parts (nat_lt fd 4) (nat_le (suc (suc n)) 2
    && read_fits (suc (suc n)) (s.things.file p fd)) h.fits).1 e (omega arith) in record {
      first = λ b z k. absurd (omega arith);
      second = λ a z k. absurd (omega arith);
      third = λ b z k. fetched_ahead v s blocks p b answer io h.store h.caller whole
          (ahead_block_is v o b s.things.cache h.store.world h.disk
          (h.store.files p fd o e).1 some k)
          (ahead_block v (s.things.file p fd)) (ap (λ x. ahead_block v x) e ∙ k) h.right;
      some = λ z. some;
    }
