-- What stream calls carry from their first piece to their second: the bytes of a read's block, and
-- what came out of the point of a write.
use Rattle.std.specs.Prelude.{◌≡◌, ℕ, ◌+◌, ◌-◌, ◌≤◌, ◌<◌, Bool, true, ◌==◌, length, drop}
use Rattle.std.specs.Prelude.{slice_index, slice_range, List, [], ◌∷◌, Option, Some, None, Result}
use Rattle.std.specs.Prelude.{Ok, Err}
use Rattle.std.proofs.Common.{arith, refl, subst}
use Rattle.std.proofs.lemmas.Bool.Decides.{nat_tests}
use Rattle.std.proofs.lemmas.List.{length-take}
use Rattle.kernel_model.specs.declared.Refusal.{Refusal}
use Rattle.kernel_model.specs.declared.SysCall.{SysCall}
use Rattle.kernel_model.specs.World.{World, Blocks}
use Rattle.kernel_model.specs.Objects.{Objects}
use Rattle.kernel_model.specs.Policies.{Stream, kind_of}
use Rattle.kernel_model.specs.Meaning.{Stage, Answer, Continues, HasWholeBody, registers_of}
use Rattle.kernel_model.specs.Fetch.{Fetched, Got, Failed, fetch, bytes_of}
use Rattle.kernel_model.specs.StreamPoints.{WRITE_POINT, stream_point, stream_taken, stream_fetches}
use Rattle.kernel_model.specs.StreamPoints.{stream_write_asks, stream_changed, through}
use Rattle.kernel_model.specs.Laws.{IsRightAnswer, accepted_by}

-- ---- answers of streams

-- a count that is the same
same_count : (x y : ℕ) → (x == y) ≡ true → x ≡ y
same_count x y h = grind (arith, nat_tests)

-- As many bytes come out of a point of streams as went in, up to a block's: its answer says as
-- many, and gives as many as it says.
pub through_length : (s : Objects) (p pt i off fd : ℕ) (given : List ℕ) (answer : Option Answer) →
    length given ≤ 512 → kind_of pt ≡ Stream →
    IsRightAnswer s (Some (stream_point p pt (length given) i off fd)) (registers_of answer) →
    HasWholeBody answer → length (through answer given) ≡ length given
through_length s p pt i off fd given None few kind right body = refl
through_length s p pt i off fd given (Some a) few kind right body =
    let as_many : slice_index a.registers 0 ≡ length given =
    same_count (slice_index a.registers 0) (length given)
    (subst (λ k. accepted_by k s (length given ∷ i ∷ off ∷ fd ∷ []) a.registers ≡ true) kind right)
    in omega (arith, as_many, few, body)

-- ---- the first piece of a read

-- a stage before the second piece of a call, which carries so many bytes at most
pub record IsSecond (c : SysCall) (most : ℕ) (u : Stage) : Type 0 where
  pub call : u.call ≡ c
  pub second : u.piece ≡ 1
  pub few : length u.bytes ≤ most

-- such a stage, as first pieces leave it
abbrev pub second_stage : SysCall → List ℕ → Stage
second_stage c carried =
    record { call = c; piece = 1; handlers = []; answers = 0; bytes = carried }

-- a stage that a piece goes on to
goes_to : (c : SysCall) (most : ℕ) (x u : Stage) → Continues x ≡ Continues u → IsSecond c most x →
    IsSecond c most u
goes_to c most x u e second =
    let same : x ≡ u = cc in subst (λ (y : Stage). IsSecond c most y) same second

-- a part of a list is no longer than it may be
slice_short : (xs : List ℕ) (off len : ℕ) → length (slice_range xs off (off + len)) ≤ len
slice_short xs off len =
    let l = length-take (off + len - off) (drop off xs) in omega (arith, l)

-- a read goes on to its second piece, once its block is fetched, with as many bytes at most
taken_goes_on : (c : SysCall) (s : Objects) (blocks : Blocks) (off len : ℕ) (x : Fetched)
    (u : Stage) → (stream_taken c s blocks off len x).after ≡ Continues u → IsSecond c len u
taken_goes_on c s blocks off len (Failed calls) u e = cc
taken_goes_on c s blocks off len (Got cache after frame calls) u e =
    goes_to c len (second_stage c (slice_range (bytes_of cache frame) off (off + len))) u e
    (record {
      call = refl;
      second = refl;
      few = slice_short (bytes_of cache frame) off len;
    })

-- so does a read of a block
pub read_goes_on : (r : Result ℕ Refusal) (c : SysCall) (v : World) (s : Objects) (blocks : Blocks)
    (p off len : ℕ) (answer : Option Answer) (io : List Bool) (u : Stage) →
    (stream_fetches r c v s blocks p off len answer io).after ≡ Continues u → IsSecond c len u
read_goes_on (Err why) c v s blocks p off len answer io u e = cc
read_goes_on (Ok b) c v s blocks p off len answer io u e =
    taken_goes_on c s blocks off len
    (fetch v (s.things.pol 1) p b (registers_of answer) s.things.cache blocks io) u e

-- which is one of 4,096
pub read_block : (r : Result ℕ Refusal) (c : SysCall) (v : World) (s : Objects) (blocks : Blocks)
    (p i off len : ℕ) (answer : Option Answer) (io : List Bool) (u : Stage) →
    ((b : ℕ) → r ≡ Ok b → i < 4096) →
    (stream_fetches r c v s blocks p off len answer io).after ≡ Continues u → i < 4096
read_block (Err why) c v s blocks p i off len answer io u low e = cc
read_block (Ok b) c v s blocks p i off len answer io u low e = low b refl

-- ---- the first piece of a write

-- a write goes on to its second piece with what came out of its point, which is no longer than what
-- went in
pub write_goes_on : (r : Result ℕ Refusal) (c : SysCall) (s : Objects) (blocks : Blocks)
    (p i off fd : ℕ) (given : List ℕ) (answer : Option Answer) (u : Stage) → length given ≤ 512 →
    IsRightAnswer s (stream_write_asks p fd i off (length given) r) (registers_of answer) →
    HasWholeBody answer →
    (stream_changed r c s blocks (through answer given)).after ≡ Continues u →
    IsSecond c (length given) u
write_goes_on (Err why) c s blocks p i off fd given answer u few right body e = cc
write_goes_on (Ok b) c s blocks p i off fd given answer u few right body e =
    let as_many = through_length s p WRITE_POINT i off fd given answer few refl right body in
    goes_to c (length given) (second_stage c (through answer given)) u e
    (record { call = refl; second = refl; few = omega (arith, as_many) })
