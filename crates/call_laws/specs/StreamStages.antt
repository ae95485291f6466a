-- The calls of stream points meet the laws of stages: at which ones a call may stand, and for how
-- long.
use Rattle.std.specs.Prelude.{◌≡◌, ℕ, zero, suc, ◌+◌, ◌-◌, ◌≤◌, ◌<◌, ◌&&◌, Bool, true, false, cond}
use Rattle.std.specs.Prelude.{length, List, Option, Some, None, Ok}
use Rattle.std.proofs.Common.{arith, refl, ap, sym, subst}
use Rattle.std.proofs.lemmas.Bool.Decides.{nat_tests}
use Rattle.kernel_model.specs.declared.Refusal.{Refusal}
use Rattle.kernel_model.specs.declared.Refusal.TheVariants.{BadPoint}
use Rattle.kernel_model.specs.declared.SysCall.{SysCall}
use Rattle.kernel_model.specs.declared.SysCall.TheVariants.{Yield, Read, StreamRead, StreamWrite}
use Rattle.kernel_model.specs.World.{World, ImageTable, Blocks}
use Rattle.kernel_model.specs.Objects.{Objects, Things}
use Rattle.kernel_model.specs.Meaning.{Stage, stage, Answer, Continues}
use Rattle.kernel_model.specs.Early.{begins_unless, call_refusal}
use Rattle.kernel_model.specs.Needs.{file_block}
use Rattle.kernel_model.specs.Pieces.{pieces_left}
use Rattle.kernel_model.specs.Alike.{Extends}
use Rattle.kernel_model.specs.StreamPoints.{WRITE_POINT, is_stream_call, stream_refusal}
use Rattle.kernel_model.specs.StreamPoints.{stream_points, stream_fits, stream_left}
use Rattle.kernel_model.specs.Laws.{StageLaws, IsReady}
use Rattle.call_laws.specs.StreamPlainStages.{plain_table, plain_laws, at_stage, is_own, plain_stage}
use Rattle.call_laws.specs.StreamPlainStages.{plain_ready, in_block, read_carries, write_carries}
use Rattle.call_laws.specs.StreamAskedPoints.{block_below}
use Rattle.call_laws.specs.StreamCarried.{IsSecond, read_goes_on, read_block, write_goes_on}

-- ---- how a call begins

-- a call begins before its first piece
begins_first : (c : SysCall) (refusal : Option Refusal) (t : Stage) →
    begins_unless c refusal ≡ Ok t → stage c 0 ≡ t
begins_first c None t e = cc
begins_first c (Some why) t e = cc

-- a call that begins is one of this table
begins_own : (c : SysCall) (b : Bool) (refusal : Option Refusal) (t : Stage) →
    begins_unless c (cond b refusal (Some BadPoint)) ≡ Ok t → b ≡ true
begins_own c true refusal t e = refl
begins_own c false refusal t e = cc

-- what holds of the first stage of a call holds of that at which it begins
at_beginning : (P : Stage → Type 0) (c : SysCall) (t : Stage) (v : World) (images : ImageTable)
    (p : ℕ) → P (stage c 0) → stream_points.early v images p c ≡ Ok t → P t
at_beginning P c t v images p first e =
    subst P (begins_first c (stream_refusal v images p c) t e) first

-- the stage at which a call begins fits
begins_fitting : (c : SysCall) (t : Stage) (v : World) (images : ImageTable) (p : ℕ) →
    stream_points.early v images p c ≡ Ok t → stream_fits t.call t ≡ true
begins_fitting (StreamRead fd i off len) t v images p e =
    at_beginning (λ x. stream_fits x.call x ≡ true) (StreamRead fd i off len) t v images p refl e
begins_fitting (StreamWrite fd i off given) t v images p e =
    at_beginning (λ x. stream_fits x.call x ≡ true) (StreamWrite fd i off given) t v images p refl e
begins_fitting c t v images p e =
    at_beginning (λ x. stream_fits x.call x ≡ true) c t v images p
    (ap (λ b. b && true)
    (begins_own c (is_stream_call c) (call_refusal WRITE_POINT v images p c) t e)) e

-- a call of this table that begins also begins with more images loaded
begins_more : (c : SysCall) (b : Bool) (v : World) (images more : ImageTable) (p : ℕ) (t : Stage) →
    Extends images more →
    begins_unless c (cond b (call_refusal WRITE_POINT v images p c) (Some BadPoint)) ≡ Ok t →
    begins_unless c (cond b (call_refusal WRITE_POINT v more p c) (Some BadPoint)) ≡ Ok t
begins_more c true v images more p t extends e =
    plain_laws.stages.more_images v images more p c t extends e
begins_more c false v images more p t extends e = cc

-- what is granted is also granted with more images loaded
granted_more : (c : SysCall) (t : Stage) (v : World) (images more : ImageTable) (p : ℕ) →
    Extends images more → stream_points.early v images p c ≡ Ok t →
    stream_points.early v more p c ≡ Ok t
granted_more (StreamRead fd i off len) t v images more p extends e = e
granted_more (StreamWrite fd i off given) t v images more p extends e = e
granted_more c t v images more p extends e =
    begins_more c (is_stream_call c) v images more p t extends e

-- ---- how a call goes on

-- one piece is left at each plain stage of this table
plain_left : (c : SysCall) (n : ℕ) (t : Stage) (m : ℕ) (w : Things) (p : ℕ) → is_own c n ≡ false →
    stream_fits c (at_stage c n t) ≡ true → pieces_left (plain_stage c n t).call m w p ≡ 1
plain_left (StreamRead fd i off len) n t m w p other fits = cc
plain_left (StreamWrite fd i off given) zero t m w p other fits = cc
plain_left (StreamWrite fd i off given) (suc n) t m w p other fits = refl
plain_left Yield n t m w p other fits = cc
plain_left (Read fd i off len) n t m w p other fits = cc
plain_left c n t m w p other fits = refl

-- so a plain piece ends its call
plain_ends : (c : SysCall) (n : ℕ) (t u : Stage) (v : World) (images : ImageTable) (s : Objects)
    (blocks : Blocks) (p : ℕ) (answer : Option Answer) (io : List Bool) → is_own c n ≡ false →
    IsReady stream_points v images s p (at_stage c n t) answer →
    (plain_table.piece v images s blocks p (plain_stage c n t) answer io).after ≡ Continues u → ⊥
plain_ends c n t u v images s blocks p answer io other ready e =
    let x = plain_stage c n t in
    let h = plain_ready c n t v images s p answer other ready in
    let after = (plain_table.piece v images s blocks p x answer io).objects.things in
    let fits = ready.standing.fits in
    let falls : pieces_left x.call u.piece after p < pieces_left x.call x.piece s.things p =
    subst (λ d. pieces_left d u.piece after p < pieces_left x.call x.piece s.things p)
    (plain_laws.stages.same_call_next v images s blocks p x u answer io h e)
    (plain_laws.stages.left_falls v images s blocks p x u answer io h e) in
    let last = plain_left c n t u.piece after p other fits in
    let this = plain_left c n t x.piece s.things p other fits in
    absurd (omega (arith, falls, last, this))

-- what is known of the stage that a piece goes on to: it is one of its call that fits, and fewer
-- pieces are left
record GoesOn (c : SysCall) (n : ℕ) (u : Stage) : Type 0 where
  same : u.call ≡ c
  fits : stream_fits u.call u ≡ true
  fewer : stream_left u.call u.piece < stream_left c n

-- a read goes on to its second piece
read_next : (fd i off len : ℕ) (u : Stage) → off + len ≤ 512 → i < 4096 →
    IsSecond (StreamRead fd i off len) len u → GoesOn (StreamRead fd i off len) 0 u
read_next fd i off len u within low goes =
    let second = goes.second in
    let few = goes.few in
    let fits : stream_fits (StreamRead fd i off len) u ≡ true = grind (arith, nat_tests) in
    let fewer : stream_left (StreamRead fd i off len) u.piece < 2 - 0 = grind (arith, nat_tests) in
    record {
      same = goes.call;
      fits = subst (λ d. stream_fits d u ≡ true) (sym goes.call) fits;
      fewer = subst (λ d. stream_left d u.piece < 2 - 0) (sym goes.call) fewer;
    }

-- so does a write
write_next : (fd i off : ℕ) (given : List ℕ) (u : Stage) → off + length given ≤ 512 →
    IsSecond (StreamWrite fd i off given) (length given) u →
    GoesOn (StreamWrite fd i off given) 0 u
write_next fd i off given u within goes =
    let second = goes.second in
    let few = goes.few in
    let fits : stream_fits (StreamWrite fd i off given) u ≡ true = grind (arith, nat_tests) in
    let fewer : stream_left (StreamWrite fd i off given) u.piece < 2 - 0 =
    grind (arith, nat_tests) in
    record {
      same = goes.call;
      fits = subst (λ d. stream_fits d u ≡ true) (sym goes.call) fits;
      fewer = subst (λ d. stream_left d u.piece < 2 - 0) (sym goes.call) fewer;
    }

-- a piece that goes on goes on to such a stage
goes_on : (c : SysCall) (n : ℕ) (t u : Stage) (v : World) (images : ImageTable) (s : Objects)
    (blocks : Blocks) (p : ℕ) (answer : Option Answer) (io : List Bool) →
    IsReady stream_points v images s p (at_stage c n t) answer →
    (stream_points.piece v images s blocks p (at_stage c n t) answer io).after ≡ Continues u →
    GoesOn c n u
goes_on (StreamRead fd i off len) zero t u v images s blocks p answer io ready e =
    let c = StreamRead fd i off len in
    let r = file_block v (s.things.file p fd) i off len in
    read_next fd i off len u (in_block c fd off len ready.standing.granted).within
    (read_block r c v s blocks p i off len answer io u
    (λ b same. block_below v (s.things.file p fd) i off len b ready.standing.store.world same) e)
    (read_goes_on r c v s blocks p off len answer io u e)
goes_on (StreamRead fd i off len) (suc n) t u v images s blocks p answer io ready e = cc
goes_on (StreamWrite fd i off given) zero t u v images s blocks p answer io ready e =
    let c = StreamWrite fd i off given in
    let within = (in_block c fd off (length given) ready.standing.granted).within in
    write_next fd i off given u within
    (write_goes_on (file_block v (s.things.file p fd) i off (length given)) c s blocks p i off fd
    given answer u (omega (arith, within)) ready.right ready.body e)
goes_on c n t u v images s blocks p answer io ready e =
    absurd (plain_ends c n t u v images s blocks p answer io refl ready e)

-- ---- how many pieces are left

-- of a read or a write that stands before one of its two pieces
two_left : (n : ℕ) → n ≤ 1 → (1 ≤ 2 - n) × (2 - n ≤ 15)
two_left n few = (omega (arith, few), omega (arith, few))

-- 1 to 15 pieces are left
left_some : (c : SysCall) (n : ℕ) (t : Stage) → stream_fits c (at_stage c n t) ≡ true →
    (1 ≤ stream_left c n) × (stream_left c n ≤ 15)
left_some (StreamRead fd i off len) zero t fits = two_left 0 (omega arith)
left_some (StreamRead fd i off len) (suc n) t fits =
    let second = (read_carries fd i off len n t fits).second in
    two_left (suc n) (omega (arith, second))
left_some (StreamWrite fd i off given) zero t fits = two_left 0 (omega arith)
left_some (StreamWrite fd i off given) (suc n) t fits =
    let second = (write_carries fd i off n given t fits).second in
    two_left (suc n) (omega (arith, second))
left_some c n t fits = (omega arith, omega arith)

-- The laws of stages hold of the calls of stream points.
pub stages_of_streams : StageLaws stream_points
stages_of_streams =
    record {
      first = λ v images s p c t e. begins_fitting c t v images p e;
      same_call = λ v images p c t e. at_beginning (λ x. x.call ≡ c) c t v images p refl e;
      next = λ v images s blocks p t u answer io ready e.
          (goes_on t.call t.piece t u v images s blocks p answer io ready e).fits;
      same_call_next = λ v images s blocks p t u answer io ready e.
          (goes_on t.call t.piece t u v images s blocks p answer io ready e).same;
      fits_same = λ v s u p t same. refl;
      more_images = λ v images more p c t extends e. granted_more c t v images more p extends e;
      some_left = λ v images s p t h. left_some t.call t.piece t h.fits;
      left_falls = λ v images s blocks p t u answer io ready e.
          (goes_on t.call t.piece t u v images s blocks p answer io ready e).fewer;
      left_same = λ v s u p t same. refl;
    }
