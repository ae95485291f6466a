-- Premises of the laws that can't be left out: for each the smallest example in which the law would be false.
use Rattle.std.specs.Prelude.{◌≡◌, ℕ, ◌≤◌, ◌==◌, Bool, cond, nat_lt, List, [], ◌∷◌, ◌++◌, codes}
use Rattle.std.specs.Prelude.{replicate, Option, Some, None, true, false}
use Rattle.std.proofs.Common.{arith, refl, ap, subst, inl, inr}
use Rattle.std.proofs.lemmas.Bool.{cases_eq}
use Rattle.std.proofs.lemmas.List.{length-replicate}
use Rattle.script_model.specs.declared.Event.TheVariants.{Sys}
use Rattle.script_model.specs.declared.Note.{Note}
use Rattle.script_model.specs.declared.Note.TheVariants.{Refused, Ran}
use Rattle.script_model.specs.declared.Refusal.TheVariants.{Busy}
use Rattle.script_model.specs.World.{World, Blocks}
use Rattle.script_model.specs.Objects.{Objects, Accounts, FrameValue}
use Rattle.script_model.specs.Locks.{untouched}
use Rattle.script_model.specs.Directory.{Disk, directory_of}
use Rattle.script_model.specs.declared.Keys.{Keys}
use Rattle.script_model.specs.Levels.{Level, Config}
use Rattle.script_model.specs.GraftStep.{micro}
use Rattle.script_model.specs.Kernel.{Call, Kernel, Run, joins, with_call}
use Rattle.script_model.specs.Opening.{opening_things, opening_kernel}
use Rattle.script_model.specs.Session.{Session, first_setup, world_of, session_after, whole}
use Rattle.script_model.specs.Sound.{IsSoundKernel, HasWholeBlocks}
use Rattle.script_model.specs.declared.SysCall.{SysCall}
use Rattle.script_model.specs.declared.SysCall.TheVariants.{Sync}
use Rattle.script_model.specs.Events.{event}
use Rattle.script_model.specs.Fetch.{dirty_value}
use Rattle.script_model.specs.Meaning.{stage}
use Rattle.script_model.specs.Pieces.{plain_calls, piece_of}
use Rattle.call_laws.specs.Ledgers.{at_other}
use Rattle.call_laws.specs.PlainLaws.{laws_of_plain}
use Rattle.kernel_laws.proofs.OpeningLemmas.{opening_kernel_is_sound}
use Rattle.graft_laws.specs.Kernels.{IsSoundRun}
use Rattle.graft_laws.proofs.SettleSoundLemmas.{joined_call_sound}
use Rattle.graft_laws.specs.Notes.{is_end}
use Rattle.session_laws.specs.Answers.{has_call, AnswersNext, IsAnswered}
use Rattle.session_laws.specs.Sessions.{run_of}
use Rattle.session_laws.specs.Syncs.{WritesBackAlone}

-- a world of the least size
abbrev small_world : World
small_world = record { frames = 2; patience = λ kind. 10; grant = 0; disk_size = 1; directory = []; callable = 15 }

-- keys under which nothing is loaded here
abbrev some_keys : Keys
some_keys = record { first = []; second = None }

-- one is not within none
not_within : 1 ≤ 0 → ⊥
not_within h = omega arith

-- ---- sound kernels

-- a disk without blocks
abbrev no_blocks : Disk
no_blocks = record { size = 0; block = λ i. [] }

-- over it the kernel after boot isn't sound
boots_unsound :
    ((k : Kernel) → (run_of whole some_keys no_blocks (codes "boot" ∷ []) []).kernel ≡ Some k →
    IsSoundKernel whole.meaning k) →
    ⊥
boots_unsound h =
    let k = opening_kernel (world_of first_setup 0 whole.callable (directory_of 0 (no_blocks.block 0))) in
    not_within (h k refl).state.disk.some

-- ---- counts

-- grafts of limit 1 at every point of process 0, without funds
abbrev limited : Accounts
limited =
    record {
      graft = λ q pt. cond (q == 0) (Some (record { image = 0; limit = 1; billed = false; balance = λ k. 0 })) None;
      acct = λ q. record { balance = λ k. 0; spent = λ k. 0 };
    }

-- a level of process 0 at a point, which has taken so many instructions
abbrev counted_level : (point count : ℕ) → Level
counted_level pt n =
    record {
      owner = 0;
      point = pt;
      machine = record { regs = λ r. 0; pc = 0; memory = λ a. 0 };
      count = n;
      touched = untouched;
      args = [];
      records = [];
      kept = opening_things;
    }

-- a level at its limit, asked by one beyond its own
abbrev beyond_limit : Config
beyond_limit =
    record {
      now = record { accounts = limited; things = opening_things };
      levels = counted_level 5 1 ∷ counted_level 6 2 ∷ [];
    }

-- the count of the innermost level
abbrev innermost_count : List Level → ℕ
innermost_count [] = 0
innermost_count (l ∷ ls) = l.count

-- a level that is beyond its limit stays so
beyond_stays : innermost_count (micro small_world (λ slot. None) 0 beyond_limit).config.levels ≡ 2
beyond_stays = refl

-- ---- the clock

-- a session that begins with a kernel whose clock isn't 0
abbrev late_session : Session
late_session =
    record {
      setup = first_setup;
      kernel = Some (record (opening_kernel small_world) { clock = 1 });
      blocks = λ b. [];
      lines = 0;
      events = 0;
      refused = false;
    }

-- the clock of a kernel, if there is one
abbrev clock_in : Option Kernel → ℕ
clock_in None = 0
clock_in (Some k) = k.clock

-- from another session than the first the clock may be beyond the events
late_is_beyond : clock_in (session_after whole some_keys 1 late_session [] []).kernel ≤
    (session_after whole some_keys 1 late_session [] []).events → ⊥
late_is_beyond h = not_within h

-- ---- syncs

-- two frames hold block 0, both dirty, with different bytes
abbrev doubled : Objects
doubled =
    record {
      accounts = limited;
      things = record (opening_things) {
        cache = record {
          frame = λ f. Some (record { owner = 0; block = 0; dirty = nat_lt f 2; mark = 0; bytes = f ∷ [] });
          lru = 0 ∷ 1 ∷ [];
        };
      };
    }

-- what frame 0 holds
abbrev first_value : FrameValue
first_value = record { owner = 0; block = 0; dirty = true; mark = 0; bytes = 0 ∷ [] }

-- after a sync frame 0 is clean, and the disk has what frame 1 held
doubles_lose :
    ((s : Objects) (blocks : Blocks) → WritesBackAlone s blocks (piece_of Sync 0 small_world s blocks 0 None [])) →
    ⊥
doubles_lose h = elim ((h doubled (λ b. [])).frames 0) [
  | inl same ↦ was_dirty (ap dirty_value same)
  | inr written ↦ other_bytes written.value (some_is written.value written.dirty) written.on_disk
]
  where
    was_dirty : None ≡ Some first_value → ⊥
    was_dirty e = cc

    some_is : (v : FrameValue) → Some first_value ≡ Some v →
        v ≡ first_value
    some_is v e = cc

    apart : (xs ys : List ℕ) → xs ≡ 1 ∷ [] → ys ≡ 0 ∷ [] → xs ≡ ys → ⊥
    apart xs ys one none e = grind (arith, one, none, e)

    other_bytes : (v : FrameValue) → v ≡ first_value →
        (piece_of Sync 0 small_world doubled (λ b. []) 0 None []).blocks v.block ≡ v.bytes → ⊥
    other_bytes v is e =
        apart ((piece_of Sync 0 small_world doubled (λ b. []) 0 None []).blocks first_value.block)
        first_value.bytes refl refl
        (subst (λ (x : FrameValue). (piece_of Sync 0 small_world doubled (λ b. []) 0 None []).blocks
        x.block ≡ x.bytes) is e)

-- ---- answers

-- blocks of zeros
abbrev zero_blocks : Blocks
zero_blocks = λ b. replicate 512 0

-- the call of event 1, a `sync` of process 0
abbrev first_call : Call
first_call = record { number = 1; stage = stage Sync 0; marks = None }

-- it has joined the order of a kernel after boot, which hasn't settled yet
abbrev unsettled : Run
unsettled =
    joins 0 (with_call 0 (Some first_call)
    (record { kernel = opening_kernel small_world; blocks = zero_blocks; notes = []; io = [] }))

-- such a kernel is sound
unsettled_sound : IsSoundRun plain_calls unsettled
unsettled_sound =
    joined_call_sound plain_calls laws_of_plain laws_of_plain.need.grafts 1 0 Sync (stage Sync 0)
    (record { kernel = opening_kernel small_world; blocks = zero_blocks; notes = []; io = [] })
    (record {
      kernel = opening_kernel_is_sound plain_calls small_world
          (record {
            frames_some = two_two;
            frames_most = two_most;
            entries = none_few;
            files = λ n r is. absurd cc;
            callable = fifteen;
          })
          (record {
            some = one_one;
            most = one_most;
            files = λ n r is. absurd cc;
            frames = λ f x is. absurd cc;
          });
      blocks = λ b low. length-replicate {A = ℕ} 512 0;
    }) refl refl refl
  where
    two_two : 2 ≤ 2
    two_two = omega arith

    two_most : 2 ≤ 64
    two_most = omega arith

    none_few : 0 ≤ 16
    none_few = omega arith

    fifteen : 15 ≤ 15
    fifteen = omega arith

    one_one : 1 ≤ 1
    one_one = omega arith

    one_most : 1 ≤ 4096
    one_most = omega arith

-- a kernel that doesn't rest: behind the number of instructions nothing is said of its call
unrested_is_silent :
    ((k : Kernel) (blocks : Blocks) (n : ℕ) → IsSoundKernel plain_calls k → HasWholeBlocks k.world blocks →
    ((p : ℕ) → has_call k p n ≡ false) → AnswersNext plain_calls k blocks n) →
    ⊥
unrested_is_silent h =
    let answers = h unsettled.kernel zero_blocks 2 unsettled_sound.kernel unsettled_sound.blocks fresh in
    let told = answers.steps 0 1 [] refl one_one one_most in
    let place = told.stands first_call refl in
    too_many told.before told.behind (Ran 2 0) (Ran 2 told.count) place.0 told.notes place.1
  where
    one_one : 1 ≤ 1
    one_one = omega arith

    one_most : 1 ≤ 65536
    one_most = omega arith

    fresh : (p : ℕ) → has_call unsettled.kernel p 2 ≡ false
    fresh p = elim (cases_eq p 0) [
      | inl same ↦ ap (λ q. has_call unsettled.kernel q 2) same
      | inr ne ↦ ap (λ (x : Option Call). has_call (record (opening_kernel small_world) { call = λ q. x }) p 2)
          (at_other 0 p (Some first_call) (opening_kernel small_world).call ne)
    ]

    -- one note isn't one with another behind it
    too_many : (before behind : List Note) (x y z : Note) → x ∷ [] ≡ before ++ y ∷ behind →
        behind ≡ z ∷ [] → ⊥
    too_many [] behind x y z e f = cc
    too_many (b ∷ []) behind x y z e f = cc
    too_many (b ∷ c ∷ before) behind x y z e f = cc

-- a number that a call in flight has: the answer is a refusal, while a call of that number is in
-- flight
used_number_lies :
    ((k : Kernel) (blocks : Blocks) (n : ℕ) → IsSoundKernel plain_calls k → HasWholeBlocks k.world blocks →
    (p : ℕ) (call : SysCall) (io : List Bool) →
    IsAnswered plain_calls p n (event plain_calls k blocks n (Sys p call) io)) →
    ⊥
used_number_lies h =
    let a = h unsettled.kernel zero_blocks 1 unsettled_sound.kernel unsettled_sound.blocks 0 Sync [] in
    both (is_end a.answer) (ap is_end (same_first a.answer a.once)) a.over
  where
    same_first : (x : Note) → Refused 1 (Busy 1) ∷ [] ≡ x ∷ [] → Refused 1 (Busy 1) ≡ x
    same_first x e = cc

    both : (b : Bool) → true ≡ b → b ≡ false → ⊥
    both b e f = cc
