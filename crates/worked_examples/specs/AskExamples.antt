-- Worked examples of asks: grafts that ask other points, how far that goes, and locks that run out.
use Rattle.std.specs.Prelude.{◌≡◌, ℕ, [], ◌∷◌, Result, codes, refl}
use Rattle.std.specs.Fmt.{digits}
use Rattle.kernel_data.specs.declared.Op.TheVariants.{Li, Mov, Add, Addi, Call, Ret}
use Rattle.kernel_data.specs.World.{Image}
use Rattle.kernel_data.specs.Objects.{same_object}
use Rattle.script_model.specs.Images.{LoadFault}
use Rattle.script_model.specs.Boxed.{instr}
use Rattle.kernel_data.specs.Directory.{entries, entry_row, is_usable, sample_directory, sample_block}
use Rattle.worked_examples.specs.Given.{Lines, ImageLine, image, lines_of, given_run}

-- asks for the reading ahead of this descriptor, and answers what it got
abbrev pub asks_ahead : ℕ → Result Image LoadFault
asks_ahead fd = image (instr Li 0 0 0 fd ∷ instr Call 0 0 0 13 ∷ instr Ret 0 0 0 0 ∷ []) []

-- asks for a frame to evict, and answers it
abbrev pub asks_victim : Result Image LoadFault
asks_victim = image (instr Call 0 0 0 14 ∷ instr Ret 0 0 0 0 ∷ []) []

-- asks for a frame to evict, sets cell 0 to it, and answers what it was given
abbrev pub notes_victim : Result Image LoadFault
notes_victim =
    image (instr Mov 8 0 0 0 ∷ instr Call 0 0 0 14 ∷ instr Mov 1 0 0 0 ∷ instr Li 0 0 0 0
    ∷ instr Call 0 0 0 1
    ∷ instr Mov 0 8 0 0 ∷ instr Ret 0 0 0 0 ∷ []) []

-- answers r2 - 1 + r1: where it is asked with three frames, and no block is to come, frame 2
abbrev pub last_of_three : Result Image LoadFault
last_of_three = image (instr Addi 0 2 0 4294967295 ∷ instr Add 0 0 1 0 ∷ instr Ret 0 0 0 0 ∷ []) []

-- answers what it was given
abbrev pub as_given : Result Image LoadFault
as_given = image (instr Ret 0 0 0 0 ∷ []) []

-- takes the locks 3 and 4
abbrev pub two_locks : Result Image LoadFault
two_locks =
    image (instr Li 0 0 0 3 ∷ instr Call 0 0 0 12 ∷ instr Li 0 0 0 4 ∷ instr Call 0 0 0 12
    ∷ instr Ret 0 0 0 0 ∷ []) []

-- A graft that asks its own point is dropped: its point is asked already.
pub own_point_is_refused :
    given_run [] (
    Lines (codes "boot\n")
    ∷ ImageLine 0 (asks_ahead 0)
    ∷ Lines (lines_of (
    codes "open 0 alpha"
    ∷ codes "install 0 0 0 10"
    ∷ codes "bill 0 0"
    ∷ codes "read 0 0 0 0 1"
    ∷ codes "step 0 5"
    ∷ []))
    ∷ [])
    ≡ (
      0,
      lines_of (
          codes "0 boot 8 64 3"
          ∷ codes "1 ok 3 0"
          ∷ codes "2 ok 0"
          ∷ codes "3 ok"
          ∷ codes "4 ok"
          ∷ codes "5 data 1f"
          ∷ codes "5 graft 0 0 1"
          ∷ codes "5 drop 0 0 C8"
          ∷ codes "5 ok"
          ∷ codes "6 ran 2"
          ∷ []),
    )
unfolding digits same_object entries entry_row is_usable sample_directory sample_block
own_point_is_refused = refl

-- Four levels are the most: the fourth asks a point where a graft stands, and is dropped alone. The
-- three outside it go on with the default answer, and complete.
pub fifth_level_is_too_deep :
    given_run [] (
    Lines (codes "boot\n")
    ∷ ImageLine 0 (asks_ahead 1)
    ∷ ImageLine 1 (asks_ahead 2)
    ∷ ImageLine 2 (asks_ahead 3)
    ∷ ImageLine 3 asks_victim
    ∷ ImageLine 4 as_given
    ∷ Lines (lines_of (
    codes "open 0 alpha" ∷ codes "open 0 alpha" ∷ codes "open 0 alpha" ∷ codes "open 0 alpha"
    ∷ codes "install 0 0 0 10" ∷ codes "install 0 1 1 10" ∷ codes "install 0 2 2 10"
    ∷ codes "install 0 3 3 10"
    ∷ codes "install 0 4 4 10"
    ∷ codes "bill 0 0" ∷ codes "bill 0 1" ∷ codes "bill 0 2" ∷ codes "bill 0 3" ∷ codes "bill 0 4"
    ∷ codes "read 0 0 0 0 1"
    ∷ codes "step 0 20"
    ∷ []))
    ∷ [])
    ≡ (
      0,
      lines_of (
          codes "0 boot 8 64 3"
          ∷ codes "1 ok 3 0" ∷ codes "2 ok 3 0" ∷ codes "3 ok 3 0" ∷ codes "4 ok 2 0"
          ∷ codes "5 ok 1 0"
          ∷ codes "6 ok 0" ∷ codes "7 ok 1" ∷ codes "8 ok 2" ∷ codes "9 ok 3"
          ∷ codes "10 ok" ∷ codes "11 ok" ∷ codes "12 ok" ∷ codes "13 ok" ∷ codes "14 ok"
          ∷ codes "15 ok" ∷ codes "16 ok" ∷ codes "17 ok" ∷ codes "18 ok" ∷ codes "19 ok"
          ∷ codes "20 data 1f"
          ∷ codes "20 graft 0 0 1"
          ∷ codes "20 drop 0 3 C7"
          ∷ codes "20 ok"
          ∷ codes "21 ran 10"
          ∷ []),
    )
unfolding digits same_object entries entry_row is_usable sample_directory sample_block
fifth_level_is_too_deep = refl

-- A graft that has one lock to spend takes a second: it is dropped, and the first stays spent.
pub spent_locks_drop_the_graft :
    given_run [] (
    Lines (codes "boot\n")
    ∷ ImageLine 0 two_locks
    ∷ Lines (lines_of (
    codes "spawn 0"
    ∷ codes "give 0 1 steps 20"
    ∷ codes "give 0 1 locks 1"
    ∷ codes "install 1 5 0 20"
    ∷ codes "bill 1 5"
    ∷ codes "yield 0"
    ∷ codes "step 0 9"
    ∷ codes "raw"
    ∷ []))
    ∷ [])
    ≡ (
      0,
      lines_of (
          codes "0 boot 8 64 3"
          ∷ codes "1 ok 5 0"
          ∷ codes "2 ok 1"
          ∷ codes "3 ok"
          ∷ codes "4 ok"
          ∷ codes "5 ok"
          ∷ codes "6 ok"
          ∷ codes "7 graft 1 5 1"
          ∷ codes "7 drop 1 5 C11"
          ∷ codes "7 ok 1"
          ∷ codes "8 ran 4"
          ∷ codes "9 raw clock 0"
          ∷ codes "9 raw queue 1:20:1 0:20:0"
          ∷ codes "9 raw acct 0 999980 1000000 999999 0 0 0"
          ∷ codes "9 raw acct 1 16 0 0 4 0 1"
          ∷ codes "9 raw cells 0 0 0 0 0"
          ∷ codes "9 raw cells 1 0 0 0 0"
          ∷ codes "9 raw pol 0 1 2"
          ∷ codes "9 raw pol 1 0"
          ∷ codes "9 raw pol 2 0"
          ∷ codes "9 raw lru"
          ∷ []),
    )
unfolding digits same_object entries entry_row is_usable sample_directory sample_block
spent_locks_drop_the_graft = refl

-- Who asks for a frame to evict gets the one of its own frames that was used longest ago: after
-- reads of the blocks 0, 1 and 0 that is frame 1. Without a frame the ask is refused.
pub victim_is_the_oldest_frame :
    given_run [] (
    Lines (codes "boot\n")
    ∷ ImageLine 0 notes_victim
    ∷ Lines (lines_of (
    codes "default 0 0 0"
    ∷ codes "open 0 alpha"
    ∷ codes "install 0 5 0 20"
    ∷ codes "bill 0 5"
    ∷ codes "read 0 0 0 0 1"
    ∷ codes "read 0 0 1 0 1"
    ∷ codes "read 0 0 0 0 1"
    ∷ codes "yield 0"
    ∷ codes "step 0 9"
    ∷ codes "peek 0 0"
    ∷ codes "spawn 0"
    ∷ codes "give 0 1 steps 9"
    ∷ codes "install 1 5 0 20"
    ∷ codes "bill 1 5"
    ∷ codes "yield 0"
    ∷ codes "step 0 9"
    ∷ []))
    ∷ [])
    ≡ (
      0,
      lines_of (
          codes "0 boot 8 64 3"
          ∷ codes "1 ok 7 0"
          ∷ codes "2 ok"
          ∷ codes "3 ok 0"
          ∷ codes "4 ok"
          ∷ codes "5 ok"
          ∷ codes "6 data 1f" ∷ codes "6 ok"
          ∷ codes "7 data 3e" ∷ codes "7 ok"
          ∷ codes "8 data 1f" ∷ codes "8 ok"
          ∷ codes "9 graft 0 5 1"
          ∷ codes "9 ok 0"
          ∷ codes "10 ran 7"
          ∷ codes "11 ok 1"
          ∷ codes "12 ok 1"
          ∷ codes "13 ok"
          ∷ codes "14 ok"
          ∷ codes "15 ok"
          ∷ codes "16 graft 1 5 1"
          ∷ codes "16 drop 1 5 C4 14"
          ∷ codes "16 ok 1"
          ∷ codes "17 ran 2"
          ∷ []),
    )
unfolding digits same_object entries entry_row is_usable sample_directory sample_block
victim_is_the_oldest_frame = refl

-- Where a graft stands at the eviction point, it is asked: with how many frames there are, and no
-- block to come.
pub victim_of_a_nested_graft :
    given_run [] (
    Lines (codes "boot\n")
    ∷ ImageLine 0 notes_victim
    ∷ ImageLine 1 last_of_three
    ∷ Lines (lines_of (
    codes "default 0 0 0"
    ∷ codes "open 0 alpha"
    ∷ codes "install 0 5 0 20"
    ∷ codes "bill 0 5"
    ∷ codes "install 0 4 1 20"
    ∷ codes "bill 0 4"
    ∷ codes "read 0 0 0 0 1"
    ∷ codes "read 0 0 1 0 1"
    ∷ codes "read 0 0 2 0 1"
    ∷ codes "read 0 0 0 0 1"
    ∷ codes "yield 0"
    ∷ codes "step 0 2"
    ∷ codes "step 0 9"
    ∷ codes "peek 0 0"
    ∷ []))
    ∷ [])
    ≡ (
      0,
      lines_of (
          codes "0 boot 8 64 3"
          ∷ codes "1 ok 7 0"
          ∷ codes "2 ok 3 0"
          ∷ codes "3 ok"
          ∷ codes "4 ok 0"
          ∷ codes "5 ok" ∷ codes "6 ok" ∷ codes "7 ok" ∷ codes "8 ok"
          ∷ codes "9 data 1f" ∷ codes "9 ok"
          ∷ codes "10 data 3e" ∷ codes "10 ok"
          ∷ codes "11 data 5d" ∷ codes "11 ok"
          ∷ codes "12 data 1f" ∷ codes "12 ok"
          ∷ codes "13 graft 0 5 1"
          ∷ codes "14 ran 2"
          ∷ codes "13 graft 0 4 2"
          ∷ codes "13 ok 0"
          ∷ codes "15 ran 8"
          ∷ codes "16 ok 2"
          ∷ []),
    )
unfolding digits same_object entries entry_row is_usable sample_directory sample_block
victim_of_a_nested_graft = refl
