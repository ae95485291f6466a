-- Worked examples of streams: grafts that change what a stream read gives and what a stream write
-- puts, and what is given and put where they wait, or are dropped.
use Rattle.std.specs.Prelude.{◌≡◌, false, true, [], ◌∷◌, Result, codes, refl}
use Rattle.std.specs.Fmt.{digits}
use Rattle.kernel_data.specs.declared.Op.TheVariants.{Li, Mov, Xor, Ldb, Stb, Call, Trap, Ret}
use Rattle.kernel_data.specs.World.{Image}
use Rattle.kernel_data.specs.Objects.{same_object}
use Rattle.script_model.specs.Images.{LoadFault}
use Rattle.script_model.specs.Boxed.{instr}
use Rattle.kernel_data.specs.Directory.{entries, entry_row, is_usable, sample_directory, sample_block}
use Rattle.worked_examples.specs.Given.{Lines, ImageLine, boxed_image, lines_of, all_calls_run}
use Rattle.worked_examples.specs.WaitingExamples.{at_once}
use Rattle.worked_examples.specs.PortExamples.{gives_back}

-- turns over all bits of the first byte that it was fed, and answers r0 as it was
abbrev pub turns_first : Result Image LoadFault
turns_first =
    boxed_image (instr Li 4 0 0 2048 ∷ instr Ldb 5 4 0 0 ∷ instr Li 6 0 0 255 ∷ instr Xor 5 5 6 0
    ∷ instr Stb 5 4 0 0
    ∷ instr Ret 0 0 0 0 ∷ [])

-- takes lock 3, puts 3 over the first byte that it was fed, and answers r0 as it was
abbrev pub changes_under_lock : Result Image LoadFault
changes_under_lock =
    boxed_image (instr Mov 8 0 0 0 ∷ instr Li 0 0 0 3 ∷ instr Call 0 0 0 12 ∷ instr Li 4 0 0 2048
    ∷ instr Stb 0 4 0 0
    ∷ instr Mov 0 8 0 0 ∷ instr Ret 0 0 0 0 ∷ [])

-- puts 0 over the first byte that it was fed, and traps
abbrev pub changes_and_traps : Result Image LoadFault
changes_and_traps =
    boxed_image (instr Li 4 0 0 2048 ∷ instr Stb 4 4 0 0 ∷ instr Trap 0 0 0 5 ∷ [])

-- asks its reading ahead of descriptor 0, and answers r0 as it was
abbrev pub asks_ahead : Result Image LoadFault
asks_ahead =
    boxed_image (instr Mov 8 0 0 0 ∷ instr Li 0 0 0 0 ∷ instr Call 0 0 0 13 ∷ instr Mov 0 8 0 0
    ∷ instr Ret 0 0 0 0 ∷ [])

-- puts 7 where a graft is fed, and answers that nothing is to be read ahead
abbrev pub puts_7 : Result Image LoadFault
puts_7 =
    boxed_image (instr Li 4 0 0 2048 ∷ instr Li 5 0 0 7 ∷ instr Stb 5 4 0 0 ∷ instr Li 0 0 0 0
    ∷ instr Li 1 0 0 0
    ∷ instr Ret 0 0 0 0 ∷ [])

-- What a graft made of the bytes of a stream write is what a plain read gives; the same graft at
-- the point of stream reads turns it back.
pub changed_write_is_read_back :
    all_calls_run [] (
    Lines (codes "boot\n")
    ∷ ImageLine 0 turns_first
    ∷ Lines (lines_of (
    codes "open 0 alpha" ∷ codes "install 0 15 0 20" ∷ codes "bill 0 15"
    ∷ codes "swrite 0 0 1 3 0f10"
    ∷ codes "step 0 10"
    ∷ codes "read 0 0 1 2 4"
    ∷ codes "install 0 14 0 20" ∷ codes "bill 0 14"
    ∷ codes "sread 0 0 1 3 2"
    ∷ codes "step 0 10"
    ∷ codes "raw"
    ∷ []))
    ∷ [])
    ≡ (
      0,
      lines_of (
          codes "0 boot 8 64 3"
          ∷ codes "1 ok 10 0"
          ∷ codes "2 ok 0" ∷ codes "3 ok" ∷ codes "4 ok"
          ∷ codes "5 graft 0 15 1"
          ∷ codes "5 ok" ∷ codes "6 ran 10"
          ∷ codes "7 data 40f01043" ∷ codes "7 ok"
          ∷ codes "8 ok" ∷ codes "9 ok"
          ∷ codes "10 graft 0 14 1"
          ∷ codes "10 data 0f10" ∷ codes "10 ok" ∷ codes "11 ran 10"
          ∷ codes "12 raw clock 0"
          ∷ codes "12 raw queue 0:20:0"
          ∷ codes "12 raw acct 0 999980 1000000 1000000 20 0 0"
          ∷ codes "12 raw cells 0 0 0 0 0"
          ∷ codes "12 raw open 0 0 alpha 2 8 0 2 0"
          ∷ codes "12 raw graft 0 14 0 20 1 0 0 0"
          ∷ codes "12 raw graft 0 15 0 20 1 0 0 0"
          ∷ codes "12 raw pol 0 1 2"
          ∷ codes "12 raw pol 1 0"
          ∷ codes "12 raw pol 2 0"
          ∷ codes "12 raw lru 0:0:2:1:0"
          ∷ []),
    )
unfolding digits same_object entries entry_row is_usable sample_directory sample_block
changed_write_is_read_back = refl

-- The graft of a stream read waits for a lock that the graft of another process's stream write has
-- taken. When that write goes on to its second piece the reader's graft has the lock, and ends
-- later.
pub transform_waits_and_goes_on :
    all_calls_run [] (
    Lines (codes "boot\n")
    ∷ ImageLine 0 changes_under_lock
    ∷ Lines (lines_of (
    codes "spawn 0" ∷ codes "open 0 alpha" ∷ codes "open 1 alpha"
    ∷ codes "give 0 1 steps 50" ∷ codes "give 0 1 locks 5"
    ∷ codes "install 0 14 0 20" ∷ codes "bill 0 14" ∷ codes "install 1 15 0 20" ∷ codes "bill 1 15"
    ∷ codes "swrite 1 0 2 1 0102"
    ∷ codes "step 1 3"
    ∷ codes "sread 0 0 1 0 2"
    ∷ codes "step 0 9"
    ∷ codes "raw"
    ∷ codes "step 1 9"
    ∷ codes "step 0 9"
    ∷ codes "read 1 0 2 0 4"
    ∷ codes "raw"
    ∷ []))
    ∷ [])
    ≡ (
      0,
      lines_of (
          codes "0 boot 8 64 3"
          ∷ codes "1 ok 9 0"
          ∷ codes "2 ok 1" ∷ codes "3 ok 0" ∷ codes "4 ok 0"
          ∷ codes "5 ok" ∷ codes "6 ok"
          ∷ codes "7 ok" ∷ codes "8 ok" ∷ codes "9 ok" ∷ codes "10 ok"
          ∷ codes "11 graft 1 15 1"
          ∷ codes "12 ran 3" ∷ codes "11 graft 1 15 1"
          ∷ codes "13 graft 0 14 1"
          ∷ codes "14 ran 2" ∷ codes "13 waits Lock(3) 1"
          ∷ codes "15 raw clock 0"
          ∷ codes "15 raw queue 0:20:0 1:20:0"
          ∷ codes "15 raw acct 0 999948 1000000 999995 2 0 0"
          ∷ codes "15 raw acct 1 47 0 4 3 0 1"
          ∷ codes "15 raw cells 0 0 0 0 0"
          ∷ codes "15 raw cells 1 0 0 0 0"
          ∷ codes "15 raw open 0 0 alpha 0 8 0 0 0"
          ∷ codes "15 raw open 1 0 alpha 0 8 0 0 0"
          ∷ codes "15 raw graft 0 14 0 20 1 0 0 0"
          ∷ codes "15 raw graft 1 15 0 20 1 0 0 0"
          ∷ codes "15 raw pol 0 1 2"
          ∷ codes "15 raw pol 1 0"
          ∷ codes "15 raw pol 2 0"
          ∷ codes "15 raw lru 0:0:2:0:0"
          ∷ codes "15 raw call 0 13 waits Lock(3) 1 0 graft 0 14 1"
          ∷ codes "15 raw call 1 11 graft 1 15 1"
          ∷ codes "15 raw level 0 0 0 14 2"
          ∷ codes "15 raw level 1 0 1 15 3"
          ∷ codes "11 ok" ∷ codes "16 ran 6"
          ∷ codes "13 data 033f" ∷ codes "13 ok" ∷ codes "17 ran 6"
          ∷ codes "18 data 5d030260" ∷ codes "18 ok"
          ∷ codes "19 raw clock 0"
          ∷ codes "19 raw queue 0:20:0 1:20:0"
          ∷ codes "19 raw acct 0 999941 1000000 999994 9 0 1"
          ∷ codes "19 raw acct 1 41 0 4 9 0 1"
          ∷ codes "19 raw cells 0 0 0 0 0"
          ∷ codes "19 raw cells 1 0 0 0 0"
          ∷ codes "19 raw open 0 0 alpha 0 8 0 0 0"
          ∷ codes "19 raw open 1 0 alpha 3 8 0 3 0"
          ∷ codes "19 raw graft 0 14 0 20 1 0 0 0"
          ∷ codes "19 raw graft 1 15 0 20 1 0 0 0"
          ∷ codes "19 raw pol 0 1 2"
          ∷ codes "19 raw pol 1 0"
          ∷ codes "19 raw pol 2 0"
          ∷ codes "19 raw lru 0:0:2:0:0 1:1:3:1:0"
          ∷ []),
    )
unfolding digits same_object entries entry_row is_usable sample_directory sample_block
transform_waits_and_goes_on = refl

-- A stream read waits at its point for the account that another call's graft is paid from. It gives
-- the bytes that it read before, though they are written over meanwhile.
pub waiting_read_gives_what_it_read :
    all_calls_run [] (
    Lines (codes "boot\n")
    ∷ ImageLine 0 gives_back
    ∷ ImageLine 1 turns_first
    ∷ Lines (lines_of (
    codes "spawn 0" ∷ codes "spawn 0" ∷ codes "open 0 alpha" ∷ codes "open 2 alpha"
    ∷ codes "install 0 6 0 10" ∷ codes "bill 0 6" ∷ codes "install 0 14 1 20" ∷ codes "bill 0 14"
    ∷ codes "serve 1 0 ff"
    ∷ codes "sread 0 0 0 0 2"
    ∷ codes "write 2 0 0 0 aabb"
    ∷ codes "step 1 2"
    ∷ codes "step 0 10"
    ∷ codes "read 2 0 0 0 2"
    ∷ []))
    ∷ [])
    ≡ (
      0,
      lines_of (
          codes "0 boot 8 64 3"
          ∷ codes "1 ok 2 0" ∷ codes "2 ok 10 0"
          ∷ codes "3 ok 1" ∷ codes "4 ok 2" ∷ codes "5 ok 0" ∷ codes "6 ok 0"
          ∷ codes "7 ok" ∷ codes "8 ok" ∷ codes "9 ok" ∷ codes "10 ok"
          ∷ codes "11 graft 0 6 1"
          ∷ codes "12 waits Acct(0) 1"
          ∷ codes "13 ok"
          ∷ codes "11 data ff" ∷ codes "11 ok 1" ∷ codes "14 ran 2"
          ∷ codes "12 data e020" ∷ codes "12 ok" ∷ codes "15 ran 10"
          ∷ codes "16 data aabb" ∷ codes "16 ok"
          ∷ []),
    )
unfolding digits same_object entries entry_row is_usable sample_directory sample_block
waiting_read_gives_what_it_read = refl

-- The block of a stream read is changed and evicted while the graft runs. When the graft is dropped
-- the bytes of the first piece are given all the same, neither those that the graft made of them
-- nor those that the file has now.
pub drop_after_eviction_gives_what_was_read :
    all_calls_run [] (
    Lines (codes "frames 2\nboot\n")
    ∷ ImageLine 0 changes_and_traps
    ∷ Lines (lines_of (
    codes "spawn 0" ∷ codes "default 0 0 0" ∷ codes "open 0 alpha" ∷ codes "open 1 alpha"
    ∷ codes "install 0 14 0 20" ∷ codes "bill 0 14"
    ∷ codes "sread 0 0 0 0 2"
    ∷ codes "step 0 4"
    ∷ codes "write 1 0 0 0 aabb"
    ∷ codes "read 1 0 1 0 1"
    ∷ codes "read 1 0 2 0 1"
    ∷ codes "raw"
    ∷ codes "step 0 9"
    ∷ codes "read 0 0 0 0 2"
    ∷ []))
    ∷ [])
    ≡ (
      0,
      lines_of (
          codes "0 boot 2 64 3"
          ∷ codes "1 ok 5 0"
          ∷ codes "2 ok 1" ∷ codes "3 ok" ∷ codes "4 ok 0" ∷ codes "5 ok 0"
          ∷ codes "6 ok" ∷ codes "7 ok"
          ∷ codes "8 graft 0 14 1"
          ∷ codes "9 ran 4" ∷ codes "8 graft 0 14 1"
          ∷ codes "10 ok"
          ∷ codes "11 data 3e" ∷ codes "11 ok"
          ∷ codes "12 data 5d" ∷ codes "12 ok"
          ∷ codes "13 raw clock 0"
          ∷ codes "13 raw queue 0:20:0 1:20:0"
          ∷ codes "13 raw acct 0 999996 1000000 1000000 4 0 0"
          ∷ codes "13 raw acct 1 0 0 0 0 0 0"
          ∷ codes "13 raw cells 0 0 0 0 0"
          ∷ codes "13 raw cells 1 0 0 0 0"
          ∷ codes "13 raw open 0 0 alpha 0 8 0 0 0"
          ∷ codes "13 raw open 1 0 alpha 3 8 1 3 0"
          ∷ codes "13 raw graft 0 14 0 20 1 0 0 0"
          ∷ codes "13 raw pol 0 0"
          ∷ codes "13 raw pol 1 0"
          ∷ codes "13 raw pol 2 0"
          ∷ codes "13 raw lru 1:1:2:0:0 0:1:3:0:0"
          ∷ codes "13 raw call 0 8 graft 0 14 1"
          ∷ codes "13 raw level 0 0 0 14 4"
          ∷ codes "8 drop 0 14 C2 5" ∷ codes "8 data 1f20" ∷ codes "8 ok" ∷ codes "14 ran 1"
          ∷ codes "15 data aabb" ∷ codes "15 ok"
          ∷ []),
    )
unfolding digits same_object entries entry_row is_usable sample_directory sample_block
drop_after_eviction_gives_what_was_read = refl

-- Where a frame is to be evicted a stream read asks the point of eviction first and then its own,
-- and a stream write its own first.
pub stream_calls_ask_two_points :
    all_calls_run [] (
    Lines (codes "frames 2\nboot\n")
    ∷ ImageLine 0 at_once
    ∷ ImageLine 1 turns_first
    ∷ Lines (lines_of (
    codes "spawn 0" ∷ codes "default 0 0 0" ∷ codes "open 0 alpha" ∷ codes "open 1 beta"
    ∷ codes "read 1 0 0 0 1"
    ∷ codes "read 1 0 1 0 1"
    ∷ codes "give 0 1 steps 20" ∷ codes "install 1 4 0 10" ∷ codes "bill 1 4"
    ∷ codes "install 0 14 1 20" ∷ codes "bill 0 14" ∷ codes "install 0 15 1 20" ∷ codes "bill 0 15"
    ∷ codes "sread 0 0 0 0 2"
    ∷ codes "step 0 1"
    ∷ codes "step 0 10"
    ∷ codes "swrite 0 0 1 0 0f10"
    ∷ codes "step 0 10"
    ∷ codes "step 0 1"
    ∷ codes "read 0 0 1 0 3"
    ∷ []))
    ∷ [])
    ≡ (
      0,
      lines_of (
          codes "0 boot 2 64 3"
          ∷ codes "1 ok 1 0" ∷ codes "2 ok 10 0"
          ∷ codes "3 ok 1" ∷ codes "4 ok" ∷ codes "5 ok 0" ∷ codes "6 ok 0"
          ∷ codes "7 data 17" ∷ codes "7 ok"
          ∷ codes "8 data 36" ∷ codes "8 ok"
          ∷ codes "9 ok" ∷ codes "10 ok" ∷ codes "11 ok"
          ∷ codes "12 ok" ∷ codes "13 ok" ∷ codes "14 ok" ∷ codes "15 ok"
          ∷ codes "16 graft 1 4 1"
          ∷ codes "17 ran 1" ∷ codes "16 graft 0 14 1"
          ∷ codes "16 data e020" ∷ codes "16 ok" ∷ codes "18 ran 10"
          ∷ codes "19 graft 0 15 1"
          ∷ codes "20 ran 10" ∷ codes "19 graft 1 4 1"
          ∷ codes "19 ok" ∷ codes "21 ran 1"
          ∷ codes "22 data f01040" ∷ codes "22 ok"
          ∷ []),
    )
unfolding digits same_object entries entry_row is_usable sample_directory sample_block
stream_calls_ask_two_points = refl

-- A graft that a stream's graft asks has a segment of its own: what it puts there is none of the
-- bytes that the stream read gives.
pub nested_graft_leaves_the_bytes :
    all_calls_run [] (
    Lines (codes "boot\n")
    ∷ ImageLine 0 asks_ahead
    ∷ ImageLine 1 puts_7
    ∷ Lines (lines_of (
    codes "open 0 alpha"
    ∷ codes "install 0 14 0 20" ∷ codes "bill 0 14" ∷ codes "install 0 0 1 20" ∷ codes "bill 0 0"
    ∷ codes "sread 0 0 0 0 2"
    ∷ codes "step 0 9"
    ∷ codes "step 0 9"
    ∷ []))
    ∷ [])
    ≡ (
      0,
      lines_of (
          codes "0 boot 8 64 3"
          ∷ codes "1 ok 5 0" ∷ codes "2 ok 8 0"
          ∷ codes "3 ok 0"
          ∷ codes "4 ok" ∷ codes "5 ok" ∷ codes "6 ok" ∷ codes "7 ok"
          ∷ codes "8 graft 0 14 1"
          ∷ codes "9 ran 9" ∷ codes "8 graft 0 0 2"
          ∷ codes "8 data 1f20" ∷ codes "8 ok" ∷ codes "10 ran 4"
          ∷ []),
    )
unfolding digits same_object entries entry_row is_usable sample_directory sample_block
nested_graft_leaves_the_bytes = refl

-- A stream write whose call of the disk fails is refused after its point was asked: the file is as
-- it was, and what the graft was charged stays spent.
pub failed_write_keeps_its_charge :
    all_calls_run (false ∷ true ∷ []) (
    Lines (codes "boot\n")
    ∷ ImageLine 0 turns_first
    ∷ Lines (lines_of (
    codes "open 0 alpha" ∷ codes "install 0 15 0 20" ∷ codes "bill 0 15" ∷ codes "default 0 0 0"
    ∷ codes "swrite 0 0 0 0 0f"
    ∷ codes "step 0 10"
    ∷ codes "read 0 0 0 0 1"
    ∷ codes "raw"
    ∷ []))
    ∷ [])
    ≡ (
      0,
      lines_of (
          codes "0 boot 8 64 3"
          ∷ codes "1 ok 10 0"
          ∷ codes "2 ok 0" ∷ codes "3 ok" ∷ codes "4 ok" ∷ codes "5 ok"
          ∷ codes "6 graft 0 15 1"
          ∷ codes "6 E16" ∷ codes "7 ran 10"
          ∷ codes "8 data 1f" ∷ codes "8 ok"
          ∷ codes "9 raw clock 0"
          ∷ codes "9 raw queue 0:20:0"
          ∷ codes "9 raw acct 0 999990 1000000 1000000 10 0 0"
          ∷ codes "9 raw cells 0 0 0 0 0"
          ∷ codes "9 raw open 0 0 alpha 1 8 1 1 0"
          ∷ codes "9 raw graft 0 15 0 20 1 0 0 0"
          ∷ codes "9 raw pol 0 0"
          ∷ codes "9 raw pol 1 0"
          ∷ codes "9 raw pol 2 0"
          ∷ codes "9 raw lru 0:0:1:0:0"
          ∷ []),
    )
unfolding digits same_object entries entry_row is_usable sample_directory sample_block
failed_write_keeps_its_charge = refl
