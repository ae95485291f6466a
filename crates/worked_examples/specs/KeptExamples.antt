-- Worked examples of kept segments: what a graft finds that its earlier call left, what that costs,
-- and what is put back.
use Rattle.std.specs.Prelude.{◌≡◌, List, [], ◌∷◌, Result, codes, refl}
use Rattle.std.specs.Fmt.{digits}
use Rattle.kernel_data.specs.declared.Instr.{Instr}
use Rattle.kernel_data.specs.declared.Op.TheVariants.{Li, Addi, Ldb, Stb, Jnz, Call, Trap, Ret}
use Rattle.kernel_data.specs.World.{Image}
use Rattle.kernel_data.specs.Objects.{same_object}
use Rattle.script_model.specs.Images.{LoadFault}
use Rattle.script_model.specs.Boxed.{instr, boxed_code}
use Rattle.kernel_data.specs.Directory.{entries, entry_row, is_usable, sample_directory, sample_block}
use Rattle.worked_examples.specs.Given.{Lines, ImageLine, image, keeping_image, boxed_image, lines_of, all_calls_run}

-- adds 1 to the first byte of its segment, and gives that byte
abbrev pub counting : List Instr
counting =
    boxed_code (instr Li 4 0 0 0 ∷ instr Ldb 5 4 0 0 ∷ instr Addi 5 5 0 1 ∷ instr Stb 5 4 0 0
    ∷ instr Li 4 0 0 2048 ∷ instr Stb 5 4 0 0
    ∷ instr Li 0 0 0 1 ∷ instr Ret 0 0 0 0 ∷ [])

-- counts from 5, and its segment is kept
abbrev pub counts_on : Result Image LoadFault
counts_on = keeping_image counting (5 ∷ [])

-- counts from 5, and nothing is kept
abbrev pub counts_anew : Result Image LoadFault
counts_anew = image counting (5 ∷ [])

-- adds 1 to the first byte of its segment, which is kept, and answers that so many blocks are to be
-- read ahead from block 0 on
abbrev pub counts_blocks : Result Image LoadFault
counts_blocks =
    keeping_image (boxed_code (instr Li 4 0 0 0 ∷ instr Ldb 1 4 0 0 ∷ instr Addi 1 1 0 1
    ∷ instr Stb 1 4 0 0
    ∷ instr Li 0 0 0 0 ∷ instr Ret 0 0 0 0 ∷ [])) []

-- gives the second byte of where it is fed, and its segment is kept
abbrev pub gives_second : Result Image LoadFault
gives_second =
    keeping_image (boxed_code (instr Li 4 0 0 2049 ∷ instr Ldb 5 4 0 0 ∷ instr Li 4 0 0 2048
    ∷ instr Stb 5 4 0 0
    ∷ instr Li 0 0 0 1 ∷ instr Ret 0 0 0 0 ∷ [])) []

-- sets cell 0 to 9 sixty-four times, and gives no bytes; its segment is kept
abbrev pub sets_64_times : Result Image LoadFault
sets_64_times =
    keeping_image (boxed_code (instr Li 8 0 0 64 ∷ instr Li 0 0 0 0 ∷ instr Li 1 0 0 9
    ∷ instr Call 0 0 0 1 ∷ instr Addi 8 8 0 4294967295 ∷ instr Jnz 8 0 0 1
    ∷ instr Li 0 0 0 0 ∷ instr Ret 0 0 0 0 ∷ [])) []

-- asks its reading ahead of descriptor 0, and gives how many blocks that answers
abbrev pub gives_blocks : Result Image LoadFault
gives_blocks =
    boxed_image (instr Li 0 0 0 0 ∷ instr Call 0 0 0 13 ∷ instr Li 4 0 0 2048 ∷ instr Stb 1 4 0 0
    ∷ instr Li 0 0 0 1
    ∷ instr Ret 0 0 0 0 ∷ [])

-- asks its reading ahead of descriptor 0, and traps
abbrev pub asks_and_traps : Result Image LoadFault
asks_and_traps = boxed_image (instr Li 0 0 0 0 ∷ instr Call 0 0 0 13 ∷ instr Trap 0 0 0 77 ∷ [])

-- The second call of a graft whose segment is kept begins with what the first left there. Each of
-- both costs one of records.
pub second_call_goes_on :
    all_calls_run [] (
    Lines (codes "boot\n")
    ∷ ImageLine 0 counts_on
    ∷ Lines (lines_of (
    codes "install 0 6 0 20" ∷ codes "bill 0 6"
    ∷ codes "serve 0 0 ff"
    ∷ codes "step 0 20"
    ∷ codes "serve 0 0 ff"
    ∷ codes "step 0 20"
    ∷ codes "raw"
    ∷ []))
    ∷ [])
    ≡ (
      0,
      lines_of (
          codes "0 boot 8 64 3"
          ∷ codes "1 ok 14 1"
          ∷ codes "2 ok" ∷ codes "3 ok"
          ∷ codes "4 graft 0 6 1"
          ∷ codes "4 data 06" ∷ codes "4 ok 1" ∷ codes "5 ran 14"
          ∷ codes "6 graft 0 6 1"
          ∷ codes "6 data 07" ∷ codes "6 ok 1" ∷ codes "7 ran 14"
          ∷ codes "8 raw clock 0"
          ∷ codes "8 raw queue 0:20:0"
          ∷ codes "8 raw acct 0 999972 999998 1000000 28 2 0"
          ∷ codes "8 raw cells 0 0 0 0 0"
          ∷ codes "8 raw graft 0 6 0 20 1 0 0 0"
          ∷ codes "8 raw pol 0 1 2"
          ∷ codes "8 raw pol 1 0"
          ∷ codes "8 raw pol 2 0"
          ∷ codes "8 raw lru"
          ∷ []),
    )
unfolding digits same_object entries entry_row is_usable sample_directory sample_block
second_call_goes_on = refl

-- A graft whose image keeps nothing begins with its image's data each time, and pays no records.
pub segment_begins_anew :
    all_calls_run [] (
    Lines (codes "boot\n")
    ∷ ImageLine 0 counts_anew
    ∷ Lines (lines_of (
    codes "install 0 6 0 20" ∷ codes "bill 0 6"
    ∷ codes "serve 0 0 ff"
    ∷ codes "step 0 20"
    ∷ codes "serve 0 0 ff"
    ∷ codes "step 0 20"
    ∷ codes "raw"
    ∷ []))
    ∷ [])
    ≡ (
      0,
      lines_of (
          codes "0 boot 8 64 3"
          ∷ codes "1 ok 14 1"
          ∷ codes "2 ok" ∷ codes "3 ok"
          ∷ codes "4 graft 0 6 1"
          ∷ codes "4 data 06" ∷ codes "4 ok 1" ∷ codes "5 ran 14"
          ∷ codes "6 graft 0 6 1"
          ∷ codes "6 data 06" ∷ codes "6 ok 1" ∷ codes "7 ran 14"
          ∷ codes "8 raw clock 0"
          ∷ codes "8 raw queue 0:20:0"
          ∷ codes "8 raw acct 0 999972 1000000 1000000 28 0 0"
          ∷ codes "8 raw cells 0 0 0 0 0"
          ∷ codes "8 raw graft 0 6 0 20 1 0 0 0"
          ∷ codes "8 raw pol 0 1 2"
          ∷ codes "8 raw pol 1 0"
          ∷ codes "8 raw pol 2 0"
          ∷ codes "8 raw lru"
          ∷ []),
    )
unfolding digits same_object entries entry_row is_usable sample_directory sample_block
segment_begins_anew = refl

-- Of two calls of a graft only the first can pay for what it keeps: at the end of the second the
-- graft is dropped, and gives nothing.
pub unpaid_record_drops_the_graft :
    all_calls_run [] (
    Lines (codes "boot\n")
    ∷ ImageLine 0 counts_on
    ∷ Lines (lines_of (
    codes "install 0 6 0 20" ∷ codes "fund 0 6 steps 40" ∷ codes "fund 0 6 records 1"
    ∷ codes "serve 0 0 ff"
    ∷ codes "step 0 20"
    ∷ codes "serve 0 0 ff"
    ∷ codes "step 0 20"
    ∷ codes "raw"
    ∷ []))
    ∷ [])
    ≡ (
      0,
      lines_of (
          codes "0 boot 8 64 3"
          ∷ codes "1 ok 14 1"
          ∷ codes "2 ok" ∷ codes "3 ok" ∷ codes "4 ok"
          ∷ codes "5 graft 0 6 1"
          ∷ codes "5 data 06" ∷ codes "5 ok 1" ∷ codes "6 ran 14"
          ∷ codes "7 graft 0 6 1"
          ∷ codes "7 drop 0 6 C10" ∷ codes "7 ok 0" ∷ codes "8 ran 14"
          ∷ codes "9 raw clock 0"
          ∷ codes "9 raw queue 0:20:0"
          ∷ codes "9 raw acct 0 999972 999999 1000000 28 1 0"
          ∷ codes "9 raw cells 0 0 0 0 0"
          ∷ codes "9 raw pol 0 1 2"
          ∷ codes "9 raw pol 1 0"
          ∷ codes "9 raw pol 2 0"
          ∷ codes "9 raw lru"
          ∷ []),
    )
unfolding digits same_object entries entry_row is_usable sample_directory sample_block
unpaid_record_drops_the_graft = refl

-- A call that has 64 records can make none for what its graft keeps: the graft is dropped, and what
-- it changed is put back.
pub no_record_is_left_to_keep :
    all_calls_run [] (
    Lines (codes "boot\n")
    ∷ ImageLine 0 sets_64_times
    ∷ Lines (lines_of (
    codes "install 0 6 0 400" ∷ codes "bill 0 6"
    ∷ codes "serve 0 0 ff"
    ∷ codes "step 0 400"
    ∷ codes "peek 0 0"
    ∷ []))
    ∷ [])
    ≡ (
      0,
      lines_of (
          codes "0 boot 8 64 3"
          ∷ codes "1 ok 8 0"
          ∷ codes "2 ok" ∷ codes "3 ok"
          ∷ codes "4 graft 0 6 1"
          ∷ codes "4 drop 0 6 C10" ∷ codes "4 ok 0" ∷ codes "5 ran 323"
          ∷ codes "6 ok 0"
          ∷ []),
    )
unfolding digits same_object entries entry_row is_usable sample_directory sample_block
no_record_is_left_to_keep = refl

-- The record of what a nested graft kept is its asker's when it has completed: the asker's trap
-- puts the segment back, and the next call of the nested graft begins with the older bytes.
pub trap_of_the_asker_puts_the_segment_back :
    all_calls_run [] (
    Lines (codes "boot\n")
    ∷ ImageLine 0 counts_blocks
    ∷ ImageLine 1 gives_blocks
    ∷ ImageLine 2 asks_and_traps
    ∷ Lines (lines_of (
    codes "open 0 alpha"
    ∷ codes "install 0 0 0 20" ∷ codes "bill 0 0" ∷ codes "install 0 7 1 20" ∷ codes "bill 0 7"
    ∷ codes "install 0 6 2 20" ∷ codes "bill 0 6"
    ∷ codes "serve 0 1 ff"
    ∷ codes "step 0 20"
    ∷ codes "serve 0 0 ff"
    ∷ codes "step 0 12"
    ∷ codes "raw"
    ∷ codes "step 0 1"
    ∷ codes "serve 0 1 ff"
    ∷ codes "step 0 20"
    ∷ []))
    ∷ [])
    ≡ (
      0,
      lines_of (
          codes "0 boot 8 64 3"
          ∷ codes "1 ok 10 0" ∷ codes "2 ok 8 0" ∷ codes "3 ok 3 0"
          ∷ codes "4 ok 0"
          ∷ codes "5 ok" ∷ codes "6 ok" ∷ codes "7 ok" ∷ codes "8 ok" ∷ codes "9 ok" ∷ codes "10 ok"
          ∷ codes "11 graft 0 7 1"
          ∷ codes "11 data 01" ∷ codes "11 ok 1" ∷ codes "12 ran 18"
          ∷ codes "13 graft 0 6 1"
          ∷ codes "14 ran 12" ∷ codes "13 graft 0 6 1"
          ∷ codes "15 raw clock 0"
          ∷ codes "15 raw queue 0:20:0"
          ∷ codes "15 raw acct 0 999970 999998 1000000 30 2 0"
          ∷ codes "15 raw cells 0 0 0 0 0"
          ∷ codes "15 raw open 0 0 alpha 0 8 0 0 0"
          ∷ codes "15 raw graft 0 0 0 20 1 0 0 0"
          ∷ codes "15 raw graft 0 6 2 20 1 0 0 0"
          ∷ codes "15 raw graft 0 7 1 20 1 0 0 0"
          ∷ codes "15 raw pol 0 1 2"
          ∷ codes "15 raw pol 1 0"
          ∷ codes "15 raw pol 2 0"
          ∷ codes "15 raw lru"
          ∷ codes "15 raw call 0 13 graft 0 6 1"
          ∷ codes "15 raw level 0 0 0 6 2"
          ∷ codes "15 raw undo 0 0 seg 0 0"
          ∷ codes "13 drop 0 6 C2 77" ∷ codes "13 ok 0" ∷ codes "16 ran 1"
          ∷ codes "17 graft 0 7 1"
          ∷ codes "17 data 02" ∷ codes "17 ok 1" ∷ codes "18 ran 18"
          ∷ []),
    )
unfolding digits same_object entries entry_row is_usable sample_directory sample_block
trap_of_the_asker_puts_the_segment_back = refl

-- A graft that was removed and is installed again begins with its image's data.
pub installed_again_begins_anew :
    all_calls_run [] (
    Lines (codes "boot\n")
    ∷ ImageLine 0 counts_on
    ∷ Lines (lines_of (
    codes "install 0 6 0 20" ∷ codes "bill 0 6"
    ∷ codes "serve 0 0 ff"
    ∷ codes "step 0 20"
    ∷ codes "remove 0 6"
    ∷ codes "install 0 6 0 20" ∷ codes "bill 0 6"
    ∷ codes "serve 0 0 ff"
    ∷ codes "step 0 20"
    ∷ codes "serve 0 0 ff"
    ∷ codes "step 0 20"
    ∷ []))
    ∷ [])
    ≡ (
      0,
      lines_of (
          codes "0 boot 8 64 3"
          ∷ codes "1 ok 14 1"
          ∷ codes "2 ok" ∷ codes "3 ok"
          ∷ codes "4 graft 0 6 1"
          ∷ codes "4 data 06" ∷ codes "4 ok 1" ∷ codes "5 ran 14"
          ∷ codes "6 ok"
          ∷ codes "7 ok" ∷ codes "8 ok"
          ∷ codes "9 graft 0 6 1"
          ∷ codes "9 data 06" ∷ codes "9 ok 1" ∷ codes "10 ran 14"
          ∷ codes "11 graft 0 6 1"
          ∷ codes "11 data 07" ∷ codes "11 ok 1" ∷ codes "12 ran 14"
          ∷ []),
    )
unfolding digits same_object entries entry_row is_usable sample_directory sample_block
installed_again_begins_anew = refl

-- An event is fed over what was kept, and the bytes behind it are those of the call before.
pub event_is_fed_over_what_was_kept :
    all_calls_run [] (
    Lines (codes "boot\n")
    ∷ ImageLine 0 gives_second
    ∷ Lines (lines_of (
    codes "install 0 6 0 20" ∷ codes "bill 0 6"
    ∷ codes "serve 0 0 0a0b"
    ∷ codes "step 0 20"
    ∷ codes "serve 0 0 0c"
    ∷ codes "step 0 20"
    ∷ []))
    ∷ [])
    ≡ (
      0,
      lines_of (
          codes "0 boot 8 64 3"
          ∷ codes "1 ok 10 0"
          ∷ codes "2 ok" ∷ codes "3 ok"
          ∷ codes "4 graft 0 6 1"
          ∷ codes "4 data 0b" ∷ codes "4 ok 1" ∷ codes "5 ran 10"
          ∷ codes "6 graft 0 6 1"
          ∷ codes "6 data 0b" ∷ codes "6 ok 1" ∷ codes "7 ran 10"
          ∷ []),
    )
unfolding digits same_object entries entry_row is_usable sample_directory sample_block
event_is_fed_over_what_was_kept = refl
