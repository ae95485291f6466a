-- Worked examples of ports: which handlers an event comes to, what each is fed and gives, and which
-- of them count.
use Rattle.std.specs.Prelude.{◌≡◌, [], ◌∷◌, Result, codes, refl}
use Rattle.std.specs.Fmt.{digits}
use Rattle.kernel_data.specs.declared.Op.TheVariants.{Li, Mov, Addi, Ldb, Stb, Jmp, Call, Ret}
use Rattle.kernel_data.specs.World.{Image}
use Rattle.kernel_data.specs.Objects.{same_object}
use Rattle.script_model.specs.Images.{LoadFault}
use Rattle.script_model.specs.Boxed.{instr}
use Rattle.kernel_data.specs.Directory.{entries, entry_row, is_usable, sample_directory, sample_block}
use Rattle.worked_examples.specs.Given.{Lines, ImageLine, boxed_image, lines_of, all_calls_run}

-- gives the bytes that it was fed
abbrev pub gives_back : Result Image LoadFault
gives_back = boxed_image (instr Mov 0 1 0 0 ∷ instr Ret 0 0 0 0 ∷ [])

-- gives no bytes
abbrev pub gives_none : Result Image LoadFault
gives_none = boxed_image (instr Li 0 0 0 0 ∷ instr Ret 0 0 0 0 ∷ [])

-- adds 1 to the first byte that it was fed, and gives it
abbrev pub first_and_one : Result Image LoadFault
first_and_one =
    boxed_image (instr Li 4 0 0 2048 ∷ instr Ldb 5 4 0 0 ∷ instr Addi 5 5 0 1 ∷ instr Stb 5 4 0 0
    ∷ instr Li 0 0 0 1 ∷ instr Ret 0 0 0 0 ∷ [])

-- sets cell 0 to 9, and says that it gives one byte more than there may be
abbrev pub sets_and_gives_513 : Result Image LoadFault
sets_and_gives_513 =
    boxed_image (instr Li 0 0 0 0 ∷ instr Li 1 0 0 9 ∷ instr Call 0 0 0 1 ∷ instr Li 0 0 0 513
    ∷ instr Ret 0 0 0 0 ∷ [])

-- takes lock 3 and spins
abbrev pub spinner : Result Image LoadFault
spinner = boxed_image (instr Li 0 0 0 3 ∷ instr Call 0 0 0 12 ∷ instr Jmp 0 0 0 2 ∷ [])

-- Of three handlers the second is dropped. It gives nothing, what it changed is put back before who
-- waited for that goes on, and what it was charged stays spent; the third is asked, and two count.
pub dropped_between_two_that_complete :
    all_calls_run [] (
    Lines (codes "boot\n")
    ∷ ImageLine 0 gives_back
    ∷ ImageLine 1 sets_and_gives_513
    ∷ ImageLine 2 first_and_one
    ∷ Lines (lines_of (
    codes "spawn 0" ∷ codes "spawn 0"
    ∷ codes "give 0 1 steps 50" ∷ codes "give 0 1 records 5" ∷ codes "give 0 2 steps 50"
    ∷ codes "install 2 9 0 10" ∷ codes "install 1 9 1 10" ∷ codes "install 0 9 2 20"
    ∷ codes "bill 2 9" ∷ codes "bill 1 9" ∷ codes "bill 0 9"
    ∷ codes "serve 0 3 0a0b"
    ∷ codes "step 0 2"
    ∷ codes "step 0 3"
    ∷ codes "peek 1 0"
    ∷ codes "step 0 2"
    ∷ codes "step 0 20"
    ∷ codes "raw"
    ∷ []))
    ∷ [])
    ≡ (
      0,
      lines_of (
          codes "0 boot 8 64 3"
          ∷ codes "1 ok 2 0" ∷ codes "2 ok 5 0" ∷ codes "3 ok 10 0"
          ∷ codes "4 ok 1" ∷ codes "5 ok 2"
          ∷ codes "6 ok" ∷ codes "7 ok" ∷ codes "8 ok"
          ∷ codes "9 ok" ∷ codes "10 ok" ∷ codes "11 ok"
          ∷ codes "12 ok" ∷ codes "13 ok" ∷ codes "14 ok"
          ∷ codes "15 graft 2 9 1"
          ∷ codes "15 data 0a0b" ∷ codes "16 ran 2" ∷ codes "15 graft 1 9 1"
          ∷ codes "17 ran 3" ∷ codes "15 graft 1 9 1"
          ∷ codes "18 waits Cell(1,0) 0"
          ∷ codes "15 drop 1 9 C12 513 9" ∷ codes "18 ok 0" ∷ codes "19 ran 2"
          ∷ codes "15 graft 0 9 1"
          ∷ codes "15 data 0b" ∷ codes "15 ok 2" ∷ codes "20 ran 10"
          ∷ codes "21 raw clock 0"
          ∷ codes "21 raw queue 0:20:0 1:20:0 2:20:0"
          ∷ codes "21 raw acct 0 999890 999995 1000000 10 0 0"
          ∷ codes "21 raw acct 1 45 4 0 5 1 0"
          ∷ codes "21 raw acct 2 48 0 0 2 0 0"
          ∷ codes "21 raw cells 0 0 0 0 0"
          ∷ codes "21 raw cells 1 0 0 0 0"
          ∷ codes "21 raw cells 2 0 0 0 0"
          ∷ codes "21 raw graft 0 9 2 20 1 0 0 0"
          ∷ codes "21 raw graft 2 9 0 10 1 0 0 0"
          ∷ codes "21 raw pol 0 1 2"
          ∷ codes "21 raw pol 1 0"
          ∷ codes "21 raw pol 2 0"
          ∷ codes "21 raw lru"
          ∷ []),
    )
unfolding digits same_object entries entry_row is_usable sample_directory sample_block
dropped_between_two_that_complete = refl

-- A process that leaves while an event is served waits where its handler is asked just then, and
-- else leaves at once: its handler, though in the list of the call, gives nothing.
pub left_process_gives_nothing :
    all_calls_run [] (
    Lines (codes "boot\n")
    ∷ ImageLine 0 gives_back
    ∷ Lines (lines_of (
    codes "spawn 0" ∷ codes "spawn 0" ∷ codes "spawn 0"
    ∷ codes "give 0 1 steps 10" ∷ codes "give 0 3 steps 10"
    ∷ codes "install 1 8 0 10" ∷ codes "install 2 8 0 10" ∷ codes "install 3 8 0 10"
    ∷ codes "bill 1 8" ∷ codes "bill 3 8"
    ∷ codes "serve 0 2 77"
    ∷ codes "exit 2"
    ∷ codes "exit 1"
    ∷ codes "step 0 2"
    ∷ codes "step 0 2"
    ∷ []))
    ∷ [])
    ≡ (
      0,
      lines_of (
          codes "0 boot 8 64 3"
          ∷ codes "1 ok 2 0"
          ∷ codes "2 ok 1" ∷ codes "3 ok 2" ∷ codes "4 ok 3"
          ∷ codes "5 ok" ∷ codes "6 ok"
          ∷ codes "7 ok" ∷ codes "8 ok" ∷ codes "9 ok"
          ∷ codes "10 ok" ∷ codes "11 ok"
          ∷ codes "12 graft 1 8 1"
          ∷ codes "13 ok"
          ∷ codes "14 waits Acct(1) 0"
          ∷ codes "12 data 77" ∷ codes "14 ok" ∷ codes "15 ran 2" ∷ codes "12 graft 3 8 1"
          ∷ codes "12 data 77" ∷ codes "12 ok 2" ∷ codes "16 ran 2"
          ∷ []),
    )
unfolding digits same_object entries entry_row is_usable sample_directory sample_block
left_process_gives_nothing = refl

-- A call asks whatever stands at a point of its list when it comes to it: here the handler of a
-- process that came meanwhile, with the number of one that left. It is asked in the old place; the
-- next event comes to it last.
pub newcomer_at_a_taken_point_is_asked :
    all_calls_run [] (
    Lines (codes "boot\n")
    ∷ ImageLine 0 gives_back
    ∷ ImageLine 1 first_and_one
    ∷ Lines (lines_of (
    codes "spawn 0" ∷ codes "spawn 0" ∷ codes "spawn 0"
    ∷ codes "give 0 1 steps 90" ∷ codes "give 0 3 steps 90"
    ∷ codes "install 1 8 0 10" ∷ codes "install 2 8 0 10" ∷ codes "install 3 8 0 10"
    ∷ codes "bill 1 8" ∷ codes "bill 3 8"
    ∷ codes "serve 0 2 77"
    ∷ codes "exit 2" ∷ codes "spawn 3"
    ∷ codes "give 3 2 steps 30" ∷ codes "install 2 8 1 20" ∷ codes "bill 2 8"
    ∷ codes "step 0 2"
    ∷ codes "step 0 12"
    ∷ codes "serve 0 2 77"
    ∷ codes "step 0 14"
    ∷ []))
    ∷ [])
    ≡ (
      0,
      lines_of (
          codes "0 boot 8 64 3"
          ∷ codes "1 ok 2 0" ∷ codes "2 ok 10 0"
          ∷ codes "3 ok 1" ∷ codes "4 ok 2" ∷ codes "5 ok 3"
          ∷ codes "6 ok" ∷ codes "7 ok"
          ∷ codes "8 ok" ∷ codes "9 ok" ∷ codes "10 ok"
          ∷ codes "11 ok" ∷ codes "12 ok"
          ∷ codes "13 graft 1 8 1"
          ∷ codes "14 ok" ∷ codes "15 ok 2"
          ∷ codes "16 ok" ∷ codes "17 ok" ∷ codes "18 ok"
          ∷ codes "13 data 77" ∷ codes "19 ran 2" ∷ codes "13 graft 2 8 1"
          ∷ codes "13 data 78" ∷ codes "13 data 77" ∷ codes "13 ok 3" ∷ codes "20 ran 12"
          ∷ codes "21 graft 1 8 1"
          ∷ codes "21 data 77" ∷ codes "21 data 77" ∷ codes "21 data 78"
          ∷ codes "21 ok 3" ∷ codes "22 ran 14"
          ∷ []),
    )
unfolding digits same_object entries entry_row is_usable sample_directory sample_block
newcomer_at_a_taken_point_is_asked = refl

-- Eight handlers fill a port, and nothing is installed for the ninth; at another port it is
-- welcome. Handlers that were dropped still count, and may be put last again. One that is removed,
-- or whose process leaves, makes room.
pub ninth_handler_is_refused :
    all_calls_run [] (
    Lines (codes "boot\n")
    ∷ ImageLine 0 gives_none
    ∷ Lines (lines_of (
    codes "spawn 0" ∷ codes "spawn 0" ∷ codes "spawn 0" ∷ codes "spawn 0"
    ∷ codes "spawn 0" ∷ codes "spawn 0" ∷ codes "spawn 0" ∷ codes "spawn 0"
    ∷ codes "install 0 6 0 10" ∷ codes "install 1 6 0 10" ∷ codes "install 2 6 0 10"
    ∷ codes "install 3 6 0 10" ∷ codes "install 4 6 0 10" ∷ codes "install 5 6 0 10"
    ∷ codes "install 6 6 0 10" ∷ codes "install 7 6 0 10" ∷ codes "install 8 6 0 10"
    ∷ codes "bill 8 6" ∷ codes "install 8 7 0 10"
    ∷ codes "serve 8 0 00"
    ∷ codes "step 8 9"
    ∷ codes "install 8 6 0 10"
    ∷ codes "install 3 6 0 10" ∷ codes "remove 3 6"
    ∷ codes "install 8 6 0 10" ∷ codes "install 3 6 0 10"
    ∷ codes "exit 7" ∷ codes "install 3 6 0 10" ∷ codes "install 3 6 0 10"
    ∷ []))
    ∷ [])
    ≡ (
      0,
      lines_of (
          codes "0 boot 8 64 3"
          ∷ codes "1 ok 2 0"
          ∷ codes "2 ok 1" ∷ codes "3 ok 2" ∷ codes "4 ok 3" ∷ codes "5 ok 4"
          ∷ codes "6 ok 5" ∷ codes "7 ok 6" ∷ codes "8 ok 7" ∷ codes "9 ok 8"
          ∷ codes "10 ok" ∷ codes "11 ok" ∷ codes "12 ok"
          ∷ codes "13 ok" ∷ codes "14 ok" ∷ codes "15 ok"
          ∷ codes "16 ok" ∷ codes "17 ok" ∷ codes "18 E18"
          ∷ codes "19 E11" ∷ codes "20 ok"
          ∷ codes "21 graft 0 6 1"
          ∷ codes "21 drop 0 6 C9" ∷ codes "21 drop 1 6 C9" ∷ codes "21 drop 2 6 C9"
          ∷ codes "21 drop 3 6 C9" ∷ codes "21 drop 4 6 C9" ∷ codes "21 drop 5 6 C9"
          ∷ codes "21 drop 6 6 C9" ∷ codes "21 drop 7 6 C9"
          ∷ codes "21 ok 0" ∷ codes "22 ran 8"
          ∷ codes "23 E18"
          ∷ codes "24 ok" ∷ codes "25 ok"
          ∷ codes "26 ok" ∷ codes "27 E18"
          ∷ codes "28 ok" ∷ codes "29 ok" ∷ codes "30 E10"
          ∷ []),
    )
unfolding digits same_object entries entry_row is_usable sample_directory sample_block
ninth_handler_is_refused = refl

-- An answer of no bytes is one: its line of data has none, and it counts. A handler that is dropped
-- has no such line, and doesn't count.
pub answer_of_no_bytes_counts :
    all_calls_run [] (
    Lines (codes "boot\n")
    ∷ ImageLine 0 gives_none
    ∷ Lines (lines_of (
    codes "spawn 0"
    ∷ codes "install 0 6 0 10" ∷ codes "bill 0 6" ∷ codes "install 1 6 0 10"
    ∷ codes "serve 0 0 ff"
    ∷ codes "step 0 9"
    ∷ []))
    ∷ [])
    ≡ (
      0,
      lines_of (
          codes "0 boot 8 64 3"
          ∷ codes "1 ok 2 0"
          ∷ codes "2 ok 1"
          ∷ codes "3 ok" ∷ codes "4 ok" ∷ codes "5 ok"
          ∷ codes "6 graft 0 6 1"
          ∷ codes "6 data" ∷ codes "6 drop 1 6 C9" ∷ codes "6 ok 1" ∷ codes "7 ran 3"
          ∷ []),
    )
unfolding digits same_object entries entry_row is_usable sample_directory sample_block
answer_of_no_bytes_counts = refl

-- A handler that holds a lock for too long is dropped; who waited for the lock has it, and the
-- event goes on to the next handler.
pub handler_times_out :
    all_calls_run [] (
    Lines (codes "patience lock 2\nboot\n")
    ∷ ImageLine 0 spinner
    ∷ ImageLine 1 gives_back
    ∷ Lines (lines_of (
    codes "spawn 0" ∷ codes "give 0 1 steps 50" ∷ codes "give 0 1 locks 1"
    ∷ codes "install 1 6 0 30" ∷ codes "bill 1 6" ∷ codes "install 0 6 1 30" ∷ codes "bill 0 6"
    ∷ codes "serve 0 0 77"
    ∷ codes "step 0 3"
    ∷ codes "lock 1 3"
    ∷ codes "tick"
    ∷ codes "tick"
    ∷ codes "step 0 9"
    ∷ []))
    ∷ [])
    ≡ (
      0,
      lines_of (
          codes "0 boot 8 64 3"
          ∷ codes "1 ok 3 0" ∷ codes "2 ok 2 0"
          ∷ codes "3 ok 1" ∷ codes "4 ok" ∷ codes "5 ok"
          ∷ codes "6 ok" ∷ codes "7 ok" ∷ codes "8 ok" ∷ codes "9 ok"
          ∷ codes "10 graft 1 6 1"
          ∷ codes "11 ran 3" ∷ codes "10 graft 1 6 1"
          ∷ codes "12 waits Lock(3) 0"
          ∷ codes "13 tick 1"
          ∷ codes "14 tick 2" ∷ codes "10 drop 1 6 C13 Lock(3) 1" ∷ codes "12 ok"
          ∷ codes "10 data 77" ∷ codes "10 ok 1" ∷ codes "15 ran 2"
          ∷ []),
    )
unfolding digits same_object entries entry_row is_usable sample_directory sample_block
handler_times_out = refl
