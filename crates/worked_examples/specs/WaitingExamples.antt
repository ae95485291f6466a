-- Worked examples of waiting, time-outs and failed calls of the disk.
use Rattle.std.specs.Prelude.{◌≡◌, true, false, [], ◌∷◌, Result, codes, refl}
use Rattle.std.specs.Fmt.{digits}
use Rattle.kernel_data.specs.declared.Op.TheVariants.{Li, Mov, Divu, Jmp, Call, Ret}
use Rattle.kernel_data.specs.World.{Image}
use Rattle.kernel_data.specs.Objects.{same_object}
use Rattle.script_model.specs.Images.{LoadFault}
use Rattle.kernel_data.specs.Directory.{entries, entry_row, is_usable, sample_directory, sample_block}
use Rattle.script_model.specs.Boxed.{instr}
use Rattle.worked_examples.specs.Given.{Lines, ImageLine, image, given_run, lines_of}

-- takes lock 3 and spins
abbrev pub spinner : Result Image LoadFault
spinner = image (instr Li 0 0 0 3 ∷ instr Call 0 0 0 12 ∷ instr Jmp 0 0 0 2 ∷ []) []

-- asks its scheduling point, and divides by zero
abbrev pub scheduler : Result Image LoadFault
scheduler = image (instr Mov 8 0 0 0 ∷ instr Mov 9 1 0 0 ∷ instr Call 0 0 0 15 ∷ instr Mov 0 8 0 0
    ∷ instr Mov 1 9 0 0 ∷ instr Li 7 0 0 0 ∷ instr Divu 7 7 7 0 ∷ instr Ret 0 0 0 0 ∷ []) []

-- takes lock 3, and asks its reading ahead of descriptor 0
abbrev pub holder : Result Image LoadFault
holder = image (instr Li 0 0 0 3 ∷ instr Call 0 0 0 12 ∷ instr Li 0 0 0 0 ∷ instr Call 0 0 0 13
    ∷ instr Ret 0 0 0 0 ∷ []) []

-- spins
abbrev pub spin : Result Image LoadFault
spin = image (instr Jmp 0 0 0 0 ∷ []) []

-- reads its nice, and then sets it to 5
abbrev pub sharer : Result Image LoadFault
sharer = image (instr Mov 8 0 0 0 ∷ instr Call 0 0 0 2 ∷ instr Li 0 0 0 5 ∷ instr Call 0 0 0 3
    ∷ instr Mov 0 8 0 0 ∷ instr Ret 0 0 0 0 ∷ []) []

-- answers at once what it was given
abbrev pub at_once : Result Image LoadFault
at_once = image (instr Ret 0 0 0 0 ∷ []) []

-- A nested level that holds a lock for too long is dropped alone; its asker goes on with the
-- default.
pub nested_times_out_alone :
    given_run ([]) (
    Lines (codes "boot\n")
    ∷ ImageLine 0 spinner
    ∷ ImageLine 1 scheduler
    ∷ Lines (lines_of (
    codes "spawn 0" ∷ codes "spawn 0" ∷ codes "open 1 alpha" ∷ codes "give 0 1 steps 100"
    ∷ codes "give 0 1 locks 5" ∷ codes "install 1 5 0 50" ∷ codes "bill 1 5"
    ∷ codes "install 1 0 1 50" ∷ codes "bill 1 0" ∷ codes "read 1 0 0 0 1" ∷ codes "step 1 6"
    ∷ codes "lock 2 3" ∷ codes "tick" ∷ codes "tick" ∷ codes "tick" ∷ codes "tick"
    ∷ codes "tick" ∷ codes "tick" ∷ codes "tick" ∷ codes "tick" ∷ codes "tick" ∷ codes "tick"
    ∷ codes "step 1 9" ∷ codes "raw"
    ∷ []))
    ∷ [])
    ≡ (
      0,
      lines_of (
          codes "0 boot 8 64 3" ∷ codes "1 ok 3 0" ∷ codes "2 ok 8 0" ∷ codes "3 ok 1"
          ∷ codes "4 ok 2" ∷ codes "5 ok 0" ∷ codes "6 ok" ∷ codes "7 ok" ∷ codes "8 ok"
          ∷ codes "9 ok" ∷ codes "10 ok" ∷ codes "11 ok" ∷ codes "12 data 1f"
          ∷ codes "12 graft 1 0 1" ∷ codes "13 ran 6" ∷ codes "12 graft 1 5 2"
          ∷ codes "14 waits Lock(3) 1" ∷ codes "15 tick 1" ∷ codes "16 tick 2" ∷ codes "17 tick 3"
          ∷ codes "18 tick 4" ∷ codes "19 tick 5" ∷ codes "20 tick 6" ∷ codes "21 tick 7"
          ∷ codes "22 tick 8" ∷ codes "23 tick 9" ∷ codes "24 tick 10"
          ∷ codes "12 drop 1 5 C13 Lock(3) 2" ∷ codes "14 ok" ∷ codes "12 drop 1 0 C1"
          ∷ codes "12 ok" ∷ codes "25 ran 4" ∷ codes "26 raw clock 10"
          ∷ codes "26 raw queue 0:20:0 1:20:0 2:20:0"
          ∷ codes "26 raw acct 0 999900 1000000 999995 0 0 0" ∷ codes "26 raw acct 1 90 0 4 10 0 1"
          ∷ codes "26 raw acct 2 0 0 0 0 0 0" ∷ codes "26 raw cells 0 0 0 0 0"
          ∷ codes "26 raw cells 1 0 0 0 0" ∷ codes "26 raw cells 2 0 0 0 0"
          ∷ codes "26 raw open 1 0 alpha 1 8 1 3 0" ∷ codes "26 raw pol 0 1 2"
          ∷ codes "26 raw pol 1 0" ∷ codes "26 raw pol 2 0"
          ∷ codes "26 raw lru 0:1:1:0:0 1:1:2:0:0 2:1:3:0:0" ∷ codes "26 raw lock 3 2"
          ∷ []),
    )
unfolding digits same_object entries entry_row is_usable sample_directory sample_block
nested_times_out_alone = refl

-- A time-out drops the level that holds the object, and those inside it with it; the inner one's
-- graft stays.
pub outer_level_that_holds_times_out :
    given_run ([]) (
    Lines (codes "patience lock 2\nboot\n")
    ∷ ImageLine 0 holder
    ∷ ImageLine 1 spin
    ∷ Lines (lines_of (
    codes "spawn 0" ∷ codes "spawn 0" ∷ codes "open 1 alpha" ∷ codes "give 0 1 steps 100"
    ∷ codes "give 0 1 locks 5" ∷ codes "install 1 5 0 50" ∷ codes "bill 1 5"
    ∷ codes "install 1 0 1 50" ∷ codes "bill 1 0" ∷ codes "yield 0" ∷ codes "step 0 6"
    ∷ codes "lock 2 3" ∷ codes "tick" ∷ codes "tick" ∷ codes "bill 1 0" ∷ codes "bill 1 5"
    ∷ []))
    ∷ [])
    ≡ (
      0,
      lines_of (
          codes "0 boot 8 64 3" ∷ codes "1 ok 5 0" ∷ codes "2 ok 1 0" ∷ codes "3 ok 1"
          ∷ codes "4 ok 2" ∷ codes "5 ok 0" ∷ codes "6 ok" ∷ codes "7 ok" ∷ codes "8 ok"
          ∷ codes "9 ok" ∷ codes "10 ok" ∷ codes "11 ok" ∷ codes "12 graft 1 5 1" ∷ codes "13 ran 6"
          ∷ codes "12 graft 1 0 2" ∷ codes "14 waits Lock(3) 0" ∷ codes "15 tick 1"
          ∷ codes "16 tick 2" ∷ codes "12 drop 1 5 C13 Lock(3) 2" ∷ codes "12 ok 1" ∷ codes "14 ok"
          ∷ codes "17 ok" ∷ codes "18 E11"
          ∷ []),
    )
unfolding digits same_object entries entry_row is_usable sample_directory sample_block
outer_level_that_holds_times_out = refl

-- Two grafts that share an object and both want to change it wait for each other, until one times
-- out.
pub two_sharers_upgrade :
    given_run ([]) (
    Lines (codes "boot\n")
    ∷ ImageLine 0 sharer
    ∷ Lines (lines_of (
    codes "spawn 0" ∷ codes "spawn 0" ∷ codes "open 1 alpha" ∷ codes "open 2 alpha"
    ∷ codes "give 0 1 steps 50" ∷ codes "give 0 2 steps 50" ∷ codes "give 0 1 records 5"
    ∷ codes "give 0 2 records 5" ∷ codes "install 1 0 0 20" ∷ codes "install 2 0 0 20"
    ∷ codes "bill 1 0" ∷ codes "bill 2 0" ∷ codes "read 1 0 0 0 1" ∷ codes "read 2 0 0 0 1"
    ∷ codes "step 1 3" ∷ codes "step 2 3" ∷ codes "step 1 1" ∷ codes "step 2 1" ∷ codes "tick"
    ∷ codes "tick" ∷ codes "tick" ∷ codes "tick" ∷ codes "tick" ∷ codes "tick" ∷ codes "tick"
    ∷ codes "tick" ∷ codes "tick" ∷ codes "tick" ∷ codes "step 1 2" ∷ codes "raw"
    ∷ []))
    ∷ [])
    ≡ (
      0,
      lines_of (
          codes "0 boot 8 64 3" ∷ codes "1 ok 6 0" ∷ codes "2 ok 1" ∷ codes "3 ok 2"
          ∷ codes "4 ok 0" ∷ codes "5 ok 0" ∷ codes "6 ok" ∷ codes "7 ok" ∷ codes "8 ok"
          ∷ codes "9 ok" ∷ codes "10 ok" ∷ codes "11 ok" ∷ codes "12 ok" ∷ codes "13 ok"
          ∷ codes "14 data 1f" ∷ codes "14 graft 1 0 1" ∷ codes "15 data 1f"
          ∷ codes "15 graft 2 0 1" ∷ codes "16 ran 3" ∷ codes "14 graft 1 0 1" ∷ codes "17 ran 3"
          ∷ codes "15 graft 2 0 1" ∷ codes "18 ran 0" ∷ codes "14 waits Queue 2" ∷ codes "19 ran 0"
          ∷ codes "15 waits Queue 1" ∷ codes "20 tick 1" ∷ codes "21 tick 2" ∷ codes "22 tick 3"
          ∷ codes "23 tick 4" ∷ codes "24 tick 5" ∷ codes "25 tick 6" ∷ codes "26 tick 7"
          ∷ codes "27 tick 8" ∷ codes "28 tick 9" ∷ codes "29 tick 10"
          ∷ codes "15 drop 2 0 C13 Queue 1" ∷ codes "15 ok" ∷ codes "14 ok" ∷ codes "30 ran 2"
          ∷ codes "31 raw clock 10" ∷ codes "31 raw queue 0:20:0 1:5:0 2:20:0"
          ∷ codes "31 raw acct 0 999900 999990 1000000 0 0 0" ∷ codes "31 raw acct 1 44 4 0 6 1 0"
          ∷ codes "31 raw acct 2 47 5 0 3 0 0" ∷ codes "31 raw cells 0 0 0 0 0"
          ∷ codes "31 raw cells 1 0 0 0 0" ∷ codes "31 raw cells 2 0 0 0 0"
          ∷ codes "31 raw open 1 0 alpha 1 8 1 3 0" ∷ codes "31 raw open 2 0 alpha 1 8 1 3 0"
          ∷ codes "31 raw graft 1 0 0 20 1 0 0 0" ∷ codes "31 raw pol 0 1 2"
          ∷ codes "31 raw pol 1 0" ∷ codes "31 raw pol 2 0"
          ∷ codes "31 raw lru 0:1:1:0:0 1:2:2:0:0 2:2:3:0:0"
          ∷ []),
    )
unfolding digits same_object entries entry_row is_usable sample_directory sample_block
two_sharers_upgrade = refl

-- A waiter whose blocker changed counts from 0 again.
pub new_blocker_starts_count_again :
    given_run ([]) (
    Lines (codes "frames 2\nboot\n")
    ∷ ImageLine 0 at_once
    ∷ Lines (lines_of (
    codes "spawn 0" ∷ codes "spawn 0" ∷ codes "spawn 0" ∷ codes "default 0 0 0"
    ∷ codes "open 1 beta" ∷ codes "open 0 alpha" ∷ codes "open 2 gamma" ∷ codes "open 3 gamma"
    ∷ codes "read 1 0 0 0 1" ∷ codes "read 1 0 1 0 1" ∷ codes "give 0 1 steps 100"
    ∷ codes "install 1 4 0 50" ∷ codes "bill 1 4" ∷ codes "read 0 0 0 0 1"
    ∷ codes "read 2 0 0 0 1" ∷ codes "read 3 0 1 0 1" ∷ codes "tick" ∷ codes "tick"
    ∷ codes "tick" ∷ codes "tick" ∷ codes "tick" ∷ codes "tick" ∷ codes "tick" ∷ codes "tick"
    ∷ codes "tick" ∷ codes "step 0 1" ∷ codes "tick" ∷ codes "raw" ∷ codes "step 2 1"
    ∷ []))
    ∷ [])
    ≡ (
      0,
      lines_of (
          codes "0 boot 2 64 3" ∷ codes "1 ok 1 0" ∷ codes "2 ok 1" ∷ codes "3 ok 2"
          ∷ codes "4 ok 3" ∷ codes "5 ok" ∷ codes "6 ok 0" ∷ codes "7 ok 0" ∷ codes "8 ok 0"
          ∷ codes "9 ok 0" ∷ codes "10 data 17" ∷ codes "10 ok" ∷ codes "11 data 36" ∷ codes "11 ok"
          ∷ codes "12 ok" ∷ codes "13 ok" ∷ codes "14 ok" ∷ codes "15 graft 1 4 1"
          ∷ codes "16 waits Cache 0" ∷ codes "17 waits Cache 0" ∷ codes "18 tick 1"
          ∷ codes "19 tick 2" ∷ codes "20 tick 3" ∷ codes "21 tick 4" ∷ codes "22 tick 5"
          ∷ codes "23 tick 6" ∷ codes "24 tick 7" ∷ codes "25 tick 8" ∷ codes "26 tick 9"
          ∷ codes "15 data 1f" ∷ codes "15 ok" ∷ codes "27 ran 1" ∷ codes "28 tick 10"
          ∷ codes "29 raw clock 10" ∷ codes "29 raw queue 0:20:0 1:20:0 2:20:0 3:20:0"
          ∷ codes "29 raw acct 0 999900 1000000 1000000 0 0 0" ∷ codes "29 raw acct 1 99 0 0 1 0 0"
          ∷ codes "29 raw acct 2 0 0 0 0 0 0" ∷ codes "29 raw acct 3 0 0 0 0 0 0"
          ∷ codes "29 raw cells 0 0 0 0 0" ∷ codes "29 raw cells 1 0 0 0 0"
          ∷ codes "29 raw cells 2 0 0 0 0" ∷ codes "29 raw cells 3 0 0 0 0"
          ∷ codes "29 raw open 0 0 alpha 1 8 1 1 0" ∷ codes "29 raw open 1 0 beta 2 8 1 2 0"
          ∷ codes "29 raw open 2 0 gamma 0 8 0 0 0" ∷ codes "29 raw open 3 0 gamma 0 8 0 0 0"
          ∷ codes "29 raw graft 1 4 0 50 1 0 0 0" ∷ codes "29 raw pol 0 0" ∷ codes "29 raw pol 1 0"
          ∷ codes "29 raw pol 2 0" ∷ codes "29 raw lru 1:1:10:0:0 0:0:1:0:0"
          ∷ codes "29 raw call 2 16 graft 1 4 1" ∷ codes "29 raw call 3 17 waits Cache 2 1"
          ∷ codes "29 raw level 2 0 1 4 0" ∷ codes "16 data ef" ∷ codes "17 data 0e" ∷ codes "16 ok"
          ∷ codes "17 ok" ∷ codes "30 ran 1"
          ∷ []),
    )
unfolding digits same_object entries entry_row is_usable sample_directory sample_block
new_blocker_starts_count_again = refl

-- Who waits too long for a user lock is refused, with the lock and its holder.
pub waiter_for_a_user_lock_times_out :
    given_run ([]) (
    Lines (codes "patience lock 2\nboot\nspawn 0\nlock 0 3\nlock 1 3\ntick\ntick\n")
    ∷ [])
    ≡ (
      0,
      lines_of (
          codes "0 boot 8 64 3" ∷ codes "1 ok 1" ∷ codes "2 ok" ∷ codes "3 waits Lock(3) 0"
          ∷ codes "4 tick 1" ∷ codes "5 tick 2" ∷ codes "3 E17 Lock(3) 0"
          ∷ []),
    )
unfolding digits same_object entries entry_row is_usable sample_directory sample_block
waiter_for_a_user_lock_times_out = refl

-- A read of which the disk's call failed is refused, and leaves cache and file as they were.
pub failed_read_changes_nothing :
    given_run (false ∷ true ∷ false ∷ []) (
    Lines (codes "boot\ndefault 0 0 0\nopen 0 alpha\nread 0 0 0 0 1\nraw\nread 0 0 0 0 1\n")
    ∷ [])
    ≡ (
      0,
      lines_of (
          codes "0 boot 8 64 3" ∷ codes "1 ok" ∷ codes "2 ok 0" ∷ codes "3 E16"
          ∷ codes "4 raw clock 0" ∷ codes "4 raw queue 0:20:0"
          ∷ codes "4 raw acct 0 1000000 1000000 1000000 0 0 0" ∷ codes "4 raw cells 0 0 0 0 0"
          ∷ codes "4 raw open 0 0 alpha 0 8 0 0 0" ∷ codes "4 raw pol 0 0" ∷ codes "4 raw pol 1 0"
          ∷ codes "4 raw pol 2 0" ∷ codes "4 raw lru" ∷ codes "5 data 1f" ∷ codes "5 ok"
          ∷ []),
    )
unfolding digits same_object entries entry_row is_usable sample_directory sample_block
failed_read_changes_nothing = refl

-- A sync of which a call failed keeps the blocks that it wrote before: their frames are clean.
pub failed_sync_keeps_what_it_wrote :
    given_run (false ∷ false ∷ false ∷ false ∷ true ∷ []) (
    Lines (codes
    "boot\ndefault 0 0 0\nopen 0 alpha\nwrite 0 0 0 0 aa\nwrite 0 0 1 0 bb\nsync 0\nraw\nsync 0\n")
    ∷ [])
    ≡ (
      0,
      lines_of (
          codes "0 boot 8 64 3" ∷ codes "1 ok" ∷ codes "2 ok 0" ∷ codes "3 ok" ∷ codes "4 ok"
          ∷ codes "5 E16" ∷ codes "6 raw clock 0" ∷ codes "6 raw queue 0:20:0"
          ∷ codes "6 raw acct 0 1000000 1000000 1000000 0 0 0" ∷ codes "6 raw cells 0 0 0 0 0"
          ∷ codes "6 raw open 0 0 alpha 0 8 0 0 0" ∷ codes "6 raw pol 0 0" ∷ codes "6 raw pol 1 0"
          ∷ codes "6 raw pol 2 0" ∷ codes "6 raw lru 0:0:1:0:0 1:0:2:1:0" ∷ codes "7 ok 1"
          ∷ []),
    )
unfolding digits same_object entries entry_row is_usable sample_directory sample_block
failed_sync_keeps_what_it_wrote = refl

-- A line with an unknown command ends the run, and the lines after it aren't read.
pub unknown_commands_are_refused :
    given_run ([]) (
    Lines (codes "boot\ntick\nrow\ntick\n")
    ∷ [])
    ≡ (2, codes "0 boot 8 64 3\n1 tick 1\nscript 3 S5\n")
unfolding digits same_object entries entry_row is_usable sample_directory sample_block
unknown_commands_are_refused = refl
