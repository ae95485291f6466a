-- Worked examples of grafts: what a drop puts back, what it leaves, and what nested levels do.
use Rattle.std.specs.Prelude.{◌≡◌, ℕ, ◌==◌, cond, List, [], ◌∷◌, Option, None, Some, Result, codes, refl}
use Rattle.std.specs.Fmt.{digits}
use Rattle.kernel_data.specs.declared.Op.TheVariants.{Li, Mov, Divu, Jmp, Jnz, Call, Trap, Ret}
use Rattle.kernel_data.specs.World.{World, Image}
use Rattle.kernel_data.specs.Objects.{Objects, same_object}
use Rattle.script_model.specs.Images.{LoadFault}
use Rattle.kernel_data.specs.Directory.{entries, entry_row, is_usable, sample_directory, sample_block, sample_disk}
use Rattle.kernel_data.specs.declared.Cause.TheVariants.{TooDeep}
use Rattle.script_model.specs.Levels.{Config, drop_level}
use Rattle.script_model.specs.Blocking.{config_of}
use Rattle.script_model.specs.Kernel.{Kernel}
use Rattle.script_model.specs.Pieces.{plain_calls}
use Rattle.script_model.specs.InPlace.{Cut, in_place, undone, store_below}
use Rattle.script_model.specs.Session.{whole, first_session}
use Rattle.script_model.specs.Boxed.{instr}
use Rattle.worked_examples.specs.Given.{Given, Lines, ImageLine, image, no_keys, run_all, given_run, run_of, lines_of}

-- sets cell 0 to 7, then to 9, and divides by zero
abbrev pub twice : Result Image LoadFault
twice = image (instr Li 0 0 0 0 ∷ instr Li 1 0 0 7 ∷ instr Call 0 0 0 1 ∷ instr Li 0 0 0 0
    ∷ instr Li 1 0 0 9 ∷ instr Call 0 0 0 1 ∷ instr Li 2 0 0 0 ∷ instr Divu 3 0 2 0
    ∷ instr Ret 0 0 0 0 ∷ []) []

-- sets the parameter of reading ahead to 5, and divides by zero
abbrev pub tuner : Result Image LoadFault
tuner = image (instr Mov 8 0 0 0 ∷ instr Mov 9 1 0 0 ∷ instr Li 0 0 0 0 ∷ instr Li 1 0 0 0
    ∷ instr Li 2 0 0 5 ∷ instr Call 0 0 0 11 ∷ instr Li 7 0 0 0 ∷ instr Divu 7 7 7 0
    ∷ instr Ret 0 0 0 0 ∷ []) []

-- answers at once what it was given
abbrev pub at_once : Result Image LoadFault
at_once = image (instr Ret 0 0 0 0 ∷ []) []

-- sets cell 0 to 8, and answers what it was given
abbrev pub child : Result Image LoadFault
child = image (instr Mov 8 0 0 0 ∷ instr Mov 9 1 0 0 ∷ instr Li 0 0 0 0 ∷ instr Li 1 0 0 8
    ∷ instr Call 0 0 0 1 ∷ instr Mov 0 8 0 0 ∷ instr Mov 1 9 0 0 ∷ instr Ret 0 0 0 0 ∷ []) []

-- asks its reading ahead of descriptor 0, and traps
abbrev pub parent : Result Image LoadFault
parent = image (instr Li 0 0 0 0 ∷ instr Call 0 0 0 13 ∷ instr Trap 0 0 0 77 ∷ []) []

-- sets cell 0 to 8, and traps
abbrev pub trapping_child : Result Image LoadFault
trapping_child =
    image (instr Li 0 0 0 0 ∷ instr Li 1 0 0 8 ∷ instr Call 0 0 0 1 ∷ instr Trap 0 0 0 9 ∷ []) []

-- sets cell 0 to 5, asks its reading ahead of descriptor 0, and answers what it was given
abbrev pub setter : Result Image LoadFault
setter = image (instr Mov 8 0 0 0 ∷ instr Li 0 0 0 0 ∷ instr Li 1 0 0 5 ∷ instr Call 0 0 0 1
    ∷ instr Li 0 0 0 0 ∷ instr Call 0 0 0 13 ∷ instr Mov 0 8 0 0 ∷ instr Ret 0 0 0 0 ∷ []) []

-- reads cell 0, and divides by zero where that is 0
abbrev pub reader : Result Image LoadFault
reader = image (instr Li 0 0 0 0 ∷ instr Call 0 0 0 0 ∷ instr Jnz 0 0 0 4 ∷ instr Divu 0 0 0 0
    ∷ instr Li 0 0 0 0 ∷ instr Li 1 0 0 0 ∷ instr Ret 0 0 0 0 ∷ []) []

-- asks its reading ahead of descriptor 0, and answers what it was given
abbrev pub asker : Result Image LoadFault
asker = image (instr Mov 8 0 0 0 ∷ instr Li 0 0 0 0 ∷ instr Call 0 0 0 13 ∷ instr Mov 0 8 0 0
    ∷ instr Ret 0 0 0 0 ∷ []) []

-- asks its reading ahead, and sets cell 0 to the count
abbrev pub counter : Result Image LoadFault
counter = image (instr Mov 8 0 0 0 ∷ instr Li 0 0 0 0 ∷ instr Call 0 0 0 13 ∷ instr Li 0 0 0 0
    ∷ instr Call 0 0 0 1 ∷ instr Mov 0 8 0 0 ∷ instr Ret 0 0 0 0 ∷ []) []

-- answers 2
abbrev pub frame_2 : Result Image LoadFault
frame_2 = image (instr Li 0 0 0 2 ∷ instr Ret 0 0 0 0 ∷ []) []

-- answers 3
abbrev pub frame_3 : Result Image LoadFault
frame_3 = image (instr Li 0 0 0 3 ∷ instr Ret 0 0 0 0 ∷ []) []

-- takes lock 3 and spins
abbrev pub spinner : Result Image LoadFault
spinner = image (instr Li 0 0 0 3 ∷ instr Call 0 0 0 12 ∷ instr Jmp 0 0 0 2 ∷ []) []

-- A cell that was changed twice is again what it was first; what the dropped graft was charged
-- stays spent.
pub oldest_value_comes_back :
    given_run ([]) (
    Lines (codes "boot\n")
    ∷ ImageLine 0 twice
    ∷ Lines (lines_of (
    codes "spawn 0" ∷ codes "give 0 1 steps 100" ∷ codes "give 0 1 records 10"
    ∷ codes "poke 1 0 3" ∷ codes "install 1 5 0 100" ∷ codes "bill 1 5" ∷ codes "yield 0"
    ∷ codes "step 0 6" ∷ codes "raw" ∷ codes "step 0 6" ∷ codes "peek 1 0" ∷ codes "raw"
    ∷ []))
    ∷ [])
    ≡ (
      0,
      lines_of (
          codes "0 boot 8 64 3" ∷ codes "1 ok 9 0" ∷ codes "2 ok 1" ∷ codes "3 ok" ∷ codes "4 ok"
          ∷ codes "5 ok" ∷ codes "6 ok" ∷ codes "7 ok" ∷ codes "8 graft 1 5 1" ∷ codes "9 ran 6"
          ∷ codes "8 graft 1 5 1" ∷ codes "10 raw clock 0" ∷ codes "10 raw queue 1:20:0 0:20:0"
          ∷ codes "10 raw acct 0 999900 999990 1000000 0 0 0" ∷ codes "10 raw acct 1 94 8 0 6 2 0"
          ∷ codes "10 raw cells 0 0 0 0 0" ∷ codes "10 raw cells 1 9 0 0 0"
          ∷ codes "10 raw graft 1 5 0 100 1 0 0 0" ∷ codes "10 raw pol 0 1 2"
          ∷ codes "10 raw pol 1 0" ∷ codes "10 raw pol 2 0" ∷ codes "10 raw lru"
          ∷ codes "10 raw call 0 8 graft 1 5 1" ∷ codes "10 raw level 0 0 1 5 6"
          ∷ codes "10 raw undo 0 0 cell 1 0 7" ∷ codes "10 raw undo 0 0 cell 1 0 3"
          ∷ codes "8 drop 1 5 C1" ∷ codes "8 ok 1" ∷ codes "11 ran 2" ∷ codes "12 ok 3"
          ∷ codes "13 raw clock 0" ∷ codes "13 raw queue 1:20:1 0:20:0"
          ∷ codes "13 raw acct 0 999900 999990 1000000 0 0 0" ∷ codes "13 raw acct 1 92 8 0 8 2 0"
          ∷ codes "13 raw cells 0 0 0 0 0" ∷ codes "13 raw cells 1 3 0 0 0"
          ∷ codes "13 raw pol 0 1 2" ∷ codes "13 raw pol 1 0" ∷ codes "13 raw pol 2 0"
          ∷ codes "13 raw lru"
          ∷ []),
    )
unfolding digits same_object entries entry_row is_usable sample_directory sample_block
oldest_value_comes_back = refl

-- The default answer doesn't see what the dropped graft changed: 4 blocks are read ahead, not 5.
pub tuned_parameter_put_back :
    given_run ([]) (
    Lines (codes "boot\ntune 0 0 0 4\n")
    ∷ ImageLine 0 tuner
    ∷ Lines (codes
    "open 0 alpha\ninstall 0 0 0 50\nbill 0 0\nread 0 0 0 0 1\nstep 0 6\nraw\nstep 0 2\nraw\n")
    ∷ [])
    ≡ (
      0,
      lines_of (
          codes "0 boot 8 64 3" ∷ codes "1 ok" ∷ codes "2 ok 9 0" ∷ codes "3 ok 0" ∷ codes "4 ok"
          ∷ codes "5 ok" ∷ codes "6 data 1f" ∷ codes "6 graft 0 0 1" ∷ codes "7 ran 6"
          ∷ codes "6 graft 0 0 1" ∷ codes "8 raw clock 0" ∷ codes "8 raw queue 0:20:0"
          ∷ codes "8 raw acct 0 999994 999999 1000000 6 1 0" ∷ codes "8 raw cells 0 0 0 0 0"
          ∷ codes "8 raw open 0 0 alpha 1 8 1 0 0" ∷ codes "8 raw graft 0 0 0 50 1 0 0 0"
          ∷ codes "8 raw pol 0 1 5" ∷ codes "8 raw pol 1 0" ∷ codes "8 raw pol 2 0"
          ∷ codes "8 raw lru 0:0:1:0:0" ∷ codes "8 raw call 0 6 graft 0 0 1"
          ∷ codes "8 raw level 0 0 0 0 6" ∷ codes "8 raw undo 0 0 tune 0 0 4"
          ∷ codes "6 drop 0 0 C1" ∷ codes "6 ok" ∷ codes "9 ran 2" ∷ codes "10 raw clock 0"
          ∷ codes "10 raw queue 0:20:0" ∷ codes "10 raw acct 0 999992 999999 1000000 8 1 0"
          ∷ codes "10 raw cells 0 0 0 0 0" ∷ codes "10 raw open 0 0 alpha 1 8 1 5 0"
          ∷ codes "10 raw pol 0 1 4" ∷ codes "10 raw pol 1 0" ∷ codes "10 raw pol 2 0"
          ∷ codes "10 raw lru 0:0:1:0:0 1:0:2:0:0 2:0:3:0:0 3:0:4:0:0 4:0:5:0:0"
          ∷ []),
    )
unfolding digits same_object entries entry_row is_usable sample_directory sample_block
tuned_parameter_put_back = refl

-- A graft begins with nothing of its own, and is dropped at its first instruction, which isn't
-- charged.
pub unfunded_graft_is_dropped :
    given_run ([]) (
    Lines (codes "boot\n")
    ∷ ImageLine 0 at_once
    ∷ Lines (codes "spawn 0\ninstall 1 5 0 100\nyield 0\nstep 0 10\nraw\n")
    ∷ [])
    ≡ (
      0,
      lines_of (
          codes "0 boot 8 64 3" ∷ codes "1 ok 1 0" ∷ codes "2 ok 1" ∷ codes "3 ok"
          ∷ codes "4 graft 1 5 1" ∷ codes "4 drop 1 5 C9" ∷ codes "4 ok 1" ∷ codes "5 ran 1"
          ∷ codes "6 raw clock 0" ∷ codes "6 raw queue 1:20:1 0:20:0"
          ∷ codes "6 raw acct 0 1000000 1000000 1000000 0 0 0" ∷ codes "6 raw acct 1 0 0 0 0 0 0"
          ∷ codes "6 raw cells 0 0 0 0 0" ∷ codes "6 raw cells 1 0 0 0 0" ∷ codes "6 raw pol 0 1 2"
          ∷ codes "6 raw pol 1 0" ∷ codes "6 raw pol 2 0" ∷ codes "6 raw lru"
          ∷ []),
    )
unfolding digits same_object entries entry_row is_usable sample_directory sample_block
unfunded_graft_is_dropped = refl

-- The same where its installer has plenty, as long as it isn't billed.
pub new_graft_has_nothing :
    given_run ([]) (
    Lines (codes "boot\n")
    ∷ ImageLine 0 at_once
    ∷ Lines (codes "install 0 5 0 100\nyield 0\nstep 0 10\nbill 0 5\n")
    ∷ [])
    ≡ (
      0,
      lines_of (
          codes "0 boot 8 64 3" ∷ codes "1 ok 1 0" ∷ codes "2 ok" ∷ codes "3 graft 0 5 1"
          ∷ codes "3 drop 0 5 C9" ∷ codes "3 ok 0" ∷ codes "4 ran 1" ∷ codes "5 E11"
          ∷ []),
    )
unfolding digits same_object entries entry_row is_usable sample_directory sample_block
new_graft_has_nothing = refl

-- The records of a nested level that completed are its asker's: its trap undoes them too.
pub nested_completes_then_asker_traps :
    given_run ([]) (
    Lines (codes "boot\n")
    ∷ ImageLine 0 child
    ∷ ImageLine 1 parent
    ∷ Lines (lines_of (
    codes "spawn 0" ∷ codes "open 1 alpha" ∷ codes "give 0 1 steps 100"
    ∷ codes "give 0 1 records 10" ∷ codes "poke 1 0 3" ∷ codes "install 1 0 0 50"
    ∷ codes "fund 1 0 steps 20" ∷ codes "fund 1 0 records 5" ∷ codes "install 1 5 1 50"
    ∷ codes "fund 1 5 steps 20" ∷ codes "yield 0" ∷ codes "step 0 9" ∷ codes "raw"
    ∷ codes "step 0 1" ∷ codes "raw" ∷ codes "step 0 1" ∷ codes "peek 1 0" ∷ codes "raw"
    ∷ []))
    ∷ [])
    ≡ (
      0,
      lines_of (
          codes "0 boot 8 64 3" ∷ codes "1 ok 8 0" ∷ codes "2 ok 3 0" ∷ codes "3 ok 1"
          ∷ codes "4 ok 0" ∷ codes "5 ok" ∷ codes "6 ok" ∷ codes "7 ok" ∷ codes "8 ok"
          ∷ codes "9 ok" ∷ codes "10 ok" ∷ codes "11 ok" ∷ codes "12 ok" ∷ codes "13 graft 1 5 1"
          ∷ codes "14 ran 9" ∷ codes "13 graft 1 0 2" ∷ codes "15 raw clock 0"
          ∷ codes "15 raw queue 1:20:0 0:20:0" ∷ codes "15 raw acct 0 999900 999990 1000000 0 0 0"
          ∷ codes "15 raw acct 1 60 5 0 9 1 0" ∷ codes "15 raw cells 0 0 0 0 0"
          ∷ codes "15 raw cells 1 8 0 0 0" ∷ codes "15 raw open 1 0 alpha 0 8 0 0 0"
          ∷ codes "15 raw graft 1 0 0 50 0 13 4 0" ∷ codes "15 raw graft 1 5 1 50 0 18 0 0"
          ∷ codes "15 raw pol 0 1 2" ∷ codes "15 raw pol 1 0" ∷ codes "15 raw pol 2 0"
          ∷ codes "15 raw lru" ∷ codes "15 raw call 0 13 graft 1 0 2"
          ∷ codes "15 raw level 0 0 1 5 2" ∷ codes "15 raw level 0 1 1 0 7"
          ∷ codes "15 raw undo 0 1 cell 1 0 3" ∷ codes "16 ran 1" ∷ codes "13 graft 1 5 1"
          ∷ codes "17 raw clock 0" ∷ codes "17 raw queue 1:20:0 0:20:0"
          ∷ codes "17 raw acct 0 999900 999990 1000000 0 0 0" ∷ codes "17 raw acct 1 60 5 0 10 1 0"
          ∷ codes "17 raw cells 0 0 0 0 0" ∷ codes "17 raw cells 1 8 0 0 0"
          ∷ codes "17 raw open 1 0 alpha 0 8 0 0 0" ∷ codes "17 raw graft 1 0 0 50 0 12 4 0"
          ∷ codes "17 raw graft 1 5 1 50 0 18 0 0" ∷ codes "17 raw pol 0 1 2"
          ∷ codes "17 raw pol 1 0" ∷ codes "17 raw pol 2 0" ∷ codes "17 raw lru"
          ∷ codes "17 raw call 0 13 graft 1 5 1" ∷ codes "17 raw level 0 0 1 5 2"
          ∷ codes "17 raw undo 0 0 cell 1 0 3" ∷ codes "13 drop 1 5 C2 77" ∷ codes "13 ok 1"
          ∷ codes "18 ran 1" ∷ codes "19 ok 3" ∷ codes "20 raw clock 0"
          ∷ codes "20 raw queue 1:20:1 0:20:0" ∷ codes "20 raw acct 0 999900 999990 1000000 0 0 0"
          ∷ codes "20 raw acct 1 77 5 0 11 1 0" ∷ codes "20 raw cells 0 0 0 0 0"
          ∷ codes "20 raw cells 1 3 0 0 0" ∷ codes "20 raw open 1 0 alpha 0 8 0 0 0"
          ∷ codes "20 raw graft 1 0 0 50 0 12 4 0" ∷ codes "20 raw pol 0 1 2"
          ∷ codes "20 raw pol 1 0" ∷ codes "20 raw pol 2 0" ∷ codes "20 raw lru"
          ∷ []),
    )
unfolding digits same_object entries entry_row is_usable sample_directory sample_block
nested_completes_then_asker_traps = refl

-- What a nested level held is held on after its answer: another process waits for the cell until
-- the asker ends.
pub nested_level_hands_on_what_it_holds :
    given_run ([]) (
    Lines (codes "boot\n")
    ∷ ImageLine 0 child
    ∷ ImageLine 1 parent
    ∷ Lines (lines_of (
    codes "spawn 0" ∷ codes "open 1 alpha" ∷ codes "give 0 1 steps 100"
    ∷ codes "give 0 1 records 10" ∷ codes "poke 1 0 3" ∷ codes "install 1 0 0 50"
    ∷ codes "fund 1 0 steps 20" ∷ codes "fund 1 0 records 5" ∷ codes "install 1 5 1 50"
    ∷ codes "fund 1 5 steps 20" ∷ codes "yield 0" ∷ codes "step 0 10" ∷ codes "poke 1 0 7"
    ∷ codes "step 0 1" ∷ codes "peek 1 0"
    ∷ []))
    ∷ [])
    ≡ (
      0,
      lines_of (
          codes "0 boot 8 64 3" ∷ codes "1 ok 8 0" ∷ codes "2 ok 3 0" ∷ codes "3 ok 1"
          ∷ codes "4 ok 0" ∷ codes "5 ok" ∷ codes "6 ok" ∷ codes "7 ok" ∷ codes "8 ok"
          ∷ codes "9 ok" ∷ codes "10 ok" ∷ codes "11 ok" ∷ codes "12 ok" ∷ codes "13 graft 1 5 1"
          ∷ codes "14 ran 10" ∷ codes "13 graft 1 5 1" ∷ codes "15 waits Cell(1,0) 0"
          ∷ codes "13 drop 1 5 C2 77" ∷ codes "13 ok 1" ∷ codes "15 ok" ∷ codes "16 ran 1"
          ∷ codes "17 ok 7"
          ∷ []),
    )
unfolding digits same_object entries entry_row is_usable sample_directory sample_block
nested_level_hands_on_what_it_holds = refl

-- A dropped nested level's change is undone, and its asker's own is not: the asker goes on and
-- commits it.
pub nested_drop_undoes_its_own_changes :
    given_run ([]) (
    Lines (codes "boot\n")
    ∷ ImageLine 0 trapping_child
    ∷ ImageLine 1 setter
    ∷ Lines (lines_of (
    codes "spawn 0" ∷ codes "open 1 alpha" ∷ codes "give 0 1 steps 100"
    ∷ codes "give 0 1 records 10" ∷ codes "poke 1 0 3" ∷ codes "install 1 0 0 50"
    ∷ codes "bill 1 0" ∷ codes "install 1 5 1 50" ∷ codes "bill 1 5" ∷ codes "yield 0"
    ∷ codes "step 0 9" ∷ codes "step 0 1" ∷ codes "step 0 2" ∷ codes "peek 1 0"
    ∷ []))
    ∷ [])
    ≡ (
      0,
      lines_of (
          codes "0 boot 8 64 3" ∷ codes "1 ok 4 0" ∷ codes "2 ok 8 0" ∷ codes "3 ok 1"
          ∷ codes "4 ok 0" ∷ codes "5 ok" ∷ codes "6 ok" ∷ codes "7 ok" ∷ codes "8 ok"
          ∷ codes "9 ok" ∷ codes "10 ok" ∷ codes "11 ok" ∷ codes "12 graft 1 5 1" ∷ codes "13 ran 9"
          ∷ codes "12 graft 1 0 2" ∷ codes "12 drop 1 0 C2 9" ∷ codes "14 ran 1"
          ∷ codes "12 graft 1 5 1" ∷ codes "12 ok 1" ∷ codes "15 ran 2" ∷ codes "16 ok 5"
          ∷ []),
    )
unfolding digits same_object entries entry_row is_usable sample_directory sample_block
nested_drop_undoes_its_own_changes = refl

-- A dropped nested level lets go of the cell that it read: the cell changes, and the level isn't
-- run again.
pub dropped_level_lets_go_what_it_read :
    given_run ([]) (
    Lines (codes "boot\n")
    ∷ ImageLine 0 reader
    ∷ ImageLine 1 asker
    ∷ Lines (lines_of (
    codes "spawn 0" ∷ codes "open 1 alpha" ∷ codes "give 0 1 steps 100"
    ∷ codes "install 1 0 0 20" ∷ codes "bill 1 0" ∷ codes "install 1 5 1 20"
    ∷ codes "bill 1 5" ∷ codes "yield 0" ∷ codes "step 0 7" ∷ codes "poke 1 0 7"
    ∷ codes "step 0 2" ∷ codes "raw"
    ∷ []))
    ∷ [])
    ≡ (
      0,
      lines_of (
          codes "0 boot 8 64 3" ∷ codes "1 ok 7 0" ∷ codes "2 ok 5 0" ∷ codes "3 ok 1"
          ∷ codes "4 ok 0" ∷ codes "5 ok" ∷ codes "6 ok" ∷ codes "7 ok" ∷ codes "8 ok"
          ∷ codes "9 ok" ∷ codes "10 graft 1 5 1" ∷ codes "10 drop 1 0 C1" ∷ codes "11 ran 7"
          ∷ codes "10 graft 1 5 1" ∷ codes "12 ok" ∷ codes "10 ok 1" ∷ codes "13 ran 2"
          ∷ codes "14 raw clock 0" ∷ codes "14 raw queue 1:20:1 0:20:0"
          ∷ codes "14 raw acct 0 999900 1000000 1000000 0 0 0" ∷ codes "14 raw acct 1 91 0 0 9 0 0"
          ∷ codes "14 raw cells 0 0 0 0 0" ∷ codes "14 raw cells 1 7 0 0 0"
          ∷ codes "14 raw open 1 0 alpha 0 8 0 0 0" ∷ codes "14 raw graft 1 5 1 20 1 0 0 0"
          ∷ codes "14 raw pol 0 1 2" ∷ codes "14 raw pol 1 0" ∷ codes "14 raw pol 2 0"
          ∷ codes "14 raw lru"
          ∷ []),
    )
unfolding digits same_object entries entry_row is_usable sample_directory sample_block
dropped_level_lets_go_what_it_read = refl

-- An ask where no graft stands is answered by default.
pub ask_without_a_graft :
    given_run ([]) (
    Lines (codes "boot\n")
    ∷ ImageLine 0 counter
    ∷ Lines (lines_of (
    codes "spawn 0" ∷ codes "open 1 alpha" ∷ codes "give 0 1 steps 50"
    ∷ codes "give 0 1 records 50" ∷ codes "read 1 0 0 0 1" ∷ codes "install 1 5 0 10"
    ∷ codes "bill 1 5" ∷ codes "yield 0" ∷ codes "step 0 9" ∷ codes "peek 1 0" ∷ codes "raw"
    ∷ []))
    ∷ [])
    ≡ (
      0,
      lines_of (
          codes "0 boot 8 64 3" ∷ codes "1 ok 7 0" ∷ codes "2 ok 1" ∷ codes "3 ok 0" ∷ codes "4 ok"
          ∷ codes "5 ok" ∷ codes "6 data 1f" ∷ codes "6 ok" ∷ codes "7 ok" ∷ codes "8 ok"
          ∷ codes "9 graft 1 5 1" ∷ codes "9 ok 1" ∷ codes "10 ran 7" ∷ codes "11 ok 2"
          ∷ codes "12 raw clock 0" ∷ codes "12 raw queue 1:20:1 0:20:0"
          ∷ codes "12 raw acct 0 999950 999950 1000000 0 0 0" ∷ codes "12 raw acct 1 43 49 0 7 1 0"
          ∷ codes "12 raw cells 0 0 0 0 0" ∷ codes "12 raw cells 1 2 0 0 0"
          ∷ codes "12 raw open 1 0 alpha 1 8 1 3 0" ∷ codes "12 raw graft 1 5 0 10 1 0 0 0"
          ∷ codes "12 raw pol 0 1 2" ∷ codes "12 raw pol 1 0" ∷ codes "12 raw pol 2 0"
          ∷ codes "12 raw lru 0:1:1:0:0 1:1:2:0:0 2:1:3:0:0"
          ∷ []),
    )
unfolding digits same_object entries entry_row is_usable sample_directory sample_block
ask_without_a_graft = refl

-- A refused answer drops the graft; an accepted victim changes places with the candidate in the
-- order of use.
pub victim_of_another_owner :
    given_run ([]) (
    Lines (codes "frames 4\nboot\n")
    ∷ ImageLine 0 frame_2
    ∷ ImageLine 1 frame_3
    ∷ Lines (lines_of (
    codes "spawn 0" ∷ codes "default 0 0 0" ∷ codes "open 0 alpha" ∷ codes "open 1 beta"
    ∷ codes "read 1 0 0 0 1" ∷ codes "read 1 0 1 0 1" ∷ codes "read 0 0 0 0 1"
    ∷ codes "read 1 0 2 0 1" ∷ codes "give 0 1 steps 100" ∷ codes "install 1 4 0 10"
    ∷ codes "bill 1 4" ∷ codes "read 0 0 1 0 1" ∷ codes "step 0 2" ∷ codes "install 1 4 1 10"
    ∷ codes "bill 1 4" ∷ codes "read 0 0 2 0 1" ∷ codes "step 0 2" ∷ codes "raw"
    ∷ []))
    ∷ [])
    ≡ (
      0,
      lines_of (
          codes "0 boot 4 64 3" ∷ codes "1 ok 2 0" ∷ codes "2 ok 2 0" ∷ codes "3 ok 1"
          ∷ codes "4 ok" ∷ codes "5 ok 0" ∷ codes "6 ok 0" ∷ codes "7 data 17" ∷ codes "7 ok"
          ∷ codes "8 data 36" ∷ codes "8 ok" ∷ codes "9 data 1f" ∷ codes "9 ok" ∷ codes "10 data 55"
          ∷ codes "10 ok" ∷ codes "11 ok" ∷ codes "12 ok" ∷ codes "13 ok" ∷ codes "14 graft 1 4 1"
          ∷ codes "14 drop 1 4 C12 2 2" ∷ codes "14 data 3e" ∷ codes "14 ok" ∷ codes "15 ran 2"
          ∷ codes "16 ok" ∷ codes "17 ok" ∷ codes "18 graft 1 4 1" ∷ codes "18 data 5d"
          ∷ codes "18 ok" ∷ codes "19 ran 2" ∷ codes "20 raw clock 0"
          ∷ codes "20 raw queue 0:20:0 1:20:0" ∷ codes "20 raw acct 0 999900 1000000 1000000 0 0 0"
          ∷ codes "20 raw acct 1 96 0 0 4 0 0" ∷ codes "20 raw cells 0 0 0 0 0"
          ∷ codes "20 raw cells 1 0 0 0 0" ∷ codes "20 raw open 0 0 alpha 3 8 1 3 0"
          ∷ codes "20 raw open 1 0 beta 3 8 1 3 0" ∷ codes "20 raw graft 1 4 1 10 1 0 0 0"
          ∷ codes "20 raw pol 0 0" ∷ codes "20 raw pol 1 0" ∷ codes "20 raw pol 2 0"
          ∷ codes "20 raw lru 2:0:1:0:0 1:1:10:0:0 0:0:2:0:0 3:0:3:0:0"
          ∷ []),
    )
unfolding digits same_object entries entry_row is_usable sample_directory sample_block
victim_of_another_owner = refl

-- An id that isn't built drops the graft, and its step is charged.
pub ids_above_the_highest_are_refused :
    run_of (record whole { callable = 11 }) no_keys [] (
    Lines (codes "boot\n")
    ∷ ImageLine 0 spinner
    ∷ Lines (codes "install 0 5 0 9\nfund 0 5 steps 5\nyield 0\nstep 0 9\nraw\n")
    ∷ [])
    ≡ (
      0,
      lines_of (
          codes "0 boot 8 64 3" ∷ codes "1 ok 3 0" ∷ codes "2 ok" ∷ codes "3 ok"
          ∷ codes "4 graft 0 5 1" ∷ codes "4 drop 0 5 C3 12" ∷ codes "4 ok 0" ∷ codes "5 ran 2"
          ∷ codes "6 raw clock 0" ∷ codes "6 raw queue 0:20:1"
          ∷ codes "6 raw acct 0 999998 1000000 1000000 2 0 0" ∷ codes "6 raw cells 0 0 0 0 0"
          ∷ codes "6 raw pol 0 1 2" ∷ codes "6 raw pol 1 0" ∷ codes "6 raw pol 2 0"
          ∷ codes "6 raw lru"
          ∷ []),
    )
unfolding digits same_object entries entry_row is_usable sample_directory sample_block
ids_above_the_highest_are_refused = refl

-- the kernel after a script, nothing where it hasn't booted
abbrev pub kernel_after : List Given → Option Kernel
kernel_after gs = (run_all whole no_keys (first_session sample_disk) gs []).session.kernel

-- cell 0 of process 1 in a state
abbrev pub cell_in : Objects → ℕ
cell_in s = s.things.cell 1 0

-- the cut of process 0's call at level 0
abbrev pub at_level_0 : Cut
at_level_0 p = cond (p == 0) (Some 0) None

-- that cell in the store in place, in that store once process 0's call is undone, and in the store
-- below the cut
abbrev pub cells_of : Option Kernel → List ℕ
cells_of None = []
cells_of (Some k) = cell_in (in_place plain_calls k) ∷ cell_in (undone plain_calls k at_level_0 (0 ∷ []))
    ∷ cell_in (store_below plain_calls k at_level_0) ∷ []

-- Two records of one cell are undone newest first: the store in place has 9, and undone, or below
-- the cut, 3.
pub undone_newest_first :
    cells_of (kernel_after (
    Lines (codes "boot\n")
    ∷ ImageLine 0 twice
    ∷ Lines (lines_of (
    codes "spawn 0" ∷ codes "give 0 1 steps 100" ∷ codes "give 0 1 records 10"
    ∷ codes "poke 1 0 3" ∷ codes "install 1 5 0 100" ∷ codes "bill 1 5" ∷ codes "yield 0"
    ∷ codes "step 0 6"
    ∷ []))
    ∷ []))
    ≡ 9 ∷ 3 ∷ 3 ∷ []
unfolding digits same_object
undone_newest_first = refl

-- that cell as a graft call sees it, and as the drop of its level 1, or of its level 0, leaves it
abbrev pub cells_dropped : World → Option Config → List ℕ
cells_dropped v None = []
cells_dropped v (Some c) =
    cell_in c.now ∷ cell_in (drop_level v c.now c.levels 1 TooDeep).config.now
    ∷ cell_in (drop_level v c.now c.levels 0 TooDeep).config.now ∷ []

-- the same for process 0's call in a kernel
abbrev pub cells_dropped_in : Option Kernel → List ℕ
cells_dropped_in None = []
cells_dropped_in (Some k) = cells_dropped k.world (config_of plain_calls k 0)

-- A drop puts back what its level found, and no more: of 3, then 5 by level 0, then 8 by level 1,
-- level 1's drop leaves 5.
pub each_drop_puts_back_its_own :
    cells_dropped_in (kernel_after (
    Lines (codes "boot\n")
    ∷ ImageLine 0 trapping_child
    ∷ ImageLine 1 setter
    ∷ Lines (lines_of (
    codes "spawn 0" ∷ codes "open 1 alpha" ∷ codes "give 0 1 steps 100"
    ∷ codes "give 0 1 records 10" ∷ codes "poke 1 0 3" ∷ codes "install 1 0 0 50"
    ∷ codes "bill 1 0" ∷ codes "install 1 5 1 50" ∷ codes "bill 1 5" ∷ codes "yield 0"
    ∷ codes "step 0 9"
    ∷ []))
    ∷ []))
    ≡ 8 ∷ 5 ∷ 3 ∷ []
unfolding digits same_object entries entry_row is_usable sample_directory sample_block
each_drop_puts_back_its_own = refl
