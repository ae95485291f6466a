-- The state of calls in words.
use Rattle.std.specs.Prelude.{ℕ, ◌+◌, List, [], ◌++◌, codes, Some, flat_map}
use Rattle.script_model.specs.declared.Object.{Object}
use Rattle.script_model.specs.declared.Object.TheVariants as object
use Rattle.script_model.specs.declared.Inverse.{Inverse}
use Rattle.script_model.specs.declared.Inverse.TheVariants as inverse
use Rattle.script_model.specs.declared.WaitRow.{WaitRow}
use Rattle.script_model.specs.declared.RawRow.{RawRow}
use Rattle.script_model.specs.declared.RawRow.TheVariants as row
use Rattle.lab_levels.specs.Outside.{numbered}

-- what is the b-th one of a process
unfoldable pub owned : (text : List ℕ) → (process b : ℕ) → List ℕ
owned text process b = numbered text b ++ numbered (codes " of process ") process

-- an object
unfoldable pub object_said : Object → List ℕ
object_said (object.Graft q pt) = owned (codes "the graft at point ") q pt
object_said (object.Acct q) = numbered (codes "the account of process ") q
object_said (object.Cell q k) = owned (codes "cell ") q k
object_said (object.OpenFile q fd) = owned (codes "descriptor ") q fd
object_said object.Queue = codes "the queue"
object_said object.Cache = codes "the cache"
object_said (object.Lock u) = numbered (codes "user lock ") u
object_said (object.Pol kind) = numbered (codes "the policy of kind ") kind

-- the value to which a record puts something back
unfoldable pub put_back : (what : List ℕ) → (value : ℕ) → List ℕ
put_back what value = what ++ numbered (codes " to ") value

-- a parameter of a policy
unfoldable pub parameter_said : (kind k : ℕ) → List ℕ
parameter_said kind k =
    numbered (codes "parameter ") k ++ numbered (codes " of the policy of kind ") kind

-- what a record puts back
unfoldable pub inverse_said : Inverse → List ℕ
inverse_said (inverse.Cell q k value) = put_back (owned (codes "cell ") q k) value
inverse_said (inverse.Nice q value) = put_back (numbered (codes "the nice of process ") q) value
inverse_said (inverse.Window q fd value) =
    put_back (owned (codes "the window of descriptor ") q fd) value
inverse_said (inverse.Mark frame value) =
    put_back (numbered (codes "the mark of frame ") frame) value
inverse_said (inverse.Tune kind k value) = put_back (parameter_said kind k) value
inverse_said (inverse.Segment q pt) = owned (codes "the segment kept at point ") q pt

-- a level of a process; the outermost one is 1
unfoldable pub level_said : (process depth : ℕ) → List ℕ
level_said process depth =
    numbered (codes "process ") process ++ numbered (codes " level ") (depth + 1)

-- a wait of a process
unfoldable pub wait_said : (process : ℕ) → WaitRow → List ℕ
wait_said process w =
    numbered (codes "process ") process ++ codes " waits for " ++ object_said w.object
    ++ numbered (codes ", which process ") w.holder ++ numbered (codes " has; ticks: ") w.count

-- a level that runs a graft
unfoldable pub run_said : (process depth owner point : ℕ) → List ℕ
run_said process depth owner point =
    level_said process depth ++ owned (codes " runs the graft at point ") owner point

-- a record that a drop of a level would put back
unfoldable pub undo_said : (process depth : ℕ) → Inverse → List ℕ
undo_said process depth i =
    level_said process depth ++ codes ": a drop puts back " ++ inverse_said i

-- a row that says what is held, what waits, what runs or what would be put back, as a line; nothing
-- of another one
abbrev pub row_said : RawRow → List ℕ
row_said (row.Lock u p) =
    numbered (codes "process ") p ++ numbered (codes " holds user lock ") u ++ codes "\n"
row_said (row.Call p m (Some wait) top) = wait_said p wait ++ codes "\n"
row_said (row.Level p depth q pt n) = run_said p depth q pt ++ codes "\n"
row_said (row.Undo p depth i) = undo_said p depth i ++ codes "\n"
row_said r = []

-- all rows that do
abbrev pub standing_said : List RawRow → List ℕ
standing_said rows = flat_map row_said rows
