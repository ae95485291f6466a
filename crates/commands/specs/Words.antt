-- The words of the command line.
use Rattle.std.specs.Prelude.{ℕ, true, false, ◌&&◌, cond, List, [], ◌∷◌, codes, Option, None, Some}
use Rattle.script_model.specs.Bytes.{number_of}
use Rattle.script_model.specs.World.{same_bytes}
use Rattle.script_model.specs.declared.Keys.{Keys}
use Rattle.graft_loader.specs.Keys.{keys_of}
use Rattle.commands.specs.declared.command_line.Asked.{Asked}
use Rattle.commands.specs.declared.command_line.Asked.TheVariants.{Run, Box, Check, Reseal, Asm, Dis, Lang, Audit}
use Rattle.commands.specs.declared.command_line.Asked.TheVariants.{Demo, Nothing}

-- what a word asks beside keys, if there are some
abbrev pub asked_with : (word : List ℕ) → Option Keys → Asked
asked_with word None = Nothing
asked_with word (Some keys) =
    cond (same_bytes word (codes "run")) (Run keys)
    (cond (same_bytes word (codes "box")) (Box keys false)
    (cond (same_bytes word (codes "check")) (Check keys)
    (cond (same_bytes word (codes "reseal")) (Reseal keys)
    (cond (same_bytes word (codes "audit")) (Audit keys) Nothing))))

-- what a word asks beside keys, if there are some, and a third word: `run` and any path, or `box` and
-- `keep`
abbrev pub asked_over : (word third : List ℕ) → Option Keys → Asked
asked_over word third None = Nothing
asked_over word third (Some keys) =
    cond (same_bytes word (codes "run")) (Run keys)
    (cond (same_bytes word (codes "box") && same_bytes third (codes "keep")) (Box keys true)
    Nothing)

-- what one word asks
abbrev pub asked_by_one : (word : List ℕ) → Asked
asked_by_one word =
    cond (same_bytes word (codes "asm")) Asm
    (cond (same_bytes word (codes "dis")) Dis
    (cond (same_bytes word (codes "lang")) Lang Nothing))

-- what `demo` asks with a number, if it is one
abbrev pub asked_number : Option ℕ → Asked
asked_number None = Nothing
asked_number (Some n) = Demo n

-- what two words ask: `demo` and a number, or a word and keys
unfoldable pub asked_by_two : (word other : List ℕ) → Asked
asked_by_two word other =
    cond (same_bytes word (codes "demo")) (asked_number (number_of other))
    (asked_with word (keys_of other))

-- what a word, keys and a third word ask; a path isn't looked at
unfoldable pub asked_by_three : (word keys third : List ℕ) → Asked
asked_by_three word keys third = asked_over word third (keys_of keys)

-- what the words of the command line ask: `run KEYS`, `run KEYS PATH`, `box KEYS`, `box KEYS keep`,
-- `check KEYS`, `reseal KEYS`, `asm`, `dis`, `lang`, `audit KEYS` or `demo N`, keys being 64 hex digits
-- of either case or twice 64 with a comma, and N a number as in scripts
abbrev pub asked_by : List (List ℕ) → Asked
asked_by (word ∷ []) = asked_by_one word
asked_by (word ∷ other ∷ []) = asked_by_two word other
asked_by (word ∷ keys ∷ third ∷ []) = asked_by_three word keys third
asked_by _ = Nothing
