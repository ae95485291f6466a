-- Keys on the command line.
use Rattle.std.specs.Prelude.{ℕ, ◌+◌, ◌==◌, cond, List, length, take, drop, position, Option, None, Some}
use Rattle.graft_code.specs.declared.Keys.{Keys}
use Rattle.graft_code.specs.Bytes.{hex_bytes}

-- the bytes of a key, if the text is 64 hex digits of either case
abbrev pub key_of : List ℕ → Option (List ℕ)
key_of text = cond (length text == 64) (hex_bytes text) None

-- a first key alone, if it is one
abbrev pub one_key : Option (List ℕ) → Option Keys
one_key None = None
one_key (Some key) = Some (record { first = key; second = None })

-- a first and a second key, if both are keys
abbrev pub two_keys : Option (List ℕ) → Option (List ℕ) → Option Keys
two_keys None second = None
two_keys (Some key) None = None
two_keys (Some key) (Some other) = Some (record { first = key; second = Some other })

-- the keys of a word that has its first comma here, or none
abbrev pub keys_by : Option ℕ → List ℕ → Option Keys
keys_by None text = one_key (key_of text)
keys_by (Some comma) text = two_keys (key_of (take comma text)) (key_of (drop (comma + 1) text))

-- the keys that a word writes: 64 hex digits, or twice 64 hex digits with a comma between them
abbrev pub keys_of : List ℕ → Option Keys
keys_of text = keys_by (position (λ b. b == 44) text) text
