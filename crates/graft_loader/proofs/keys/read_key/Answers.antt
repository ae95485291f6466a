-- The library decodes a key as the definitions do.
use Rattle.std.proofs.Common.{◌≡◌, ℕ, List, None, Some, Result, Ok, Err, refl, ap, ◌∙◌}
use Rattle.std.specs.Prelude.{MatchResult}
use Rattle.hex.specs.declared.error.FromHexError.{FromHexError}
use Rattle.hex.specs.Hex.{decode_sized}
use Rattle.graft_loader.specs.Keys.{key_of}
use Rattle.graft_loader.proofs.HexDigits.{decode_sized-ok}
use Rattle.graft_loader.proofs.keys.read_key.Goals as goal

-- what was said, after a success
decoded : (text out : List ℕ) (said : Result (List ℕ) FromHexError) → decode_sized text 32 ≡ said
    → MatchResult said (λ bytes. (◌≡◌ {A = Result (Unit {0}) FromHexError} (Ok tt) (Ok tt))
    × (out ≡ bytes)) (λ e. ◌≡◌ {A = Result (Unit {0}) FromHexError} (Ok tt) (Err e))
    → Some out ≡ key_of text
decoded text out (Ok bytes) e h = ap Some h.1 ∙ rw e at (decode_sized-ok text)
decoded text out (Err fault) e h = cc

-- what was said, after a fault
refused : (text out : List ℕ) (fault : FromHexError) (said : Result (List ℕ) FromHexError) → decode_sized text 32 ≡ said
    → MatchResult said (λ bytes. (◌≡◌ {A = Result (Unit {0}) FromHexError} (Err fault) (Ok tt)) × (out ≡ bytes))
    (λ e. ◌≡◌ {A = Result (Unit {0}) FromHexError} (Err fault) (Err e))
    → None ≡ key_of text
refused text out fault (Ok bytes) e h = let differ = h.0 in cc
refused text out fault (Err found) e h = rw e at (decode_sized-ok text)

pub returns-in-Ok : goal.returns-in-Ok
returns-in-Ok c =
    decoded c.args.text.now c.decode_to_slice.new.out (decode_sized c.args.text.now 32) refl
    c.in-Ok.ensures.value

pub returns-in-Err : goal.returns-in-Err
returns-in-Err c =
    refused c.args.text.now c.decode_to_slice.new.out c.in-Err.field-0
    (decode_sized c.args.text.now 32) refl c.in-Err.ensures.value
