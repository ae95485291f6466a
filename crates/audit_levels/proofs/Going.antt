-- A fact of an answer gives another.
use Rattle.std.specs.Prelude.{Result, Ok, Err, IfOk}

-- a fact of a value that is well gives another
pub if_ok : {A E : Type 0} {P Q : A → Type 0} (r : Result A E) → ((v : A) → P v → Q v) → IfOk r P → IfOk r Q
if_ok (Ok x) f p = f x p
if_ok (Err e) f p = tt
