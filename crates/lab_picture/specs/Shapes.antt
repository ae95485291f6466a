-- The shapes of a picture, as they are written.
use Rattle.std.specs.Prelude.{ℕ, ◌+◌, ◌-◌, ◌^◌, min, List, ◌∷◌, ◌++◌, codes, decimal, flat_map}
use Rattle.lab_picture.specs.declared.shapes.At.{At}
use Rattle.lab_picture.specs.Escapes.{escaped, shown}

-- an attribute, behind a space
unfoldable pub attribute : (name value : List ℕ) → List ℕ
attribute name value = 32 ∷ name ++ codes "=\"" ++ value ++ codes "\""

-- one that is a number
unfoldable pub measure : (name : List ℕ) → ℕ → List ℕ
measure name n = attribute name (decimal n)

-- a rectangle of a class
abbrev pub rectangle : (class : List ℕ) → (at : At) → (width height : ℕ) → List ℕ
rectangle class at width height =
    codes "<rect" ++ attribute (codes "class") class ++ measure (codes "x") at.x
    ++ measure (codes "y") at.y ++ measure (codes "width") width
    ++ measure (codes "height") height ++ codes "/>\n"

-- a line of a class, from one place to another
abbrev pub line : (class : List ℕ) → (from to : At) → List ℕ
line class from to =
    codes "<line" ++ attribute (codes "class") class ++ measure (codes "x1") from.x
    ++ measure (codes "y1") from.y ++ measure (codes "x2") to.x
    ++ measure (codes "y2") to.y ++ codes "/>\n"

-- the beginning of a text element of a class
abbrev pub text_start : (class : List ℕ) → (at : At) → List ℕ
text_start class at =
    codes "<text" ++ attribute (codes "class") class ++ measure (codes "x") at.x
    ++ measure (codes "y") at.y

-- what stands in a text element, and its end
abbrev pub text_end : List ℕ → List ℕ
text_end inside = codes ">" ++ inside ++ codes "</text>\n"

-- a text of a class, escaped
abbrev pub text : (class : List ℕ) → (at : At) → (said : List ℕ) → List ℕ
text class at said = text_start class at ++ text_end (flat_map escaped said)

-- a number of a class
abbrev pub number : (class : List ℕ) → (at : At) → ℕ → List ℕ
number class at n = text_start class at ++ text_end (decimal n)

-- a text, and behind it a number
unfoldable pub counted : (text : List ℕ) → ℕ → List ℕ
counted text n = text ++ decimal n

-- a rotation round a place, so that what begins there rises to the right
unfoldable pub rotation : At → List ℕ
rotation at = counted (codes "rotate(-58 ") at.x ++ counted (codes " ") at.y ++ codes ")"

-- the attribute of a text that rises
unfoldable pub rising : At → List ℕ
rising at = codes " transform=\"" ++ rotation at ++ codes "\""

-- a text of a class, of which at most so many signs stand there
abbrev pub fitted_text : (class : List ℕ) → (at : At) → (said : List ℕ) → (most : ℕ) → List ℕ
fitted_text class at said most = text_start class at ++ text_end (shown most said)

-- one that rises to the right
abbrev pub rising_text : (class : List ℕ) → (at : At) → (said : List ℕ) → (most : ℕ) → List ℕ
rising_text class at said most =
    text_start class at ++ rising at ++ text_end (shown most said)

-- four units before a length, and behind it, within the numbers that there are
abbrev pub before : ℕ → ℕ
before n = n - 4

abbrev pub behind : ℕ → ℕ
behind n = min (n + 4) (2 ^ 32 - 1)

-- a place
abbrev pub place : (x y : ℕ) → At
place x y = record { x = x; y = y }

-- the disc below a cross
abbrev pub disc : At → List ℕ
disc at =
    codes "<circle" ++ attribute (codes "class") (codes "disc") ++ measure (codes "cx") at.x
    ++ measure (codes "cy") at.y ++ measure (codes "r") 8 ++ codes "/>\n"

-- the mark of a dropped graft: a disc, and on it two lines that cross
abbrev pub cross : At → List ℕ
cross at =
    disc at
    ++ line (codes "cross") (place (before at.x) (before at.y)) (place (behind at.x) (behind at.y))
    ++ line (codes "cross") (place (before at.x) (behind at.y)) (place (behind at.x) (before at.y))
