-- What the text of its lines alone makes of a run: which line is refused, and how the run ends.
-- Neither keys nor blocks nor calls of the disk come into it.
use Rattle.std.specs.Prelude.{◌≡◌, ℕ, suc, Bool, true, false, cond, List, [], ◌∷◌, ◌++◌, take, is_some, Result, Ok, Err}
use Rattle.script_model.specs.Script.{Entry, Boot, ScriptFault, OwnWord, Unfinished, parsed_line}
use Rattle.script_model.specs.Session.{Session, fault_text}
use Rattle.script_model.specs.Text.{line}
use Rattle.script_model.specs.Outcome.{SCRIPT_BYTES, Ending, End, Fault, Over, lines_after, rest_after}

-- ---- lines

-- how far a script has come, by the text of its lines
pub record Parsed : Type 0 where
  -- whether `boot` was among them
  pub booted : Bool
  pub lines : ℕ
  -- the last of these lines was refused, and no other counts
  pub refused : Bool

-- before the first line
abbrev pub first_parsed : Parsed
first_parsed = record { booted = false; lines = 0; refused = false }

-- how far a script has come with this entry: only `boot` changes what later lines may say
abbrev pub parsed_entry : Parsed → Entry → Parsed
parsed_entry p Boot = record p { booted = true }
parsed_entry p _ = p

-- how far a script has come with a line that says this
abbrev pub parsed_said : Parsed → Result Entry ScriptFault → Parsed
parsed_said p (Err fault) = record p { refused = true }
parsed_said p (Ok e) = parsed_entry p e

-- the refusal of line n, where it says this: the line that tells of it, or nothing
abbrev pub refusal_said : (n : ℕ) → Result Entry ScriptFault → List ℕ
refusal_said n (Err fault) = line (fault_text n fault)
refusal_said n (Ok e) = []

-- how far a script has come with one line more, where these words are added
abbrev pub parsed_after : List OwnWord → Parsed → List ℕ → Parsed
parsed_after own p text =
    cond p.refused p
    (parsed_said (record p { lines = suc p.lines }) (parsed_line own p.booted text))

-- the refusal of that line, or nothing
abbrev pub refusal_after : List OwnWord → Parsed → List ℕ → List ℕ
refusal_after own p text =
    cond p.refused [] (refusal_said (suc p.lines) (parsed_line own p.booted text))

-- how far a script has come with these lines more
abbrev pub parsed_all : List OwnWord → Parsed → List (List ℕ) → Parsed
parsed_all own p [] = p
parsed_all own p (text ∷ texts) = parsed_all own (parsed_after own p text) texts

-- the refusal among these lines: that of the first that is refused, or nothing
abbrev pub refusal_among : List OwnWord → Parsed → List (List ℕ) → List ℕ
refusal_among own p [] = []
refusal_among own p (text ∷ texts) =
    refusal_after own p text ++ refusal_among own (parsed_after own p text) texts

-- these bytes end with those
pub record EndsWith (bytes last : List ℕ) : Type 0 where
  pub before : List ℕ
  pub is : bytes ≡ before ++ last

-- A script went on by these lines, which wrote these bytes, as their text says: what is written
-- ends with the refusal, and behind a refused line nothing is.
pub record GoesByText (own : List OwnWord) (p q : Parsed) (texts : List (List ℕ))
    (bytes : List ℕ) : Type 0 where
  pub parsed : q ≡ parsed_all own p texts
  pub ends : EndsWith bytes (refusal_among own p texts)
  pub silent : p.refused ≡ true → bytes ≡ []

-- ---- a whole run

-- the status where reading ends so, no line was refused, and these bytes stand behind the last line
abbrev pub going_status : Ending → (rest : List ℕ) → ℕ
going_status End [] = 0
going_status End (byte ∷ bytes) = 2
going_status Fault rest = 3
going_status Over rest = 7

-- the refusal of bytes without a newline, behind n lines, where reading ends so
abbrev pub going_refusal : Ending → (n : ℕ) → (rest : List ℕ) → List ℕ
going_refusal End n (byte ∷ bytes) = line (fault_text (suc n) Unfinished)
going_refusal _ n rest = []

-- the status of a run that has come so far, where reading ends so and these bytes stand behind its
-- lines
abbrev pub status_by : Parsed → Ending → (rest : List ℕ) → ℕ
status_by p e rest = cond p.refused 2 (going_status e rest)

-- the refusal that such a run writes behind its lines, or nothing
abbrev pub refusal_by : Parsed → Ending → (rest : List ℕ) → List ℕ
refusal_by p e rest = cond p.refused [] (going_refusal e p.lines rest)

-- how far a script has come of which these bytes were taken
abbrev pub text_parsed : List OwnWord → (taken : List ℕ) → Parsed
text_parsed own taken = parsed_all own first_parsed (lines_after [] (take SCRIPT_BYTES taken))

-- The status of a run that took these bytes and ended reading so: 2 for a refused line, whatever
-- follows it, and else 0 or 2 at the end of the input, 3 after a failed read, and 7 past the most
-- bytes.
abbrev pub text_status : List OwnWord → (taken : List ℕ) → Ending → ℕ
text_status own taken e =
    status_by (text_parsed own taken) e (rest_after [] (take SCRIPT_BYTES taken))

-- The line that tells of the refused line, with its number and why; nothing where none is refused.
abbrev pub text_refusal : List OwnWord → (taken : List ℕ) → Ending → List ℕ
text_refusal own taken e =
    refusal_among own first_parsed (lines_after [] (take SCRIPT_BYTES taken))
    ++ refusal_by (text_parsed own taken) e (rest_after [] (take SCRIPT_BYTES taken))

-- ---- the definitions

-- how far a session of the definitions has come
abbrev pub parsed_session : Session → Parsed
parsed_session a =
    record { booted = is_some a.kernel; lines = a.lines; refused = a.refused }
