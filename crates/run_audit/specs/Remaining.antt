-- What is still to be written of a run, from where it stands.
use Rattle.std.specs.Prelude.{ℕ, List, [], ◌++◌}
use Rattle.std.specs.List.{concat}
use Rattle.script_model.specs.declared.Keys.{Keys}
use Rattle.script_model.specs.Session as model
use Rattle.script_model.specs.Session.{Written, after_line, session_after, pieces_of, whole}
use Rattle.script_model.specs.Outcome.{lines_after, rest_after}
use Rattle.audit_session.specs.Sessions.{last_bytes}

-- what a line makes of a session over the sample disk, none of whose calls fails
abbrev pub line_run : Keys → model.Session → List ℕ → Written
line_run keys s text = after_line whole keys 64 s text []

-- what is still written, where these bytes are to come and `text` came before
abbrev pub still_written : Keys → model.Session → (text bytes : List ℕ) → List ℕ
still_written keys s text bytes =
    concat (pieces_of whole keys 64 s (lines_after text bytes) [])
    ++ last_bytes (session_after whole keys 64 s (lines_after text bytes) []) (rest_after text bytes)
