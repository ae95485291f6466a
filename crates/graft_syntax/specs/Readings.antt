-- The reader's state, and its steps over a text.
use Rattle.std.specs.Prelude.{◌≡◌, ◌≤◌, ◌<◌, ◌+◌, ◌∷◌, ℕ, List, map}
use Rattle.graft_texts.specs.declared.language.Goal.{Goal}
use Rattle.graft_texts.specs.LanguageReading.{Reading, read_words}
use Rattle.graft_syntax.specs.declared.LangFault.{LangFault}
use Rattle.graft_syntax.specs.declared.reader.Reader.{Reader}
use Rattle.graft_syntax.specs.declared.reader.Place.{Place}
use Rattle.graft_syntax.specs.Faults.{Refuses}
use Rattle.graft_syntax.specs.Views.{token_view}
use Rattle.graft_syntax.specs.Places.{word_at, known_names, words_behind}

-- how far the reading has come that a reader of a text stands for
abbrev pub reading : List ℕ → Reader → Reading
reading text r = record {
  goals = r.goals;
  names = known_names text r.known.entries.items;
  assigned = word_at text r.assigned;
  tokens = map token_view r.tokens.items;
}

-- the same, where the next goal was taken
abbrev pub reading_for : Goal → List ℕ → Reader → Reading
reading_for goal text r = record (reading text r) { goals = goal ∷ r.goals }

-- from one place and reader to others: reading what was left there is reading what is left here
pub record IsPassed (text : List ℕ) (p : Place) (r : Reader) (q : Place) (s : Reader) : Type 0 where
  pub on : p.at < q.at
  pub line : q.line ≤ q.at + 1
  pub reads : read_words (reading text r) (words_behind text p.at p.line)
      ≡ read_words (reading text s) (words_behind text q.at q.line)

-- reading what is left ends with this fault
abbrev pub IsStoppedBehind : List ℕ → Place → Reader → LangFault → Type 0
IsStoppedBehind text p r fault =
    Refuses fault (read_words (reading text r) (words_behind text p.at p.line))
