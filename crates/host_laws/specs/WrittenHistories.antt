-- What is claimed of many calls over the same words, if the plug-ins were written in the graft
-- language.
use Rattle.std.specs.Prelude.{◌≡◌, ⊤, ℕ, ◌^◌, ◌<◌, Bool, List, [], ◌∷◌, ◌++◌, length, Some, Ok}
use Rattle.kernel_data.specs.World.{Image}
use Rattle.graft_code.specs.declared.Keys.{Keys}
use Rattle.graft_code.specs.Images.{load, sealed_under}
use Rattle.graft_loader.specs.Laws.{IsBoxedImage}
use Rattle.graft_texts.specs.LanguageGrammar as grammar
use Rattle.graft_texts.specs.LanguageImages.{IsCompiled, said}
use Rattle.graft_texts.specs.LanguageMeaning.{Answered, numbered}
use Rattle.vino_host.specs.declared.Word.{Word}
use Rattle.vino_host.specs.Plugins.{code_of, image_of}
use Rattle.vino_host.specs.Calls.{first_segment}
use Rattle.host_laws.specs.Boxed.{first_state}
use Rattle.host_laws.specs.Histories.{Event, Begins, Answers, Ending, after, one_by_one, IsFree}
use Rattle.host_laws.specs.Talks.{talk_answers}
use Rattle.host_laws.specs.Written.{FitTable, HasWords, boxed_image}

-- what the host gives a call fits 32 bits
abbrev pub FitEvent : Event → Type 0
FitEvent (Begins plugin request fed segment) = HasWords request
FitEvent (Answers place how x) = x < 2 ^ 32

abbrev pub FitEvents : List Event → Type 0
FitEvents [] = ⊤
FitEvents (e ∷ earlier) = FitEvent e × FitEvents earlier

-- the words with which the host answered a call, oldest first; they are kept newest first
abbrev pub words_of : List (ℕ × ℕ) → List ℕ
words_of [] = []
words_of (a ∷ earlier) = words_of earlier ++ a.1 ∷ []

-- A call that completed answered what its program answers over this table: if a text was compiled
-- to an image, which was boxed, sealed and loaded as the call's plug-in, then a program that the
-- text spells, given the words of this table and of the host as the answers to its calls, ends
-- within as many turns of its loops as the call's limit says, with the call's r0 and r1.
abbrev pub EndsAsWritten : Ending → List Word → Type 0
EndsAsWritten e table =
    (text : List ℕ) (image : Image) (compiled : IsCompiled text image) (p : grammar.Program)
    (keys : Keys) (keep : Bool) →
    grammar.spelled p ≡ compiled.syntax.tokens → IsBoxedImage (boxed_image keep image) →
    load keys (sealed_under keys (boxed_image keep image)) ≡ Ok (image_of e.story.plugin) →
    length (first_segment e.story.plugin e.story.request e.story.fed e.story.segment) ≡ 4096 →
    let r = e.story.request in
    let begins = first_segment e.story.plugin r e.story.fed e.story.segment in
    let args = r.r0 ∷ r.r1 ∷ r.r2 ∷ r.r3 ∷ [] in
    let answers = talk_answers r.number (code_of e.story.plugin) (words_of e.story.answers) r.limit
    (first_state args begins table) in
    (said (numbered compiled.syntax.names p) args answers r.limit).ended
    ≡ Some (Answered e.answer.r0 e.answer.r1)

-- each call that completed did so over the words that were left by those that completed before it
abbrev pub AreAsWritten : List Ending → List Word → Type 0
AreAsWritten [] table = ⊤
AreAsWritten (e ∷ earlier) table = EndsAsWritten e (one_by_one earlier table) × AreAsWritten earlier table

-- Whatever happens over words that belong to nobody at first: each call that completed answered
-- what its program answers over the words at its place, when the calls are made one at a time.
abbrev pub CompletedCallsAreAsWritten : Type 0
CompletedCallsAreAsWritten =
    (events : List Event) (table : List Word) → IsFree table → FitTable table → FitEvents events →
    AreAsWritten (after events table).ended table
