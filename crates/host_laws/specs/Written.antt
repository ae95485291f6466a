-- What is claimed of plug-ins that were written in the graft language.
use Rattle.std.specs.Prelude.{◌≡◌, ◌≢◌, ℕ, ◌+◌, ◌*◌, ◌^◌, ◌<◌, ◌≤◌, Bool, true, List, [], ◌∷◌}
use Rattle.std.specs.Prelude.{length, Some, Ok, ⊤, slice_get}
use Rattle.kernel_data.specs.World.{Image}
use Rattle.graft_code.specs.declared.Keys.{Keys}
use Rattle.graft_code.specs.Boxed.{boxed_code}
use Rattle.graft_code.specs.Images.{load, sealed_under}
use Rattle.graft_loader.specs.Laws.{IsBoxedImage}
use Rattle.graft_texts.specs.LanguageGrammar as grammar
use Rattle.graft_texts.specs.LanguageImages.{IsCompiled, said}
use Rattle.graft_texts.specs.LanguageMeaning.{End, Answered, Trapped, DividedByZero, Going, numbered}
use Rattle.vino_host.specs.declared.Request.{Request}
use Rattle.vino_host.specs.declared.Word.{Word}
use Rattle.vino_host.specs.Codes.{RETURNED, DIVIDED, TRAPPED, is_taken}
use Rattle.vino_host.specs.Plugins.{code_of, image_of}
use Rattle.vino_host.specs.Calls.{Found, first_segment, call_says}
use Rattle.host_laws.specs.Boxed.{first_state}
use Rattle.host_laws.specs.Talks.{talk_answers, answered_with}

-- the words of a table fit 32 bits
abbrev pub FitTable : List Word → Type 0
FitTable table = (k : ℕ) (w : Word) → slice_get table k ≡ Some w → w.value < 2 ^ 32

-- the words that a call is asked with fit 32 bits
pub record HasWords (request : Request) : Type 0 where
  pub r0 : request.r0 < 2 ^ 32
  pub r1 : request.r1 < 2 ^ 32
  pub r2 : request.r2 < 2 ^ 32
  pub r3 : request.r3 < 2 ^ 32

-- what a caller finds after a call is the end of a program: an answer that the point takes, a
-- division by zero, or a trap
pub record IsFoundAsSaid (request : Request) (fed : List ℕ) (end : End) (f : Found) : Type 0 where
  pub answered : (r0 r1 : ℕ) → end ≡ Answered r0 r1 →
      is_taken request.point (length fed) r0 ≡ true →
      (f.answer.kind ≡ RETURNED) × (f.answer.r0 ≡ r0) × (f.answer.r1 ≡ r1)
  pub divided : end ≡ DividedByZero → f.answer.kind ≡ DIVIDED
  pub trapped : (code : ℕ) → end ≡ Trapped code →
      (f.answer.kind ≡ TRAPPED) × (f.answer.detail ≡ code)

-- the words fit 32 bits
abbrev pub FitWords : List ℕ → Type 0
FitWords [] = ⊤
FitWords (x ∷ xs) = (x < 2 ^ 32) × FitWords xs

-- the image whose code the rewriter made of another's
abbrev pub boxed_image : (keep : Bool) → Image → Image
boxed_image keep i = record { code = boxed_code i.code; body = i.body; keep = keep }

-- A text is compiled to an image, which is boxed, sealed and loaded. If a program that the text
-- spells ends within n turns of its loops, given the words of the table and of the host as the
-- answers to its calls, a call of the plug-in answers in the same way, if it may take 3 (n + 1)
-- instructions for each of the image's.
abbrev pub WrittenPluginsDoWhatTheySay : Type 0
WrittenPluginsDoWhatTheySay =
    (text : List ℕ) (image : Image) (compiled : IsCompiled text image) (p : grammar.Program)
    (keys : Keys) (keep : Bool) (plugin : List ℕ) (request : Request) (fed segment words : List ℕ)
    (table : List Word) (n : ℕ) (end : End) →
    grammar.spelled p ≡ compiled.syntax.tokens → IsBoxedImage (boxed_image keep image) →
    load keys (sealed_under keys (boxed_image keep image)) ≡ Ok (image_of plugin) →
    length (first_segment plugin request fed segment) ≡ 4096 →
    HasWords request → FitTable table → FitWords words →
    let begins = first_segment plugin request fed segment in
    let args = request.r0 ∷ request.r1 ∷ request.r2 ∷ request.r3 ∷ [] in
    let answers = talk_answers request.number (code_of plugin) words request.limit
    (first_state args begins table) in
    (said (numbered compiled.syntax.names p) args answers n).ended ≡ Some end → end ≢ Going →
    3 * ((n + 1) * length image.code) ≤ request.limit →
    IsFoundAsSaid request fed end
    (answered_with plugin words (call_says plugin request fed segment table))
