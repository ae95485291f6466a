-- A loaded plug-in: bytes of the caller's. First comes its mark, which is the SHA-256 of its content.
-- The content begins with three words: how many instructions there are, how many data bytes, and 1
-- where segments are kept. The code follows, eight bytes for each instruction, and the data.
use Rattle.std.specs.Prelude.{ℕ, ◌+◌, ◌*◌, ◌==◌, Bool, List, ◌++◌, length, take, drop, min}
use Rattle.sha2.specs.Sha256.{sha256}
use Rattle.graft_code.specs.declared.Instr.{Instr}
use Rattle.graft_code.specs.World.{Image, same_bytes}
use Rattle.graft_code.specs.Bytes.{word_at, word_bytes}
use Rattle.graft_code.specs.Images.{code_bytes, flags_with}
use Rattle.vino_host.specs.HostMachine.{code_in}

-- ---- what stands in bytes, whatever they are

-- how many instructions there are; 1,024 at most
abbrev pub size_of : List ℕ → ℕ
size_of plugin = min (word_at (drop 32 plugin) 0) 1024

-- how many data bytes there are; 4,096 at most
abbrev pub body_size_of : List ℕ → ℕ
body_size_of plugin = min (word_at (drop 32 plugin) 4) 4096

-- the bytes of the code
abbrev pub code_part : List ℕ → List ℕ
code_part plugin = take (8 * size_of plugin) (drop 44 plugin)

-- the code
abbrev pub code_of : List ℕ → List Instr
code_of plugin = code_in (code_part plugin)

-- the data
abbrev pub body_of : List ℕ → List ℕ
body_of plugin = take (body_size_of plugin) (drop (44 + 8 * size_of plugin) plugin)

-- the image
abbrev pub image_of : List ℕ → Image
image_of plugin =
    record {
      code = code_of plugin;
      body = body_of plugin;
      keep = word_at (drop 32 plugin) 8 == 1;
    }

-- all that is behind the mark
abbrev pub content_of : List ℕ → List ℕ
content_of plugin = take (12 + 8 * size_of plugin + body_size_of plugin) (drop 32 plugin)

-- the mark is that of the content
abbrev pub is_whole : List ℕ → Bool
is_whole plugin = same_bytes (sha256 (content_of plugin)) (take 32 plugin)

-- ---- an image as a plug-in's bytes

-- the three words before its code
abbrev pub first_words : Image → List ℕ
first_words i =
    word_bytes (length i.code) ++ word_bytes (length i.body) ++ word_bytes (flags_with i.keep)

-- its content
abbrev pub content_by : Image → List ℕ
content_by i = first_words i ++ (code_bytes i.code ++ i.body)

-- how many bytes it needs
abbrev pub needed : Image → ℕ
needed i = 44 + 8 * length i.code + length i.body

-- bytes of which the first hold an image; the others stay
abbrev pub with_image : Image → List ℕ → List ℕ
with_image i old = sha256 (content_by i) ++ (content_by i ++ drop (needed i) old)
