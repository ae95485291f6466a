use Rattle.std.proofs.Common.{◌≡◌, ℕ, ◌*◌, List, take, drop, refl, ap, ◌∙◌}
use Rattle.std.proofs.lemmas.List.{drop-drop}
use Rattle.graft_code.specs.Bytes.{word_at}
use Rattle.graft_code.specs.Images.{head_of, head_length, flags_of, number_of}
use Rattle.gm_image.specs.Sealed.{Parts, sealed_part}
use Rattle.gm_image.proofs.Splitting.{words_of-take}
use Rattle.gm_image.proofs.sealed.read_parts.Goals as goal

-- the parts with these words, data and seal, which the bytes begin with
abbrev parts : List ℕ → List (List ℕ) → List ℕ → List ℕ → Parts
parts bytes words body seal = record {
  version = word_at bytes 4;
  flags = flags_of bytes;
  number = number_of bytes;
  words = words;
  body = body;
  seal = seal;
}

-- the fields of the head are those of the bytes
head_is : (version flags number : ℕ) (bytes : List ℕ) (words : List (List ℕ)) (body seal : List ℕ)
    → version ≡ word_at bytes 4 → flags ≡ flags_of bytes → number ≡ number_of bytes
    → ◌≡◌ {A = Parts} (record {
      version = version;
      flags = flags;
      number = number;
      words = words;
      body = body;
      seal = seal;
    }) (parts bytes words body seal)
head_is version flags number bytes words body seal v f n = rw (v, f, n) refl

-- equal words, data and seals make equal parts
rest_is : (bytes : List ℕ) (words xs : List (List ℕ)) (body ys seal zs : List ℕ) → words ≡ xs → body ≡ ys → seal ≡ zs
    → parts bytes words body seal ≡ parts bytes xs ys zs
rest_is bytes words xs body ys seal zs w b s = rw (w, b, s) refl

pub returns-clause-ok : goal.returns-clause-ok
returns-clause-ok c =
    let bytes = c.args.bytes.now in
    let text = sealed_part bytes in
    let n = word_at bytes 8 in
    let head = head_of bytes in
    let version : c.word_at-version.result ≡ word_at bytes 4 = c.word_at-version.ensures in
    let count : c.word_at-n.result ≡ n = c.word_at-n.ensures in
    let length_is : c.head_length.result ≡ head =
    c.head_length.ensures.value ∙ ap head_length version in
    let rest : c.split_at.result.1.now ≡ drop head text =
    c.split_at.ensures.back ∙ rw (length_is, c.split_seal.ensures.text) refl in
    let code : c.split_at-2.result.0.now ≡ take (8 * n) (drop head text) =
    c.split_at-2.ensures.front ∙ rw (count, rest) refl in
    let body : c.split_at-2.result.1.now ≡ drop (8 * n) (drop head text) =
    c.split_at-2.ensures.back ∙ rw (count, rest) refl in
    head_is _ _ _ bytes _ _ _ version (c.second_word.ensures ∙ rw version refl)
    (c.second_word-2.ensures ∙ rw version refl)
    ∙ rest_is bytes _ _ _ _ _ _
    (c.in_ok-read_words.ensures.words ∙ rw (count, code) (words_of-take n (drop head text)))
    (c.in_ok-from_slice.ensures.items ∙ body ∙ drop-drop (8 * n) head text) c.split_seal.ensures.seal
