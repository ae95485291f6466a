-- Lines that begin with an added word, and others.
use Rattle.std.proofs.Common.{◌≡◌, ◌≤◌, ◌⊎◌, inl, inr, ◌∙◌, ◌&&◌, ◌==◌, ℕ, suc, Bool, true, false, cond, not}
use Rattle.std.proofs.Common.{List, [], ◌∷◌, ◌++◌, length, take, Option, None, Some, is_some, Result, Ok, Err}
use Rattle.std.proofs.Common.{refl, sym, ap, subst, arith}
use Rattle.std.specs.Prelude.{nat_lt}
use Rattle.std.proofs.Math.Seq.{take-append_seam, drop-append_seam}
use Rattle.std.proofs.lemmas.Bool.Decides.{nat_tests}
use Rattle.std.proofs.lemmas.Slice.Eq.{bytes_eq-Decides}
use Rattle.script_model.specs.World.{same_bytes}
use Rattle.script_model.specs.declared.CallName.{CallName}
use Rattle.script_model.specs.declared.Command.{Command}
use Rattle.script_model.specs.declared.Command.TheVariants.{Call}
use Rattle.script_model.specs.Script.{Entry, Blank, ScriptFault, TooLong, OwnWord, own_named, or_own}
use Rattle.script_model.specs.Script.{command_named, command_among, call_word, words_of, first_word, other_words}
use Rattle.script_model.specs.Script.{is_blank, entry_at, parsed_line, LINE_BYTES}
use Rattle.script_text.specs.Words.{word_length, front_word, words_left}
use Rattle.script_text.specs.OwnWords.{is_name, is_new, are_words, IsAmong, ReadAsItsCall, OthersStay}
use Rattle.script_text.proofs.Lines.{parsed-first}

-- ---- other lines

-- a line by the command of its first word
abbrev line_of : Bool → List ℕ → Option Command → Result Entry ScriptFault
line_of booted text c =
    elim (nat_lt LINE_BYTES (length text)) [
      | true ↦ Err TooLong
      | false ↦ elim (is_blank text) [
        | true ↦ Ok Blank
        | false ↦ entry_at booted (other_words (words_of text)) c
      ]
    ]

no_other : (own : List OwnWord) (word : List ℕ) (c : Option Command) →
    (is_some c ≡ true) ⊎ (own_named own word ≡ None) → or_own own word c ≡ or_own [] word c
no_other own word (Some c) h = refl
no_other own word None (inl h) = absurd cc
no_other own word None (inr h) = h

pub others_stay : OthersStay
others_stay own booted text h =
    let word = first_word (words_of text) in
    ap (line_of booted text) (no_other own word (command_named word) h)

-- ---- words of calls

call_length : (name : CallName) → word_length (call_word name) ≡ length (call_word name)
call_length CallName.Spawn = refl
call_length CallName.Exit = refl
call_length CallName.Yield = refl
call_length CallName.Sync = refl
call_length CallName.Open = refl
call_length CallName.Close = refl
call_length CallName.Read = refl
call_length CallName.Write = refl
call_length CallName.Lock = refl
call_length CallName.Unlock = refl
call_length CallName.Poke = refl
call_length CallName.Peek = refl
call_length CallName.Tune = refl
call_length CallName.Default = refl
call_length CallName.Give = refl
call_length CallName.Install = refl
call_length CallName.Remove = refl
call_length CallName.Fund = refl
call_length CallName.Bill = refl
call_length CallName.Serve = refl
call_length CallName.StreamRead = refl
call_length CallName.StreamWrite = refl

call_blank : (name : CallName) → is_blank (call_word name) ≡ false
call_blank CallName.Spawn = refl
call_blank CallName.Exit = refl
call_blank CallName.Yield = refl
call_blank CallName.Sync = refl
call_blank CallName.Open = refl
call_blank CallName.Close = refl
call_blank CallName.Read = refl
call_blank CallName.Write = refl
call_blank CallName.Lock = refl
call_blank CallName.Unlock = refl
call_blank CallName.Poke = refl
call_blank CallName.Peek = refl
call_blank CallName.Tune = refl
call_blank CallName.Default = refl
call_blank CallName.Give = refl
call_blank CallName.Install = refl
call_blank CallName.Remove = refl
call_blank CallName.Fund = refl
call_blank CallName.Bill = refl
call_blank CallName.Serve = refl
call_blank CallName.StreamRead = refl
call_blank CallName.StreamWrite = refl

call_named : (name : CallName) → command_named (call_word name) ≡ Some (Call name)
call_named CallName.Spawn = refl
call_named CallName.Exit = refl
call_named CallName.Yield = refl
call_named CallName.Sync = refl
call_named CallName.Open = refl
call_named CallName.Close = refl
call_named CallName.Read = refl
call_named CallName.Write = refl
call_named CallName.Lock = refl
call_named CallName.Unlock = refl
call_named CallName.Poke = refl
call_named CallName.Peek = refl
call_named CallName.Tune = refl
call_named CallName.Default = refl
call_named CallName.Give = refl
call_named CallName.Install = refl
call_named CallName.Remove = refl
call_named CallName.Fund = refl
call_named CallName.Bill = refl
call_named CallName.Serve = refl
call_named CallName.StreamRead = refl
call_named CallName.StreamWrite = refl

-- ---- a word and what stands behind it

-- the first word of a text that begins with a word and goes on behind it
joined_length : (name rest : List ℕ) → word_length name ≡ length name → word_length rest ≡ 0 →
    word_length (name ++ rest) ≡ length name
joined_length [] rest plain behind = behind
joined_length (b ∷ bs) rest plain behind = by (b == 32) refl (λ less. joined_length bs rest less behind)
  where
    by : (t : Bool) → (b == 32) ≡ t → (word_length bs ≡ length bs → word_length (bs ++ rest) ≡ length bs) →
        word_length (b ∷ bs ++ rest) ≡ length (b ∷ bs)
    by true space more =
        let none : word_length (b ∷ bs) ≡ 0 = grind (arith, nat_tests) in absurd (omega (arith, none, plain))
    by false other more =
        let here : word_length (b ∷ bs) ≡ suc (word_length bs) = grind (arith, nat_tests) in
        let there : word_length (b ∷ (bs ++ rest)) ≡ suc (word_length (bs ++ rest)) = grind (arith, nat_tests) in
        let less : word_length bs ≡ length bs = omega (arith, here, plain) in
        there ∙ ap suc (more less)

-- a text isn't blank that begins with a word
joined_blank : (name rest : List ℕ) → is_blank name ≡ false → is_blank (name ++ rest) ≡ false
joined_blank [] rest h = absurd cc
joined_blank (b ∷ bs) rest h = h

-- a line that begins with a word, by the command of that word
begins_with : (own : List OwnWord) (booted : Bool) (name rest : List ℕ) (c : Command) →
    length (name ++ rest) ≤ LINE_BYTES → word_length name ≡ length name → word_length rest ≡ 0 →
    is_blank name ≡ false → command_among own name ≡ Some c →
    parsed_line own booted (name ++ rest) ≡ entry_at booted (words_left rest) (Some c)
begins_with own booted name rest c short plain behind some names =
    let e : length name ≡ word_length (name ++ rest) = sym (joined_length name rest plain behind) in
    let front : front_word (name ++ rest) ≡ name =
    ap (λ n. take n (name ++ rest)) (sym e) ∙ take-append_seam name rest in
    parsed-first own booted (name ++ rest) (length name) (Some c) short (joined_blank name rest some) e
    (ap (command_among own) front ∙ names)
    ∙ ap (λ text. entry_at booted (words_left text) (Some c)) (drop-append_seam name rest)

-- ---- words that are added

-- what is known of a word that is added
record IsFound (own : List OwnWord) (w : OwnWord) : Type 0 where
  plain : word_length w.name ≡ length w.name
  some : is_blank w.name ≡ false
  differs : command_named w.name ≡ None
  named : own_named own w.name ≡ Some (Call w.call)

no_command : (c : Option Command) → is_some c ≡ false → c ≡ None
no_command None h = refl
no_command (Some c) h = absurd cc

same_self : (word : List ℕ) → same_bytes word word ≡ true
same_self word = (bytes_eq-Decides word word).1 refl

same_is : (xs ys : List ℕ) → same_bytes xs ys ≡ true → xs ≡ ys
same_is xs ys h = (bytes_eq-Decides xs ys).0 h

-- a word in front of others
named_first : (w : OwnWord) (ws : List OwnWord) (word : List ℕ) (t : Bool) → same_bytes w.name word ≡ t →
    own_named (w ∷ ws) word ≡ cond t (Some (Call w.call)) (own_named ws word)
named_first w ws word true h = rw h refl
named_first w ws word false h = rw h refl

-- words of which none has this name aren't found by it
not_named : (v w : OwnWord) (vs : List OwnWord) (t : Bool) → same_bytes v.name w.name ≡ t →
    own_named vs v.name ≡ None → own_named vs w.name ≡ Some (Call w.call) → t ≡ false
not_named v w vs false h none found = refl
not_named v w vs true h none found =
    let no : None ≡ Some (Call w.call) = sym none ∙ ap (own_named vs) (same_is v.name w.name h) ∙ found in
    absurd cc

both_left : (a b : Bool) → (a && b) ≡ true → a ≡ true
both_left true b h = refl
both_left false b h = h

both_right : (a b : Bool) → (a && b) ≡ true → b ≡ true
both_right true b h = h
both_right false b h = absurd cc

isnt : (a : Bool) → not a ≡ true → a ≡ false
isnt true h = absurd cc
isnt false h = refl

found : (own : List OwnWord) (w : OwnWord) → are_words own ≡ true → IsAmong w own → IsFound own w
found [] w are among = absurd among
found (v ∷ vs) w are (inl is) =
    let name = both_left (is_name v.name) (is_new vs v.name && are_words vs) are in
    let more = both_right (is_name v.name) (is_new vs v.name && are_words vs) are in
    let new = both_left (is_new vs v.name) (are_words vs) more in
    subst (IsFound (v ∷ vs)) is (record {
      plain =
          let same = both_left (word_length v.name == length v.name) (not (is_blank v.name)) name in
          grind (arith, nat_tests, same);
      some = isnt (is_blank v.name) (both_right (word_length v.name == length v.name) (not (is_blank v.name)) name);
      differs =
          no_command (command_named v.name)
          (isnt (is_some (command_named v.name)) (both_left (not (is_some (command_named v.name)))
          (not (is_some (own_named vs v.name))) new));
      named = named_first v vs v.name true (same_self v.name);
    })
found (v ∷ vs) w are (inr among) =
    let more = both_right (is_name v.name) (is_new vs v.name && are_words vs) are in
    let new = both_left (is_new vs v.name) (are_words vs) more in
    let later = found vs w (both_right (is_new vs v.name) (are_words vs) more) among in
    let none = no_command (own_named vs v.name) (isnt (is_some (own_named vs v.name))
    (both_right (not (is_some (command_named v.name))) (not (is_some (own_named vs v.name))) new)) in
    record {
      plain = later.plain;
      some = later.some;
      differs = later.differs;
      named =
          named_first v vs w.name false
          (not_named v w vs (same_bytes v.name w.name) refl none later.named) ∙ later.named;
    }

pub read_as_its_call : ReadAsItsCall
read_as_its_call own w booted rest are among behind short call_short =
    let is = found own w are among in
    begins_with own booted w.name rest (Call w.call) short is.plain behind is.some
    (ap (or_own own w.name) is.differs ∙ is.named)
    ∙ sym (begins_with [] booted (call_word w.call) rest (Call w.call) call_short (call_length w.call)
    behind (call_blank w.call) (ap (or_own [] (call_word w.call)) (call_named w.call)))
