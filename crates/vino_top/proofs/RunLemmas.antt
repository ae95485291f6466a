-- How the run of a script goes on, line after line, and why it stops.
use Rattle.std.proofs.Common.{subst, zero, MatchResult, OnOk, get_or, take, drop, Result, Ok, Err}
use Rattle.std.proofs.Common.{◌<◌, ◌≡◌, ℕ, suc, ◌+◌, ◌≤◌, Bool, true, false, List, [], ◌∷◌, ◌++◌}
use Rattle.std.proofs.Common.{Option, Some, arith, length, refl, sym, ap, ◌∙◌, length-append}
use Rattle.std.proofs.Common.{length-drop, append_assoc, append-nil}
use Rattle.std.specs.List.{concat}
use Rattle.std.specs.Prelude.{flat_map}
use Rattle.std.proofs.lemmas.List.Folds.{concat-append}
use Rattle.std.specs.Io.KnownBytes.{Appends}
use Rattle.std.proofs.lemmas.List.{take_more, take-append-drop, take_all, get_or-drop}
use Rattle.std.proofs.KnownBytes.{Appends-nil, Appends-trans}
use Rattle.call_pieces.specs.Calls.{Knows, Made}
use Rattle.call_pieces.specs.Joined.{made_none, made_joined}
use Rattle.script_model.specs.Script.{LINE_BYTES}
use Rattle.kernel_data.specs.World.{Blocks}
use Rattle.script_model.specs.Session.{Session}
use Rattle.script_model.specs.Outcome.{lines_after, rest_after, ends_line, ended_line}
use Rattle.vino_base.specs.Disks.{DiskSeen}
use Rattle.script_text.specs.Words.{IsWholeLine}
use Rattle.vino_base.specs.Streams.{AppendsPart}
use Rattle.vino_top.specs.Run.{Place, line_run, lines_run, parsed_of, pieces_run, Uses, UsesAll}
use Rattle.vino_top.specs.Run.{MadeAll, Left, LineMatches, RunsLine, WantsAt, Feeds, StopsAt}
use Rattle.vino_top.specs.Run.{TakesLine}
use Rattle.vino_top.specs.Standing.{Seen, StandsFor}
use Rattle.vino_top.specs.declared.run.Stop.{Stop}
use Rattle.vino_top.specs.declared.run.Stop.TheVariants.{SinkFailed, NoMemory}
use Rattle.vino_top.proofs.ParsedLemmas.{goes_none, goes_more}
use Rattle.vino_top.proofs.LineLemmas.{lines-append, rest-append, lines_ended, lines_gone}
use Rattle.vino_top.proofs.LineLemmas.{rest_ended, rest_gone, rest_short}

-- ---- lists of calls

-- the calls of two parts
calls-append : (is js : List (List Bool)) → flat_map (λ (io : List Bool). io)
    (is ++ js) ≡ flat_map (λ (io : List Bool). io) is ++ flat_map (λ (io : List Bool). io) js
calls-append [] js = refl
calls-append (io ∷ is) js =
    ap (λ (rest : List Bool). io ++ rest) (calls-append is js)
    ∙ sym (append_assoc io (flat_map (λ (io : List Bool). io) is) (flat_map (λ (io : List Bool). io) js))

-- no calls
pub all_made_none : (d : DiskSeen) → MadeAll d d []
all_made_none d = made_none d

-- the calls of one line
pub all_made_one : (d e : DiskSeen) (io : List Bool) → Made d e io → MadeAll d e (io ∷ [])
all_made_one d e io made = rw (append-nil io) made

-- the calls of some lines, and of more
pub all_made_joined : (d e f : DiskSeen) (is js : List (List Bool)) → MadeAll d e is →
    MadeAll e f js → MadeAll d f (is ++ js)
all_made_joined d e f is js first second =
    rw (calls-append is js) (made_joined d e f (flat_map (λ (io : List Bool). io) is)
    (flat_map (λ (io : List Bool). io) js) first second)

-- ---- lines in two parts

-- a session after lines that come in two parts
pub after-append : (c : Place) (a : Session) (xs ys : List (List ℕ)) (is js : List (List Bool)) →
    length is ≡ length xs →
    lines_run c a (xs ++ ys) (is ++ js) ≡ lines_run c (lines_run c a xs is) ys js
after-append c a [] ys [] js h = refl
after-append c a [] ys (io ∷ is) js h = absurd (omega (arith, h))
after-append c a (x ∷ xs) ys [] js h = absurd (omega (arith, h))
after-append c a (x ∷ xs) ys (io ∷ is) js h = after-append c (line_run c a x io).session xs ys is js (omega (arith, h))

-- and what they write
pieces-append : (c : Place) (a : Session) (xs ys : List (List ℕ)) (is js : List (List Bool)) → length is ≡ length xs →
    pieces_run c a (xs ++ ys) (is ++ js) ≡ pieces_run c a xs is ++ pieces_run c (lines_run c a xs is) ys js
pieces-append c a [] ys [] js h = refl
pieces-append c a [] ys (io ∷ is) js h = absurd (omega (arith, h))
pieces-append c a (x ∷ xs) ys [] js h = absurd (omega (arith, h))
pieces-append c a (x ∷ xs) ys (io ∷ is) js h =
    ap (λ ps. (line_run c a x io).bytes ∷ ps)
    (pieces-append c (line_run c a x io).session xs ys is js (omega (arith, h)))

-- and their calls
pub uses-append : (c : Place) (a : Session) (xs ys : List (List ℕ)) (is js : List (List Bool)) → length is ≡ length xs →
    UsesAll c a xs is → UsesAll c (lines_run c a xs is) ys js → UsesAll c a (xs ++ ys) (is ++ js)
uses-append c a [] ys [] js h p q = q
uses-append c a [] ys (io ∷ is) js h p q = absurd (omega (arith, h))
uses-append c a (x ∷ xs) ys [] js h p q = absurd (omega (arith, h))
uses-append c a (x ∷ xs) ys (io ∷ is) js h p q =
    (p.0, uses-append c (line_run c a x io).session xs ys is js (omega (arith, h)) p.1 q)

-- ---- the calls of one line

-- a disk tells its blocks, and no others
same_told : (known : Option (List (List ℕ))) (x y : Blocks) → Knows known x → Knows known y → x ≡ y
same_told known x y p q = same_some x y (sym p ∙ q)
  where
    same_some : (f g : Blocks) → Some f ≡ Some g → f ≡ g
    same_some f g h = cc

-- what comes of a line with its own calls alone
pub comes_alone : (c : Place) (text : List ℕ) (s t : Seen) (d e : DiskSeen) (out : Left)
    (r : RunsLine c text s t d e out) (a : Session) → StandsFor c.meaning s d.known a →
    LineMatches c.meaning t e.known out (line_run c a text r.io) []
comes_alone c text s t d e out r a from =
    subst (λ io. LineMatches c.meaning t e.known out (line_run c a text io) []) (append-nil r.io)
    (r.comes a [] from)

-- a line makes its calls, no fewer and no more
pub line_uses : (c : Place) (text : List ℕ) (s t : Seen) (d e : DiskSeen) (out : Left)
    (r : RunsLine c text s t d e out) (a : Session) → StandsFor c.meaning s d.known a →
    Uses c a text r.io
line_uses c text s t d e out r a from =
    let now = comes_alone c text s t d e out r a from in
    record {
      left = λ rest. (r.comes a rest from).left;
      bytes = λ rest. sym (r.comes a rest from).bytes ∙ now.bytes;
      blocks = λ rest.
          same_told e.known (line_run c a text (r.io ++ rest)).session.blocks (line_run c a text
          r.io).session.blocks (r.comes a rest from).stands.blocks now.stands.blocks;
    }

-- ---- bytes that are fed

-- nothing is fed
pub fed_none : (c : Place) (s : Seen) (l : List ℕ) (g : Option (List ℕ)) (d : DiskSeen) → Feeds c s s l l [] g g d d
fed_none c s l g d =
    record {
      ios = [];
      one_each = refl;
      calls = all_made_none d;
      line_is = refl;
      lines = omega arith;
      stands = λ a from. from;
      used = λ a from. tt;
      appended = λ a from. Appends-nil g;
      out = [];
      took = Appends-nil g;
      by_text = goes_none c.words (parsed_of s);
    }

-- more bytes are fed
pub fed_more : (c : Place) (s t u : Seen) (l m n xs ys : List ℕ) (g h k : Option (List ℕ)) (d e f : DiskSeen) →
    Feeds c s t l m xs g h d e → Feeds c t u m n ys h k e f → Feeds c s u l n (xs ++ ys) g k d f
fed_more c s t u l m n xs ys g h k d e f p q =
    let second = rw p.line_is at q in
    let lines = lines-append l xs ys in
    record {
      ios = p.ios ++ second.ios;
      one_each =
          rw lines (omega (
            arith,
            length-append p.ios second.ios,
            length-append (lines_after l xs)
                (lines_after (rest_after l xs) ys),
            p.one_each,
            second.one_each,
          ));
      calls = all_made_joined d e f p.ios second.ios p.calls second.calls;
      line_is = second.line_is ∙ sym (rest-append l xs ys);
      lines = omega (arith, p.lines, second.lines, length-append xs ys);
      stands = λ a from.
          rw (lines, after-append c a (lines_after l xs) (lines_after (rest_after l xs) ys) p.ios second.ios p.one_each)
          (second.stands (lines_run c a (lines_after l xs) p.ios) (p.stands a from));
      used = λ a from.
          rw lines (uses-append c a (lines_after l xs) (lines_after (rest_after l xs) ys) p.ios
          second.ios p.one_each (p.used a from)
          (second.used (lines_run c a (lines_after l xs) p.ios) (p.stands a from)));
      appended = λ a from.
          rw (
            lines,
            pieces-append c a (lines_after l xs) (lines_after (rest_after l xs) ys)
                p.ios second.ios p.one_each,
            concat-append (pieces_run c a (lines_after l xs) p.ios)
                (pieces_run c (lines_run c a (lines_after l xs) p.ios)
                (lines_after (rest_after l xs) ys) second.ios),
          )
          (Appends-trans _ _ _ _ _ (p.appended a from)
          (second.appended (lines_run c a (lines_after l xs) p.ios) (p.stands a from)));
      out = p.out ++ second.out;
      took = Appends-trans _ _ _ _ _ p.took second.took;
      by_text =
          rw lines (goes_more c.words (parsed_of s) (parsed_of t) (parsed_of u) (lines_after l xs)
          (lines_after (rest_after l xs) ys) p.out second.out p.by_text second.by_text);
    }

-- the line goes on at this byte
pub fed_byte : (c : Place) (s : Seen) (l : List ℕ) (byte : ℕ) (g : Option (List ℕ)) (d : DiskSeen) →
    ends_line l byte ≡ false →
    Feeds c s s l (l ++ byte ∷ []) (byte ∷ []) g g d d
fed_byte c s l byte g d goes =
    let gone = lines_gone l byte [] goes in
    record {
      ios = [];
      one_each = rw gone refl;
      calls = all_made_none d;
      line_is = rw (rest_gone l byte [] goes) refl;
      lines = omega arith;
      stands = λ a from. rw gone from;
      used = λ a from. rw gone tt;
      appended = λ a from. rw gone (Appends-nil g);
      out = [];
      took = Appends-nil g;
      by_text = rw gone (goes_none c.words (parsed_of s));
    }

-- a line ended at this byte
pub fed_line : (c : Place) (s t : Seen) (l m n : List ℕ) (byte : ℕ) (g h : Option (List ℕ))
    (d e : DiskSeen) → ends_line l byte ≡ true → ended_line l byte ≡ m →
    n ≡ [] → TakesLine c m s t g h d e → Feeds c s t l n (byte ∷ []) g h d e
fed_line c s t l m n byte g h d e ends is empty p =
    let ended = lines_ended l byte [] ends in
    let r = p.runs in
    let comes = λ (a : Session) (from : StandsFor c.meaning s d.known a). comes_alone c m s t d e p.out r a from in
    record {
      ios = r.io ∷ [];
      one_each = rw ended refl;
      calls = all_made_one d e r.io r.made;
      line_is = rw (rest_ended l byte [] ends) empty;
      lines = omega (arith, p.lines);
      stands = λ a from. rw (ended, is) (comes a from).stands;
      used = λ a from. rw (ended, is) (line_uses c m s t d e p.out r a from, tt);
      appended = λ a from. rw (ended, is, append-nil (line_run c a m r.io).bytes, ← (comes a from).bytes) p.appended;
      out = p.out.bytes;
      took = p.appended;
      by_text = rw (ended, is) r.by_text;
    }

-- the byte at a place is fed
pub fed_next : (c : Place) (s t u : Seen) (l m n bytes : List ℕ) (i : ℕ) (g h k : Option (List ℕ))
    (d e f : DiskSeen) → i < length bytes →
    Feeds c s t l m (take i bytes) g h d e → Feeds c t u m n (get_or bytes i 0 ∷ []) h k e f →
    Feeds c s u l n (take (i + 1) bytes) g k d f
fed_next c s t u l m n bytes i g h k d e f below p q =
    rw (take_more bytes i 0 below) (fed_more c s t u l m n (take i bytes) (get_or bytes i 0 ∷ []) g h k d e f p q)

-- bytes among which no line ends
fed_plain : (c : Place) (s : Seen) (l m xs : List ℕ) (g : Option (List ℕ)) (d : DiskSeen) →
    lines_after l xs ≡ [] → rest_after l xs ≡ m →
    Feeds c s s l m xs g g d d
fed_plain c s l m xs g d none rest =
    record {
      ios = [];
      one_each = rw none refl;
      calls = all_made_none d;
      line_is = sym rest;
      lines = omega arith;
      stands = λ a from. rw none from;
      used = λ a from. rw none tt;
      appended = λ a from. rw none (Appends-nil g);
      out = [];
      took = Appends-nil g;
      by_text = rw none (goes_none c.words (parsed_of s));
    }

-- a front, and a front of what is behind it
take_both : (i n : ℕ) (xs : List ℕ) → take (i + n) xs ≡ take i xs ++ take n (drop i xs)
take_both zero n xs = let same : 0 + n ≡ n = omega arith in ap (λ k. take k xs) same
take_both (suc i) n [] = let more : suc i + n ≡ suc (i + n) = omega arith in rw more (sym (none_of n))
  where
    none_of : (k : ℕ) → take k (let e : List ℕ = [] in e) ≡ []
    none_of zero = refl
    none_of (suc k) = refl
take_both (suc i) n (x ∷ xs) =
    let more : suc i + n ≡ suc (i + n) = omega arith in
    rw more (ap (λ ys. x ∷ ys) (take_both i n xs))

-- the bytes from a place on are fed, as far as no line ends
fed_on : (c : Place) (s t : Seen) (l m k bytes : List ℕ) (i n : ℕ) (g h : Option (List ℕ)) (d e : DiskSeen) →
    Feeds c s t l m (take i bytes) g h d e → lines_after m (take n (drop i bytes)) ≡ [] →
    rest_after m (take n (drop i bytes)) ≡ k →
    Feeds c s t l k (take (i + n) bytes) g h d e
fed_on c s t l m k bytes i n g h d e p none rest =
    rw (take_both i n bytes) (fed_more c s t t l m k (take i bytes) (take n (drop i bytes)) g h h d
    e e p (fed_plain c t m k (take n (drop i bytes)) h e none rest))

-- the same of these bytes by another name
pub fed_from : (c : Place) (s t : Seen) (l m k bytes part : List ℕ) (i n : ℕ)
    (g h : Option (List ℕ)) (d e : DiskSeen) → part ≡ drop i bytes →
    Feeds c s t l m (take i bytes) g h d e → lines_after m (take n part) ≡ [] → rest_after m (take n part) ≡ k →
    Feeds c s t l k (take (i + n) bytes) g h d e
fed_from c s t l m k bytes part i n g h d e is p none rest =
    fed_on c s t l m k bytes i n g h d e p (subst (λ (x : List ℕ). lines_after m (take n x) ≡ []) is
    none) (subst (λ (x : List ℕ). rest_after m (take n x) ≡ k) is rest)

-- a place behind such bytes is within
pub place_within : (bytes part : List ℕ) (i n : ℕ) → part ≡ drop i bytes → n ≤ length part →
    i ≤ length bytes → i + n ≤ length bytes
place_within bytes part i n is most inside =
    omega (arith, ap (λ (x : List ℕ). length x) is, length-drop i bytes, most, inside)

-- all bytes were fed
pub fed_whole : (c : Place) (s t : Seen) (l m bytes : List ℕ) (i : ℕ) (g h : Option (List ℕ))
    (d e : DiskSeen) → length bytes ≤ i →
    Feeds c s t l m (take i bytes) g h d e → Feeds c s t l m bytes g h d e
fed_whole c s t l m bytes i g h d e whole p = rw (take_all i bytes whole) at p

-- the line so far, once bytes were fed
pub fed_short : (c : Place) (s t : Seen) (l m xs : List ℕ) (g h : Option (List ℕ))
    (d e : DiskSeen) → Feeds c s t l m xs g h d e →
    length l ≤ LINE_BYTES → length m ≤ LINE_BYTES
fed_short c s t l m xs g h d e p short = rw p.line_is (rest_short l xs short)

-- ---- why a run stops

-- what the lines of a cut are, behind others
order_later : (first done later third : List (List ℕ)) (next : List ℕ) (second : List (List ℕ)) →
    second ≡ done ++ next ∷ later →
    (first ++ second) ++ third ≡ (first ++ done) ++ next ∷ (later ++ third)
order_later first done later third next second is =
    rw (
      is,
      append_assoc first done (next ∷ (later ++ third)),
      append_assoc first
          (done ++ next ∷ later) third,
      append_assoc done (next ∷ later) third,
    ) refl

-- Some lines were run, and why the run stopped among others; then this is why it stopped among all.
stops_later : (c : Place) (s t : Seen) (l m xs : List ℕ) (second third : List (List ℕ))
    (g h k : Option (List ℕ)) (d e f : DiskSeen) (stop : Stop) →
    Feeds c s t l m xs g h d e → StopsAt c (StandsFor c.meaning t e.known) second h k e f stop →
    StopsAt c (StandsFor c.meaning s d.known) ((lines_after l xs ++ second) ++ third) g k d f stop
stops_later c s t l m xs second third g h k d e f SinkFailed p q =
    let first = lines_after l xs in
    record {
      done = first ++ q.done;
      next = q.next;
      later = q.later ++ third;
      order = order_later first q.done q.later third q.next second q.order;
      ios = p.ios ++ q.ios;
      io = q.io;
      one_each = omega (arith, length-append p.ios q.ios, length-append first q.done, p.one_each, q.one_each);
      calls =
          rw (append_assoc p.ios q.ios (q.io ∷ []))
          (all_made_joined d e f p.ios (q.ios ++ q.io ∷ []) p.calls q.calls);
      part = q.part;
      more = q.more;
      lacks = q.lacks;
      used = λ a from.
          let w = q.used (lines_run c a first p.ios) (p.stands a from) in (
            uses-append c a first q.done p.ios q.ios p.one_each (p.used a from) w.0,
            rw (after-append c a first q.done p.ios q.ios p.one_each) w.1,
          );
      bytes = λ a from.
          rw (after-append c a first q.done p.ios q.ios p.one_each)
          (q.bytes (lines_run c a first p.ios) (p.stands a from));
      appended = λ a from.
          let b = lines_run c a first p.ios in
          rw (
            pieces-append c a first q.done p.ios q.ios p.one_each,
            concat-append (pieces_run c a first p.ios) (pieces_run c b q.done q.ios),
            append_assoc
                (concat (pieces_run c a first p.ios)) (concat (pieces_run c b q.done q.ios)) q.part,
          )
          (Appends-trans _ _ _ _ _ (p.appended a from) (q.appended b (p.stands a from)));
      blocks = λ a from.
          rw (after-append c a first q.done p.ios q.ios p.one_each)
          (q.blocks (lines_run c a first p.ios) (p.stands a from));
    }
stops_later c s t l m xs second third g h k d e f NoMemory p q =
    let first = lines_after l xs in
    record {
      done = first ++ q.done;
      next = q.next;
      later = q.later ++ third;
      order = order_later first q.done q.later third q.next second q.order;
      ios = p.ios ++ q.ios;
      one_each = omega (arith, length-append p.ios q.ios, length-append first q.done, p.one_each, q.one_each);
      calls = all_made_joined d e f p.ios q.ios p.calls q.calls;
      used = λ a from.
          uses-append c a first q.done p.ios q.ios p.one_each (p.used a from)
          (q.used (lines_run c a first p.ios) (p.stands a from));
      wants = λ a from.
          rw (after-append c a first q.done p.ios q.ios p.one_each)
          (q.wants (lines_run c a first p.ios) (p.stands a from));
      appended = λ a from.
          let b = lines_run c a first p.ios in
          rw (
            pieces-append c a first q.done p.ios q.ios p.one_each,
            concat-append (pieces_run c a first p.ios) (pieces_run c b q.done q.ios),
          )
          (Appends-trans _ _ _ _ _ (p.appended a from) (q.appended b (p.stands a from)));
      blocks = λ a from.
          rw (after-append c a first q.done p.ios q.ios p.one_each)
          (q.blocks (lines_run c a first p.ios) (p.stands a from));
    }

-- why the run stopped at some bytes, among others
pub stops_fed : (c : Place) (s t : Seen) (l m xs ys zs : List ℕ) (g h k : Option (List ℕ))
    (d e f : DiskSeen) (stop : Stop) →
    Feeds c s t l m xs g h d e → StopsAt c (StandsFor c.meaning t e.known) (lines_after m ys) h k e f stop →
    StopsAt c (StandsFor c.meaning s d.known) (lines_after l ((xs ++ ys) ++ zs)) g k d f stop
stops_fed c s t l m xs ys zs g h k d e f stop p q =
    let second = lines_after (rest_after l xs) ys in
    let third = lines_after (rest_after l (xs ++ ys)) zs in
    rw (lines-append l (xs ++ ys) zs, lines-append l xs ys)
    (stops_later c s t l m xs second third g h k d e f stop p (rw p.line_is at q))

-- why the run stopped at the byte at a place
pub stops_next : (c : Place) (s t : Seen) (l m bytes : List ℕ) (i : ℕ) (g h k : Option (List ℕ))
    (d e f : DiskSeen) (stop : Stop) → i < length bytes →
    Feeds c s t l m (take i bytes) g h d e →
    StopsAt c (StandsFor c.meaning t e.known) (lines_after m (get_or bytes i 0 ∷ [])) h k e f stop →
    StopsAt c (StandsFor c.meaning s d.known) (lines_after l bytes) g k d f stop
stops_next c s t l m bytes i g h k d e f stop below p q =
    let byte = get_or bytes i 0 ∷ [] in
    let whole : (take i bytes ++ byte) ++ drop (i + 1) bytes ≡ bytes =
    ap (λ front. front ++ drop (i + 1) bytes) (sym (take_more bytes i 0 below)) ∙ take-append-drop (i + 1) bytes in
    subst (λ x. StopsAt c (StandsFor c.meaning s d.known) (lines_after l x) g k d f stop) whole
    (stops_fed c s t l m (take i bytes) byte (drop (i + 1) bytes) g h k d e f stop p q)

-- why a run stopped, from fewer sessions
pub stops_from : (c : Place) (from less : Session → Type 0) (lines : List (List ℕ))
    (g h : Option (List ℕ)) (d e : DiskSeen) (stop : Stop) →
    ((a : Session) → less a → from a) → StopsAt c from lines g h d e stop → StopsAt c less lines g h d e stop
stops_from c from less lines g h d e SinkFailed into p =
    record {
      done = p.done;
      next = p.next;
      later = p.later;
      order = p.order;
      ios = p.ios;
      io = p.io;
      one_each = p.one_each;
      calls = p.calls;
      part = p.part;
      more = p.more;
      lacks = p.lacks;
      used = λ a h. p.used a (into a h);
      bytes = λ a h. p.bytes a (into a h);
      appended = λ a h. p.appended a (into a h);
      blocks = λ a h. p.blocks a (into a h);
    }
stops_from c from less lines g h d e NoMemory into p =
    record {
      done = p.done;
      next = p.next;
      later = p.later;
      order = p.order;
      ios = p.ios;
      one_each = p.one_each;
      calls = p.calls;
      used = λ a h. p.used a (into a h);
      wants = λ a h. p.wants a (into a h);
      appended = λ a h. p.appended a (into a h);
      blocks = λ a h. p.blocks a (into a h);
    }

-- ---- one line

-- what holds anyway holds of a success
pub ok_anyway : {T E P : Type 0} → (r : Result T E) → P → OnOk r P
ok_anyway (Ok x) p = p
ok_anyway (Err e) p = tt

-- what a line writes was written, or a part of it
pub line_written : {T : Type 0} → (c : Place) (text : List ℕ) (s t : Seen) (out : Left)
    (g h : Option (List ℕ)) (d e : DiskSeen) (r : Result T Stop) →
    RunsLine c text s t d e out → t.lines ≤ s.lines + 1 →
    MatchResult r (λ _. Appends g h out.bytes) (λ stop. (stop ≡ SinkFailed) × AppendsPart g h out.bytes) →
    MatchResult r (λ _. TakesLine c text s t g h d e) (StopsAt c (StandsFor c.meaning s d.known) (text ∷ []) g h d e)
line_written c text s t out g h d e (Ok x) runs lines p =
    record { lines = lines; out = out; appended = p; runs = runs }
line_written c text s t out g h d e (Err stop) runs lines p =
    rw p.0 (record {
      done = [];
      next = text;
      later = [];
      order = refl;
      ios = [];
      io = runs.io;
      one_each = refl;
      calls = all_made_one d e runs.io runs.made;
      part = p.1.part;
      more = p.1.more;
      lacks = p.1.lacks;
      used = λ a from. (tt, line_uses c text s t d e out runs a from);
      bytes = λ a from. sym (comes_alone c text s t d e out runs a from).bytes ∙ p.1.whole;
      appended = λ a from. p.1.appended;
      blocks = λ a from. (comes_alone c text s t d e out runs a from).stands.blocks;
    })

-- there was no memory for a line
pub line_lacks : (c : Place) (text : List ℕ) (s : Seen) (g : Option (List ℕ)) (d e : DiskSeen) →
    e ≡ d → WantsAt c.words c.meaning s text →
    StopsAt c (StandsFor c.meaning s d.known) (text ∷ []) g g d e NoMemory
line_lacks c text s g d e same wants =
    rw same (record {
      done = [];
      next = text;
      later = [];
      order = refl;
      ios = [];
      one_each = refl;
      calls = all_made_none d;
      used = λ a from. tt;
      wants = λ a from. wants d.known a from;
      appended = λ a from. Appends-nil g;
      blocks = λ a from. from.blocks;
    })

-- a line that ended with this byte was fed, or stopped the run
pub line_ended : {T : Type 0} → (c : Place) (l m n : List ℕ) (byte : ℕ) (s t : Seen)
    (g h : Option (List ℕ)) (d e : DiskSeen) (r : Result T Stop) → ends_line l byte ≡ true →
    ended_line l byte ≡ m →
    OnOk r (n ≡ []) → MatchResult r (λ _. TakesLine c m s t g h d e)
    (StopsAt c (StandsFor c.meaning s d.known) (m ∷ []) g h d e) →
    MatchResult r (λ _. Feeds c s t l n (byte ∷ []) g h d e)
    (StopsAt c (StandsFor c.meaning s d.known) (lines_after l (byte ∷ [])) g h d e)
line_ended c l m n byte s t g h d e (Ok x) ends is empty p = fed_line c s t l m n byte g h d e ends is empty p
line_ended c l m n byte s t g h d e (Err stop) ends is empty p = rw (lines_ended l byte [] ends, is) p

-- ---- a line that stands whole in what was read

-- the bytes of a line were fed, where it stands whole behind a place
whole_before : (c : Place) (s t : Seen) (l m bytes part : List ℕ) (i n : ℕ) (g h : Option (List ℕ))
    (d e : DiskSeen) → part ≡ drop i bytes → IsWholeLine m part n →
    Feeds c s t l m (take i bytes) g h d e → Feeds c s t l (take n part) (take (i + n) bytes) g h d e
whole_before c s t l m bytes part i n g h d e is whole p =
    fed_from c s t l m (take n part) bytes part i n g h d e is p whole.none whole.rest

-- the place of its newline
pub whole_inside : (m bytes part : List ℕ) (i n : ℕ) → part ≡ drop i bytes → IsWholeLine m part n → i + n < length bytes
whole_inside m bytes part i n is whole =
    omega (arith, ap (λ (x : List ℕ). length x) is, length-drop i bytes, whole.before)

-- and what stands there
whole_byte : (m bytes part : List ℕ) (i n : ℕ) → part ≡ drop i bytes → IsWholeLine m part n →
    get_or bytes (i + n) 0 ≡ 10
whole_byte m bytes part i n is whole =
    sym (get_or-drop i bytes n 0) ∙ ap (λ (x : List ℕ). get_or x n 0) (sym is) ∙ whole.ends

-- such a line was run
pub whole_fed : (c : Place) (s t u : Seen) (l m k bytes part : List ℕ) (i n : ℕ)
    (g h v : Option (List ℕ)) (d e f : DiskSeen) → part ≡ drop i bytes → IsWholeLine m part n →
    Feeds c s t l m (take i bytes) g h d e → k ≡ [] → TakesLine c (take n part) t u h v e f →
    Feeds c s u l k (take (i + (n + 1)) bytes) g v d f
whole_fed c s t u l m k bytes part i n g h v d e f is whole p empty q =
    let line = fed_line c t u (take n part) (take n part) k 10 h v e f refl refl empty q in
    let at : i + (n + 1) ≡ (i + n) + 1 = omega arith in
    rw at (fed_next c s t u l (take n part) k bytes (i + n) g h v d e f (whole_inside m bytes part i
    n is whole) (whole_before c s t l m bytes part i n g h d e is whole p)
    (rw (whole_byte m bytes part i n is whole) line))

-- or the run stopped at it
pub whole_stops : (c : Place) (s t : Seen) (l m bytes part : List ℕ) (i n : ℕ) (g h v : Option
    (List ℕ)) (d e f : DiskSeen) (stop : Stop) → part ≡ drop i bytes → IsWholeLine m part n →
    Feeds c s t l m (take i bytes) g h d e →
    StopsAt c (StandsFor c.meaning t e.known) (take n part ∷ []) h v e f stop →
    StopsAt c (StandsFor c.meaning s d.known) (lines_after l bytes) g v d f stop
whole_stops c s t l m bytes part i n g h v d e f stop is whole p q =
    stops_next c s t l (take n part) bytes (i + n) g h v d e f stop (whole_inside m bytes part i n
    is whole) (whole_before c s t l m bytes part i n g h d e is whole p)
    (rw (whole_byte m bytes part i n is whole, lines_ended (take n part) 10 [] refl) q)
