-- Lines run one after another, and the script that `demo` generates.
use Rattle.std.proofs.Common.{◌≡◌, ◌≤◌, ◌<◌, ◌+◌, ◌-◌, ◌%◌, ◌^◌, ◌++◌, ◌∙◌, ℕ, zero, suc, Bool}
use Rattle.std.proofs.Common.{List, [], ◌∷◌, Option, length, refl, sym, ap, subst, arith}
use Rattle.std.proofs.Common.{append_assoc, append-nil, length-append, inl, inr}
use Rattle.call_pieces.specs.Calls.{Knows}
use Rattle.vino_base.specs.Disks.{DiskSeen}
use Rattle.kernel_data.specs.declared.Note.{Note}
use Rattle.script_model.specs.Session.{Session, Written, and_then}
use Rattle.script_model.specs.Demo.{demo_lines, drawn_lines, next_draw, head_lines, summary_of, summary_by}
use Rattle.demo_text.specs.declared.tally.Tally.{Tally}
use Rattle.demo_text.specs.Tallies.{IsTally}
use Rattle.vino_top.specs.Standing.{Seen, IsBegun, last_bytes}
use Rattle.vino_top.specs.Run.{Place, first_on, line_run, lines_run, UsesAll, WantsMemory, WantsAt}
use Rattle.vino_top.specs.Run.{Left, LineMatches, RunsLine}
use Rattle.vino_top.specs.Demos.{all_run, RanLines, joined, nothing_left, HasRoom, demo_place}
use Rattle.vino_top.specs.Demos.{DemoRan, DemoLacked, DemoReached, DemoTakes, DemoStops}
use Rattle.vino_base.specs.Streams.{SinkSeen, not_used}
use Rattle.vino_top.specs.Does.{DemoAnswers}
use Rattle.vino_top.proofs.EndLemmas.{begun_stands, kept, left_by}
use Rattle.vino_top.proofs.RunLemmas.{all_made_none, all_made_one, all_made_joined, comes_alone, line_uses, uses-append}

-- ---- what lines write in all

-- the session after lines
pub session_of_all : (c : Place) (a : Session) (texts : List (List ℕ)) (ios : List (List Bool)) →
    (all_run c a texts ios).session ≡ lines_run c a texts ios
session_of_all c a [] ios = refl
session_of_all c a (text ∷ texts) [] = session_of_all c (line_run c a text []).session texts []
session_of_all c a (text ∷ texts) (io ∷ ios) = session_of_all c (line_run c a text io).session texts ios

-- three parts, in order
then_assoc : (u v w : Written) → and_then u (and_then v w) ≡ and_then (and_then u v) w
then_assoc u v w =
    ap (λ (bytes : List ℕ). record {
      session = w.session;
      bytes = bytes;
      notes = u.notes ++ (v.notes ++ w.notes);
      io = w.io;
    }) (sym (append_assoc u.bytes v.bytes w.bytes))
    ∙ ap (λ (notes : List Note). record {
      session = w.session;
      bytes = (u.bytes ++ v.bytes) ++ w.bytes;
      notes = notes;
      io = w.io;
    }) (sym (append_assoc u.notes v.notes w.notes))

-- lines in two parts
all-append : (c : Place) (a : Session) (xs ys : List (List ℕ)) (is js : List (List Bool)) → length is ≡ length xs →
    all_run c a (xs ++ ys) (is ++ js) ≡ and_then (all_run c a xs is) (all_run c (all_run c a xs is).session ys js)
all-append c a [] ys [] js h = refl
all-append c a [] ys (io ∷ is) js h = absurd (omega (arith, h))
all-append c a (x ∷ xs) ys [] js h = absurd (omega (arith, h))
all-append c a (x ∷ xs) ys (io ∷ is) js h =
    let w = line_run c a x io in
    ap (and_then w) (all-append c w.session xs ys is js (omega (arith, h)))
    ∙ then_assoc w (all_run c w.session xs is) (all_run c (all_run c w.session xs is).session ys js)

-- ---- lines that were run

-- none
pub ran_none : (c : Place) (s : Seen) (d : DiskSeen) → RanLines c [] s s d d nothing_left
ran_none c s d =
    record {
      ios = [];
      one_each = refl;
      calls = all_made_none d;
      used = λ a from. tt;
      comes = λ a from. record { stands = from; left = refl; bytes = refl; notes = refl };
    }

-- one
pub ran_one : (c : Place) (text : List ℕ) (s t : Seen) (d e : DiskSeen) (out : Left) →
    RunsLine c text s t d e out → RanLines c (text ∷ []) s t d e out
ran_one c text s t d e out r =
    record {
      ios = r.io ∷ [];
      one_each = refl;
      calls = all_made_one d e r.io r.made;
      used = λ a from. (line_uses c text s t d e out r a from, tt);
      comes = λ a from.
          let came = comes_alone c text s t d e out r a from in
          record {
            stands = came.stands;
            left = refl;
            bytes = came.bytes ∙ sym (append-nil (line_run c a text r.io).bytes);
            notes = came.notes ∙ sym (append-nil (line_run c a text r.io).notes);
          };
    }

-- some, and more
pub ran_more : (c : Place) (xs ys : List (List ℕ)) (s t u : Seen) (d e f : DiskSeen)
    (out more : Left) → RanLines c xs s t d e out → RanLines c ys t u e f more →
    RanLines c (xs ++ ys) s u d f (joined out more)
ran_more c xs ys s t u d e f out more p q =
    record {
      ios = p.ios ++ q.ios;
      one_each = omega (arith, length-append p.ios q.ios, length-append xs ys, p.one_each, q.one_each);
      calls = all_made_joined d e f p.ios q.ios p.calls q.calls;
      used = λ a from.
          uses-append c a xs ys p.ios q.ios p.one_each (p.used a from)
          (subst (λ (b : Session). UsesAll c b ys q.ios) (session_of_all c a xs p.ios)
          (q.used (all_run c a xs p.ios).session (p.comes a from).stands));
      comes = λ a from.
          let first = p.comes a from in
          let second = q.comes (all_run c a xs p.ios).session first.stands in
          subst (λ (w : Written). LineMatches c.meaning u f.known (joined out more) w [])
          (sym (all-append c a xs ys p.ios q.ios p.one_each))
          (record {
            stands = second.stands;
            left = second.left;
            bytes =
                ap (λ (bytes : List ℕ). bytes ++ more.bytes) first.bytes
                ∙ ap (λ (bytes : List ℕ). (all_run c a xs p.ios).bytes ++ bytes) second.bytes;
            notes =
                ap (λ (notes : List Note). notes ++ more.notes) first.notes
                ∙ ap (λ (notes : List Note). (all_run c a xs p.ios).notes ++ notes) second.notes;
          });
    }

-- ---- the run of the script

-- before its first line
pub demo_begins : (c : Place) (all : List (List ℕ)) (s : Seen) (d : DiskSeen) (tally : Tally) →
    IsTally tally [] [] → DemoReached c all all s s d d tally
demo_begins c all s d tally is =
    record {
      done = [];
      order = refl;
      lines = omega arith;
      out = nothing_left;
      few = record { bytes = omega arith; notes = omega arith };
      ran = ran_none c s d;
      tallied = is;
    }

-- after one more
pub demo_goes_on : (c : Place) (all texts later : List (List ℕ)) (text : List ℕ) (s t u : Seen)
    (d e f : DiskSeen) (old new : Tally) →
    texts ≡ text ∷ later → DemoReached c all texts s t d e old → DemoTakes c text t u e f old new →
    DemoReached c all later s u d f new
demo_goes_on c all texts later text s t u d e f old new next p q =
    let longer : length (p.done ++ text ∷ []) ≡ length p.done + 1 = length-append p.done (text ∷ []) in
    record {
      done = p.done ++ text ∷ [];
      order = p.order ∙ ap (λ (xs : List (List ℕ)). p.done ++ xs) next ∙ sym (append_assoc p.done (text ∷ []) later);
      lines = omega (arith, p.lines, q.lines, longer);
      out = joined p.out q.out;
      few = record {
        bytes = omega (arith, length-append p.out.bytes q.out.bytes, p.few.bytes, q.few.bytes, longer);
        notes = omega (arith, length-append p.out.notes q.out.notes, p.few.notes, q.few.notes, longer);
      };
      ran = ran_more c p.done (text ∷ []) s t u d e f p.out q.out p.ran q.runs;
      tallied = q.tallied p.out p.tallied;
    }

-- there was no memory for the next one
pub demo_stops : (c : Place) (all texts later : List (List ℕ)) (text : List ℕ) (s t : Seen)
    (d e f : DiskSeen) (old : Tally) → texts ≡ text ∷ later → WantsAt c.words c.meaning t text → f ≡ e →
    DemoReached c all texts s t d e old → DemoStops c all s d f
demo_stops c all texts later text s t d e f old next wants same p =
    record {
      done = p.done;
      next = text;
      later = later;
      order = p.order ∙ ap (λ (xs : List (List ℕ)). p.done ++ xs) next;
      t = t;
      wants = wants;
      out = p.out;
      ran = subst (λ (x : DiskSeen). RanLines c p.done s t d x p.out) (sym same) p.ran;
    }

-- room for one more line
pub has_room : (c : Place) (all texts : List (List ℕ)) (s t : Seen) (d e : DiskSeen)
    (tally : Tally) → length all ≤ 5026 → DemoReached c all texts s t d e tally → HasRoom tally
has_room c all texts s t d e tally few p =
    let count : length all ≡ length p.done + length texts = ap length p.order ∙ length-append p.done texts in
    record {
      so_far = p.out;
      few = record { bytes = omega (arith, p.few.bytes, count, few); notes = omega (arith, p.few.notes, count, few) };
      is = p.tallied;
    }

-- and for its number
pub one_of_few : (c : Place) (all texts : List (List ℕ)) (s t : Seen) (d e : DiskSeen)
    (tally : Tally) → length all ≤ 5026 → s.lines ≡ 0 →
    DemoReached c all texts s t d e tally → t.lines < 2 ^ 32 - 2
one_of_few c all texts s t d e tally few fresh p =
    let count : length all ≡ length p.done + length texts = ap length p.order ∙ length-append p.done texts in
    omega (arith, p.lines, count, few, fresh)

-- how many lines there are
pub drawn_length : (n x : ℕ) → length (drawn_lines n x) ≡ n
drawn_length zero x = refl
drawn_length (suc n) x = ap suc (drawn_length n (next_draw x))

-- a head and so many drawn lines
both_lengths : (head : List (List ℕ)) (n x : ℕ) → length head ≡ 26 → length (head ++ drawn_lines n x) ≡ 26 + n
both_lengths head n x is =
    length-append head (drawn_lines n x) ∙ ap (λ k. k + length (drawn_lines n x)) is
    ∙ ap (λ k. 26 + k) (drawn_length n x)

pub script_length : (n : ℕ) → length (demo_lines n) ≡ 5026
script_length n = both_lengths head_lines 5000 (n % 2 ^ 31) refl

-- one line went on
pub demo_takes : (c : Place) (text : List ℕ) (s t : Seen) (d e : DiskSeen) (out : Left)
    (bytes : List ℕ) (notes : List Note) (old new : Tally) →
    t.lines ≤ s.lines + 1 → RunsLine c text s t d e out → bytes ≡ out.bytes → notes ≡ out.notes →
    length bytes ≤ 3028992 → length notes ≤ 530 →
    ((written : List ℕ) (known : List Note) → IsTally old written known →
    IsTally new (written ++ bytes) (known ++ notes)) → DemoTakes c text s t d e old new
demo_takes c text s t d e out bytes notes old new lines runs bytes_are notes_are few_bytes few_notes tallied =
    record {
      lines = lines;
      out = out;
      few =
          record {
            bytes = omega (arith, few_bytes, ap length bytes_are);
            notes = omega (arith, few_notes, ap (length {A = Note}) notes_are);
          };
      runs = ran_one c text s t d e out runs;
      tallied = λ so_far is. rw (← bytes_are, ← notes_are) (tallied so_far.bytes so_far.notes is);
    }

-- the line that tells of a run
pub tells : (n : ℕ) (bytes last lines text : List ℕ) (notes : List Note) →
    text ≡ summary_of n (bytes ++ lines) (notes ++ []) → lines ≡ last →
    text ≡ summary_of n (bytes ++ last) notes
tells n bytes last lines text notes is last_are =
    is ∙ ap (λ (all : List Note). summary_of n (bytes ++ lines) all) (append-nil notes)
    ∙ ap (λ (more : List ℕ). summary_of n (bytes ++ more) notes) last_are

-- ---- the whole run

-- what is told of lines, whose last lines are the code's
told_is : (c : Place) (n : ℕ) (a : Session) (texts : List (List ℕ)) (ios : List (List Bool))
    (t : Seen) (known : Option (List (List ℕ))) (out : Left) (text : List ℕ) →
    LineMatches c.meaning t known out (all_run c a texts ios) [] →
    text ≡ summary_of n (out.bytes ++ last_bytes t []) out.notes →
    text ≡ summary_by n (all_run c a texts ios)
told_is c n a texts ios t known out text came is =
    let w = all_run c a texts ios in
    is ∙ ap (λ (bytes : List ℕ). summary_of n (bytes ++ last_bytes t []) out.notes) came.bytes
    ∙ ap (λ (notes : List Note). summary_of n (w.bytes ++ last_bytes t []) notes) came.notes
    ∙ ap (λ (last : List ℕ). summary_of n (w.bytes ++ last) w.notes)
    (left_by t known w.session t.booted came.stands refl)

-- the script was run to its end
pub demo_ran : (n size : ℕ) (s t : Seen) (d e : DiskSeen) (tally : Tally) (text : List ℕ)
    (Writes : List ℕ → Type 0) → IsBegun s →
    (p : DemoReached (demo_place size) (demo_lines n) [] s t d e tally) →
    text ≡ summary_of n (p.out.bytes ++ last_bytes t []) p.out.notes → Writes text →
    DemoRan n size d e Writes
demo_ran n size s t d e tally text Writes begun p is wrote =
    let c = demo_place size in
    let all : p.done ≡ demo_lines n = sym (p.order ∙ append-nil p.done) in
    let ran = subst (λ (texts : List (List ℕ)). RanLines c texts s t d e p.out) all p.ran in
    record {
      ios = ran.ios;
      one_each = ran.one_each;
      calls = ran.calls;
      used = λ a first. ran.used a (begun_stands c.meaning size s d.known a begun first);
      writes = λ a first.
          let came = ran.comes a (begun_stands c.meaning size s d.known a begun first) in
          let known : text ≡ summary_by n (all_run c (first_on size a.blocks) (demo_lines n) ran.ios) =
          told_is c n a (demo_lines n) ran.ios t e.known p.out text came is
          ∙ ap (λ (x : Session). summary_by n (all_run c x (demo_lines n) ran.ios)) first.session in
          subst Writes known wrote;
      blocks = λ a first.
          subst (λ (b : Session). Knows e.known b.blocks) (session_of_all c a (demo_lines n) ran.ios)
          (ran.comes a (begun_stands c.meaning size s d.known a begun first)).stands.blocks;
    }

-- there was no memory for an image of it
pub demo_lacked : (n size : ℕ) (s : Seen) (d e : DiskSeen) → IsBegun s →
    DemoStops (demo_place size) (demo_lines n) s d e → DemoLacked n size d e
demo_lacked n size s d e begun p =
    let c = demo_place size in
    record {
      done = p.done;
      next = p.next;
      later = p.later;
      order = p.order;
      ios = p.ran.ios;
      one_each = p.ran.one_each;
      calls = p.ran.calls;
      wants = λ a first.
          subst (λ (b : Session). WantsMemory c.words b p.next) (session_of_all c a p.done p.ran.ios)
          (p.wants e.known (all_run c a p.done p.ran.ios).session
          (p.ran.comes a (begun_stands c.meaning size s d.known a begun first)).stands);
      used = λ a first. p.ran.used a (begun_stands c.meaning size s d.known a begun first);
      blocks = λ a first.
          subst (λ (b : Session). Knows e.known b.blocks) (session_of_all c a p.done p.ran.ios)
          (p.ran.comes a (begun_stands c.meaning size s d.known a begun first)).stands.blocks;
    }

-- the same where the lines are the code's
pub ran_over : (n size : ℕ) (lines : List (List ℕ)) (s t : Seen) (d e : DiskSeen) (tally : Tally)
    (text : List ℕ) (Writes : List ℕ → Type 0) →
    lines ≡ demo_lines n → IsBegun s → DemoReached (demo_place size) lines [] s t d e tally →
    ((so_far : Left) → IsTally tally so_far.bytes so_far.notes →
    text ≡ summary_of n (so_far.bytes ++ last_bytes t []) so_far.notes) → Writes text →
    DemoRan n size d e Writes
ran_over n size lines s t d e tally text Writes script begun p known wrote =
    let q = subst (λ (all : List (List ℕ)). DemoReached (demo_place size) all [] s t d e tally) script p in
    demo_ran n size s t d e tally text Writes begun q (known q.out q.tallied) wrote

pub lacked_over : (n size : ℕ) (lines : List (List ℕ)) (s : Seen) (d e : DiskSeen) → lines ≡ demo_lines n → IsBegun s →
    DemoStops (demo_place size) lines s d e → DemoLacked n size d e
lacked_over n size lines s d e script begun p =
    let q = subst (λ (all : List (List ℕ)). DemoStops (demo_place size) all s d e) script p in
    demo_lacked n size s d e begun q

-- the script's lines are few
pub few_lines : (n : ℕ) (lines : List (List ℕ)) → lines ≡ demo_lines n → length lines ≤ 5026
few_lines n lines is = let count : length lines ≡ 5026 = ap length is ∙ script_length n in omega (arith, count)

-- there was no memory before the first line
pub nothing_run : (n : ℕ) (k : SinkSeen) (d : DiskSeen) → DemoAnswers n k k d d 5
nothing_run n k d =
    record {
      ran = λ is. absurd (omega (arith, is));
      broke = λ is. absurd (omega (arith, is));
      memory = λ five. (kept k.got, inl refl);
      statuses = inr (inr refl);
      sink = not_used k.device;
    }
