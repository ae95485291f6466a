-- How the run of a script ends.
use Rattle.std.proofs.Common.{refl, sym, ap, ◌∙◌, ◌≡◌, ◌≢◌, ◌<◌, ◌≤◌, ◌+◌, ◌-◌, ℕ, suc, Bool}
use Rattle.std.proofs.Common.{false, true, List, [], ◌∷◌, ◌++◌, length, take, Option, Some, None}
use Rattle.std.proofs.Common.{arith, ◌⊎◌, inl, inr, length-append, length-take, append-nil}
use Rattle.std.proofs.Common.{append_assoc, subst}
use Rattle.std.specs.List.{concat}
use Rattle.std.proofs.lemmas.List.Folds.{concat-append}
use Rattle.std.specs.Io.KnownBytes.{Appends, Consumes, Keeps, IsAtEnd}
use Rattle.std.proofs.KnownBytes.{Appends-nil, Appends-trans, Consumes-nil, Consumes-trans, Consumes-kept}
use Rattle.std.specs.Prelude.{◌==◌, flat_map, cond, Err}
use Rattle.std.proofs.lemmas.Bool.Decides.{nat_tests}
use Rattle.std.proofs.Math.Path.{fun_ext}
use Rattle.kernel_data.specs.World.{processes}
use Rattle.script_model.specs.Meaning.{Meaning}
use Rattle.script_model.specs.Script.{LINE_BYTES, Unfinished}
use Rattle.script_model.specs.Session.{Session, fault_text}
use Rattle.script_model.specs.Kernel.{Kernel, Call}
use Rattle.placed_laws.specs.Placed.{Placed}
use Rattle.placed_laws.specs.Stands as kernels
use Rattle.placed_laws.specs.Stands.{without_history}
use Rattle.vino_base.specs.Disks.{DiskSeen}
use Rattle.script_model.specs.Outcome.{SCRIPT_BYTES, Ending, End, Fault, Over, Outcome}
use Rattle.script_model.specs.Outcome.{lines_after, rest_after, left_line, left_lines, at_end}
use Rattle.script_model.specs.Outcome.{at_ending, outcome_of, ends_as, ends_with, written}
use Rattle.script_model.specs.Text.{line}
use Rattle.vino_top.specs.Standing.{Seen, StandsFor, IsBegun, placed_left_line, placed_left_lines}
use Rattle.vino_top.specs.Standing.{last_bytes, last_status}
use Rattle.vino_base.specs.Streams.{DeviceSeen, SourceSeen, SinkSeen, IsUsed, not_used, used_then, AppendsPart}
use Rattle.commands.specs.Filtered.{HasEnded}
use Rattle.vino_top.specs.Parsed.{Parsed, first_parsed}
use Rattle.vino_top.specs.Run.{Place, parsed_of, first_on, script_lines, lines_run, pieces_run}
use Rattle.vino_top.specs.Run.{outcome_at, IsFirst, Feeds, StopsAt, stop_status, is_sink_failed}
use Rattle.vino_top.specs.Run.{Reached, WritesLast, Devices, devices, Ran, Broke, Lacked}
use Rattle.vino_top.specs.Does.{RunAnswers}
use Rattle.vino_top.specs.declared.run.Stop.{Stop}
use Rattle.vino_top.specs.declared.run.Stop.TheVariants.{SinkFailed, NoMemory}
use Rattle.vino_top.proofs.LineLemmas.{script_more}
use Rattle.vino_top.proofs.ParsedLemmas.{EndsAs, going_ends, refused_ends, text_ends}
use Rattle.vino_top.proofs.SessionLemmas.{up_is_down}
use Rattle.vino_top.proofs.RunLemmas.{fed_none, fed_more, fed_short, stops_fed, stops_from}

-- ---- where a run stands

-- it stands for a first session
pub begun_stands : (m : Meaning) (size : ℕ) (s : Seen) (known : Option (List (List ℕ))) (a : Session) →
    IsBegun s → IsFirst size known a → StandsFor m s known a
begun_stands m size s known a begun first =
    record {
      setup = ap (λ (x : Session). x.setup) first.session ∙ sym begun.setup;
      lines = ap (λ (x : Session). x.lines) first.session ∙ sym begun.lines;
      events = ap (λ (x : Session). x.events) first.session ∙ sym begun.events;
      refused = ap (λ (x : Session). x.refused) first.session ∙ sym begun.refused;
      unbooted = λ down. ap (λ (x : Session). x.kernel) first.session;
      booted = λ up. up_is_down (sym up ∙ begun.booted);
      blocks = first.blocks;
    }

-- and no line came
begun_parsed : (s : Seen) → IsBegun s → parsed_of s ≡ first_parsed
begun_parsed s begun = rw (begun.booted, begun.lines, begun.refused) refl

-- before the first read
pub reached_first : (c : Place) (s : Seen) (r g : Option (List ℕ)) (d : DiskSeen) (l : List ℕ) →
    l ≡ [] → Reached c s s r r g g d d l (SCRIPT_BYTES + 1)
reached_first c s r g d l empty =
    rw empty (record { taken = []; count = omega arith; consumed = Consumes-nil r; fed = fed_none c s [] g d })

-- a script has had no more lines than bytes
pub reached_lines : (c : Place) (s t : Seen) (r r2 g g2 : Option (List ℕ)) (d e : DiskSeen) (l : List ℕ) (left : ℕ) →
    s.lines ≡ 0 → Reached c s t r r2 g g2 d e l left → t.lines + left ≤ SCRIPT_BYTES + 1
reached_lines c s t r r2 g g2 d e l left none p =
    omega (arith, p.fed.lines, length-take SCRIPT_BYTES p.taken, p.count, none)

-- and a line that is no longer than a line may be
pub reached_short : (c : Place) (s t : Seen) (r r2 g g2 : Option (List ℕ)) (d e : DiskSeen) (l : List ℕ) (left : ℕ) →
    Reached c s t r r2 g g2 d e l left → length l ≤ LINE_BYTES
reached_short c s t r r2 g g2 d e l left p = fed_short _ _ _ _ _ _ _ _ _ _ p.fed (omega arith)

-- more bytes of the source were fed: all that it gave, but for one past the script's end
pub reached_more : (c : Place) (s t u : Seen) (r r2 r3 g g2 g3 : Option (List ℕ)) (d e f : DiskSeen)
    (l m : List ℕ) (left n : ℕ) (given : List ℕ) →
    Reached c s t r r2 g g2 d e l left → 0 < left → length given ≡ n → n ≤ left →
    Consumes r2 r3 given → Feeds c t u l m (take (left - 1) given) g2 g3 e f →
    Reached c s u r r3 g g3 d f m (left - n)
reached_more c s t u r r2 r3 g g2 g3 d e f l m left n given p some count most consumed fed =
    record {
      taken = p.taken ++ given;
      count = omega (arith, p.count, length-append p.taken given);
      consumed = Consumes-trans _ _ _ _ _ p.consumed consumed;
      fed = rw (script_more p.taken given left p.count some) (fed_more _ _ _ _ _ _ _ _ _ _ _ _ _ _ _ p.fed fed);
    }

-- ---- outcomes

-- the outcome where no line was refused
going_outcome : (e : Ending) (a : Session) (pieces : List (List ℕ)) (rest : List ℕ) →
    a.refused ≡ false → outcome_of e a pieces rest ≡ at_ending e a pieces rest
going_outcome e a pieces rest h =
    ap (λ refused. elim refused as (λ _. Outcome) [ true ↦ ends_as 2 a pieces | false ↦ at_ending e a pieces rest ]) h

-- the outcome where a line was refused
refused_outcome : (e : Ending) (a : Session) (pieces : List (List ℕ)) (rest : List ℕ) →
    a.refused ≡ true → outcome_of e a pieces rest ≡ ends_as 2 a pieces
refused_outcome e a pieces rest h =
    ap (λ refused. elim refused as (λ _. Outcome) [ true ↦ ends_as 2 a pieces | false ↦ at_ending e a pieces rest ]) h

-- the outcome over the blocks of a first session
outcome_is : (c : Place) (a : Session) (taken : List ℕ) (e : Ending) (ios : List (List Bool)) →
    a ≡ first_on c.size a.blocks →
    outcome_at c a.blocks taken e ios
    ≡ outcome_of e (lines_run c a (script_lines taken) ios)
    (pieces_run c a (script_lines taken) ios) (rest_after [] (take SCRIPT_BYTES taken))
outcome_is c a taken e ios first =
    ap (λ (x : Session). outcome_of e (lines_run c x (script_lines taken) ios) (pieces_run c x
    (script_lines taken) ios) (rest_after [] (take SCRIPT_BYTES taken))) (sym first)

-- an outcome of this status, which writes these bytes behind the pieces, and has the blocks of that session
record EndsSo (o : Outcome) (a : Session) (pieces : List (List ℕ)) (status : ℕ) (last : List ℕ) : Type 0 where
  status_is : status ≡ o.status
  bytes : written o ≡ concat pieces ++ last
  blocks : o.blocks ≡ a.blocks

-- it ends as it stands
ends_plain : (status : ℕ) (a : Session) (pieces : List (List ℕ)) → EndsSo (ends_as status a pieces) a pieces status []
ends_plain status a pieces = record { status_is = refl; bytes = sym (append-nil (concat pieces)); blocks = refl }

-- it ends with a last piece
ends_last : (status : ℕ) (a : Session) (pieces : List (List ℕ)) (last : List ℕ) →
    EndsSo (ends_with status a pieces last) a pieces status last
ends_last status a pieces last =
    record {
      status_is = refl;
      bytes = concat-append pieces (last ∷ []) ∙ ap (λ x. concat pieces ++ x) (append-nil last);
      blocks = refl;
    }

-- How a run ends, by how its outcome does.
ran_by : (c : Place) (s t : Seen) (x y : SourceSeen) (r2 : Option (List ℕ)) (k m : SinkSeen)
    (g2 : Option (List ℕ)) (d e : DiskSeen) (l : List ℕ) (left status : ℕ) (ending : Ending)
    (last : List ℕ) →
    IsBegun s → (p : Reached c s t x.rest r2 k.got g2 d e l left) → Consumes r2 y.rest [] → Appends g2 m.got last →
    (t.refused ≡ true) ⊎ HasEnded ending p.taken x y → EndsAs (parsed_of t) ending l status last →
    ((a : Session) (pieces : List (List ℕ)) → StandsFor c.meaning t e.known a →
    EndsSo (outcome_of ending a pieces l) a pieces status last) →
    Ran c (devices x k d) (devices y m e) status
ran_by c s t x y r2 k m g2 d e l left status ending last begun p kept more ended ends out =
    let lines = script_lines p.taken in
    let from = λ (a : Session) (first : IsFirst c.size d.known a).
    begun_stands c.meaning c.size s d.known a begun first in
    let is = λ (a : Session) (first : IsFirst c.size d.known a).
    outcome_is c a p.taken ending p.fed.ios first.session
    ∙ ap (outcome_of ending (lines_run c a lines p.fed.ios) (pieces_run c a lines p.fed.ios)) (sym p.fed.line_is) in
    let so = λ (a : Session) (first : IsFirst c.size d.known a).
    out (lines_run c a lines p.fed.ios) (pieces_run c a lines p.fed.ios) (p.fed.stands a (from a first)) in
    let text = text_ends c.words (parsed_of s) (parsed_of t) p.taken l p.fed.out last ending status
    (begun_parsed s begun) p.fed.line_is p.fed.by_text ends in
    record {
      taken = p.taken;
      ending = ending;
      within = omega (arith, p.count);
      consumed = rw (← append-nil p.taken) (Consumes-trans _ _ _ _ _ p.consumed kept);
      ios = p.fed.ios;
      one_each = p.fed.one_each;
      calls = p.fed.calls;
      ended = elim ended [
        | inl refused ↦ inl (ap (λ (q : Parsed). q.refused) (sym text.parsed) ∙ refused)
        | inr so ↦ inr so
      ];
      status_by_text = text.status_is;
      out = p.fed.out ++ last;
      took = Appends-trans _ _ _ _ _ p.fed.took more;
      refusal = text.refusal;
      used = λ a first. p.fed.used a (from a first);
      status_is = λ a first. (so a first).status_is ∙ ap (λ (o : Outcome). o.status) (sym (is a first));
      appended =
          λ a first. rw (is a first, (so a first).bytes)
          (Appends-trans _ _ _ _ _ (p.fed.appended a (from a first)) more);
      blocks = λ a first. rw (is a first, (so a first).blocks) (p.fed.stands a (from a first)).blocks;
    }

-- what a session of the code says of the abstract one
refused_as : {m : Meaning} (t : Seen) (known : Option (List (List ℕ))) (a : Session) (b : Bool) →
    StandsFor m t known a → t.refused ≡ b → a.refused ≡ b
refused_as t known a b stands h = stands.refused ∙ h

-- the line of a call that is left, in place
left_line_is : (p : ℕ) (o : Option Call) → placed_left_line p (without_history o) ≡ left_line p o
left_line_is p None = refl
left_line_is p (Some c) = refl

-- the lines of all that are left
left_is : {m : Meaning} (x : Placed) (k : Kernel) → kernels.StandsFor m x k →
    placed_left_lines x ≡ flat_map (λ p. left_line p (k.call p)) processes
left_is x k stands =
    ap (λ (f : ℕ → List ℕ). flat_map f processes)
    (fun_ext (λ p. ap (placed_left_line p) (stands.calls p) ∙ left_line_is p (k.call p)))

-- the same by whether `boot` was run
pub left_by : {m : Meaning} (t : Seen) (known : Option (List (List ℕ))) (a : Session) (b : Bool) →
    StandsFor m t known a → t.booted ≡ b →
    cond b (placed_left_lines t.placed) [] ≡ left_lines a.kernel
left_by t known a false stands h = ap left_lines (sym (stands.unbooted h))
left_by t known a true stands h =
    let has = stands.booted h in left_is t.placed has.kernel has.stands ∙ ap left_lines (sym has.is)

-- a failed read
pub ran_fault : (c : Place) (s t : Seen) (x y z : SourceSeen) (k m : SinkSeen) (d e : DiskSeen)
    (l : List ℕ) (left : ℕ) →
    IsBegun s → Reached c s t x.rest y.rest k.got m.got d e l left → t.refused ≡ false → 0 < left →
    Keeps y.rest z.rest →
    IsUsed x.device y.device false → IsUsed y.device z.device true → Ran c (devices x k d) (devices z m e) 3
ran_fault c s t x y z k m d e l left begun p going some kept before failed =
    ran_by c s t x z y.rest k m m.got d e l left 3 Fault [] begun p
    (keeps_consumes y.rest z.rest kept) (Appends-nil m.got)
    (inr (omega (arith, p.count), (used_then before failed).rose refl))
    (going_ends (parsed_of t) Fault l 3 [] going refl (record { before = []; is = refl }))
    (λ a pieces stands. rw (going_outcome Fault a pieces l
    (refused_as t e.known a false stands going)) (ends_plain 3 a pieces))
  where
    keeps_consumes : (r r2 : Option (List ℕ)) → Keeps r r2 → Consumes r r2 []
    keeps_consumes r r2 kept = Consumes-kept _ _ _ _ (Consumes-nil r) kept

-- more than a script may have
pub ran_over : (c : Place) (s t : Seen) (x y : SourceSeen) (k m : SinkSeen) (d e : DiskSeen) (l : List ℕ) (left : ℕ) →
    IsBegun s → Reached c s t x.rest y.rest k.got m.got d e l left → left ≡ 0 → t.refused ≡ false →
    Ran c (devices x k d) (devices y m e) 7
ran_over c s t x y k m d e l left begun p none going =
    ran_by c s t x y y.rest k m m.got d e l left 7 Over [] begun p (Consumes-nil y.rest)
    (Appends-nil m.got) (inr (omega (arith, p.count, none)))
    (going_ends (parsed_of t) Over l 7 [] going refl (record { before = []; is = refl }))
    (λ a pieces stands. rw (going_outcome Over a pieces l
    (refused_as t e.known a false stands going)) (ends_plain 7 a pieces))

-- a refused line
pub ran_stopped : (c : Place) (s t : Seen) (x y : SourceSeen) (k m : SinkSeen) (d e : DiskSeen)
    (l : List ℕ) (left : ℕ) →
    IsBegun s → Reached c s t x.rest y.rest k.got m.got d e l left → t.refused ≡ true →
    Ran c (devices x k d) (devices y m e) 2
ran_stopped c s t x y k m d e l left begun p refused =
    ran_by c s t x y y.rest k m m.got d e l left 2 Fault [] begun p (Consumes-nil y.rest)
    (Appends-nil m.got) (inl refused) (refused_ends (parsed_of t) Fault l refused)
    (λ a pieces stands. rw (refused_outcome Fault a pieces l
    (refused_as t e.known a true stands refused)) (ends_plain 2 a pieces))

-- the end of the input: behind a newline, or behind other bytes
end_so : {m : Meaning} (t : Seen) (known : Option (List (List ℕ))) (a : Session)
    (pieces : List (List ℕ)) (l : List ℕ) → StandsFor m t known a →
    EndsSo (at_end a pieces l) a pieces (last_status l) (last_bytes t l)
end_so t known a pieces [] stands =
    subst (λ (bytes : List ℕ). EndsSo (at_end a pieces []) a pieces 0 bytes)
    (sym (left_by t known a t.booted stands refl)) (ends_last 0 a pieces (left_lines a.kernel))
end_so t known a pieces (x ∷ l) stands =
    subst (λ (n : ℕ). EndsSo (at_end a pieces (x ∷ l)) a pieces
    2 (line (fault_text (suc n) Unfinished))) stands.lines
    (ends_last 2 a pieces (line (fault_text (suc a.lines) Unfinished)))

-- the same by the text
end_text : (t : Seen) (l : List ℕ) → t.refused ≡ false → EndsAs (parsed_of t) End l (last_status l) (last_bytes t l)
end_text t [] going =
    going_ends (parsed_of t) End [] 0 (last_bytes t []) going refl
    (record { before = last_bytes t []; is = sym (append-nil (last_bytes t [])) })
end_text t (x ∷ l) going =
    going_ends (parsed_of t) End (x ∷ l) 2 (last_bytes t (x ∷ l)) going refl
    (record { before = []; is = refl })

-- how the last lines end a run
pub ran_finish : (c : Place) (s t : Seen) (x y : SourceSeen) (r2 : Option (List ℕ)) (k m : SinkSeen)
    (g2 : Option (List ℕ)) (d e : DiskSeen) (l : List ℕ) (left status : ℕ) →
    IsBegun s → Reached c s t x.rest r2 k.got g2 d e l left → t.refused ≡ false → 0 < left →
    Consumes r2 y.rest [] → IsAtEnd y.rest →
    (status ≢ 4 → (status ≡ last_status l) × Appends g2 m.got (last_bytes t l)) → status ≢ 4 →
    Ran c (devices x k d) (devices y m e) status
ran_finish c s t x y r2 k m g2 d e l left status begun p going some kept end done other =
    let last = done other in
    rw last.0
    (ran_by c s t x y r2 k m g2 d e l left (last_status l) End (last_bytes t l) begun p kept last.1
    (inr (omega (arith, p.count), end)) (end_text t l going)
    (λ a pieces stands. rw (going_outcome End a pieces l
    (refused_as t e.known a false stands going)) (end_so t e.known a pieces l stands)))

-- ---- runs that stop

-- why the run stopped at a line, among those of the script
stopped : (c : Place) (s t : Seen) (r r2 r3 g g2 g3 : Option (List ℕ)) (d e f : DiskSeen)
    (l : List ℕ) (left n : ℕ) (given : List ℕ) (stop : Stop) →
    IsBegun s → (p : Reached c s t r r2 g g2 d e l left) → 0 < left →
    StopsAt c (StandsFor c.meaning t e.known) (lines_after l (take (left - 1) given)) g2 g3 e f stop →
    StopsAt c (IsFirst c.size d.known) (script_lines (p.taken ++ given)) g g3 d f stop
stopped c s t r r2 r3 g g2 g3 d e f l left n given stop begun p some q =
    let script = script_more p.taken given left p.count some in
    let all = stops_fed c s t [] l (take SCRIPT_BYTES p.taken) (take (left - 1) given) [] g g2 g3 d e f stop p.fed q in
    rw script
    (subst (λ x. StopsAt c (IsFirst c.size d.known) (lines_after [] x) g g3 d f stop)
    (append-nil (take SCRIPT_BYTES p.taken ++ take (left - 1) given))
    (stops_from c (StandsFor c.meaning s d.known) (IsFirst c.size d.known)
    (lines_after [] ((take SCRIPT_BYTES p.taken ++ take (left - 1) given) ++ [])) g g3 d f stop
    (λ a first. begun_stands c.meaning c.size s d.known a begun first) all))

-- the sink failed at a line
pub broke_fed : (c : Place) (s t : Seen) (x y : SourceSeen) (k m : SinkSeen) (r2 g2 : Option
    (List ℕ)) (d e f : DiskSeen) (l : List ℕ) (left n : ℕ) (given script : List ℕ) (stop : Stop) →
    IsBegun s → Reached c s t x.rest r2 k.got g2 d e l left → 0 < left → length given ≡ n →
    n ≤ left → Consumes r2 y.rest given →
    script ≡ take (left - 1) given → stop_status stop ≡ 4 →
    StopsAt c (StandsFor c.meaning t e.known) (lines_after l script) g2 m.got e f stop →
    Broke c (devices x k d) (devices y m f)
broke_fed c s t x y k m r2 g2 d e f l left n given script SinkFailed begun p some count most consumed is four q =
    record {
      taken = p.taken ++ given;
      within = omega (arith, p.count, length-append p.taken given);
      consumed = Consumes-trans _ _ _ _ _ p.consumed consumed;
      short =
          inl (stopped c s t x.rest r2 y.rest k.got g2 m.got d e f l left n given SinkFailed begun p
          some (rw is at q));
    }
broke_fed c s t x y k m r2 g2 d e f l left n given script NoMemory begun p some count most
    consumed is four q =
    absurd (omega (arith, four))

-- there was no memory for a line
pub lacked_fed : (c : Place) (s t : Seen) (x y : SourceSeen) (k m : SinkSeen) (r2 g2 : Option
    (List ℕ)) (d e f : DiskSeen) (l : List ℕ) (left n : ℕ) (given script : List ℕ) (stop : Stop) →
    IsBegun s → Reached c s t x.rest r2 k.got g2 d e l left → 0 < left → length given ≡ n →
    n ≤ left → Consumes r2 y.rest given →
    script ≡ take (left - 1) given → stop_status stop ≡ 5 →
    StopsAt c (StandsFor c.meaning t e.known) (lines_after l script) g2 m.got e f stop →
    Lacked c (devices x k d) (devices y m f)
lacked_fed c s t x y k m r2 g2 d e f l left n given script SinkFailed begun p some count most
    consumed is five q =
    absurd (omega (arith, five))
lacked_fed c s t x y k m r2 g2 d e f l left n given script NoMemory begun p some count most consumed is five q =
    record {
      taken = p.taken ++ given;
      within = omega (arith, p.count, length-append p.taken given);
      consumed = Consumes-trans _ _ _ _ _ p.consumed consumed;
      lacks = stopped c s t x.rest r2 y.rest k.got g2 m.got d e f l left n given NoMemory begun p some (rw is at q);
    }

-- the sink failed at the last lines
pub broke_finish : (c : Place) (s t : Seen) (x y : SourceSeen) (k m : SinkSeen)
    (r2 g2 : Option (List ℕ)) (d e : DiskSeen) (l : List ℕ) (left : ℕ) →
    IsBegun s → (p : Reached c s t x.rest r2 k.got g2 d e l left) → t.refused ≡ false → 0 < left →
    Consumes r2 y.rest [] → IsAtEnd y.rest →
    AppendsPart g2 m.got (last_bytes t l) → Broke c (devices x k d) (devices y m e)
broke_finish c s t x y k m r2 g2 d e l left begun p going some kept end cut =
    let lines = script_lines p.taken in
    let from = λ (a : Session) (first : IsFirst c.size d.known a).
    begun_stands c.meaning c.size s d.known a begun first in
    let so = λ (a : Session) (first : IsFirst c.size d.known a).
    let b = lines_run c a lines p.fed.ios in
    let stands = p.fed.stands a (from a first) in
    subst (λ o. EndsSo o b (pieces_run c a lines p.fed.ios) (last_status l) (last_bytes t l))
    (sym (going_outcome End b (pieces_run c a lines p.fed.ios) l (refused_as t e.known b false stands going)))
    (end_so t e.known b (pieces_run c a lines p.fed.ios) l stands) in
    let is = λ (a : Session) (first : IsFirst c.size d.known a).
    outcome_is c a p.taken End p.fed.ios first.session
    ∙ ap (outcome_of End (lines_run c a lines p.fed.ios) (pieces_run c a lines p.fed.ios)) (sym p.fed.line_is) in
    record {
      taken = p.taken;
      within = omega (arith, p.count);
      consumed = rw (← append-nil p.taken) (Consumes-trans _ _ _ _ _ p.consumed kept);
      short = inr (record {
        ended = (omega (arith, p.count), end);
        ios = p.fed.ios;
        one_each = p.fed.one_each;
        calls = p.fed.calls;
        part = cut.part;
        more = cut.more;
        lacks = cut.lacks;
        used = λ a first. p.fed.used a (from a first);
        bytes =
            λ a first. ap written (is a first) ∙ (so a first).bytes
            ∙ ap (λ bytes. concat (pieces_run c a lines p.fed.ios) ++ bytes) cut.whole
            ∙ sym (append_assoc (concat (pieces_run c a lines p.fed.ios)) cut.part cut.more);
        appended = λ a first. Appends-trans _ _ _ _ _ (p.fed.appended a (from a first)) cut.appended;
        blocks = λ a first. rw (is a first, (so a first).blocks) (p.fed.stands a (from a first)).blocks;
      });
    }

-- the last bytes were written
pub last_done : (bytes : List ℕ) (status : ℕ) (k m : SinkSeen) → (status ≡ 0) ⊎ (status ≡ 2) →
    Appends k.got m.got bytes →
    IsUsed k.device m.device false → WritesLast bytes status k m status
last_done bytes status k m cases took used =
    record {
      done = λ other. (refl, took);
      broken = λ four. absurd (not_four status cases four);
      statuses = elim cases [
        | inl none ↦ inl none
        | inr two ↦ inr (inl two)
      ];
      sink = subst (IsUsed k.device m.device) (sym (four_is status cases)) used;
    }
  where
    not_four : (n : ℕ) → (n ≡ 0) ⊎ (n ≡ 2) → n ≡ 4 → ⊥
    not_four n (inl h) is = omega (arith, h, is)
    not_four n (inr h) is = omega (arith, h, is)

    four_is : (n : ℕ) → (n ≡ 0) ⊎ (n ≡ 2) → (n == 4) ≡ false
    four_is n cases = grind (arith, nat_tests, cases)

-- or a part of them
pub last_cut : (bytes : List ℕ) (status : ℕ) (k m : SinkSeen) → AppendsPart k.got m.got bytes →
    IsUsed k.device m.device true → WritesLast bytes status k m 4
last_cut bytes status k m part used =
    record {
      done = λ other. absurd (other refl);
      broken = λ four. part;
      statuses = inr (inr refl);
      sink = used;
    }

-- ---- other words

-- known bytes that stay
pub kept : (bytes : Option (List ℕ)) → Keeps bytes bytes
kept None = tt
kept (Some xs) = refl

-- the statuses of a run aren't that of the usage line
pub known_run : (status : ℕ) → (status ≡ 0) ⊎ (status ≡ 2) ⊎ (status ≡ 3) ⊎ (status ≡ 4)
    ⊎ (status ≡ 5) ⊎ (status ≡ 7) → status ≢ 1
known_run status cases = λ is. grind (arith, cases, is)

-- there was no memory before the first byte
pub no_memory : (c : Place) (x : Devices) → RunAnswers c x x 5
no_memory c x =
    record {
      does = record {
        known = λ is. absurd (omega (arith, is));
        ran = λ four five. absurd (five refl);
        broke = λ is. absurd (omega (arith, is));
        memory = λ five. inl (kept x.source.rest, kept x.sink.got, refl);
      };
      statuses = inr (inr (inr (inr (inl refl))));
      source = not_used x.source.device;
      sink = not_used x.sink.device;
    }

-- a source that wasn't read, where the status isn't that of one that failed
pub not_read : (a : DeviceSeen) (status : ℕ) → (status == 3) ≡ false → IsUsed a a (status == 3)
not_read a status other = subst (IsUsed a a) (sym other) (not_used a)

-- neither `demo` nor the usage line have that status
pub demo_reads : (status : ℕ) → (status ≡ 0) ⊎ (status ≡ 4) ⊎ (status ≡ 5) → (status == 3) ≡ false
demo_reads status cases = grind (arith, nat_tests, cases)

pub usage_reads : {A B : Type 0} (status : ℕ) → (status ≡ 1) × A ⊎ (status ≡ 4) × B → (status == 3) ≡ false
usage_reads status (inl one) = grind (arith, nat_tests, one.0)
usage_reads status (inr four) = grind (arith, nat_tests, four.0)

-- a run that stopped for its sink has the status of that
pub stop_is : (stop : Stop) → is_sink_failed {A = Unit {0}} (Err stop) ≡ (stop_status stop == 4)
stop_is SinkFailed = refl
stop_is NoMemory = refl

-- and never that of its source
pub stop_reads : (stop : Stop) → (stop_status stop == 3) ≡ false
stop_reads SinkFailed = refl
stop_reads NoMemory = refl

-- reading ended well, and the last lines were written or not
pub finish_read : (a b : DeviceSeen) (status : ℕ) → (status ≡ 0) ⊎ (status ≡ 2) ⊎ (status ≡ 4) → IsUsed a b false →
    IsUsed a b (status == 3)
finish_read a b status cases used = subst (IsUsed a b) (sym (other status cases)) used
  where
    other : (n : ℕ) → (n ≡ 0) ⊎ (n ≡ 2) ⊎ (n ≡ 4) → (n == 3) ≡ false
    other n cases = grind (arith, nat_tests, cases)

-- a run stopped within a script: its source didn't fail, its sink where the status says so
pub stop_read : (a b : DeviceSeen) (stop : Stop) (status : ℕ) → status ≡ stop_status stop → IsUsed a b false →
    IsUsed a b (status == 3)
stop_read a b stop status is used = subst (IsUsed a b) (sym (ap (λ n. n == 3) is ∙ stop_reads stop)) used

pub stop_written : (a b d : DeviceSeen) (stop : Stop) (status : ℕ) → status ≡ stop_status stop → IsUsed a b false →
    IsUsed b d (is_sink_failed {A = Unit {0}} (Err stop)) → IsUsed a d (status == 4)
stop_written a b d stop status is before used =
    subst (IsUsed a d) (stop_is stop ∙ ap (λ n. n == 4) (sym is))
    (used_then {failed = is_sink_failed {A = Unit {0}} (Err stop)} before used)
