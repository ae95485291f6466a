-- While a `serve` is in flight, and once it has ended, its notes tell its answers.
use Rattle.std.specs.Prelude.{◌≡◌, ◌≢◌, ℕ, zero, suc, ◌+◌, List, [], ◌∷◌, ◌++◌, length, Option, Some, None, map}
use Rattle.std.proofs.Common.{refl, sym, ap, subst, ◌∙◌, inl, inr, arith}
use Rattle.std.proofs.lemmas.Bool.{cases_eq}
use Rattle.std.proofs.lemmas.List.{append-nil, append_assoc, length-append}
use Rattle.script_model.specs.declared.Note.{Note}
use Rattle.script_model.specs.declared.Note.TheVariants.{Ended}
use Rattle.script_model.specs.declared.Reply.TheVariants.{One}
use Rattle.script_model.specs.declared.Point.{Point}
use Rattle.script_model.specs.declared.SysCall.TheVariants.{Serve}
use Rattle.script_model.specs.Objects.{Objects, at}
use Rattle.script_model.specs.Handlers.{handlers_at}
use Rattle.script_model.specs.Meaning.{Meaning, Stage, Answer, Piece, After, Continues, EndsWith}
use Rattle.script_model.specs.Kernel.{Call, Run, gave_note, after_note, call_after, finish}
use Rattle.script_model.specs.Settle.{finish_on}
use Rattle.script_model.specs.EventPoints.{point_of_port, event_ask, serve_ask, serves_on, serve_piece, event_piece}
use Rattle.session_laws.specs.Sent.{those, numbered, sent, given, taken_by}
use Rattle.session_laws.specs.Served.{MeansServe, AreSomeOf, TellAnswers}
use Rattle.session_laws.proofs.ServePartLemmas.{all_are_some, some_without, front_is_some}
use Rattle.session_laws.proofs.ServeThoseLemmas.{those_append, those_numbered, sent_append, given_append, given_one}
use Rattle.session_laws.proofs.ShownLemmas.{Shown, and_then, then_nothing, takes, completes}
use Rattle.session_laws.proofs.ServeKeptLemmas.{no_point}
use Rattle.session_laws.proofs.ServeOtherLemmas.{at_here, TellsEnd, one_contained}
use Rattle.session_laws.proofs.ServeOtherLemmas.{gave_no_end, on_no_end, end_cases}
use Rattle.session_laws.proofs.ServeOtherLemmas.{after_gives_none, Leaves, no_more, some_call}
use Rattle.session_laws.proofs.ServeOtherLemmas.{no_call}
use Rattle.call_laws.specs.Ledgers.{at_other}

-- ---- a `serve` in flight

-- the call with this number, of process p: a `serve` that hasn't ended, with as many answers as
-- came, whose handlers to come were taken after those that completed
pub record IsServing (n p : ℕ) (l : Shown) (notes : List Note) (q : ℕ) (c : Call) : Type 0 where
  pub process : q ≡ p
  pub port : ℕ
  pub event : List ℕ
  pub call : c.stage.call ≡ Serve port event
  pub open_yet : (x : ℕ) → TellsEnd n notes x → ⊥
  pub count : c.stage.answers ≡ length (sent n l.answers)
  pub first : c.stage.piece ≡ 0 → (those n l.answers ≡ []) × (those n l.completed ≡ []) × (those n l.taken ≡ [])
  pub coming : AreSomeOf (those n l.completed ++ c.stage.handlers) (those n l.taken)

-- the notes tell the answers, and whichever call has this number serves
pub record IsServed (n p : ℕ) (l : Shown) (call : ℕ → Option Call) (notes : List Note) : Type 0 where
  pub told : TellAnswers n notes l.answers l.completed l.taken
  pub flight : (q : ℕ) (c : Call) → call q ≡ Some c → c.number ≡ n → IsServing n p l notes q c

-- ---- what leaves the number

same_sent : (n : ℕ) (xs ys : List (ℕ × Answer)) → those n xs ≡ those n ys → sent n xs ≡ sent n ys
same_sent n xs ys e = ap (map (λ (a : Answer). a.body)) e

told_left : (n : ℕ) (a b : Shown) (call after : ℕ → Option Call) (notes more : List Note) →
    Leaves n a b call after notes more →
    TellAnswers n notes a.answers a.completed a.taken → TellAnswers n more b.answers b.completed b.taken
told_left n a b call after notes more left h =
    record {
      bytes = left.bytes ∙ h.bytes ∙ sym (same_sent n b.answers a.answers left.answers);
      number =
          λ x told. h.number x (left.number x told)
          ∙ ap length (sym (same_sent n b.answers a.answers left.answers));
      each = ap length left.completed ∙ h.each ∙ ap length (sym (same_sent n b.answers a.answers left.answers));
      handlers = subst (λ xs. AreSomeOf xs (those n b.taken)) (sym left.completed)
          (subst (AreSomeOf (those n a.completed)) (sym left.taken) h.handlers);
    }

serving_left : (n p : ℕ) (a b : Shown) (call after : ℕ → Option Call) (notes more : List Note) (q : ℕ) (c : Call) →
    Leaves n a b call after notes more → IsServing n p a notes q c → IsServing n p b more q c
serving_left n p a b call after notes more q c left h =
    record {
      process = h.process;
      port = h.port;
      event = h.event;
      call = h.call;
      open_yet = λ x told. h.open_yet x (left.number x told);
      count = h.count ∙ ap length (sym (same_sent n b.answers a.answers left.answers));
      first = λ e. (left.answers ∙ (h.first e).0, left.completed ∙ (h.first e).1, left.taken ∙ (h.first e).2);
      coming = subst (λ xs. AreSomeOf (xs ++ c.stage.handlers) (those n b.taken)) (sym left.completed)
          (subst (AreSomeOf (those n a.completed ++ c.stage.handlers)) (sym left.taken) h.coming);
    }

pub served_left : (n p : ℕ) (a b : Shown) (call after : ℕ → Option Call) (notes more : List Note) →
    IsServed n p a call notes →
    Leaves n a b call after notes more → IsServed n p b after more
served_left n p a b call after notes more h left =
    record {
      told = told_left n a b call after notes more left h.told;
      flight =
          λ q c e same. serving_left n p a b call after notes more q c left
          (h.flight q c (left.calls q c e same) same);
    }

-- ---- a piece of the call itself

-- the bytes that a piece gave
abbrev bytes_in : Option (List ℕ) → List (List ℕ)
bytes_in None = []
bytes_in (Some bytes) = bytes ∷ []

gives_own : (k n : ℕ) (g : Option (List ℕ)) → k ≡ n → given n (gave_note k g) ≡ bytes_in g
gives_own k n None e = refl
gives_own k n (Some bytes) e = given_one k n bytes e

-- what a piece shows, which gives these bytes and goes on to these handlers with this number of answers
record IsNext (n : ℕ) (a b : Shown) (hs : List (ℕ × ℕ)) (answers : ℕ) (g : Option (List ℕ)) : Type 0 where
  sends : sent n b.answers ≡ sent n a.answers ++ bytes_in g
  count : answers ≡ length (sent n b.answers)
  each : length (those n b.completed) ≡ length (sent n b.answers)
  coming : AreSomeOf (those n b.completed ++ hs) (those n b.taken)

module _ (n p : ℕ) (l : Shown) (q : ℕ) (c : Call) (r : Run) (e : r.kernel.call q ≡ Some c) (same : c.number ≡ n)
    (h : IsServed n p l r.kernel.call r.notes) where
  -- the call serves
  own : IsServing n p l r.notes q c
  own = h.flight q c e same

  -- the bytes of the notes after the piece
  bytes_after : (b : Shown) (hs : List (ℕ × ℕ)) (answers : ℕ) (g : Option (List ℕ)) (a : After) →
      IsNext n l b hs answers g →
      given n ((r.notes ++ gave_note c.number g) ++ after_note c.number a) ≡ sent n b.answers
  unfolding own
  bytes_after b hs answers g a next =
      given_append n (r.notes ++ gave_note c.number g) (after_note c.number a)
      ∙ ap (λ ys. given n (r.notes ++ gave_note c.number g) ++ ys) (after_gives_none c.number n a)
      ∙ append-nil (given n (r.notes ++ gave_note c.number g))
      ∙ given_append n r.notes (gave_note c.number g)
      ∙ ap (λ ys. given n r.notes ++ ys) (gives_own c.number n g same)
      ∙ ap (λ ys. ys ++ bytes_in g) h.told.bytes
      ∙ sym next.sends

  -- no call of another process has the number
  others_serve_not : (i : ℕ) (d : Call) → i ≢ q → r.kernel.call i ≡ Some d → d.number ≡ n → ⊥
  unfolding own
  others_serve_not i d ne is num = ne ((h.flight i d is num).process ∙ sym own.process)

  -- the piece goes on, or ends the call
  served_by : (b : Shown) (k : ℕ) (hs : List (ℕ × ℕ)) (answers : ℕ) (g : Option (List ℕ)) → IsNext n l b hs answers g →
      IsServed n p b (at q (call_after c (serves_on c.stage.call (suc k) hs answers)) r.kernel.call)
      ((r.notes ++ gave_note c.number g) ++ after_note c.number (serves_on c.stage.call (suc k) hs answers))
  unfolding own
  served_by b k [] answers g next =
      record {
        told = record {
          bytes = bytes_after b [] answers g (EndsWith (One answers)) next;
          number =
              λ x told. elim (end_cases n r.notes (gave_note c.number g)
              (after_note c.number (EndsWith (One answers))) x told) [
                | inl (inl before) ↦ absurd (own.open_yet x before)
                | inl (inr gave) ↦ absurd (gave_no_end c.number n g x gave)
                | inr end ↦ number_is x (one_contained (Ended n (One x))
                    (Ended c.number (One answers)) end) ∙ next.count
              ];
          each = next.each;
          handlers = front_is_some (those n b.completed) [] (those n b.taken) next.coming;
        };
        flight = λ i d is num. elim (cases_eq i q) [
          | inl here ↦ absurd (no_call d (sym (at_here q i None r.kernel.call here) ∙ is))
          | inr other ↦ absurd (others_serve_not i d other (sym (at_other q i None r.kernel.call other) ∙ is) num)
        ];
      }
    where
      number_is : (x : ℕ) → Ended c.number (One answers) ≡ Ended n (One x) → x ≡ answers
      number_is x e = cc
  served_by b k (x ∷ hs) answers g next =
      record {
        told = record {
          bytes = bytes_after b (x ∷ hs) answers g (Continues t) next;
          number = λ i told. absurd (open_still i told);
          each = next.each;
          handlers = front_is_some (those n b.completed) (x ∷ hs) (those n b.taken) next.coming;
        };
        flight = λ i d is num. elim (cases_eq i q) [
          | inl here ↦ subst (IsServing n p b notes i) (some_call new d
              (sym (at_here q i (Some new) r.kernel.call here) ∙ is)) (serving i here)
          | inr other ↦ absurd (others_serve_not i d other (sym (at_other q i (Some new) r.kernel.call other) ∙ is) num)
        ];
      }
    where
      t : Stage
      t = record { call = c.stage.call; piece = suc k; handlers = x ∷ hs; answers = answers; bytes = [] }

      new : Call
      new = record { number = c.number; stage = t; marks = None }

      notes : List Note
      notes = (r.notes ++ gave_note c.number g) ++ after_note c.number (Continues t)

      open_still : (i : ℕ) → TellsEnd n notes i → ⊥
      open_still i told = elim (end_cases n r.notes (gave_note c.number g) (after_note c.number (Continues t)) i told) [
        | inl (inl before) ↦ own.open_yet i before
        | inl (inr gave) ↦ gave_no_end c.number n g i gave
        | inr end ↦ on_no_end c.number n t i end
      ]

      no_zero : suc k ≡ 0 → ⊥
      no_zero e = omega arith

      serving : (i : ℕ) → i ≡ q → IsServing n p b notes i new
      serving i here =
          record {
            process = here ∙ own.process;
            port = own.port;
            event = own.event;
            call = own.call;
            open_yet = open_still;
            count = next.count;
            first = λ zero_is. absurd (no_zero zero_is);
            coming = next.coming;
          }

  -- a piece that does so is done
  served_done : (b : Shown) (k : ℕ) (hs : List (ℕ × ℕ)) (answers : ℕ) (g : Option (List ℕ)) (d : Piece) →
      d.after ≡ serves_on c.stage.call (suc k) hs answers → d.gave ≡ g → IsNext n l b hs answers g →
      IsServed n p b (finish q c d r).kernel.call (finish q c d r).notes
  served_done b k hs answers g d after gave next =
      subst (λ (x : After). IsServed n p b (at q (call_after c x) r.kernel.call)
      ((r.notes ++ gave_note c.number d.gave) ++ after_note c.number x))
      (sym after)
      (subst (λ (y : Option (List ℕ)).
      IsServed n p b (at q (call_after c (serves_on c.stage.call (suc k) hs answers)) r.kernel.call)
      ((r.notes ++ gave_note c.number y) ++ after_note c.number (serves_on c.stage.call (suc k) hs answers)))
      (sym gave) (served_by b k hs answers g next))

  -- nothing more is shown, and these handlers are to come
  none_next : (hs : List (ℕ × ℕ)) → AreSomeOf (those n l.completed ++ hs) (those n l.taken) →
      IsNext n l l hs c.stage.answers None
  unfolding own
  none_next hs coming =
      record { sends = sym (append-nil (sent n l.answers)); count = own.count; each = h.told.each; coming = coming }

  module _ (m : Meaning) (serves : MeansServe m) where
    -- the piece of a `serve`
    piece_is : (s : Objects) (answer : Option Answer) (k : ℕ) (hs : List (ℕ × ℕ)) →
        c.stage.piece ≡ k → c.stage.handlers ≡ hs →
        m.piece r.kernel.world r.kernel.images s r.blocks q c.stage answer r.io
        ≡ serve_piece k c.stage.call own.port hs c.stage.answers s r.blocks answer
    unfolding own
    piece_is s answer k hs piece handlers =
        serves.piece r.kernel.world r.kernel.images s r.blocks q c.stage answer r.io own.port own.event own.call
        ∙ ap (λ x. event_piece x c.stage s r.blocks q answer) own.call
        ∙ ap (λ i. serve_piece i c.stage.call own.port c.stage.handlers c.stage.answers s r.blocks answer) piece
        ∙ ap (λ xs. serve_piece k c.stage.call own.port xs c.stage.answers s r.blocks answer) handlers

    -- the point that it asks
    ask_is : (k : ℕ) (hs : List (ℕ × ℕ)) → c.stage.piece ≡ k → c.stage.handlers ≡ hs →
        m.asks r.kernel.world r.kernel.objects q c.stage ≡ serve_ask k own.port (length own.event) q hs
    unfolding own
    ask_is k hs piece handlers =
        serves.asks r.kernel.world r.kernel.objects q c.stage own.port own.event own.call
        ∙ ap (λ x. event_ask x c.stage.piece c.stage.handlers q) own.call
        ∙ ap (λ i. serve_ask i own.port (length own.event) q c.stage.handlers) piece
        ∙ ap (λ xs. serve_ask k own.port (length own.event) q xs) handlers

    -- the piece of a handler, or of none, is done by default
    later_done : (s : Objects) (k : ℕ) (hs : List (ℕ × ℕ)) → c.stage.piece ≡ suc k → c.stage.handlers ≡ hs →
        IsServed n p l (finish_on m q c s None r).kernel.call (finish_on m q c s None r).notes
    unfolding own
    later_done s k [] piece handlers =
        served_done l k [] c.stage.answers None (m.piece r.kernel.world r.kernel.images s r.blocks q c.stage None r.io)
        (ap (λ (d : Piece). d.after) (piece_is s None (suc k) [] piece handlers))
        (ap (λ (d : Piece). d.gave) (piece_is s None (suc k) [] piece handlers))
        (none_next [] (subst (λ hs. AreSomeOf (those n l.completed ++ hs) (those n l.taken)) handlers own.coming))
    later_done s k (x ∷ hs) piece handlers =
        served_done l (suc k) hs c.stage.answers None
        (m.piece r.kernel.world r.kernel.images s r.blocks q c.stage None r.io)
        (ap (λ (d : Piece). d.after) (piece_is s None (suc k) (x ∷ hs) piece handlers))
        (ap (λ (d : Piece). d.gave) (piece_is s None (suc k) (x ∷ hs) piece handlers))
        (none_next hs (some_without (those n l.completed) x hs (those n l.taken)
        (subst (λ hs. AreSomeOf (those n l.completed ++ hs) (those n l.taken)) handlers own.coming)))

    -- the first piece takes the handlers
    first_done : c.stage.piece ≡ 0 →
        IsServed n p (and_then l (takes c r)) (finish_on m q c r.kernel.objects None r).kernel.call
        (finish_on m q c r.kernel.objects None r).notes
    unfolding own
    first_done piece =
        served_done (and_then l (takes c r)) 0 hs 0 None
        (m.piece r.kernel.world r.kernel.images r.kernel.objects r.blocks q c.stage None r.io)
        (ap (λ (d : Piece). d.after) (piece_is r.kernel.objects None 0 c.stage.handlers piece refl))
        (ap (λ (d : Piece). d.gave) (piece_is r.kernel.objects None 0 c.stage.handlers piece refl))
        (record {
          sends = no_sent ∙ sym (ap (λ xs. map (λ (a : Answer). a.body) xs ++ []) (own.first piece).0);
          count = sym (ap length no_sent);
          each = ap length none_completed ∙ sym (ap length no_sent);
          coming = subst (λ xs. AreSomeOf (xs ++ hs) (those n (l.taken ++ (takes c r).taken))) (sym none_completed)
              (subst (AreSomeOf hs) (sym taken_is) (all_are_some hs));
        })
      where
        hs : List (ℕ × ℕ)
        hs = handlers_at (point_of_port own.port) r.kernel.objects.things.handlers

        no_sent : sent n (l.answers ++ []) ≡ []
        no_sent = ap (map (λ (a : Answer). a.body)) (no_more n l.answers ∙ (own.first piece).0)

        none_completed : those n (l.completed ++ []) ≡ []
        none_completed = no_more n l.completed ∙ (own.first piece).1

        taken_is : those n (l.taken ++ (takes c r).taken) ≡ hs
        taken_is =
            those_append n l.taken (takes c r).taken
            ∙ ap (λ xs. xs ++ those n (takes c r).taken) (own.first piece).2
            ∙ those_numbered c.number n (taken_by c.stage.call c.stage.piece r.kernel.objects.things.handlers) same
            ∙ ap (λ x. taken_by x c.stage.piece r.kernel.objects.things.handlers) own.call
            ∙ ap (λ i. taken_by (Serve own.port own.event) i r.kernel.objects.things.handlers) piece

    -- any piece is done by default
    pub default_done : (k : ℕ) → c.stage.piece ≡ k →
        IsServed n p (and_then l (takes c r)) (finish_on m q c r.kernel.objects None r).kernel.call
        (finish_on m q c r.kernel.objects None r).notes
    unfolding own
    default_done zero piece = first_done piece
    default_done (suc k) piece =
        subst (λ y. IsServed n p y (finish_on m q c r.kernel.objects None r).kernel.call
        (finish_on m q c r.kernel.objects None r).notes)
        (sym (ap (λ hs. and_then l (record {
          answers = [];
          completed = [];
          taken = numbered c.number hs;
        })) none_taken ∙ then_nothing l))
        (later_done r.kernel.objects k c.stage.handlers piece refl)
      where
        none_taken : taken_by c.stage.call c.stage.piece r.kernel.objects.things.handlers ≡ []
        none_taken =
            ap (λ x. taken_by x c.stage.piece r.kernel.objects.things.handlers) own.call
            ∙ ap (λ i. taken_by (Serve own.port own.event) i r.kernel.objects.things.handlers) piece

    -- a piece whose graft call was dropped is done by default
    pub drop_done : (s : Objects) (a : Point) (k : ℕ) → c.stage.piece ≡ k →
        m.asks r.kernel.world r.kernel.objects q c.stage ≡ Some a →
        IsServed n p l (finish_on m q c s None r).kernel.call (finish_on m q c s None r).notes
    drop_done s a zero piece asks = absurd (no_point a (sym (ask_is 0 c.stage.handlers piece refl) ∙ asks))
    drop_done s a (suc k) piece asks = later_done s k c.stage.handlers piece refl

    -- a piece is done with an answer
    pub answer_done : (s : Objects) (a : Point) (x : Answer) (k : ℕ) (hs : List (ℕ × ℕ)) →
        c.stage.piece ≡ k → c.stage.handlers ≡ hs →
        m.asks r.kernel.world r.kernel.objects q c.stage ≡ Some a →
        IsServed n p (and_then l (completes c a x)) (finish_on m q c s (Some x) r).kernel.call
        (finish_on m q c s (Some x) r).notes
    unfolding own
    answer_done s a x zero hs piece handlers asks = absurd (no_point a (sym (ask_is 0 hs piece handlers) ∙ asks))
    answer_done s a x (suc k) [] piece handlers asks =
        absurd (no_point a (sym (ask_is (suc k) [] piece handlers) ∙ asks))
    answer_done s a x (suc k) (y ∷ hs) piece handlers asks =
        served_done (and_then l (completes c a x)) (suc k) hs (suc c.stage.answers) (Some x.body)
        (m.piece r.kernel.world r.kernel.images s r.blocks q c.stage (Some x) r.io)
        (ap (λ (d : Piece). d.after) (piece_is s (Some x) (suc k) (y ∷ hs) piece handlers))
        (ap (λ (d : Piece). d.gave) (piece_is s (Some x) (suc k) (y ∷ hs) piece handlers))
        (record {
          sends = sends;
          count =
              one_more c.stage.answers (length (sent n l.answers))
              (length (sent n (l.answers ++ (c.number, x) ∷ []))) own.count length_is;
          each = one_each (length (those n l.completed)) (length (sent n l.answers))
              (length (those n (l.completed ++ (c.number, (a.installer, a.point)) ∷ [])))
              (length (sent n (l.answers ++ (c.number, x) ∷ []))) h.told.each
              (ap length completed_is ∙ length-append (those n l.completed) (y ∷ [])) length_is;
          coming = subst (λ xs. AreSomeOf (xs ++ hs) (those n (l.taken ++ []))) (sym completed_is)
              (subst (λ xs. AreSomeOf xs (those n (l.taken ++ [])))
              (sym (append_assoc (those n l.completed) (y ∷ []) hs))
              (subst (AreSomeOf (those n l.completed ++ y ∷ hs)) (sym (no_more n l.taken))
              (subst (λ zs. AreSomeOf (those n l.completed ++ zs) (those n l.taken)) handlers own.coming)));
        })
      where
        sends : sent n (l.answers ++ (c.number, x) ∷ []) ≡ sent n l.answers ++ x.body ∷ []
        sends =
            sent_append n l.answers ((c.number, x) ∷ [])
            ∙ ap (λ (xs : List Answer). sent n l.answers ++ map (λ (a : Answer). a.body) xs)
            (those_numbered c.number n (x ∷ []) same)

        length_is : length (sent n (l.answers ++ (c.number, x) ∷ [])) ≡ length (sent n l.answers) + 1
        length_is = ap length sends ∙ length-append (sent n l.answers) (x.body ∷ [])

        one_more : (answers old new : ℕ) → answers ≡ old → new ≡ old + 1 → suc answers ≡ new
        one_more answers old new e f = omega arith

        one_each : (old sent new more : ℕ) → old ≡ sent → new ≡ old + 1 → more ≡ sent + 1 → new ≡ more
        one_each old sent new more e f g = omega arith

        some_point : (a b : Point) → Some a ≡ Some b → a ≡ b
        some_point a b e = cc

        handler_is : (a.installer, a.point) ≡ y
        handler_is =
            ap (λ (b : Point). (b.installer, b.point))
            (sym (some_point (record {
              installer = y.0;
              point = y.1;
              args = own.port ∷ length own.event ∷ q ∷ 0 ∷ [];
            }) a
            (sym (ask_is (suc k) (y ∷ hs) piece handlers) ∙ asks)))

        completed_is : those n (l.completed ++ (c.number, (a.installer, a.point)) ∷ []) ≡ those n l.completed ++ y ∷ []
        completed_is =
            those_append n l.completed ((c.number, (a.installer, a.point)) ∷ [])
            ∙ ap (λ xs. those n l.completed ++ xs) (those_numbered c.number n ((a.installer, a.point) ∷ []) same)
            ∙ ap (λ z. those n l.completed ++ z ∷ []) handler_is
