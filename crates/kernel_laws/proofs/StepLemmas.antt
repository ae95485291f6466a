-- What one step of a call leaves to the others, and that fewer steps are left after it.
use Rattle.std.specs.Prelude.{◌≡◌, ◌≢◌, ℕ, suc, ◌+◌, ◌<◌, ◌==◌, ◌&&◌, ◌||◌, nat_lt, nat_le, Bool}
use Rattle.std.specs.Prelude.{true, false, List, [], ◌∷◌, length, slice_index, Option, Some, None}
use Rattle.std.specs.Prelude.{is_some, Contains}
use Rattle.std.proofs.Common.{arith, refl, subst, sym, ap, ◌∙◌, inl, inr}
use Rattle.std.proofs.lemmas.Bool.{cases_Bool}
use Rattle.std.proofs.lemmas.Bool.Decides.{nat_tests}
use Rattle.std.proofs.lemmas.List.Elements.{Contains-append_right}
use Rattle.kernel_model.specs.declared.Need.{Need}
use Rattle.kernel_model.specs.declared.Point.{Point}
use Rattle.kernel_model.specs.declared.Object.TheVariants.{OpenFile}
use Rattle.kernel_model.specs.declared.QueueRow.{QueueRow}
use Rattle.kernel_model.specs.declared.OpenRow.{OpenRow}
use Rattle.kernel_model.specs.World.{World, ImageTable, Blocks}
use Rattle.kernel_model.specs.Objects.{Objects, Things, FrameValue, same_object}
use Rattle.kernel_model.specs.SameObject.{same_object_is}
use Rattle.kernel_model.specs.Policies.{PointKind, Ahead, Victim, Next, Serve, Stream, kind_of}
use Rattle.kernel_model.specs.Policies.{lives, valid, valid_by, is_owned}
use Rattle.kernel_model.specs.Meaning.{Meaning, Stage, Answer}
use Rattle.kernel_model.specs.Sound.{IsSoundStore, FitsDisk, HasWholeBlocks}
use Rattle.kernel_model.specs.Alike.{AreAlike, markless, niceless, is_needed_exclusively, is_exclusive}
use Rattle.kernel_model.specs.Laws.{Laws, IsReady, IsRightAnswer, IsOwnFile, SameKindOfPoint, SameAheadAsk, accepted_by}

-- ---- alike states

-- who lives where nices alone differ
pub niceless_lives : (xs ys : List QueueRow) (q : ℕ) → niceless xs ≡ niceless ys → lives xs q ≡ lives ys q
niceless_lives xs ys q e = sym (lives_niceless xs q) ∙ ap (λ rows. lives rows q) e ∙ lives_niceless ys q
  where
    lives_niceless : (rows : List QueueRow) (q : ℕ) → lives (niceless rows) q ≡ lives rows q
    lives_niceless [] q = refl
    lives_niceless (r ∷ rows) q = ap (λ b. r.process == q || b) (lives_niceless rows q)

-- frames that differ in marks alone
markless_found : (x y : Option FrameValue) (f : FrameValue) → markless x ≡ markless y → y ≡ Some f →
    (g : FrameValue) × (x ≡ Some g) × (g.block ≡ f.block)
markless_found None y f e h =
    let bad : None ≡ Some (record f { mark = 0 }) = e ∙ ap markless h in
    absurd (none_some (record f { mark = 0 }) bad)
  where
    none_some : (x : FrameValue) → None ≡ Some x → ⊥
    none_some x e = cc
markless_found (Some g) y f e h =
    let same : Some (record g { mark = 0 }) ≡ Some (record f { mark = 0 }) = e ∙ ap markless h in
    (g, refl, same_block (record g { mark = 0 }) (record f { mark = 0 }) same)
  where
    same_block : (x y : FrameValue) → Some x ≡ Some y → x.block ≡ y.block
    same_block x y e = ap (λ (o : Option FrameValue). elim o as (λ _. ℕ) [ None ↦ 0 | Some z ↦ z.block ]) e

-- what fits the disk
pub alike_disk : (v : World) (s u : Objects) → AreAlike s u → FitsDisk v s.things.cache → FitsDisk v u.things.cache
alike_disk v s u alike h =
    record {
      some = h.some;
      most = h.most;
      files = h.files;
      frames = λ f x e.
          let found = markless_found (s.things.cache.frame f) (u.things.cache.frame f) x (alike.frames f) e in
          subst (λ b. b < v.disk_size) found.2 (h.frames f found.0 found.1);
    }

-- ---- right answers

-- an owned frame is in use
owned_used : (w : Things) (q f : ℕ) → is_owned w.cache q f ≡ true → is_some (w.cache.frame f) ≡ true
owned_used w q f h = owned_by (w.cache.frame f) q h
  where
    owned_by : (x : Option FrameValue) (q : ℕ) →
        elim x as (λ _. Bool) [ None ↦ false | Some y ↦ y.owner == q ] ≡ true → is_some x ≡ true
    owned_by None q h = absurd cc
    owned_by (Some y) q h = refl

-- an answer that is valid for the point that was asked is accepted at a point of the same kind,
-- with the same length of the file
right_by : (k : PointKind) (w : Objects) (q : ℕ) (args more answer : List ℕ) →
    valid_by k w.things q args (slice_index answer 0) (slice_index answer 1) ≡ true →
    (k ≡ Ahead → slice_index args 2 ≡ slice_index more 2) →
    (k ≡ Stream → slice_index args 0 ≡ slice_index more 0) → accepted_by k w more answer ≡ true
right_by Ahead w q args more answer h same first =
    ap (λ n. nat_le (slice_index answer 1) 8 && nat_le (slice_index answer 0 + slice_index answer 1)
    n) (sym (same refl)) ∙ h
right_by Victim w q args more answer h same first = owned_used w.things q (slice_index answer 0) h
right_by Next w q args more answer h same first = h
right_by Serve w q args more answer h same first = h
right_by Stream w q args more answer h same first = ap (λ n. slice_index answer 0 == n) (sym (first refl)) ∙ h

-- the same length, where the kinds are the same
same_length : (k : PointKind) (a b : Point) → SameAheadAsk k a b → k ≡ Ahead →
    slice_index a.args 2 ≡ slice_index b.args 2
same_length Ahead a b h e = h.3
same_length Victim a b h e = absurd cc
same_length Next a b h e = absurd cc
same_length Serve a b h e = absurd cc
same_length Stream a b h e = absurd cc

-- the same first argument, where a stream is changed
same_first : (k : PointKind) (a b : Point) → SameAheadAsk k a b → k ≡ Stream →
    slice_index a.args 0 ≡ slice_index b.args 0
same_first Ahead a b h e = absurd cc
same_first Victim a b h e = absurd cc
same_first Next a b h e = absurd cc
same_first Serve a b h e = absurd cc
same_first Stream a b h e = ap (λ (x : Point). slice_index x.args 0) h

-- by what is asked on the working state
right_answer_by : (w : Objects) (a : Point) (ask : Option Point) (answer : List ℕ) → SameKindOfPoint (Some a) ask →
    ((b : Point) → ask ≡ Some b → SameAheadAsk (kind_of a.point) a b) →
    valid w.things a.installer a.point a.args (slice_index answer 0) (slice_index answer 1) ≡ true →
    IsRightAnswer w ask (Some answer)
right_answer_by w a None answer kind ahead h = absurd kind
right_answer_by w a (Some b) answer kind ahead h =
    subst (λ k. accepted_by k w b.args answer ≡ true) kind
    (right_by (kind_of a.point) w a.installer a.args b.args answer h (same_length (kind_of a.point) a b (ahead b refl))
    (same_first (kind_of a.point) a b (ahead b refl)))

pub right_answer : (m : Meaning) (laws : Laws m) (v : World) (s w : Objects) (p : ℕ) (t : Stage)
    (a : Point) (answer : List ℕ) → m.fits v s p t ≡ true → AreAlike s w →
    m.asks v s p t ≡ Some a → valid w.things a.installer a.point a.args (slice_index answer 0)
    (slice_index answer 1) ≡ true →
    IsRightAnswer w (m.asks v w p t) (Some answer)
right_answer m laws v s w p t a answer fits alike asked h =
    right_answer_by w a (m.asks v w p t) answer (subst (λ x. SameKindOfPoint x (m.asks v w p t))
    asked (laws.ask.alike v s w p t fits alike))
    (λ b e. laws.ask.alike_ahead v s w p t a b fits alike asked e) h

-- ---- files of others

-- a file of another process isn't among these needs
not_among : (p q fd : ℕ) (ns : List Need) → q ≢ p →
    ((n : Need) → Contains ns n → IsOwnFile p n.object) →
    is_needed_exclusively (OpenFile q fd) ns ≡ false
not_among p q fd [] ne h = refl
not_among p q fd (n ∷ ns) ne h =
    none_of (is_exclusive n.mode) (same_object (OpenFile q fd) n.object) (is_needed_exclusively (OpenFile q fd) ns)
    (not_it (same_object (OpenFile q fd) n.object) refl)
    (not_among p q fd ns ne (λ x c. h x (Contains-append_right (n ∷ []) ns x c)))
  where
    none_of : (a b c : Bool) → b ≡ false → c ≡ false → (a && b || c) ≡ false
    none_of true b c e d = ap (λ x. x || c) e ∙ d
    none_of false b c e d = d

    below_suc : (n : ℕ) → 0 < suc n
    below_suc n = omega arith

    not_it : (b : Bool) → same_object (OpenFile q fd) n.object ≡ b → b ≡ false
    not_it true e =
        absurd (ne (subst (IsOwnFile p) (sym (same_object_is (OpenFile q fd) n.object e))
        (h n (0, below_suc (length ns), refl))))
    not_it false e = refl

-- no file stands outside the ranges
pub no_file_high : (v : World) (s : Objects) (q fd : ℕ) (x : Option OpenRow) → IsSoundStore v s →
    s.things.file q fd ≡ x → nat_lt fd 4 ≡ false → x ≡ None
no_file_high v s q fd None h e high = refl
no_file_high v s q fd (Some o) h e high = absurd (contrary fd (h.files q fd o e).0 high)
  where
    contrary : (fd : ℕ) → fd < 4 → nat_lt fd 4 ≡ false → ⊥
    contrary fd low high = grind (arith, nat_tests)

pub no_file_beyond : (v : World) (s : Objects) (q fd : ℕ) (b : Bool) → IsSoundStore v s →
    lives s.things.queue q ≡ b → nat_lt q 16 ≡ false → s.things.file q fd ≡ None
no_file_beyond v s q fd true h e high = absurd (contrary q (h.numbers q e) high)
  where
    contrary : (q : ℕ) → q < 16 → nat_lt q 16 ≡ false → ⊥
    contrary q low high = grind (arith, nat_tests)
no_file_beyond v s q fd false h e high = (h.gone q e).files fd

-- a piece changes no file of another process
pub others_files : (m : Meaning) (laws : Laws m) (v : World) (images : ImageTable) (w : Objects)
    (blocks : Blocks) (p q : ℕ) (t : Stage) (answer : Option Answer) (io : List Bool) →
    IsReady m v images w p t answer → HasWholeBlocks v blocks → q ≢ p →
    (fd : ℕ) → w.things.file q fd ≡ (m.piece v images w blocks p t answer io).objects.things.file q fd
others_files m laws v images w blocks p q t answer io ready whole ne fd =
    let u = (m.piece v images w blocks p t answer io).objects in
    let after = laws.piece.store v images w blocks p t answer io ready whole in
    let before = ready.standing.store in
    elim (cases_Bool (nat_lt fd 4)) [
      | inr high ↦ no_file_high v w q fd (w.things.file q fd) before refl high
          ∙ sym (no_file_high v u q fd (u.things.file q fd) after refl high)
      | inl low ↦ elim (cases_Bool (nat_lt q 16)) [
        | inr beyond ↦ no_file_beyond v w q fd (lives w.things.queue q) before refl beyond
            ∙ sym (no_file_beyond v u q fd (lives u.things.queue q) after refl beyond)
        | inl within ↦ sym (laws.footprint.changes v images w blocks p t answer io (OpenFile q fd)
            ready (number_below q 16 within, number_below fd 4 low)
            (not_among p q fd (m.need v w p t) ne (λ n c. laws.need.files v w p t n ready.standing.fits c)))
      ]
    ]
  where
    number_below : (x y : ℕ) → nat_lt x y ≡ true → x < y
    number_below x y h = grind (arith, nat_tests)
