-- The calls that wait in a world, and what stands of each of them.
use Rattle.std.proofs.Common.{◌+◌, ◌<◌, ◌≤◌, arith, ◌≡◌, ℕ, zero, suc, Bool, true, false, List, []}
use Rattle.std.proofs.Common.{◌∷◌, Option, Some, refl, sym, ap, subst, ◌∙◌, ◌⊎◌, inl, inr}
use Rattle.std.specs.Prelude.{⊤, ◌==◌, not, slice_get}
use Rattle.std.proofs.lemmas.Bool.{or_cases, or_parts, and_parts, false_from_ne_true, eq-eqb}
use Rattle.vino_host.specs.declared.Record.{Record}
use Rattle.vino_host.specs.declared.Word.{Word}
use Rattle.vino_host.specs.Tables.{undone, readings}
use Rattle.host_laws.specs.Alone.{seen}
use Rattle.host_laws.specs.Histories.{Waiting, number_of, is_new, without, whole, touches, is_touched}
use Rattle.host_laws.proofs.Readings.{readings_none}
use Rattle.host_laws.proofs.Touching.{owner_at, undone_same, same_owner, same_seen}

-- ---- lists

abbrev pub All : (P : Waiting → Type 0) → List Waiting → Type 0
All P [] = ⊤
All P (c ∷ cs) = P c × All P cs

-- the numbers of these calls are others than this
abbrev pub Apart : ℕ → List Waiting → Type 0
Apart n cs = All (λ d. number_of d ≡ n → ⊥) cs

abbrev pub Distinct : List Waiting → Type 0
Distinct [] = ⊤
Distinct (c ∷ cs) = Apart (number_of c) cs × Distinct cs

pub all_at : (P : Waiting → Type 0) (cs : List Waiting) (i : ℕ) (c : Waiting) → All P cs → slice_get cs i ≡ Some c → P c
all_at P [] i c all h = cc
all_at P (d ∷ cs) zero c all h = let same : d ≡ c = cc in subst P same all.0
all_at P (d ∷ cs) (suc i) c all h = all_at P cs i c all.1 h

pub all_without : (P : Waiting → Type 0) (cs : List Waiting) (i : ℕ) → All P cs → All P (without i cs)
all_without P [] zero all = all
all_without P [] (suc i) all = all
all_without P (c ∷ cs) zero all = all.1
all_without P (c ∷ cs) (suc i) all = (all.0, all_without P cs i all.1)

pub all_both : (P Q S : Waiting → Type 0) (cs : List Waiting) → ((c : Waiting) → P c → Q c → S c) →
    All P cs → All Q cs → All S cs
all_both P Q S [] f p q = tt
all_both P Q S (c ∷ cs) f p q = (f c p.0 q.0, all_both P Q S cs f p.1 q.1)

pub distinct_without : (cs : List Waiting) (i : ℕ) → Distinct cs → Distinct (without i cs)
distinct_without [] zero d = d
distinct_without [] (suc i) d = d
distinct_without (c ∷ cs) zero d = d.1
distinct_without (c ∷ cs) (suc i) d =
    (all_without (λ e. number_of e ≡ number_of c → ⊥) cs i d.0, distinct_without cs i d.1)

pub apart_at : (cs : List Waiting) (i : ℕ) (c : Waiting) → Distinct cs → slice_get cs i ≡ Some c →
    Apart (number_of c) (without i cs)
apart_at [] i c d h = cc
apart_at (e ∷ cs) zero c d h =
    let same : e ≡ c = cc in subst (λ (x : Waiting). Apart (number_of x) cs) same d.0
apart_at (e ∷ cs) (suc i) c d h =
    let other : number_of c ≡ number_of e → ⊥ = all_at (λ x. number_of x ≡ number_of e → ⊥) cs i c d.0 h in
    (λ g. other (sym g), apart_at cs i c d.1 h)

pub new_apart : (n : ℕ) (cs : List Waiting) → is_new n cs ≡ true → Apart n cs
new_apart n [] h = tt
new_apart n (c ∷ cs) h =
    let parts = and_parts (not (number_of c == n)) (is_new n cs) h in
    (λ e. differ (number_of c == n) parts.0 (eq-eqb (number_of c) n e), new_apart n cs parts.1)
  where
    differ : (b : Bool) → not b ≡ true → b ≡ true → ⊥
    differ true h e = cc
    differ false h e = cc

-- how many readings of a word these calls have together
abbrev pub total : List Waiting → ℕ → ℕ
total [] k = 0
total (c ∷ cs) k = readings k c.pause.records + total cs k

pub total_at : (cs : List Waiting) (i : ℕ) (c : Waiting) (k : ℕ) → slice_get cs i ≡ Some c →
    total cs k ≡ total (without i cs) k + readings k c.pause.records
total_at [] i c k h = cc
total_at (d ∷ cs) zero c k h =
    let same : d ≡ c = cc in
    let e : readings k d.pause.records ≡ readings k c.pause.records =
    ap (λ (x : Waiting). readings k x.pause.records) same in
    omega (arith, e)
total_at (d ∷ cs) (suc i) c k h = let rest = total_at cs i c k h in omega (arith, rest)

pub total_none : (cs : List Waiting) (k : ℕ) → is_touched cs k ≡ false → total cs k ≡ 0
total_none [] k h = refl
total_none (c ∷ cs) k h =
    let parts = or_parts (touches c.pause.records k) (is_touched cs k) h in
    let one = readings_none k c.pause.records parts.0 in
    let rest = total_none cs k parts.1 in omega (arith, one, rest)

-- ---- one call that waits

-- the call, made from its beginning over the table b, is where it waits; the words that it touched
-- are as in the table, and all others as in b
pub record IsReplayed (table : List Word) (c : Waiting) (b : List Word) : Type 0 where
  pub pause : (whole c.story b).pause ≡ Some c.pause
  pub on : (k : ℕ) → touches c.pause.records k ≡ true →
      slice_get (whole c.story b).table k ≡ seen (readings k c.pause.records) (slice_get table k)
  pub off : (k : ℕ) → touches c.pause.records k ≡ false → slice_get (whole c.story b).table k ≡ slice_get b k

-- on the words that were touched, b is as the table was before
abbrev pub IsBefore : (table : List Word) → List Record → (b : List Word) → Type 0
IsBefore table records b =
    (k : ℕ) → touches records k ≡ true → slice_get b k ≡ seen 0 (slice_get (undone records table) k)

-- a call changed a word, or reads one that nobody changed
abbrev pub HoldsWord : (n own : ℕ) → Option Word → Type 0
HoldsWord n own o = (owner_at o ≡ n) ⊎ ((owner_at o ≡ 0) × (0 < own))

-- what stands of a call that waits, in a table, where the calls that completed leave another one
pub record Stands (table serial : List Word) (c : Waiting) : Type 0 where
  pub some : number_of c ≡ 0 → ⊥
  pub held : (k : ℕ) → touches c.pause.records k ≡ true →
      HoldsWord (number_of c) (readings k c.pause.records) (slice_get table k)
  pub owns : (k : ℕ) → owner_at (slice_get table k) ≡ number_of c → touches c.pause.records k ≡ true
  pub replays : (b : List Word) → IsBefore table c.pause.records b → IsReplayed table c b
  pub before : IsBefore table c.pause.records serial

-- What a call of number n does leaves the words that others hold as they are, where they have
-- together so many readings, and lets no word come to them.
pub record Beside (n : ℕ) (others : ℕ → ℕ) (table serial new new_serial : List Word) : Type 0 where
  pub stays : (k m own : ℕ) → HoldsWord m own (slice_get table k) → own ≤ others k → (m ≡ 0 → ⊥) → (m ≡ n → ⊥) →
      seen 0 (slice_get new k) ≡ seen 0 (slice_get table k)
  pub stays_serial : (k m own : ℕ) → HoldsWord m own (slice_get table k) → own ≤ others k → (m ≡ 0 → ⊥) → (m ≡ n → ⊥) →
      slice_get new_serial k ≡ slice_get serial k
  pub came : (k : ℕ) → (owner_at (slice_get new k) ≡ 0 → ⊥) → (owner_at (slice_get new k) ≡ n → ⊥) →
      owner_at (slice_get new k) ≡ owner_at (slice_get table k)

stands_beside : (n : ℕ) (others : ℕ → ℕ) (table serial new new_serial : List Word) →
    Beside n others table serial new new_serial →
    (c : Waiting) → ((k : ℕ) → readings k c.pause.records ≤ others k) → Stands table serial c → (number_of c ≡ n → ⊥) →
    Stands new new_serial c
stands_beside n others table serial new new_serial beside c few s other =
    let stays : (k : ℕ) → touches c.pause.records k ≡ true → seen 0 (slice_get new k) ≡ seen 0 (slice_get table k) =
    λ k g. beside.stays k (number_of c) (readings k c.pause.records) (s.held k g) (few k) s.some other in
    record {
      some = s.some;
      held = λ k g. by_holding k (same_owner (slice_get new k) (slice_get table k) (stays k g)) (s.held k g);
      owns = λ k o.
          s.owns k (sym (beside.came k (λ z. s.some (sym o ∙ z)) (λ z. other (sym o ∙ z))) ∙ o);
      replays = λ b h.
          let r = s.replays b (λ k g. h k g ∙ undone_same c.pause.records new table k (stays k g)) in
          record {
            pause = r.pause;
            on = λ k g. r.on k g
                ∙ sym (same_seen (readings k c.pause.records) (slice_get new k) (slice_get table k) (stays k g));
            off = r.off;
          };
      before = λ k g.
          beside.stays_serial k (number_of c) (readings k c.pause.records) (s.held k g) (few k)
          s.some other ∙ s.before k g
          ∙ sym (undone_same c.pause.records new table k (stays k g));
    }
  where
    by_holding : (k : ℕ) → owner_at (slice_get new k) ≡ owner_at (slice_get table k) →
        HoldsWord (number_of c) (readings k c.pause.records) (slice_get table k) →
        HoldsWord (number_of c) (readings k c.pause.records) (slice_get new k)
    by_holding k e (inl o) = inl (e ∙ o)
    by_holding k e (inr p) = inr (e ∙ p.0, p.1)

-- what stands of each of some calls among all the others
pub others_beside : (n : ℕ) (others : ℕ → ℕ) (table serial new new_serial : List Word) (cs : List Waiting) →
    Beside n others table serial new new_serial → ((k : ℕ) → total cs k ≤ others k) →
    All (λ c. Stands table serial c) cs → Apart n cs → All (λ c. Stands new new_serial c) cs
others_beside n others table serial new new_serial [] beside few all apart = tt
others_beside n others table serial new new_serial (c ∷ cs) beside few all apart = (
  stands_beside n others table serial new new_serial beside c
      (λ k. let most = few k in let is : readings k c.pause.records ≤ others k =
      omega (arith, most) in is) all.0 apart.0,
  others_beside n others table serial new new_serial cs beside
      (λ k. let most = few k in let is : total cs k ≤ others k = omega (arith, most) in is) all.1 apart.1,
)

-- ---- who touched a word

-- a word that belongs to a call of another number wasn't touched
pub touched_owner : (table serial : List Word) (cs : List Waiting) (k n : ℕ) →
    All (λ c. Stands table serial c) cs → Apart n cs →
    (n ≡ 0 → ⊥) → owner_at (slice_get table k) ≡ n → is_touched cs k ≡ false
touched_owner table serial cs k n all apart some owner = false_from_ne_true (is_touched cs k) (λ h. none cs all apart h)
  where
    none : (ds : List Waiting) → All (λ c. Stands table serial c) ds → Apart n ds → is_touched ds k ≡ true → ⊥
    none [] all apart h = cc
    none (c ∷ ds) all apart h =
        by_test (λ g. none ds all.1 apart.1 g) (or_cases (touches c.pause.records k) (is_touched ds k) h)
      where
        by_holding : HoldsWord (number_of c) (readings k c.pause.records) (slice_get table k) → ⊥
        by_holding (inl o) = apart.0 (sym o ∙ owner)
        by_holding (inr p) = some (sym owner ∙ p.0)

        by_test : (is_touched ds k ≡ true → ⊥) → (touches c.pause.records k ≡ true) ⊎ (is_touched ds k ≡ true) → ⊥
        by_test rest (inl g) = by_holding (all.0.held k g)
        by_test rest (inr g) = rest g
