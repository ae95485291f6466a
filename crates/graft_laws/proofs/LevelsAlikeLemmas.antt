-- Levels that are alike.
use Rattle.std.specs.Prelude.{◌≡◌, ℕ, suc, ◌+◌, ◌==◌, ◌&&◌, ◌||◌, Bool, List, [], ◌∷◌, length}
use Rattle.std.specs.List.{list_any}
use Rattle.std.proofs.Common.{refl, sym, ap, ◌∙◌}
use Rattle.kernel_model.specs.declared.Mode.{Mode}
use Rattle.kernel_model.specs.declared.Object.{Object}
use Rattle.kernel_model.specs.Objects.{Things}
use Rattle.kernel_model.specs.Policies.{kind_of}
use Rattle.kernel_model.specs.Locks.{touch, is_held}
use Rattle.kernel_model.specs.Levels.{Level, with_machine, answered, answer_innermost, touch_outermost}
use Rattle.kernel_model.specs.GraftStep.{record_count, is_running}
use Rattle.kernel_model.specs.Alike.{LevelsAlike, is_held_in}

pub length_alike : (ls ks : List Level) → LevelsAlike ls ks → length ls ≡ length ks
length_alike [] [] h = refl
length_alike (l ∷ ls) (k ∷ ks) h = ap suc (length_alike ls ks h.1)
length_alike [] (k ∷ ks) h = absurd h
length_alike (l ∷ ls) [] h = absurd h

pub records_alike : (ls ks : List Level) → LevelsAlike ls ks → record_count ls ≡ record_count ks
records_alike [] [] h = refl
records_alike (l ∷ ls) (k ∷ ks) h =
    ap (λ (m : Level). length m.records + record_count ls) h.0
    ∙ ap (λ n. length k.records + n) (records_alike ls ks h.1)
records_alike [] (k ∷ ks) h = absurd h
records_alike (l ∷ ls) [] h = absurd h

-- a test that doesn't look at what a level found
pub any_alike : (test : Level → Bool) (ls ks : List Level) →
    ((l : Level) (x : Things) → test (record l { kept = x }) ≡ test l) → LevelsAlike ls ks →
    list_any test ls ≡ list_any test ks
any_alike test [] [] same h = refl
any_alike test (l ∷ ls) (k ∷ ks) same h =
    ap (λ b. b || list_any test ls) (sym (same l k.kept) ∙ ap test h.0)
    ∙ ap (λ b. test k || b) (any_alike test ls ks same h.1)
any_alike test [] (k ∷ ks) same h = absurd h
any_alike test (l ∷ ls) [] same h = absurd h

pub held_alike : (ls ks : List Level) (o : Object) → LevelsAlike ls ks → is_held_in ls o ≡ is_held_in ks o
held_alike ls ks o h = any_alike (λ (l : Level). is_held (l.touched o)) ls ks (λ l x. refl) h

pub running_alike : (ls ks : List Level) (q pt : ℕ) → LevelsAlike ls ks → is_running ls q pt ≡ is_running ks q pt
running_alike ls ks q pt h = any_alike (λ (l : Level). l.owner == q && l.point == pt) ls ks (λ l x. refl) h

-- the innermost level gets an answer
pub answer_alike : (pt r0 r1 : ℕ) (ls ks : List Level) → LevelsAlike ls ks →
    LevelsAlike (answer_innermost pt r0 r1 ls) (answer_innermost pt r0 r1 ks)
answer_alike pt r0 r1 [] [] h = tt
answer_alike pt r0 r1 (l ∷ ls) (k ∷ ks) h =
    (ap (λ (m : Level). with_machine (answered (kind_of pt) r0 r1 m.machine) m) h.0, h.1)
answer_alike pt r0 r1 [] (k ∷ ks) h = absurd h
answer_alike pt r0 r1 (l ∷ ls) [] h = absurd h

-- level 0 touches one more object
pub touch_alike : (o : Object) (ls ks : List Level) → LevelsAlike ls ks →
    LevelsAlike (touch_outermost o ls) (touch_outermost o ks)
touch_alike o [] [] h = tt
touch_alike o (l ∷ []) (k ∷ []) h =
    (ap (λ (m : Level). record m { touched = touch o Mode.Exclusive m.touched }) h.0, tt)
touch_alike o (l ∷ m ∷ ls) (k ∷ n ∷ ks) h = (h.0, touch_alike o (m ∷ ls) (n ∷ ks) h.1)
touch_alike o [] (k ∷ ks) h = absurd h
touch_alike o (l ∷ ls) [] h = absurd h
touch_alike o (l ∷ []) (k ∷ n ∷ ks) h = absurd h.1
touch_alike o (l ∷ m ∷ ls) (k ∷ []) h = absurd h.1
