-- Inverses change objects one by one.
use Rattle.std.specs.Prelude.{◌≡◌, Bool, true, false, List, [], ◌∷◌, ◌++◌, ⊤}
use Rattle.std.proofs.Common.{sym, ap, ◌∙◌}
use Rattle.kernel_model.specs.declared.Object.{Object}
use Rattle.kernel_model.specs.declared.Object.TheVariants.{Graft, Acct, Cell, OpenFile, Queue, Cache, Lock, Pol}
use Rattle.kernel_model.specs.Objects.{Objects, Accounts, Things, SameAt, SameThing}
use Rattle.kernel_model.specs.Access.{undo, changed_by, Found}
use Rattle.kernel_model.specs.UndoLog.{undo_all}
use Rattle.kernel_laws.specs.Undoing.{InversesChangeOneObject}
use Rattle.kernel_laws.proofs.FrameLemmas.{thing_self, thing_then}

-- ---- the same value

pub thing_back : (o : Object) (x y : Things) → SameThing o x y → SameThing o y x
thing_back (Graft q pt) x y h = sym h
thing_back (Acct q) x y h = tt
thing_back (Cell q i) x y h = sym h
thing_back (OpenFile q fd) x y h = sym h
thing_back Queue x y h = (sym h.0, sym h.1)
thing_back Cache x y h = sym h
thing_back (Lock u) x y h = sym h
thing_back (Pol i) x y h = sym h

-- states with the same accounts have the same value where their things have it
pub at_of : (o : Object) (s t : Objects) → s.accounts ≡ t.accounts → SameThing o s.things t.things → SameAt o s t
at_of (Graft q pt) s t e h = (ap (λ (a : Accounts). a.graft q pt) e, h)
at_of (Acct q) s t e h = ap (λ (a : Accounts). a.acct q) e
at_of (Cell q i) s t e h = h
at_of (OpenFile q fd) s t e h = h
at_of Queue s t e h = h
at_of Cache s t e h = h
at_of (Lock u) s t e h = h
at_of (Pol i) s t e h = h

-- ---- several

-- the objects of inverses pass a test
abbrev pub AllPass : (Object → Bool) → List Found → Type 0
AllPass test [] = ⊤
AllPass test (i ∷ is) = (test (changed_by i) ≡ true) × AllPass test is

pub pass_both : (test : Object → Bool) (is js : List Found) → AllPass test is → AllPass test js →
    AllPass test (is ++ js)
pass_both test [] js h k = k
pass_both test (i ∷ is) js h k = (h.0, pass_both test is js h.1 k)

-- inverses whose objects pass one test pass another
pub pass_more : (f g : Object → Bool) (is : List Found) → ((o : Object) → f o ≡ true → g o ≡ true) →
    AllPass f is → AllPass g is
pass_more f g [] more h = tt
pass_more f g (i ∷ is) more h = (more (changed_by i) h.0, pass_more f g is more h.1)

-- inverses of other objects leave an object
pub undo_all_other : InversesChangeOneObject →
    (test : Object → Bool) (is : List Found) (o : Object) (w : Things) → AllPass test is →
    test o ≡ false →
    SameThing o (undo_all is w) w
undo_all_other one test [] o w h none = thing_self o w
undo_all_other one test (i ∷ is) o w h none =
    thing_then o (undo_all is (undo i w)) (undo i w) w (undo_all_other one test is o (undo i w) h.1
    none) (one i o w (λ e. contrary (sym h.0 ∙ ap test (sym e) ∙ none)))
  where
    contrary : true ≡ false → ⊥
    contrary h = cc
