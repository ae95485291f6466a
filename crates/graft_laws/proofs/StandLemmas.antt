-- Where the graft of each level stands after a mark, it stood before it.
use Rattle.std.specs.Prelude.{◌≡◌, ℕ, ◌==◌, ◌||◌, Bool, true, false, List, [], ◌∷◌, Option, Some, None, is_some}
use Rattle.std.specs.List.{AllByRecursion}
use Rattle.std.proofs.Common.{refl, subst, sym, ap, ◌∙◌}
use Rattle.kernel_model.specs.declared.Kind.TheVariants.{Steps}
use Rattle.kernel_model.specs.World.{World, ImageTable}
use Rattle.kernel_model.specs.Objects.{Objects, Accounts, Things, AcctValue, GraftValue}
use Rattle.kernel_model.specs.Charges.{payer_balance}
use Rattle.kernel_model.specs.Levels.{Level, limit_in, is_going_on}
use Rattle.kernel_model.specs.GraftStep.{micro_on, charged_step, is_spent}
use Rattle.graft_laws.proofs.GrownLemmas.{AreGrown, grown_self}
use Rattle.graft_laws.proofs.TurnParts.{Shape, Goes, Begins, Joins, Ends, Falls, StandsFrom, not_going}
use Rattle.graft_laws.proofs.TurnLemmas.{levels_turn}

-- the graft of each of these levels stands
abbrev pub AllStand : Accounts → List Level → Type 0
AllStand a ls = AllByRecursion (λ (l : Level). is_some (a.graft l.owner l.point) ≡ true) ls

pub stand_grown : (a : Accounts) (ns ls : List Level) → AreGrown ns ls → AllStand a ns → AllStand a ls
stand_grown a [] [] h stand = tt
stand_grown a (n ∷ ns) (l ∷ ls) h stand = (
  ap (λ q. is_some (a.graft q l.point)) (sym h.0.owner) ∙ ap (λ pt. is_some (a.graft n.owner pt))
      (sym h.0.point) ∙ stand.0,
  stand_grown a ns ls h.1 stand.1,
)
stand_grown a [] (l ∷ ls) h stand = absurd h
stand_grown a (n ∷ ns) [] h stand = absurd h

pub stand_from : (a b : Accounts) (ls : List Level) → StandsFrom a b → AllStand b ls → AllStand a ls
stand_from a b [] h stand = tt
stand_from a b (l ∷ ls) h stand = (h l.owner l.point stand.0, stand_from a b ls h stand.1)

-- a level whose instruction doesn't drop it is one of a graft that stands
not_spent : (b : Bool) (a : AcctValue) (g : Option GraftValue) →
    (b || payer_balance Steps a g == 0) ≡ false → is_some g ≡ true
not_spent true a None h = absurd cc
not_spent false a None h = absurd cc
not_spent b a (Some g) h = refl

pub went_stands : (v : World) (images : ImageTable) (p : ℕ) (w : Objects) (l : Level)
    (ls : List Level) → is_going_on (micro_on v images p w (l ∷ ls)).said ≡ true →
    is_some (w.accounts.graft l.owner l.point) ≡ true
went_stands v images p w l ls h = by_spent (is_spent w.accounts l) refl h
  where
    by_spent : (b : Bool) → is_spent w.accounts l ≡ b →
        is_going_on (charged_step v images p w l ls b).said ≡ true →
        is_some (w.accounts.graft l.owner l.point) ≡ true
    by_spent true e h = not_going h
    by_spent false e h =
        not_spent (l.count == limit_in (w.accounts.graft l.owner l.point)) (w.accounts.acct l.owner)
        (w.accounts.graft l.owner l.point) e

-- the levels outside the innermost one
pub shape_stands : (a : Accounts) (l : Level) (ls : List Level) (w : Things) (went : Bool) (after :
    List Level) → Shape l l.touched ls w went after → went ≡ true → AllStand a after → AllStand a ls
shape_stands a l ls w went after (Goes g h) e stand = (stand_grown a after (l ∷ ls) h stand).1
shape_stands a l ls w went after (Begins n ks g f h new held) e stand =
    (stand_grown a ks (l ∷ ls) h (subst (AllStand a) f stand).1).1
shape_stands a l ls w went after (Joins x b rest g f k h more) e stand =
    subst (AllStand a) (sym f) (stand_grown a (b ∷ rest) (x ∷ rest) (h, grown_self rest) (subst (AllStand a) k stand))
shape_stands a l ls w went after (Ends g f) e stand = not_going (sym g ∙ e)
shape_stands a l ls w went after (Falls g h) e stand = not_going (sym g ∙ e)

-- one instruction
pub micro_stands : (v : World) (images : ImageTable) (p : ℕ) (w : Objects) (ls : List Level) →
    is_going_on (micro_on v images p w ls).said ≡ true →
    AllStand (micro_on v images p w ls).config.now.accounts
    (micro_on v images p w ls).config.levels → AllStand w.accounts ls
micro_stands v images p w [] e stand = tt
micro_stands v images p w (l ∷ ls) e stand =
    let o = micro_on v images p w (l ∷ ls) in
    let turn = levels_turn v images p w l ls in (
      went_stands v images p w l ls e,
      stand_from w.accounts o.config.now.accounts ls turn.stands
          (shape_stands o.config.now.accounts l ls o.config.now.things (is_going_on o.said)
          o.config.levels turn.shape e stand),
    )
