-- An instruction of a call over the one store, and the drop of a level, beside the one to which the history leads.
use Rattle.std.specs.Prelude.{◌≡◌, ℕ, suc, ◌<◌, ◌==◌, Bool, true, false, List, [], ◌∷◌, length, Some, None, Contains}
use Rattle.std.proofs.Common.{arith, refl, subst, sym, ap, ◌∙◌}
use Rattle.std.proofs.lemmas.Bool.Decides.{nat_tests}
use Rattle.kernel_model.specs.declared.Cause.{Cause}
use Rattle.kernel_model.specs.declared.Object.{Object}
use Rattle.kernel_model.specs.declared.Object.TheVariants.{Graft, Acct}
use Rattle.kernel_model.specs.World.{World}
use Rattle.kernel_model.specs.Objects.{Objects, SameAt}
use Rattle.kernel_model.specs.Charges.{removed}
use Rattle.kernel_model.specs.Meaning.{Meaning}
use Rattle.kernel_model.specs.Levels.{Level, Config, Outcome, state_without, drop_innermost, drop_level}
use Rattle.kernel_model.specs.GraftStep.{next_needs, micro}
use Rattle.kernel_model.specs.Kernel.{Kernel}
use Rattle.kernel_model.specs.Blocking.{config_of, needs, blocker}
use Rattle.kernel_model.specs.InPlace.{is_changed_in}
use Rattle.kernel_model.specs.Sound.{IsSoundStore}
use Rattle.kernel_model.specs.Alike.{AreAlike}
use Rattle.kernel_model.specs.Laws.{Laws}
use Rattle.kernel_laws.proofs.FrameLemmas.{changes_what_is_held, same_then, other_than}
use Rattle.kernel_laws.proofs.InstructionLemmas.{instructions_work}
use Rattle.kernel_laws.proofs.StoreLemmas.{removed_store}
use Rattle.graft_laws.specs.Alike.{OutcomesAlike}
use Rattle.graft_laws.proofs.DropReplayLemmas.{both_parts}
use Rattle.graft_laws.proofs.ConfigAlikeLemmas.{instructions_alike, drops_alike}
use Rattle.graft_laws.proofs.SoundCallLemmas.{contains_first, contains_later}
use Rattle.placed_laws.proofs.LevelLemmas.{relaid, relaid_alike}
use Rattle.placed_laws.proofs.GraftedLemmas.{grafted}
use Rattle.placed_laws.proofs.SourceLemmas.{IsPlaced}
use Rattle.placed_laws.proofs.AfterLemmas.{changed_alike}
use Rattle.placed_laws.proofs.ConfigLemmas.{laid_over, laid_config_alike, laid_config_sound, of_found}
use Rattle.placed_laws.proofs.FreeLemmas.{next_needs_agree}
use Rattle.placed_laws.proofs.WorkLemmas.{laid_works, kept_near}
use Rattle.kernel_laws.proofs.FrameLemmas.{differ_frame, remove_differs}
use Rattle.kernel_laws.proofs.LevelLemmas.{outer_changed}
use Rattle.call_laws.specs.FileChanges.{same_self}

-- what an instruction or a drop comes to over the store w (r), beside what it comes to where the history leads (o)
pub record PlacedOutcome (k : Kernel) (w : Objects) (f : Config) (o r : Outcome) : Type 0 where
  pub alike : OutcomesAlike f (laid_over w f) o r
  -- the store changes only where the call holds something exclusively
  pub frame : (b : Object) → is_changed_in f.levels b ≡ false →
      is_changed_in r.config.levels b ≡ false → SameAt b r.config.now w
  pub store : IsSoundStore k.world r.config.now
  pub near : AreAlike w r.config.now

-- the level that is dropped
pub record DropIs (v : World) (w : Objects) (ls : List Level) (n : ℕ) (cause : Cause) : Type 0 where
  pub level : Level
  pub rest : List Level
  pub number : length rest ≡ n
  pub is : drop_level v w ls n cause ≡ drop_innermost v w level rest cause
  pub among : Contains ls level

pub drop_is : (v : World) (w : Objects) (ls : List Level) (n : ℕ) (cause : Cause) → n < length ls →
    DropIs v w ls n cause
drop_is v w [] n cause low = absurd (none_lower n low)
  where
    none_lower : (n : ℕ) → n < 0 → ⊥
    none_lower n h = omega arith
drop_is v w (l ∷ ls) n cause low = by_number (length ls == n) refl (drop_is v w ls n cause)
  where
    same_number : (a b : ℕ) → (a == b) ≡ true → a ≡ b
    same_number a b h = grind (arith, nat_tests)

    lower : (a b : ℕ) → b < suc a → (a == b) ≡ false → b < a
    lower a b h e = grind (arith, nat_tests)

    by_number : (b : Bool) → (length ls == n) ≡ b → (n < length ls → DropIs v w ls n cause) →
        DropIs v w (l ∷ ls) n cause
    by_number true e further =
        record {
          level = l;
          rest = ls;
          number = same_number (length ls) n e;
          is =
              ap (λ b. elim b as (λ _. Outcome) [
                | true ↦ drop_innermost v w l ls cause
                | false ↦ drop_level v w ls n cause
              ]) e;
          among = contains_first l ls;
        }
    by_number false e further =
        let d = further (lower (length ls) n low e) in
        record {
          level = d.level;
          rest = d.rest;
          number = d.number;
          is =
              ap (λ b. elim b as (λ _. Outcome) [
                | true ↦ drop_innermost v w l ls cause
                | false ↦ drop_level v w ls n cause
              ]) e ∙ d.is;
          among = contains_later l d.level ls d.among;
        }

module _ (m : Meaning) (laws : Laws m) (k : Kernel) (w : Objects) (here : IsPlaced m k w) (p : ℕ)
    (f : Config) (is : config_of m k p ≡ Some f) where
  -- what the call doesn't hold exclusively
  free_laid : (b : Object) → is_changed_in f.levels b ≡ false → is_changed_in (relaid w.things f.levels) b ≡ false
  free_laid b free = sym (changed_alike f.levels (relaid w.things f.levels) b (relaid_alike w.things f.levels)) ∙ free

  -- an instruction that nothing blocks
  pub micro_placed : blocker m k p ≡ None → needs m k p ≡ next_needs k.world k.images f.now.accounts f.levels →
      PlacedOutcome k w f (micro k.world k.images p f) (micro k.world k.images p (laid_over w f))
  micro_placed unblocked needed =
      let g = grafted m laws k here.kernel p f is in
      let sound = laid_config_sound m laws k w here p f is in
      let work = (instructions_work k.world k.images p w g.point (laid_over w f)
      (laid_works m laws k w here p f is)).0.works.1.0 in
      record {
        alike =
            instructions_alike k.world k.images p f (laid_over w f) g.replayed.sound sound
            (laid_config_alike m laws k w here p f is) g.replayed.asks g.answer
            (next_needs_agree m laws k w here p f is needed unblocked);
        frame =
            λ b free after. changes_what_is_held k.world k.images p (laid_over w f) b sound
            (free_laid b free) after;
        store = work.store;
        near = work.alike;
      }

  -- the drop of a level
  pub drop_placed : (n : ℕ) (cause : Cause) → n < length (relaid w.things f.levels) →
      PlacedOutcome k w f (drop_level k.world f.now f.levels n cause)
      (drop_level k.world w (relaid w.things f.levels) n cause)
  drop_placed n cause low =
      let g = grafted m laws k here.kernel p f is in
      let sound = laid_config_sound m laws k w here p f is in
      let d = drop_is k.world w (relaid w.things f.levels) n cause low in
      let l = d.level in
      let paid = sound.paid l d.among in
      record {
        alike =
            drops_alike k.world f (laid_over w f) n cause g.replayed.sound sound
            (laid_config_alike m laws k w here p f is) g.replayed.asks;
        frame = λ b free after.
            let none = free_laid b free in
            let found = of_found m laws k w here p f is l d.among in
            subst (λ (o : Outcome). SameAt b o.config.now w) (sym d.is)
            (same_then b (state_without l w) (record { accounts = w.accounts; things = l.kept }) w
            (differ_frame l.owner l.point (removed l.owner l.point w.accounts) w.accounts l.kept b
            (remove_differs l.owner l.point w.accounts)
            (other_than (relaid w.things f.levels) b (Graft l.owner l.point) none
            (outer_changed (relaid w.things f.levels) (Graft l.owner l.point) paid.0))
            (other_than (relaid w.things f.levels) b (Acct l.owner) none
            (outer_changed (relaid w.things f.levels) (Acct l.owner) paid.1)))
            (both_parts b w.accounts l.kept w w refl (λ i. same_self b w) (found.2.other b free)));
        store =
            subst (λ (o : Outcome). IsSoundStore k.world o.config.now) (sym d.is) (removed_store
            k.world (record w { things = l.kept }) l.owner l.point (sound.found l d.among));
        near =
            subst (λ (o : Outcome). AreAlike w o.config.now) (sym d.is)
            (kept_near m laws k w here p f is (removed l.owner l.point w.accounts) l d.among);
      }
