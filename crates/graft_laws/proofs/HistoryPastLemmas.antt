-- What each level of a trace came about by: where the marks before its ask lead, and the effects since.
use Rattle.std.specs.Prelude.{◌≡◌, ℕ, suc, ◌≤◌, true, List, [], ◌∷◌, ◌++◌, length, take, reverse, Some, is_some, ⊤, ◌⊎◌}
use Rattle.std.proofs.Common.{arith, refl, subst, sym, ap, ◌∙◌, inl, inr}
use Rattle.std.proofs.lemmas.Bool.Decides.{nat_tests}
use Rattle.std.proofs.lemmas.List.{append_assoc, append-nil, length-append, reverse-append}
use Rattle.std.proofs.lemmas.List.{reverse-reverse, take-append-le}
use Rattle.std.proofs.Math.Seq.{take-length}
use Rattle.kernel_model.specs.declared.Held.{Held}
use Rattle.kernel_model.specs.declared.Micro.{Micro}
use Rattle.kernel_model.specs.declared.Object.TheVariants.{Graft}
use Rattle.kernel_model.specs.World.{World, ImageTable}
use Rattle.kernel_model.specs.Objects.{Objects, Accounts, Things}
use Rattle.kernel_model.specs.Locks.{Touched, is_held}
use Rattle.kernel_model.specs.Levels.{Level, Effect, Outcome, outermost_touched}
use Rattle.kernel_model.specs.GraftStep.{micro, micro_on}
use Rattle.kernel_model.specs.History.{Mark, Past, Trace, with_effects, joined_pasts, pasts_after}
use Rattle.kernel_model.specs.History.{trace_after, stepped, marks_on}
use Rattle.graft_laws.proofs.HistoryEffectLemmas.{levels_by, touched_by, accounts_by, CanBeMade}
use Rattle.graft_laws.proofs.HistoryEffectLemmas.{accounts_more, levels_more, made_more, IsOf, of_self}
use Rattle.graft_laws.proofs.HistoryEffectLemmas.{levels_inside, levels_none, levels_length}
use Rattle.graft_laws.proofs.HistoryEffectLemmas.{levels_touched, held_on}
use Rattle.graft_laws.proofs.ActLemmas.{StaysIn, GoesDeeper, ComesBack, Next, Acts, WhereDropped, instruction_acts}

-- ---- longer histories

-- a history goes on from another: the marks before any of its places are the same
abbrev pub GoesOnFrom : List Mark → List Mark → Type 0
GoesOnFrom ks more = (n : ℕ) → n ≤ length ks → (n ≤ length more) × (take n more ≡ take n ks)

pub goes_on_self : (ks : List Mark) → GoesOnFrom ks ks
goes_on_self ks n h = (h, refl)

pub goes_on_by : (ks : List Mark) (k : Mark) → GoesOnFrom ks (ks ++ k ∷ [])
goes_on_by ks k n h = (omega (arith, length-append {A = Mark}), take-append-le n ks (k ∷ []) h)

-- effects that came since, newest first, are oldest first
reverse_more : (fs inner since : List Effect) →
    reverse ((reverse fs ++ inner) ++ since) ≡ reverse (inner ++ since) ++ fs
reverse_more fs inner since =
    ap reverse (append_assoc (reverse fs) inner since)
    ∙ reverse-append (reverse fs) (inner ++ since)
    ∙ ap (λ x. reverse (inner ++ since) ++ x) (reverse-reverse fs)

-- a trace of these parts
abbrev pub trace_with : Objects → List Level → ℕ → List Past → Trace
trace_with w ls n ps = record { config = record { now = w; levels = ls }; marks = n; pasts = ps }

-- ---- pasts by how many levels there were and are

same_pasts : (n m k : ℕ) (ps : List Past) → k ≡ m → pasts_after n (suc m) (suc k) ps ≡ ps
same_pasts n m k ps e = grind (arith, nat_tests)

pub deeper_pasts : (n m k : ℕ) (ps : List Past) → k ≡ m →
    pasts_after n (suc m) (suc (suc k)) ps ≡ record { began = n; effects = [] } ∷ ps
deeper_pasts n m k ps e = grind (arith, nat_tests)

back_pasts : (n m k : ℕ) (ps : List Past) → m ≡ suc k → pasts_after n (suc m) (suc k) ps ≡ joined_pasts ps
back_pasts n m k ps e = grind (arith, nat_tests)

module _ (v : World) (images : ImageTable) (p : ℕ) (first : Trace) (q : ℕ) where
  -- ---- where a level began

  -- After n of the marks an ask began a level of q's graft at a point, which found these things;
  -- effects since lead to these accounts and to these levels outside.
  pub record Began (ks : List Mark) (a : Accounts) (n : ℕ) (es : List Effect) (pt : ℕ)
      (kept : Things) (ls : List Level) : Type 0 where
    pub before : Trace
    pub after : Trace
    pub own : Level
    pub asker : Level
    pub outside : List Level
    pub early : n ≤ length ks
    pub leads : marks_on v images p (take n ks) first ≡ Some before
    pub asks : stepped before (micro v images p before.config) ≡ Some after
    pub deeper : length after.config.levels ≡ suc (length before.config.levels)
    pub levels : after.config.levels ≡ own ∷ asker ∷ outside
    pub owner : own.owner ≡ q
    pub point : own.point ≡ pt
    pub found : kept ≡ after.config.now.things
    pub held : is_held (outermost_touched ls (Graft q pt)) ≡ true
    pub made : CanBeMade q es after.config.now.accounts (outermost_touched (asker ∷ outside))
    pub accounts : a ≡ accounts_by q es after.config.now.accounts
    pub outer : ls ≡ levels_by q es (asker ∷ outside)

  -- The same of each level above the outermost; `inner` are the effects of levels further inward,
  -- newest first. All levels are of grafts of q.
  abbrev pub HasPasts : List Mark → Accounts → List Effect → List Level → List Past → Type 0
  HasPasts ks a inner (l ∷ []) (b ∷ []) = l.owner ≡ q
  HasPasts ks a inner (l ∷ k ∷ ls) (b ∷ ps) =
      (l.owner ≡ q) × Began ks a b.began (reverse (inner ++ b.effects)) l.point l.kept (k ∷ ls)
      × HasPasts ks a (inner ++ b.effects) (k ∷ ls) ps
  HasPasts ks a inner _ _ = ⊥

  -- ---- more effects

  -- effects could be made, where there is a level outside
  abbrev pub MadeOutside : List Effect → Accounts → List Level → Type 0
  MadeOutside es a [] = ⊤
  MadeOutside es a (l ∷ ls) = CanBeMade q es a (outermost_touched (l ∷ ls))

  pub made_outside : (es : List Effect) (a : Accounts) (l : Level) (ls : List Level) →
      CanBeMade q es a (outermost_touched (l ∷ ls)) → MadeOutside es a ls
  made_outside es a l [] h = tt
  made_outside es a l (k ∷ ls) h = h

  -- where a level began, after more effects
  began_on : (ks more : List Mark) (a : Accounts) (n : ℕ) (es fs gs : List Effect) (pt pu : ℕ)
      (kept x : Things) (k : Level) (ls xs : List Level) →
      GoesOnFrom ks more → Began ks a n es pt kept (k ∷ ls) →
      CanBeMade q fs a (outermost_touched (k ∷ ls)) → gs ≡ es ++ fs → pu ≡ pt → x ≡ kept →
      levels_by q fs (k ∷ ls) ≡ xs → Began more (accounts_by q fs a) n gs pu x xs
  began_on ks more a n es fs gs pt pu kept x k ls xs on h made effects point found levels =
      let on_n = on n h.early in
      let start = h.after.config.now.accounts in
      let t = outermost_touched (h.asker ∷ h.outside) in
      let touched : outermost_touched (k ∷ ls) ≡ touched_by q es t = ap outermost_touched h.outer
      ∙ levels_touched q es h.asker h.outside in
      let later = subst (λ b. CanBeMade q fs b (touched_by q es t)) h.accounts
      (subst (CanBeMade q fs a) touched made) in
      record {
        before = h.before;
        after = h.after;
        own = h.own;
        asker = h.asker;
        outside = h.outside;
        early = on_n.0;
        leads = ap (λ m. marks_on v images p m first) on_n.1 ∙ h.leads;
        asks = h.asks;
        deeper = h.deeper;
        levels = h.levels;
        owner = h.owner;
        point = h.point ∙ sym point;
        found = found ∙ h.found;
        held =
            ap (λ i. is_held (outermost_touched xs (Graft q i))) point
            ∙ ap (λ ys. is_held (outermost_touched ys (Graft q pt))) (sym levels)
            ∙ ap (λ (u : Touched). is_held (u (Graft q pt))) (levels_touched q fs k ls)
            ∙ held_on q fs (outermost_touched (k ∷ ls)) (Graft q pt) h.held;
        made = subst (λ es. CanBeMade q es start t) (sym effects) (made_more q es fs start t h.made later);
        accounts =
            ap (accounts_by q fs) h.accounts ∙ sym (accounts_more q es fs start)
            ∙ ap (λ es. accounts_by q es start) (sym effects);
        outer = sym levels ∙ ap (levels_by q fs) h.outer ∙ sym (levels_more q es fs (h.asker ∷ h.outside))
            ∙ ap (λ es. levels_by q es (h.asker ∷ h.outside)) (sym effects);
      }

  -- the pasts of all levels, after more effects; n is the innermost level then
  pasts_on : (ks more : List Mark) (a : Accounts) (inner fs : List Effect) (l n : Level)
      (ls : List Level) (ps : List Past) → GoesOnFrom ks more →
      HasPasts ks a inner (l ∷ ls) ps → IsOf n l → MadeOutside fs a ls →
      HasPasts more (accounts_by q fs a) (reverse fs ++ inner) (n ∷ levels_by q fs ls) ps
  pasts_on ks more a inner fs l n [] [] on h same made = absurd h
  pasts_on ks more a inner fs l n [] (b ∷ []) on h same made =
      subst (λ xs. HasPasts more (accounts_by q fs a) (reverse fs ++ inner) (n ∷ xs) (b ∷ []))
      (sym (levels_none q fs)) (same.owner ∙ h)
  pasts_on ks more a inner fs l n [] (b ∷ c ∷ ps) on h same made = absurd h
  pasts_on ks more a inner fs l n (k ∷ ls) [] on h same made = absurd h
  pasts_on ks more a inner fs l n (k ∷ ls) (b ∷ ps) on h same made =
      let next = levels_inside q fs k ls in
      let further = pasts_on ks more a (inner ++ b.effects) fs k next.0 ls ps on h.2 next.2
      (made_outside fs a k ls made) in
      subst (λ xs. HasPasts more (accounts_by q fs a) (reverse fs ++ inner) (n ∷ xs) (b ∷ ps)) (sym next.1) (
        same.owner ∙ h.0,
        began_on ks more a b.began (reverse (inner ++ b.effects)) fs
            (reverse ((reverse fs ++ inner) ++ b.effects)) l.point n.point l.kept n.kept k ls
            (next.0 ∷ levels_by q fs ls) on h.1 made (reverse_more fs inner b.effects) same.point same.found next.1,
        subst (λ es. HasPasts more (accounts_by q fs a) es (next.0 ∷ levels_by q fs ls) ps)
            (sym (append_assoc (reverse fs) inner b.effects)) further,
      )

  -- effects of levels further inward that are none any more are the innermost level's
  pub absorbed : (ks : List Mark) (a : Accounts) (xs : List Effect) (ls : List Level) (b : Past)
      (ps : List Past) → HasPasts ks a xs ls (b ∷ ps) →
      HasPasts ks a [] ls (record b { effects = xs ++ b.effects } ∷ ps)
  absorbed ks a xs [] b ps h = h
  absorbed ks a xs (l ∷ []) b [] h = h
  absorbed ks a xs (l ∷ []) b (c ∷ ps) h = h
  absorbed ks a xs (l ∷ k ∷ ls) b ps h = h

  -- the pasts after effects of the innermost level
  pub pasts_grow : (ks more : List Mark) (a : Accounts) (fs : List Effect) (l n : Level)
      (ls : List Level) (b : Past) (ps : List Past) → GoesOnFrom ks more →
      HasPasts ks a [] (l ∷ ls) (b ∷ ps) → IsOf n l → MadeOutside fs a ls →
      HasPasts more (accounts_by q fs a) [] (n ∷ levels_by q fs ls) (with_effects fs (b ∷ ps))
  pasts_grow ks more a fs l n ls b ps on h same made =
      absorbed more (accounts_by q fs a) (reverse fs) (n ∷ levels_by q fs ls) b ps
      (subst (λ xs. HasPasts more (accounts_by q fs a) xs (n ∷ levels_by q fs ls) (b ∷ ps)) (append-nil (reverse fs))
      (pasts_on ks more a [] fs l n ls (b ∷ ps) on h same made))

  -- another level of the same graft is the innermost one
  pasts_of : (ks : List Mark) (a : Accounts) (xs : List Effect) (l n : Level) (ls : List Level)
      (ps : List Past) → HasPasts ks a xs (l ∷ ls) ps → IsOf n l →
      HasPasts ks a xs (n ∷ ls) ps
  pasts_of ks a xs l n [] [] h same = h
  pasts_of ks a xs l n [] (b ∷ []) h same = same.owner ∙ h
  pasts_of ks a xs l n [] (b ∷ c ∷ ps) h same = h
  pasts_of ks a xs l n (k ∷ ls) [] h same = h
  pasts_of ks a xs l n (k ∷ ls) (b ∷ ps) h same = (
    same.owner ∙ h.0,
    subst (λ x. Began ks a b.began (reverse (xs ++ b.effects)) n.point x (k ∷ ls)) (sym same.found)
        (subst (λ i. Began ks a b.began (reverse (xs ++ b.effects)) i l.kept (k ∷ ls)) (sym same.point) h.1),
    h.2,
  )

  -- ---- one instruction

  -- what an instruction of the innermost level does, where the call goes on
  pub record WentOn (w : Objects) (l : Level) (ls : List Level) (r : Outcome) : Type 0 where
    pub accounts : r.config.now.accounts ≡ accounts_by q r.effects w.accounts
    pub made : MadeOutside r.effects w.accounts ls
    pub next : Next v q l.point l.kept l.touched (levels_by q r.effects ls) Micro.Went r.config

  went_on : (t : Touched) (w : Objects) (l : Level) (ls : List Level) → let r = micro_on v images p w (l ∷ ls) in
      l.owner ≡ q → is_held (t (Graft l.owner l.point)) ≡ true → r.said ≡ Micro.Went →
      (CanBeMade q r.effects w.accounts t → MadeOutside r.effects w.accounts ls) →
      WentOn w l ls r
  went_on t w l ls owner held said made =
      let r = micro_on v images p w (l ∷ ls) in
      let acts = subst (λ i. Acts v t i l.point l.kept l.touched w.accounts ls r) owner
      (instruction_acts v t images p w l ls held) in
      record {
        accounts = acts.accounts;
        made = made (acts.made (subst (λ x. WhereDropped x (is_some (w.accounts.graft q l.point))) (sym said) tt));
        next = subst (λ x. Next v q l.point l.kept l.touched (levels_by q r.effects ls) x r.config) said acts.next;
      }

  pub goes_on : (ks : List Mark) (w : Objects) (l : Level) (ls : List Level) (ps : List Past) →
      HasPasts ks w.accounts [] (l ∷ ls) ps →
      (micro_on v images p w (l ∷ ls)).said ≡ Micro.Went → WentOn w l ls (micro_on v images p w (l ∷ ls))
  goes_on ks w l [] [] h said = absurd h
  goes_on ks w l [] (b ∷ []) h said = went_on (λ o. Held.Exclusive) w l [] h refl said (λ made. tt)
  goes_on ks w l [] (b ∷ c ∷ ps) h said = absurd h
  goes_on ks w l (k ∷ ls) [] h said = absurd h
  goes_on ks w l (k ∷ ls) (b ∷ ps) h said =
      went_on (outermost_touched (k ∷ ls)) w l (k ∷ ls) h.0
      (ap (λ i. is_held (outermost_touched (k ∷ ls) (Graft i l.point))) h.0 ∙ h.1.held) said
      (λ made. made)

  -- a level that began just now
  new_began : (ks more : List Mark) (t u : Trace) (ls : List Level) → GoesOnFrom ks more →
      marks_on v images p ks first ≡ Some t → t.marks ≡ length ks →
      stepped t (micro v images p t.config) ≡ Some u → (i k : Level) →
      u.config.levels ≡ i ∷ k ∷ ls → length t.config.levels ≡ suc (length ls) → i.owner ≡ q →
      i.kept ≡ u.config.now.things → is_held (outermost_touched (k ∷ ls) (Graft q i.point)) ≡ true →
      Began more u.config.now.accounts t.marks [] i.point i.kept (k ∷ ls)
  new_began ks more t u ls on leads marks asks i k levels many owner found held =
      let here = on (length ks) (itself (length ks)) in
      record {
        before = t;
        after = u;
        own = i;
        asker = k;
        outside = ls;
        early = subst (λ n. n ≤ length more) (sym marks) here.0;
        leads =
            ap (λ n. marks_on v images p (take n more) first) marks
            ∙ ap (λ m. marks_on v images p m first) (here.1 ∙ take-length ks) ∙ leads;
        asks = asks;
        deeper = ap length levels ∙ ap suc (sym many);
        levels = levels;
        owner = owner;
        point = refl;
        found = found;
        held = held;
        made = tt;
        accounts = refl;
        outer = refl;
      }
    where
      itself : (n : ℕ) → n ≤ n
      itself n = omega arith

  -- the innermost level is q's
  pub first_owner : (ks : List Mark) (a : Accounts) (xs : List Effect) (l : Level) (ls : List Level)
      (b : Past) (ps : List Past) → HasPasts ks a xs (l ∷ ls) (b ∷ ps) → l.owner ≡ q
  first_owner ks a xs l [] b [] h = h
  first_owner ks a xs l [] b (c ∷ ps) h = absurd h
  first_owner ks a xs l (k ∷ ls) b ps h = h.0

  -- a level is back, with the effects of the one that it asked
  back_on : (ks : List Mark) (a : Accounts) (l : Level) (ls : List Level) (b : Past)
      (ps : List Past) → HasPasts ks a b.effects (l ∷ ls) ps →
      HasPasts ks a [] (l ∷ ls) (joined_pasts (b ∷ ps))
  back_on ks a l [] b [] h = absurd h
  back_on ks a l (k ∷ ls) b [] h = absurd h
  back_on ks a l ls b (c ∷ ps) h = absorbed ks a b.effects (l ∷ ls) c ps h

  -- the pasts after an instruction where the call goes on
  pub stepped_pasts : (ks more : List Mark) (w : Objects) (l : Level) (ls : List Level) (n : ℕ)
      (b : Past) (ps : List Past) → GoesOnFrom ks more →
      marks_on v images p ks first ≡ Some (trace_with w (l ∷ ls) n (b ∷ ps)) → n ≡ length ks →
      HasPasts ks w.accounts [] (l ∷ ls) (b ∷ ps) →
      let r = micro_on v images p w (l ∷ ls) in
      let u = trace_after (trace_with w (l ∷ ls) n (b ∷ ps)) r in
      stepped (trace_with w (l ∷ ls) n (b ∷ ps)) r ≡ Some u → WentOn w l ls r →
      HasPasts more u.config.now.accounts [] u.config.levels u.pasts
  stepped_pasts ks more w l ls n b ps on leads marks h asks went = by_next went.next
    where
      put : (xs : List Level) (since : List Past) → let r = micro_on v images p w (l ∷ ls) in
          r.config.levels ≡ xs → pasts_after n (suc (length ls)) (length xs) (with_effects r.effects (b ∷ ps)) ≡ since →
          HasPasts more (accounts_by q r.effects w.accounts) [] xs since →
          HasPasts more r.config.now.accounts [] r.config.levels (pasts_after n (suc (length ls))
          (length r.config.levels) (with_effects r.effects (b ∷ ps)))
      put xs since levels pasts k =
          let r = micro_on v images p w (l ∷ ls) in
          let a = accounts_by q r.effects w.accounts in
          subst (λ x. HasPasts more x [] r.config.levels (pasts_after n (suc (length ls))
          (length r.config.levels) (with_effects r.effects (b ∷ ps)))) (sym went.accounts)
          (subst (λ ys. HasPasts more a [] ys (pasts_after n (suc (length ls)) (length ys)
          (with_effects r.effects (b ∷ ps)))) (sym levels)
          (subst (HasPasts more a [] xs) (sym pasts) k))

      grown : (o : Level) → IsOf o l → let r = micro_on v images p w (l ∷ ls) in
          HasPasts more (accounts_by q r.effects w.accounts) [] (o ∷ levels_by q r.effects ls)
          (with_effects r.effects (b ∷ ps))
      grown o same =
          pasts_grow ks more w.accounts (micro_on v images p w (l ∷ ls)).effects l o ls b ps on h
          same went.made

      is_own : (o : Level) → o.owner ≡ q → o.point ≡ l.point → o.kept ≡ l.kept → IsOf o l
      is_own o owner point found =
          record {
            owner = owner ∙ sym (first_owner ks w.accounts [] l ls b ps h);
            point = point;
            found = found;
          }

      by_next : let r = micro_on v images p w (l ∷ ls) in
          StaysIn q l.point l.kept l.touched (levels_by q r.effects ls) r.config
          ⊎ GoesDeeper q l.point l.kept l.touched (levels_by q r.effects ls) r.config
          ⊎ ComesBack (levels_by q r.effects ls) r.config →
          HasPasts more r.config.now.accounts [] r.config.levels (pasts_after n (suc (length ls))
          (length r.config.levels) (with_effects r.effects (b ∷ ps)))
      by_next (inl s) =
          let es = (micro_on v images p w (l ∷ ls)).effects in
          put (s.own ∷ levels_by q es ls) (with_effects es (b ∷ ps)) s.levels
          (same_pasts n (length ls) (length (levels_by q es ls)) (with_effects es (b ∷ ps))
          (levels_length q es ls)) (grown s.own (is_own s.own s.owner s.point s.found))
      by_next (inr (inl d)) =
          let r = micro_on v images p w (l ∷ ls) in
          let es = r.effects in
          let t = trace_with w (l ∷ ls) n (b ∷ ps) in
          let began = new_began ks more t (trace_after t r) (levels_by q es ls) on leads marks asks
          d.inner d.own d.levels
          (ap suc (sym (levels_length q es ls))) d.inner_owner d.inner_found d.held in
          put (d.inner ∷ d.own ∷ levels_by q es ls)
          (record { began = n; effects = [] } ∷ with_effects es (b ∷ ps)) d.levels
          (deeper_pasts n (length ls) (length (levels_by q es ls)) (with_effects es (b ∷ ps)) (levels_length q es ls)) (
            d.inner_owner,
            subst (λ a. Began more a n [] d.inner.point d.inner.kept (d.own ∷ levels_by q es ls)) went.accounts began,
            grown d.own (is_own d.own d.owner d.point d.found),
          )
      by_next (inr (inr c)) =
          let es = (micro_on v images p w (l ∷ ls)).effects in
          let a = accounts_by q es w.accounts in
          let since = reverse es ++ b.effects in
          let k = subst (λ xs. HasPasts more a [] (l ∷ xs) (with_effects es (b ∷ ps))) c.outside
          (grown l (of_self l)) in
          put (c.own ∷ c.rest) (joined_pasts (with_effects es (b ∷ ps))) c.levels
          (back_pasts n (length ls) (length c.rest)
          (with_effects es (b ∷ ps)) (sym (levels_length q es ls) ∙ ap length c.outside))
          (back_on more a c.own c.rest (record b { effects = since }) ps
          (pasts_of more a since c.asker c.own c.rest ps k.2 c.same))
