-- What a call in a graft doesn't hold or need, it can't tell.
use Rattle.std.specs.Prelude.{◌≡◌, true, is_some}
use Rattle.kernel_model.specs.Meaning.{Meaning}
use Rattle.kernel_model.specs.Levels.{Level}
use Rattle.kernel_laws.proofs.LevelLemmas.{each_contains}
use Rattle.graft_laws.specs.Histories.{GraftsStand}
use Rattle.graft_laws.specs.Unasked.{UnaskedIsUnseen}
use Rattle.graft_laws.proofs.AlikeHistoryLemmas.{histories_alike}
use Rattle.graft_laws.proofs.AlikeMarkLemmas.{now_agree, stand_other}
use Rattle.graft_laws.proofs.AnswerLemmas.{histories_hold_answers}
use Rattle.graft_laws.proofs.BeginningLemmas.{histories_replay}
use Rattle.graft_laws.proofs.ConfigAlikeLemmas.{instructions_alike}

pub unasked_is_unseen : (m : Meaning) → UnaskedIsUnseen m
unasked_is_unseen m v images s u p t ks now laws first second leads stand held needed =
    let x = histories_alike m v images s u p t ks now laws first second leads stand held in
    let c = now.config in
    let d = x.0.config in
    let alike = x.2.config in
    let one = histories_replay m v images s p t ks now laws first leads stand in
    let all = stand_other v s u c d one alike.levels alike.now in
    let stands : GraftsStand d =
    λ l k. each_contains (λ (l : Level). is_some (d.now.accounts.graft l.owner l.point) ≡ true) d.levels l all k in
    let two = histories_replay m v images u p t ks x.0 laws second x.1 stands in
    record {
      other = x.0;
      leads = x.1;
      alike = x.2;
      next =
          instructions_alike v images p c d one.sound two.sound alike one.asks
          (histories_hold_answers m v images s p t ks now laws first leads)
          (λ o k. now_agree v s u c d one two alike o (needed o k));
    }
