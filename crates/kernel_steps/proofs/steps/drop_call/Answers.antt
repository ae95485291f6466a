use Rattle.std.proofs.Common.{◌<◌, ◌∙◌, ap, sym, subst}
use Rattle.std.specs.Prelude.{option_map}
use Rattle.kernel_model.specs.Levels.{Outcome, drop_level}
use Rattle.call_pieces.specs.Stores.{world_of_store, objects_of}
use Rattle.placed_laws.specs.Placed.{placed_levels}
use Rattle.running_kernel.specs.Views.{placed_of, call_in_place}
use Rattle.placed_laws.proofs.Laws.{ready_in_place, owners_stay}
use Rattle.kernel_steps.proofs.EndLemmas.{drop_ends}
use Rattle.kernel_steps.proofs.PartLemmas.{drop_alone, drop_done, drop_ready, levels_many, move_ends}
use Rattle.kernel_steps.proofs.steps.drop_call.Goals as goal

pub follow-requires-clause-alone : goal.follow-requires-clause-alone
follow-requires-clause-alone g c =
    let x = c.args.running.now in
    drop_alone owners_stay x c.fall-said.new.running c.args.p c.args.d c.args.cause
    c.requires.running c.requires.process c.fall-said.ensures.moved c.fall-said.ensures.config

pub follow-requires-clause-answer : goal.follow-requires-clause-answer
follow-requires-clause-answer g c =
    let m = g.C.Meaning.Rules.meaning in
    λ answer h.
    let x = c.args.running.now in
    let o : Outcome = drop_level (world_of_store x.store) (objects_of x.store)
    (placed_levels (placed_of x) c.args.p) c.args.d c.args.cause in
    record {
      none =
          move_ends x c.fall-said.new.running c.args.p o c.fall-said.result answer
          c.fall-said.ensures.config c.fall-said.ensures.said (drop_ends (world_of_store x.store)
          (objects_of x.store) (placed_levels (placed_of x) c.args.p) c.args.d c.args.cause) h;
      ready =
          λ f is. drop_ready m (ready_in_place m g.C.Meaning.Rules.laws) x c.fall-said.new.running
          c.args.p c.args.d c.args.cause f c.fall-said.result answer c.requires.abstraction
          (subst (λ n. c.args.d < n) (sym (levels_many x c.args.p)) c.requires.level)
          c.fall-said.ensures.moved c.fall-said.ensures.config c.fall-said.ensures.said h is;
    }

pub returns : goal.returns
returns g c =
    λ pc is.
    let a = c.args in
    let x = a.running.now in
    drop_done g.C.Meaning.Rules.meaning x c.fall-said.new.running c.follow.new.running a.p a.d
    a.cause pc c.fall-said.result a.trace.now.notes c.follow.new.trace.notes
    (g.D.Disk.seen a.disk.now) (g.D.Disk.seen c.follow.new.disk)
    c.fall-said.ensures.moved c.fall-said.ensures.config c.fall-said.ensures.said
    (c.follow.ensures pc (ap (option_map call_in_place) (c.fall-said.ensures.moved.calls a.p) ∙ is))
