use Rattle.std.proofs.Common.{◌∙◌}
use Rattle.call_pieces.specs.Stores.{world_of_store, objects_of}
use Rattle.call_pieces.specs.Works.{stage_of}
use Rattle.running_kernel.proofs.HinderLemmas.{all_of}
use Rattle.running_kernel.proofs.blocking.hindrance_by_needs.Goals as goal

pub first_user_hindrance-requires : goal.first_user_hindrance-requires
first_user_hindrance-requires g c =
    record {
      range = all_of c.as_slice.result.now
          (g.C.Meaning.Rules.meaning.need (world_of_store c.args.store.now)
          (objects_of c.args.store.now) c.args.work.now.caller (stage_of c.args.work.now))
          (c.as_slice.ensures ∙ c.need.ensures) c.requires.range;
    }

pub first_hindrance-requires : goal.first_hindrance-requires
first_hindrance-requires g c =
    record {
      range = all_of c.as_slice-2.result.now
          (g.C.Meaning.Rules.meaning.need (world_of_store c.args.store.now)
          (objects_of c.args.store.now) c.args.work.now.caller (stage_of c.args.work.now))
          (c.as_slice-2.ensures ∙ c.need.ensures) c.requires.range;
    }
