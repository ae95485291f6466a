use Rattle.graft_levels.specs.Slots.{table_of}
use Rattle.graft_levels.proofs.Writing.{still_begun}
use Rattle.graft_calls.proofs.instructions.call.Goals as goal

pub returns-then-id-gt-LAST_CALLABLE-clause-kept : goal.returns-then-id-gt-LAST_CALLABLE-clause-kept
returns-then-id-gt-LAST_CALLABLE-clause-kept g c =
    record {
      in_place = (let h = c.requires.in_place in
          record {
            placed = c.drop_innermost.ensures.kept.placed;
            inside = c.drop_innermost.ensures.kept.inside (table_of c.args.images.now) h.inside;
            loaded = c.drop_innermost.ensures.kept.loaded (table_of c.args.images.now) h.loaded;
          });
      elsewhere =
          (record {
            world = c.drop_innermost.ensures.kept.elsewhere.world;
            living = c.drop_innermost.ensures.kept.elsewhere.living;
            others = c.drop_innermost.ensures.kept.elsewhere.others;
            memory = c.drop_innermost.ensures.kept.elsewhere.memory;
          });
      memory =
          (still_begun c.args.inner.process _ c.drop_innermost.new.chain.levels c.args.store.now.ram
          c.drop_innermost.new.store.ram c.drop_innermost.ensures.kept.memory);
    }

pub returns-in-Err-clause-kept : goal.returns-in-Err-clause-kept
returns-in-Err-clause-kept g c =
    record {
      in_place = (let h = c.requires.in_place in
          record {
            placed = c.drop_innermost-in-Err.ensures.kept.placed;
            inside = c.drop_innermost-in-Err.ensures.kept.inside (table_of c.args.images.now) h.inside;
            loaded = c.drop_innermost-in-Err.ensures.kept.loaded (table_of c.args.images.now) h.loaded;
          });
      elsewhere =
          (record {
            world = c.drop_innermost-in-Err.ensures.kept.elsewhere.world;
            living = c.drop_innermost-in-Err.ensures.kept.elsewhere.living;
            others = c.drop_innermost-in-Err.ensures.kept.elsewhere.others;
            memory = c.drop_innermost-in-Err.ensures.kept.elsewhere.memory;
          });
      memory =
          (still_begun c.args.inner.process _ c.drop_innermost-in-Err.new.chain.levels
          c.args.store.now.ram c.drop_innermost-in-Err.new.store.ram
          c.drop_innermost-in-Err.ensures.kept.memory);
    }

pub returns-in-Ok-Some-clause-kept : goal.returns-in-Ok-Some-clause-kept
returns-in-Ok-Some-clause-kept g c =
    record {
      in_place = (let h = c.requires.in_place in
          record {
            placed = c.access.ensures.kept.placed;
            inside = c.access.ensures.kept.inside (table_of c.args.images.now) h.inside;
            loaded = c.access.ensures.kept.loaded (table_of c.args.images.now) h.loaded;
          });
      elsewhere =
          (record {
            world = c.access.ensures.kept.elsewhere.world;
            living = c.access.ensures.kept.elsewhere.living;
            others = c.access.ensures.kept.elsewhere.others;
            memory = c.access.ensures.kept.elsewhere.memory;
          });
      memory =
          (still_begun c.args.inner.process _ c.access.new.chain.levels c.args.store.now.ram
          c.access.new.store.ram c.access.ensures.kept.memory);
    }
