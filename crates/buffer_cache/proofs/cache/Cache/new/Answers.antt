use Rattle.buffer_cache.proofs.Rows.{new-kept}
use Rattle.buffer_cache.proofs.cache.Cache.new.Goals as goal

pub invariant_of-result : goal.invariant_of-result
invariant_of-result c =
    new-kept c.no_rows.result c.new.result.items c.args.frames c.first_index.result c.requires.least
    c.requires.most c.no_rows.ensures c.new.ensures c.first_index.ensures
