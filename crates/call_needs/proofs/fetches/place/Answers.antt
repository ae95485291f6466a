use Rattle.std.proofs.Common.{rules}
use Rattle.call_needs.proofs.fetches.place.Goals as goal

pub returns-in-Candidate : goal.returns-in-Candidate
returns-in-Candidate g c =
    record {
      outcome = search rules;
      tells = search rules;
      first = c.evict.ensures.first;
      keeps = c.evict.ensures.keeps;
      calls = c.evict.ensures.calls;
    }
