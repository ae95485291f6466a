use Rattle.std.proofs.Common.{◌∙◌, sym}
use Rattle.kernel_steps.proofs.OnceLemmas.{once_joined, room_for}
use Rattle.running_kernel.proofs.OrderLemmas.{counts_joined, processes_joined}
use Rattle.running_kernel.proofs.QueryLemmas.{order_numbers}
use Rattle.kernel_steps.proofs.RunningLemmas.{joined_run}
use Rattle.kernel_steps.proofs.calls.join.Goals as goal

pub push-requires : goal.push-requires
push-requires g c =
    room_for c.args.p c.args.running.now.order c.requires.at.process
    c.requires.at.running.order c.requires.at.running.once
    (sym (order_numbers c.args.p c.args.running.now.order) ∙ c.requires.new)

pub returns : goal.returns
returns g c =
    let x = c.args.running.now in
    let r = c.requires.at.running in
    record {
      value =
          λ notes blocks io. joined_run x c.args.p c.push.new.self c.joined.result c.joined.ensures
          c.push.ensures notes blocks io;
      running =
          record {
            sixteen = r.sixteen;
            callers = r.callers;
            placed = r.placed;
            inside = r.inside;
            counts =
                counts_joined x.clock c.args.p x.order c.joined.result c.push.new.self
                c.joined.ensures c.push.ensures r.counts;
            order =
                processes_joined c.args.p x.order c.joined.result c.push.new.self c.joined.ensures
                c.push.ensures c.requires.at.process r.order;
            once =
                once_joined c.args.p x.order c.joined.result c.push.new.self c.joined.ensures
                c.push.ensures r.once (sym (order_numbers c.args.p x.order) ∙ c.requires.new);
            loaded = r.loaded;
            owner = r.owner;
            own = r.own;
          };
    }
