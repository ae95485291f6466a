use Rattle.std.proofs.Common.{◌∙◌, ap, sym}
use Rattle.std.specs.Prelude.{option_copied}
use Rattle.call_pieces.specs.Stores.{world_of_store, objects_of}
use Rattle.call_pieces.specs.Works.{stage_of}
use Rattle.running_kernel.proofs.HinderLemmas.{all_of}
use Rattle.kernel_steps.proofs.entering.needs_of.Goals as goal

pub returns-in-Some-clause-range : goal.returns-in-Some-clause-range
returns-in-Some-clause-range g c =
    let m = g.C.Meaning.Rules.meaning in
    let v = world_of_store c.args.store.now in
    let s = objects_of c.args.store.now in
    let call = c.in-Some.call.now in
    let there = sym c.get.ensures ∙ ap option_copied c.in-Some.is in
    let due = c.requires.stands call there in
    all_of c.need.new.needs (m.need v s c.args.p (stage_of call.work))
    (c.need.ensures ∙ ap (λ q. m.need v s q (stage_of call.work)) (c.requires.own call there))
    (λ n has. g.C.Meaning.Rules.laws.need.ranges v due.0 s c.args.p (stage_of call.work) n due.1 has)
