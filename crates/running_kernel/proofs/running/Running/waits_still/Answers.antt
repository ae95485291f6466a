use Rattle.std.proofs.Common.{◌≡◌, true, sym, ◌∙◌, arith}
use Rattle.std.proofs.lemmas.Bool.{eqb-true}
use Rattle.std.proofs.lemmas.Bool.Decides.{nat_tests}
use Rattle.running_kernel.proofs.StillLemmas.{no_call, still_waits}
use Rattle.running_kernel.proofs.running.Running.waits_still.Goals as goal

pub holder-requires : goal.holder-requires
holder-requires g c = (c.takes_alone.ensures c.if-not-takes_alone.false).small

pub returns-in-Some-holder : goal.returns-in-Some-holder
returns-in-Some-holder g c =
    λ said.
    let kept = c.in-Some.kept in
    let same = eqb-true c.in-Some-holder.holder kept.holder said in
    still_waits g.C.Meaning.Rules.meaning c.args.self.now c.args.waiting kept c.in-Lock.u
    c.in-Some-holder.holder c.requires.running c.in-Some.is c.in-Lock.is
    (no_call kept.call (sym c.is_some.ensures ∙ c.if-is_some.false)) (sym same)
    (grind (arith, nat_tests, same, c.if-kept-waiting.false))
    (c.is_free.ensures.0 c.if-not-is_free.false) (c.takes_alone.ensures c.if-not-takes_alone.false)
    (sym c.holder.ensures ∙ c.in-Some-holder.is)
