use Rattle.std.proofs.Common.{◌∙◌, ap, sym, refl, length, nat_lt}
use Rattle.kernel_model.specs.Locks.{outermost_holding}
use Rattle.kernel_model.specs.Events.{wanted}
use Rattle.lock_table.specs.Masks.{held}
use Rattle.placed_laws.specs.Placed.{placed_needs}
use Rattle.lock_table.proofs.ObjectNumbers.{test_is_range}
use Rattle.running_kernel.specs.Views.{placed_of, chain_of}
use Rattle.running_kernel.proofs.ViewLemmas.{holds_in_place}
use Rattle.running_kernel.proofs.QueryLemmas.{level_is, level_there, none_in_the_way, nobody_in_the_way}
use Rattle.running_kernel.proofs.running.Running.level_in_the_way.Goals as goal

pub returns-then-holder-ge16-clause-value : goal.returns-then-holder-ge16-clause-value
returns-then-holder-ge16-clause-value g c =
    let x = c.args.self.now in
    let mode = wanted c.args.object (placed_needs g.C.Meaning.Rules.meaning (placed_of x) c.args.p) in
    sym (ap (λ t. outermost_holding c.args.object mode (t c.args.holder)) (holds_in_place x c.requires.running)
    ∙ nobody_in_the_way x.locks c.args.holder c.args.object mode c.if-holder-ge16.true)

pub returns-then-not-is_in_range-clause-value : goal.returns-then-not-is_in_range-clause-value
returns-then-not-is_in_range-clause-value g c =
    let x = c.args.self.now in
    let mode = wanted c.args.object (placed_needs g.C.Meaning.Rules.meaning (placed_of x) c.args.p) in
    sym (ap (λ t. outermost_holding c.args.object mode (t c.args.holder)) (holds_in_place x c.requires.running)
    ∙ none_in_the_way x.locks c.args.holder c.args.object mode (sym c.is_in_range.ensures ∙ c.if-not-is_in_range.true))

pub level_of-requires : goal.level_of-requires
level_of-requires g c =
    record {
      range = (test_is_range c.args.object).0
          (sym c.is_in_range.ensures ∙ c.if-not-is_in_range.false);
    }

pub returns-clause-value : goal.returns-clause-value
returns-clause-value g c =
    let x = c.args.self.now in
    c.level_of.ensures ∙ ap (λ m. outermost_holding c.args.object m (held x.locks c.args.holder)) c.wanted-mode.ensures
    ∙ sym (ap (λ t. outermost_holding c.args.object (wanted c.args.object
    (placed_needs g.C.Meaning.Rules.meaning (placed_of x) c.args.p)) (t c.args.holder))
    (holds_in_place x c.requires.running))

pub returns-clause-there : goal.returns-clause-there
returns-clause-there g c =
    level_is c.level_of.result c.args.holder (chain_of c.args.self.now c.args.holder).levels
    c.if-holder-ge16.false
    (λ d is. level_there c.args.self.now.locks c.args.holder
    (length (chain_of c.args.self.now c.args.holder).levels) c.args.object c.wanted-mode.result
    d (c.requires.running.placed c.args.holder c.if-holder-ge16.false).unheld
    (sym c.level_of.ensures ∙ is)
    (nat_lt d (length (chain_of c.args.self.now c.args.holder).levels)) refl)
