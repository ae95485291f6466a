use Rattle.std.proofs.Common.{◌≡◌, ℕ, ◌-◌, List, take, sym, ap, subst, ◌∙◌, arith}
use Rattle.vino_host.specs.declared.Record.{Record}
use Rattle.vino_host.specs.declared.Word.{Word}
use Rattle.vino_host.specs.Tables.{records_of, released}
use Rattle.vino_host.proofs.Undoing.{released_by_place}
use Rattle.vino_host.proofs.table.release.Goals as goal

pub records-init : goal.records-init
records-init c =
    (c.size-n.ensures.most, ap (λ (rs : List Record). released rs c.args.table.now) c.size-n.ensures.records)

pub records-preserved : goal.records-preserved
records-preserved c =
    let all = c.records.invariant in
    let some = c.records-test.true in (
      omega (arith, all.0),
      ap (λ (t : List Word). released (take (c.records.n - 1) c.args.log.now.records) t) c.release_at.ensures
          ∙ sym (released_by_place c.args.log.now.records c.records.n _ c.records.table some all.0) ∙ all.1,
    )

pub returns : goal.returns
returns c =
    let all = c.records.invariant in
    let none : c.records.n ≡ 0 = omega (arith, c.records-test.false) in
    subst (λ (n : ℕ). released (take n c.args.log.now.records) c.records.table
    ≡ released (records_of c.args.log.now) c.args.table.now) none all.1
