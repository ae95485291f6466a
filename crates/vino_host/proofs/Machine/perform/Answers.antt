use Rattle.std.proofs.Common.{sym}
use Rattle.vino_host.proofs.Stores.{word_stored}
use Rattle.vino_host.proofs.Machine.perform.Goals as goal

pub returns-in-Stw-clause-done : goal.returns-in-Stw-clause-done
returns-in-Stw-clause-done c =
    rw (c.in-Stw.is, c.next.ensures.went, c.next.ensures.value)
    (word_stored c.args.self.now c.args.segment.now c.store_word.new.segment c.args.i.now.a
    c.args.i.now.b c.reg-b.result c.reg-a.result (sym c.reg-a.ensures) (sym c.reg-b.ensures)
    c.store_word.ensures)
