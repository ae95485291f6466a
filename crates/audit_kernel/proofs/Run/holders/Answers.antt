use Rattle.std.proofs.Common.{◌≡◌, ℕ, Bool, cond, List, [], ◌∷◌, ◌++◌, sym, ap, ◌∙◌, refl, find, arith}
use Rattle.kernel_model.specs.World.{processes}
use Rattle.audit_kernel.specs.Runs.{kernel_of}
use Rattle.audit_kernel.proofs.Holding.{one_more, all_seen}
use Rattle.audit_kernel.proofs.Run.holders.Goals as goal

pub loop-q-init : goal.loop-q-init
loop-q-init c = λ test less. ap (λ (xs : List ℕ). find test (xs ++ processes)) c.new-holders.ensures

pub loop-q-preserved : goal.loop-q-preserved
loop-q-preserved c =
    let hs = c.loop-q.holders.items in
    one_more (kernel_of c.args.self.now) hs c.add_if.new.holders.items c.loop-q.q c.loop-q-test.true
    (c.in_ok-add_if.ensures ∙ ap (λ (b : Bool). hs ++ cond b (c.loop-q.q ∷ []) []) c.has_level.ensures)
    c.loop-q.invariant

pub returns : goal.returns
returns c =
    all_seen (kernel_of c.args.self.now) c.loop-q.holders.items c.loop-q.q c.loop-q-test.false c.loop-q.invariant
