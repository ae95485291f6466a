use Rattle.std.proofs.Common.{◌≡◌, ◌+◌, ◌-◌, ◌<◌, suc, refl, sym, ◌∙◌, arith}
use Rattle.audit_pieces.specs.Stores.{objects_of}
use Rattle.audit_pieces.proofs.Searching.{descriptor_used, descriptor_free, descriptor_none}
use Rattle.audit_pieces.proofs.Store.free_descriptor.Goals as goal

pub returns-in-None : goal.returns-in-None
returns-in-None c =
    let w = (objects_of c.args.self.now).things in
    let d = c.loop-fd.fd in
    let more : 0 < 4 - d = omega arith in
    sym (descriptor_free w c.args.p (4 - d) d more (sym c.in-None.ensures)) ∙ c.loop-fd.invariant

pub loop-fd-preserved : goal.loop-fd-preserved
loop-fd-preserved c =
    let w = (objects_of c.args.self.now).things in
    let d = c.loop-fd.fd in
    let n = 4 - (d + 1) in
    let less : 4 - d ≡ suc n = omega arith in
    sym (descriptor_used w c.args.p (4 - d) n d (d + 1) _ less refl (sym c.in-Some.ensures))
    ∙ c.loop-fd.invariant

pub returns : goal.returns
returns c =
    let w = (objects_of c.args.self.now).things in
    let d = c.loop-fd.fd in
    let none : 4 - d ≡ 0 = omega arith in
    sym (descriptor_none w c.args.p (4 - d) d none) ∙ c.loop-fd.invariant
