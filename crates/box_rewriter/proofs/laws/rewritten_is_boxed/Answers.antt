use Rattle.std.proofs.Common.{List, subst, sym}
use Rattle.graft_code.specs.declared.Instr.{Instr}
use Rattle.graft_code.specs.Boxed.{IsBoxed}
use Rattle.box_rewriter.specs.Laws.{RewrittenIsBoxed}
use Rattle.box_rewriter.proofs.Boxing.{boxed_is_boxed}
use Rattle.box_rewriter.proofs.Faults.{rewritten}
use Rattle.box_rewriter.proofs.laws.rewritten_is_boxed.Goals as goal

law : RewrittenIsBoxed
law code boxed h =
    let r = rewritten code boxed h in subst (λ (c : List Instr). IsBoxed c) (sym r.is) (boxed_is_boxed code r.can)

pub returns : goal.returns
returns c = law
