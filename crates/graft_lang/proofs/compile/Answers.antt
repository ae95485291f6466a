use Rattle.std.proofs.Common.{length, sym, subst, ◌≤◌}
use Rattle.graft_lang.proofs.Accepted.{accepted_programs_run}
use Rattle.graft_lang.proofs.Spelled.{accepted_texts_are_spelled, few_names, accepted_code_long, compiled}
use Rattle.graft_lang.proofs.compile.Goals as goal

pub write_program-requires-clause-names : goal.write_program-requires-clause-names
write_program-requires-clause-names c = few_names c.args.text.now c.in_ok-syntax.syntax c.in_ok-syntax.ensures.ok

pub new-requires-in-Ok-clause-code_len :
    goal.new-requires-in-Ok-clause-code_len
new-requires-in-Ok-clause-code_len c =
    let s = c.in_ok-syntax.syntax in
    let p = accepted_texts_are_spelled c.args.text.now s c.in_ok-syntax.ensures.ok in
    subst (λ xs. length xs ≤ 1024) (sym (c.in-Ok.ensures.written p.0 p.1))
    (accepted_code_long c.args.text.now s p.0 c.in_ok-syntax.ensures.ok p.1)

pub returns-clause-accepted : goal.returns-clause-accepted
returns-clause-accepted c =
    let s = c.in_ok-syntax.syntax in
    compiled c.args.text.now s c.in-Ok.code.items c.new.result.items _
    c.in_ok-syntax.ensures.ok
    (accepted_texts_are_spelled c.args.text.now s c.in_ok-syntax.ensures.ok)
    c.in-Ok.ensures.written
    c.new-in-Ok.ensures c.new.ensures.items accepted_programs_run
