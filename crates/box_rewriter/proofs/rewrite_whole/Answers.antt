use Rattle.std.proofs.Common.{◌≡◌, ℕ, List, length, get_or, Result, Ok, Err, sym, ap, ◌∙◌, arith}
use Rattle.std.specs.Prelude.{IfOk}
use Rattle.std.proofs.lemmas.List.{get_or_default}
use Rattle.graft_code.specs.declared.Instr.{Instr}
use Rattle.graft_code.specs.Boxed.{boxed_place, boxed_code, rewrite}
use Rattle.box_rewriter.specs.Words.{ArePlaces}
use Rattle.box_rewriter.proofs.Faults.{end_is_said, length_is_said, code_is_said}
use Rattle.box_rewriter.proofs.rewrite_whole.Goals as goal

pub returns-then-not-ends_well-clause-err : goal.returns-then-not-ends_well-clause-err
returns-then-not-ends_well-clause-err c =
    end_is_said c.args.code.now c.requires.allowed (sym c.ends_well.ensures ∙ c.if-not-ends_well.true)

-- the last of the places is the length of boxed code
last_place : (code : List Instr) (places : List ℕ) (n : ℕ) → ArePlaces code places →
    n ≡ get_or places (length code) n → n ≡ boxed_place code (length code)
last_place code places n p e =
    e ∙ get_or_default places (length code) n 0 (omega (arith, p.count))
    ∙ p.each (length code) (omega arith)

pub returns-then-index-gt-MAX_CODE-clause-err : goal.returns-then-index-gt-MAX_CODE-clause-err
returns-then-index-gt-MAX_CODE-clause-err c =
    length_is_said c.args.code.now c.requires.allowed (sym c.ends_well.ensures ∙ c.if-not-ends_well.false)
    (omega (
      arith,
      last_place c.args.code.now c.in_ok-places.places.items c.index.result.now
          c.in_ok-places.ensures.ok c.index.ensures,
      c.if-index-gt-MAX_CODE.true,
    ))

said_where_ok : {A E : Type 0} (items : A → List Instr) (code : List Instr) (r : Result A E) →
    IfOk r (λ v. items v ≡ boxed_code code) → rewrite code ≡ Ok (boxed_code code)
    → IfOk r (λ v. rewrite code ≡ Ok (items v))
said_where_ok items code (Ok v) h e = e ∙ ap Ok (sym h)
said_where_ok items code (Err f) h e = tt

pub returns-clause-ok : goal.returns-clause-ok
returns-clause-ok c =
    said_where_ok (λ v. v.items) c.args.code.now c.boxed_code.result c.boxed_code.ensures.ok
    (code_is_said c.args.code.now c.requires.allowed (sym c.ends_well.ensures ∙ c.if-not-ends_well.false)
    (omega (
      arith,
      last_place c.args.code.now c.in_ok-places.places.items c.index.result.now
          c.in_ok-places.ensures.ok c.index.ensures,
      c.if-index-gt-MAX_CODE.false,
    )))
