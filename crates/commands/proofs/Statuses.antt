-- Which statuses answers have: none that of want of memory, and that of a failed source exactly where reading failed.
use Rattle.std.proofs.Common.{◌≡◌, ℕ, ◌==◌, Bool, true, false, List, Option, Some, None, Result, Ok, Err}
use Rattle.std.proofs.Common.{refl, sym, subst}
use Rattle.script_model.specs.declared.Instr.{Instr}
use Rattle.script_model.specs.declared.Keys.{Keys}
use Rattle.script_model.specs.World.{Image}
use Rattle.script_model.specs.Boxed.{RewriteFault, rewrite}
use Rattle.script_model.specs.Images.{LoadFault, read_raw, load, reseal}
use Rattle.script_model.specs.declared.Verdict.{Verdict}
use Rattle.script_model.specs.declared.Verdict.TheVariants.{Yes, No}
use Rattle.script_model.specs.Audits.{verdict, wanted, parted}
use Rattle.script_model.specs.Assembler.{LineFault, assemble}
use Rattle.script_model.specs.Outcome.{Ending, End, Fault, Over}
use Rattle.script_model.specs.LanguageReading.{Syntax, read}
use Rattle.script_model.specs.LanguageReading as language
use Rattle.script_model.specs.Filters.{Filter, Answer, Box, Check, Reseal, Asm, Dis, Lang, Audit}
use Rattle.script_model.specs.Filters.{hex_line, boxed_answer, box_answer, check_answer}
use Rattle.script_model.specs.Filters.{reseal_answer, dis_answer, asm_answer, hex_answer}
use Rattle.script_model.specs.Filters.{filter_answer, lang_refusal, raw_answer, audit_answer, verdict_answer}
use Rattle.script_model.specs.Filters.{AnswersText}
use Rattle.script_model.specs.Filters.{IsFilterAnswer}

-- an answer's status isn't that of want of memory, and is that of a failed source if reading failed
abbrev pub IsUsual : (failed : Bool) → Answer → Type 0
IsUsual failed a = (a.status ≡ 5 → ⊥) × ((a.status == 3) ≡ failed)

-- whether reading failed
abbrev pub is_fault : Ending → Bool
is_fault End = false
is_fault Fault = true
is_fault Over = false

boxed : (keys : Keys) (keep : Bool) (body : List ℕ) (r : Result (List Instr) RewriteFault)
    → IsUsual false (boxed_answer keys keep body r)
boxed keys keep body (Err fault) = ((λ h. cc), refl)
boxed keys keep body (Ok code) = ((λ h. cc), refl)

box_usual : (keys : Keys) (keep : Bool) (r : Result Image LoadFault) → IsUsual false (box_answer keys keep r)
box_usual keys keep (Err fault) = ((λ h. cc), refl)
box_usual keys keep (Ok i) = boxed keys keep i.body (rewrite i.code)

check_usual : (r : Result Image LoadFault) → IsUsual false (check_answer r)
check_usual (Err fault) = ((λ h. cc), refl)
check_usual (Ok i) = ((λ h. cc), refl)

reseal_usual : (r : Result (List ℕ) LoadFault) → IsUsual false (reseal_answer r)
reseal_usual (Err fault) = ((λ h. cc), refl)
reseal_usual (Ok bytes) = ((λ h. cc), refl)

dis_usual : (r : Result Image LoadFault) → IsUsual false (dis_answer r)
dis_usual (Err fault) = ((λ h. cc), refl)
dis_usual (Ok i) = ((λ h. cc), refl)

asm_usual : (r : Result Image LineFault) → IsUsual false (asm_answer r)
asm_usual (Err fault) = ((λ h. cc), refl)
asm_usual (Ok i) = ((λ h. cc), refl)

hex_usual : (f : Filter) (r : Result (List ℕ) (List ℕ)) → IsUsual false (hex_answer f r)
hex_usual f (Err text) = ((λ h. cc), refl)
hex_usual (Box keys keep) (Ok bytes) = box_usual keys keep (read_raw bytes)
hex_usual (Check keys) (Ok bytes) = check_usual (load keys bytes)
hex_usual (Reseal keys) (Ok bytes) = reseal_usual (reseal keys bytes)
hex_usual Asm (Ok bytes) = ((λ h. cc), refl)
hex_usual Dis (Ok bytes) = dis_usual (read_raw bytes)
hex_usual Lang (Ok bytes) = ((λ h. cc), refl)
hex_usual (Audit keys) (Ok bytes) = ((λ h. cc), refl)

verdict_usual : (v : Verdict) → IsUsual false (verdict_answer v)
verdict_usual Yes = ((λ h. cc), refl)
verdict_usual (No n) = ((λ h. cc), refl)

audit_usual : (keys : Keys) (o : Option (List ℕ × List ℕ)) → IsUsual false (audit_answer keys o)
audit_usual keys None = ((λ h. cc), refl)
audit_usual keys (Some parts) = verdict_usual (verdict parts.1 (wanted keys parts.0))

-- the answer of a filter that has one
filter_usual : (f : Filter) (taken : List ℕ) (e : Ending) → IsUsual (is_fault e) (filter_answer f taken e)
filter_usual f taken Fault = ((λ h. cc), refl)
filter_usual f taken Over = ((λ h. cc), refl)
filter_usual Asm taken End = asm_usual (assemble taken)
filter_usual (Box keys keep) taken End = hex_usual (Box keys keep) (hex_line taken)
filter_usual (Check keys) taken End = hex_usual (Check keys) (hex_line taken)
filter_usual (Reseal keys) taken End = hex_usual (Reseal keys) (hex_line taken)
filter_usual (Audit keys) taken End = audit_usual keys (parted taken)
filter_usual Dis taken End = hex_usual Dis (hex_line taken)
filter_usual Lang taken End = hex_usual Lang (hex_line taken)

refusal_usual : (fault : language.LineFault) → IsUsual false (lang_refusal fault)
refusal_usual fault = ((λ h. cc), refl)

image_usual : (i : Image) → IsUsual false (raw_answer i)
image_usual i = ((λ h. cc), refl)

text_usual : (text : List ℕ) (r : Result Syntax language.LineFault) (a : Answer) →
    AnswersText text r a → IsUsual false a
text_usual text (Err fault) a is = subst (IsUsual false) (sym is) (refusal_usual fault)
text_usual text (Ok syntax) a w = subst (IsUsual false) (sym w.is_written) (image_usual w.image)

-- so it is with each answer
pub answers_usual : (f : Filter) (taken : List ℕ) (e : Ending) (a : Answer) →
    IsFilterAnswer f taken e a → IsUsual (is_fault e) a
answers_usual Lang taken End a is = text_usual taken (read taken) a is
answers_usual Lang taken Fault a is = subst (IsUsual true) (sym is) (filter_usual Lang taken Fault)
answers_usual Lang taken Over a is = subst (IsUsual false) (sym is) (filter_usual Lang taken Over)
answers_usual (Box keys keep) taken e a is =
    subst (IsUsual (is_fault e)) (sym is) (filter_usual (Box keys keep) taken e)
answers_usual (Check keys) taken e a is = subst (IsUsual (is_fault e)) (sym is) (filter_usual (Check keys) taken e)
answers_usual (Reseal keys) taken e a is = subst (IsUsual (is_fault e)) (sym is) (filter_usual (Reseal keys) taken e)
answers_usual (Audit keys) taken e a is = subst (IsUsual (is_fault e)) (sym is) (filter_usual (Audit keys) taken e)
answers_usual Asm taken e a is = subst (IsUsual (is_fault e)) (sym is) (filter_usual Asm taken e)
answers_usual Dis taken e a is = subst (IsUsual (is_fault e)) (sym is) (filter_usual Dis taken e)
