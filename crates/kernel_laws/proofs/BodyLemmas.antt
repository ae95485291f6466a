-- The answer that completes a graft call gives as many bytes as its r0 says, and at most a block's.
use Rattle.std.specs.Prelude.{◌≤◌, ℕ, min, List, [], ◌∷◌, length, slice_index, Option, Some, ⊤}
use Rattle.std.proofs.Common.{arith}
use Rattle.std.proofs.lemmas.List.FromFn.{length-map-range_with_len}
use Rattle.kernel_model.specs.declared.Micro.{Micro}
use Rattle.kernel_model.specs.declared.Point.{Point}
use Rattle.kernel_model.specs.World.{World, ImageTable}
use Rattle.kernel_model.specs.Objects.{Objects}
use Rattle.kernel_model.specs.Machine.{FED_AT}
use Rattle.kernel_model.specs.Meaning.{HasWholeBody, registers_of}
use Rattle.kernel_model.specs.Levels.{Level, Config, answer_of}
use Rattle.kernel_model.specs.GraftStep.{micro, micro_on}
use Rattle.kernel_model.specs.Laws.{IsRightAnswer}

-- the answer of a level
level_answer_whole : (answer : List ℕ) (l : Level) (ls : List Level) → HasWholeBody (Some (answer_of answer (l ∷ ls)))
level_answer_whole answer l ls = length-map-range_with_len l.machine.memory FED_AT (min (slice_index answer 0) 512)

-- the answer of levels, where there are some
pub answer_whole : (answer : List ℕ) (ls : List Level) → 1 ≤ length ls → HasWholeBody (Some (answer_of answer ls))
answer_whole answer [] some = absurd (none some)
  where
    none : 1 ≤ 0 → ⊥
    none h = omega arith
answer_whole answer (l ∷ ls) some = level_answer_whole answer l ls

-- an answer of levels is right where its registers are
pub answer_right : (s : Objects) (ask : Option Point) (answer : List ℕ) (ls : List Level) →
    IsRightAnswer s ask (Some answer) →
    IsRightAnswer s ask (registers_of (Some (answer_of answer ls)))
answer_right s ask answer [] h = h
answer_right s ask answer (l ∷ ls) h = h

-- what is said of a graft call with these levels: if it is complete, its answer is whole
abbrev pub AnswersWholly : List Level → Micro → Type 0
AnswersWholly ls (Micro.Completed answer) = HasWholeBody (Some (answer_of answer ls))
AnswersWholly ls said = ⊤

-- an instruction answers wholly
pub micro_wholly : (v : World) (images : ImageTable) (p : ℕ) (c : Config) →
    AnswersWholly c.levels (micro v images p c).said
micro_wholly v images p c = on_levels c.now c.levels
  where
    by_said : (l : Level) (ls : List Level) (said : Micro) → AnswersWholly (l ∷ ls) said
    by_said l ls Micro.Went = tt
    by_said l ls (Micro.Blocked object holder by_user) = tt
    by_said l ls (Micro.Completed answer) = level_answer_whole answer l ls
    by_said l ls (Micro.Dropped d q pt cause) = tt

    on_levels : (w : Objects) (ls : List Level) → AnswersWholly ls (micro_on v images p w ls).said
    on_levels w [] = tt
    on_levels w (l ∷ ls) = by_said l ls (micro_on v images p w (l ∷ ls)).said
