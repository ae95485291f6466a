-- The figure by which submissions are ranked: a count of each run, summed.
use Rattle.std.specs.Prelude.{ℕ, ◌+◌, ◌-◌, ◌^◌, min, List, Option, None, Some, Result, Ok, Err}
use Rattle.std.specs.List.{find, fold}
use Rattle.kernel_data.specs.World.{same_bytes}
use Rattle.lab_counts.specs.declared.figures.Column.{Column}
use Rattle.lab_counts.specs.declared.figures.Figure.{Figure}
use Rattle.lab_counts.specs.declared.figures.Value.{Value}
use Rattle.lab_counts.specs.declared.figures.Value.TheVariants.{Count, Share}
use Rattle.lab_scoring.specs.declared.figures.FigureFault.{FigureFault}
use Rattle.lab_scoring.specs.declared.figures.FigureFault.TheVariants as fault

-- what a figure counts; a share is no count
abbrev pub count_in : Value → Result ℕ FigureFault
count_in (Count count) = Ok count
count_in (Share part whole) = Err fault.Share

-- the same of a figure that was looked for
abbrev pub count_found : Option Figure → Result ℕ FigureFault
count_found None = Err fault.Unknown
count_found (Some figure) = count_in figure.value

-- the figure of this name of a run, if there is one
abbrev pub figure_of : (name : List ℕ) → Column → Option Figure
figure_of name column = find (λ (f : Figure). same_bytes f.name.items name) column.figures.items

-- the count of this name of a run
abbrev pub count_of : (name : List ℕ) → Column → Result ℕ FigureFault
count_of name column = count_found (figure_of name column)

-- the sum so far and one count more, unless one of them is none; it stays below 2^64
abbrev pub plus : Result ℕ FigureFault → Result ℕ FigureFault → Result ℕ FigureFault
plus (Err stays) more = Err stays
plus (Ok sum) (Err said) = Err said
plus (Ok sum) (Ok count) = Ok (min (sum + count) (2 ^ 64 - 1))

-- the sum of the counts of this name over runs, or why the first run that has none has none
abbrev pub sum_of : (name : List ℕ) → List Column → Result ℕ FigureFault
sum_of name columns = fold (λ sum column. plus sum (count_of name column)) (Ok 0) columns
