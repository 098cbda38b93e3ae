-- What a program prints.
use Rattle.std.specs.Prelude.{ℕ, List, ◌++◌, codes}
use Rattle.std.specs.Fmt.{decimal}

-- the line that says how many cases of an operation agree
abbrev pub report : List ℕ → ℕ → ℕ → List ℕ
report name agree cases = name ++ (codes ": " ++ (decimal agree ++ (codes " of " ++ (decimal cases ++ codes " agree"))))
