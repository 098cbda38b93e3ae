-- What a call answers, as a stored text states it.
use Rattle.std.specs.Prelude.{ℕ, Result, Ok, Err, List}
use Rattle.refusals.specs.declared.refusal.Refusal.{Refusal}
use Rattle.refusals.specs.Refusal.{number_of}

-- the numbers of an accepted call, or the number of the refusal
abbrev pub by_number : Result (List ℕ) Refusal → Result (List ℕ) ℕ
by_number (Ok numbers) = Ok numbers
by_number (Err refusal) = Err (number_of refusal)
