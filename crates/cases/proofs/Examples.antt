-- Small texts, by computation.
use Rattle.std.proofs.Common.{◌≡◌, ℕ, Option, Some, None, List, [], ◌∷◌, refl}
use Rattle.std.specs.Prelude.{codes}
use Rattle.cases.specs.Numbers.{next_number, list}

abbrev number_and_rest : Type 0
number_and_rest = Option ℕ × List ℕ

abbrev list_and_rest : Type 0
list_and_rest = Option (List ℕ) × List ℕ

named : ◌≡◌ {A = number_and_rest} (next_number (codes "m=12 ")) (Some 12, codes " ")
named = refl

-- no digit
nameless : ◌≡◌ {A = number_and_rest} (next_number (codes "m=")) (None, [])
nameless = refl

-- 2^64 − 1 is a number, and 2^64 is none from its last digit on
largest : ◌≡◌ {A = number_and_rest} (next_number (codes "18446744073709551615")) (Some 18446744073709551615, [])
largest = refl

too_large : ◌≡◌ {A = number_and_rest} (next_number (codes "18446744073709551616")) (None, codes "6")
too_large = refl

-- with room for two numbers, and for one
two : ◌≡◌ {A = list_and_rest} (list 2 (codes "2 5 7")) (Some (5 ∷ 7 ∷ []), [])
two = refl

no_room : ◌≡◌ {A = list_and_rest} (list 1 (codes "2 5 7")) (None, codes " 5 7")
no_room = refl

-- a number is missing
one_missing : ◌≡◌ {A = list_and_rest} (list 2 (codes "2 5")) (None, [])
one_missing = refl
