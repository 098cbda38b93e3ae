-- The theorem at an accepted call, which was lent more than is needed.
use mathlib.Core.Path.{refl}
use mathlib.Core.List.{[], ◌∷◌}
use lib.ListN.{replicate}
use Rattle.together.specs.Committees.{Fair}
use Rattle.together.proofs.Committees.{committees_fair}

-- stakes 5, 3, 2 with k = 4, the order 0, 1, 2 and the value 1: the seats 0, 0, 1, 2 and the pieces 1 of validator 1 and 2 of validator 2, both in bin 0
committee : Fair 4 (5 ∷ 3 ∷ 2 ∷ []) (0 ∷ 0 ∷ 1 ∷ 2 ∷ []) 1 (record { bin = 0; validator = 1; stake = 1 } ∷ record { bin = 0; validator = 2; stake = 2 } ∷ [])
committee =
    committees_fair 4 (5 ∷ 3 ∷ 2 ∷ []) (1 ∷ 2 ∷ []) (1 ∷ []) (replicate 5 9) (replicate 8 9) (replicate 8 9) (replicate 8 9)
    (record { further = 1; pieces = 2; first_words_read = 2; second_words_read = 1 }) refl
