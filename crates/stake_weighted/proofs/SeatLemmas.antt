-- Drawing seats, one at a time, and what a call says of them.
use Rattle.std.proofs.Common.{◌≡◌, ℕ, suc, ◌+◌, ◌-◌, ◌<◌, Option, Some, None, List, [], ◌∷◌, ◌++◌, length, take, refl, arith, append_assoc}
use Rattle.words.specs.Draw.{and_then}
use Rattle.words.proofs.FrontLemmas.{with_front}
use Rattle.draws.specs.declared.weighted.Place.{Place}
use Rattle.draws.specs.Weighted.{weighted, ids}
use Rattle.stake_weighted.specs.Seats.{iid, iid_seats}

-- one seat more: it goes to the end of the front
pub with_front_step : (seats : List ℕ) (i : ℕ) (weights ws : List ℕ) → i < length seats →
    with_front (take i seats) (iid_seats (length seats - i) weights ws)
    ≡ and_then (weighted weights ws) (λ p left. with_front (take i seats ++ p.at ∷ []) (iid_seats (length seats - (i + 1)) weights left))
with_front_step seats i weights ws within =
    let one_more : length seats - i ≡ suc (length seats - (i + 1)) = omega arith in
    rw one_more (go (weighted weights ws))
  where
    others : (p : Place) (draw : Option (List Place) × List ℕ) →
        with_front (take i seats) (and_then (and_then draw (λ places left. (Some (p ∷ places), left))) (λ places left. (Some (ids places), left)))
        ≡ with_front (take i seats ++ p.at ∷ []) (and_then draw (λ places left. (Some (ids places), left)))
    others p (None, left) = refl
    others p (Some places, left) = rw (append_assoc (take i seats) (p.at ∷ []) (ids places))

    go : (draw : Option Place × List ℕ) →
        with_front (take i seats)
        (and_then (and_then draw (λ p left. and_then (iid (length seats - (i + 1)) weights left) (λ places rest. (Some (p ∷ places), rest)))) (λ places left. (Some (ids places), left)))
        ≡ and_then draw (λ p left. with_front (take i seats ++ p.at ∷ []) (iid_seats (length seats - (i + 1)) weights left))
    go (None, left) = refl
    go (Some p, left) = others p (iid (length seats - (i + 1)) weights left)
