-- "IID".
use Rattle.std.specs.Prelude.{ℕ, zero, suc, Option, Some, List, [], ◌∷◌}
use Rattle.words.specs.Draw.{and_then}
use Rattle.draws.specs.declared.weighted.Place.{Place}
use Rattle.draws.specs.Weighted.{weighted, ids}

-- "k weighted draws"
abbrev pub iid : ℕ → List ℕ → List ℕ → Option (List Place) × List ℕ
iid zero weights ws = (Some [], ws)
iid (suc k) weights ws =
    and_then (weighted weights ws) (λ p left. and_then (iid k weights left) (λ places rest. (Some (p ∷ places), rest)))

-- the ids of k weighted draws
abbrev pub iid_seats : ℕ → List ℕ → List ℕ → Option (List ℕ) × List ℕ
iid_seats k weights ws = and_then (iid k weights ws) (λ places left. (Some (ids places), left))
