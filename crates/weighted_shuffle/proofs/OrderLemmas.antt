-- The weights as far as they count, and the steps once no weight is left.
use Rattle.std.proofs.Common.{◌≡◌, ℕ, zero, suc, ◌+◌, ◌<◌, ◌^◌, Bool, true, false, if◌then◌else◌, Option, Some, None, List, [], ◌∷◌, length, get_or, sum, refl, ap, arith, leb-false, le-ltb}
use Rattle.std.specs.Prelude.{nat_le}
use Rattle.std.proofs.lemmas.List.Sums.{sum_by-cons}
use Rattle.words.specs.Draw.{and_then}
use Rattle.draws.specs.Below.{below}
use Rattle.weighted_shuffle.specs.Order.{Step, counts, counted_from, take_zero, step, steps}

counts_fits : (before w : ℕ) → before < 2 ^ 64 → before + counts before w < 2 ^ 64
counts_fits before w fits = go (nat_le (2 ^ 64) (before + w)) refl
  where
    go : (b : Bool) → nat_le (2 ^ 64) (before + w) ≡ b → before + (if b then 0 else w) < 2 ^ 64
    go true past = omega arith
    go false within = leb-false (2 ^ 64) (before + w) within

-- behind a sum that fits, all that count sum to a number that fits
pub counted_fits : (before : ℕ) (ws : List ℕ) → before < 2 ^ 64 → before + sum (counted_from before ws) < 2 ^ 64
counted_fits before [] fits = omega arith
counted_fits before (w ∷ ws) fits =
    let next = before + counts before w in
    omega (arith, counted_fits next ws (counts_fits before w fits), sum_by-cons (λ x. x) (counts before w) (counted_from next ws))

-- a zero that is drawn, and the steps after it
abbrev zero_drawn : List ℕ → List ℕ → Option ℕ × List ℕ → Option Step × List ℕ
zero_drawn ws zs draw = and_then draw (λ i rest. (Some (take_zero (record { weights = ws; zeros = zs }) i), rest))

abbrev then_steps : ℕ → Option Step × List ℕ → Option (List ℕ) × List ℕ
then_steps k first = and_then first (λ s rest. and_then (steps k s.rest rest) (λ ps last. (Some (s.position ∷ ps), last)))

no_weight : (ws zs words : List ℕ) → sum ws ≡ 0 → step (record { weights = ws; zeros = zs }) words ≡ zero_drawn ws zs (below (length zs) words)
no_weight ws zs words none = rw (le-ltb 0 (sum ws) (omega arith))

-- where no weight is left, the steps go by the zeros alone
pub steps_zeros : (k : ℕ) (ws zs words : List ℕ) → sum ws ≡ 0 →
    steps k (record { weights = ws; zeros = zs }) words ≡ steps k (record { weights = []; zeros = zs }) words
steps_zeros zero ws zs words none = refl
steps_zeros (suc k) ws zs words none =
    rw (no_weight ws zs words none, no_weight [] zs words refl)
    (go (below (length zs) words) (λ us left. steps_zeros k ws us left none))
  where
    go : (draw : Option ℕ × List ℕ) →
        ((us left : List ℕ) → steps k (record { weights = ws; zeros = us }) left ≡ steps k (record { weights = []; zeros = us }) left) →
        then_steps k (zero_drawn ws zs draw) ≡ then_steps k (zero_drawn [] zs draw)
    go (None, left) rest = refl
    go (Some i, left) rest =
        ap (λ (others : Option (List ℕ) × List ℕ). and_then others (λ ps last. (Some (get_or zs i 0 ∷ ps), last)))
        (rest (take_zero (record { weights = ws; zeros = zs }) i).rest.zeros left)
