-- What an answer of checked arithmetic says of the number.
use Rattle.std.proofs.Common.{◌≡◌, ℕ, ◌^◌, ◌<◌, ◌≤◌, Bool, true, false, if◌then◌else◌, Option, Some, None, refl, ltb-true, ltb-false}
use Rattle.std.specs.Prelude.{nat_lt}
use Rattle.types.specs.Stake.{checked}

-- a stake is the number, which fits 64 bits
pub of_some : (n s : ℕ) → checked n ≡ Some s → (s ≡ n) × (n < 2 ^ 64)
of_some n s e = go (nat_lt n (2 ^ 64)) refl e
  where
    go : (b : Bool) → nat_lt n (2 ^ 64) ≡ b → ◌≡◌ {A = Option ℕ} (if b then Some n else None) (Some s) → (s ≡ n) × (n < 2 ^ 64)
    go true fits e = let same : s ≡ n = cc in (same, ltb-true n (2 ^ 64) fits)
    go false past e = cc

-- no stake tells that it does not
pub of_none : (n : ℕ) → checked n ≡ None → 2 ^ 64 ≤ n
of_none n e = go (nat_lt n (2 ^ 64)) refl e
  where
    go : (b : Bool) → nat_lt n (2 ^ 64) ≡ b → ◌≡◌ {A = Option ℕ} (if b then Some n else None) None → 2 ^ 64 ≤ n
    go true fits e = cc
    go false past e = ltb-false n (2 ^ 64) past
