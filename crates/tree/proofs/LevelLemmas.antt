-- The nodes on the first levels of a full tree.
use Rattle.std.proofs.Common.{ℕ, zero, suc, ◌≤◌, arith}
use Rattle.tree.specs.Sizes.{above}

-- they are at least as many as the levels
pub deep_few : (d : ℕ) → d ≤ above d
deep_few zero = omega arith
deep_few (suc d) = omega (arith, deep_few d)
