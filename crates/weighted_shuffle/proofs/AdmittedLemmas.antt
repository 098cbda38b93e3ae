-- The sizes of a shuffle that is not turned down.
use Rattle.std.proofs.Common.{◌≡◌, ℕ, ◌≤◌, Ok, [], ◌∷◌, ltb-false}
use Rattle.refusals.specs.Refusal.{first_of, long_list, short_buffer}
use Rattle.refusals.proofs.CheckLemmas.{past}
use Rattle.tree.specs.Sizes.{tree_size}
use Rattle.weighted_shuffle.specs.Entry.{shuffle_checks}

pub record Fits (n room nodes : ℕ) : Type 0 where
  pub few : n ≤ 4096
  pub order_room : n ≤ room
  pub nodes_room : tree_size n ≤ nodes

-- a shuffle whose checks pass is within the limits
pub fits : (n room nodes : ℕ) → first_of (shuffle_checks n room nodes) ≡ Ok tt → Fits n room nodes
fits n room nodes e =
    let a = past (long_list n) (short_buffer room n ∷ short_buffer nodes (tree_size n) ∷ []) e in
    let b = past (short_buffer room n) (short_buffer nodes (tree_size n) ∷ []) a.others in
    let c = past (short_buffer nodes (tree_size n)) [] b.others in
    record {
      few = ltb-false 4096 n a.not_first;
      order_room = ltb-false room n b.not_first;
      nodes_room = ltb-false nodes (tree_size n) c.not_first;
    }
