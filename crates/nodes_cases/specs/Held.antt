-- What the sums of nodes are.
use Rattle.std.specs.Prelude.{ℕ, Bool, ◌&&◌, List, take, drop, ◌==◌}
use Rattle.std.specs.List.{list_all}
use Rattle.tree.specs.declared.node.Node.{Node}
use Rattle.tree.specs.Sizes.{tree_size}

-- every number of a list is x
abbrev pub every : ℕ → List ℕ → Bool
every x ys = list_all (λ y. y == x) ys

-- every sum of every node is x
abbrev pub every_sum : ℕ → List Node → Bool
every_sum x nodes = list_all (λ node. every x node.sums) nodes

-- every sum is 0 in the nodes of a tree of n weights, and x in the nodes past them
abbrev pub zeros_then : ℕ → ℕ → List Node → Bool
zeros_then n x nodes = every_sum 0 (take (tree_size n) nodes) && every_sum x (drop (tree_size n) nodes)
