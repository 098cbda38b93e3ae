-- The ways through the nodes of a tree, step by step: down from the root, and up from a leaf. Laws alone cite this.
use Rattle.std.specs.Prelude.{ℕ, zero, suc, ◌+◌, ◌-◌, ◌*◌, ◌/◌, ◌%◌, ◌≤◌, ◌<◌, ◌≡◌, ◌==◌, nat_lt, if◌then◌else◌, List, length, get_or, set}
use Rattle.tree.specs.declared.node.Node.{Node}
use Rattle.tree.specs.Node.{field_of}
use Rattle.tree.specs.Tree.{no_node, sum_at}

-- how far a way down has come: an index, what is left of the value there, and the sum of its sub-tree
pub record Spot : Type 0 where
  pub index : ℕ
  pub val : ℕ
  pub weight : ℕ

-- the root
abbrev pub root : ℕ → Spot
root v = record { index = 0; val = v; weight = 0 }

-- from an index to the child that the value chooses
abbrev pub below : Node → Spot → Spot
below node at = record {
  index = 16 * at.index + (field_of node.sums at.val).offset + 1;
  val = (field_of node.sums at.val).val;
  weight = (field_of node.sums at.val).weight;
}

-- down until the index is past the nodes of the tree, of which there are so many, in at most so many steps
abbrev pub down : ℕ → List Node → ℕ → Spot → Spot
down zero nodes size at = at
down (suc steps) nodes size at = (if nat_lt at.index size then down steps nodes size (below (get_or nodes at.index no_node) at) else at)

-- one sum of one node is changed
abbrev pub put_sum : List Node → ℕ → ℕ → ℕ → List Node
put_sum nodes i j y = set nodes i (record { sums = set (get_or nodes i no_node).sums j y })

-- the sum of the sub-tree at an index
abbrev pub sum_below : List Node → ℕ → ℕ
sum_below nodes index = sum_at nodes ((index - 1) / 16) ((index - 1) % 16)

-- that sum less w
abbrev pub lowered : List Node → ℕ → ℕ → List Node
lowered nodes index w = put_sum nodes ((index - 1) / 16) ((index - 1) % 16) (sum_below nodes index - w)

-- each sum on the way up to the root less w, in at most so many steps
abbrev pub up : ℕ → List Node → ℕ → ℕ → List Node
up zero nodes index w = nodes
up (suc steps) nodes index w = (if index == 0 then nodes else up steps (lowered nodes index w) ((index - 1) / 16) w)

-- on the whole way up there are nodes, and their sums are at least w
abbrev pub Enough : ℕ → List Node → ℕ → ℕ → Type 0
Enough zero nodes index w = index ≡ 0
Enough (suc steps) nodes index w =
    0 < index → ((index - 1) / 16 < length nodes) × ((w ≤ sum_below nodes index) × Enough steps (lowered nodes index w) ((index - 1) / 16) w)
