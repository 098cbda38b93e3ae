-- All the views together: "a single claim about all the views together". It speaks of what the answers name and of what the lent buffers
-- then hold, by the definition that the contract of `TurbineTree::new` equates them with, whatever the stakes, the fanout, the words and
-- what the buffers held before.
use Rattle.std.specs.Prelude.{ℕ, ◌<◌, ◌≡◌, ◌↔◌, Option, Some, None, Ok, List, [], length, take}
use Rattle.laws.specs.Counts.{count}
use Rattle.weighted_shuffle.specs.Order.{order}
use Rattle.turbine.specs.declared.turbine_tree.View.{View}
use Rattle.turbine.specs.View.{root_of}
use Rattle.turbine.specs.Calls.{Lent, turbine_tree}

-- the positions of an order
abbrev pub positions : Option (List ℕ) → List ℕ
positions None = []
positions (Some ps) = ps

-- "They share the list, the fanout and the words, read from the same place"
module _ (stakes : List ℕ) (fanout : ℕ) (ws : List ℕ) where
  -- "The root is the validator at order position 0": it follows from the input
  abbrev pub root : ℕ
  root = root_of (positions (order stakes ws).0)

  -- the view of one own id: "an accepted call by itself, whatever its lent buffers held"
  pub record Viewed (own : ℕ) : Type 0 where
    pub held : Lent
    pub view : View
    pub accepts : (turbine_tree stakes fanout own held ws).0 ≡ Ok view

  -- the parent that its answer names
  abbrev pub parent_of : {own : ℕ} → Viewed own → Option ℕ
  parent_of v = v.view.tree.parent

  -- the children, as many as its answer tells, in the lent buffer as the call leaves it
  abbrev pub children_of : {own : ℕ} → Viewed own → List ℕ
  children_of {own} v = take v.view.tree.children (turbine_tree stakes fanout own v.held ws).3

  -- one id below n, not its own
  pub record Names (i : ℕ) (v : Viewed i) : Type 0 where
    pub id : ℕ
    pub is : parent_of v ≡ Some id
    pub below : id < length stakes
    pub other : id ≡ i → ⊥

  -- a child, once, of one view, and of no other
  pub record ChildOfOne (every : (j : ℕ) → j < length stakes → Viewed j) (i : ℕ) : Type 0 where
    pub parent : ℕ
    pub below : parent < length stakes
    pub lists : count i (children_of (every parent below)) ≡ 1
    pub no_other : (j : ℕ) (b : j < length stakes) → (j ≡ parent → ⊥) → count i (children_of (every j b)) ≡ 0

  pub record Consistent : Type 0 where
    -- "one for each own id below n, n at least 1"
    pub own_below : (i : ℕ) → Viewed i → i < length stakes
    -- each view names the root, and it is a validator
    pub root_named : (i : ℕ) (v : Viewed i) → v.view.tree.root ≡ root
    pub root_below : (i : ℕ) → Viewed i → root < length stakes
    -- "It names no parent"
    pub root_alone : (v : Viewed root) → parent_of v ≡ None
    -- "every other names one id below n, not its own"
    pub others : (i : ℕ) (v : Viewed i) → (i ≡ root → ⊥) → Names i v
    -- "Of any two accepted views with different own ids i and j, i is among j's children exactly when i names j as parent"
    pub match : (i j : ℕ) → (i ≡ j → ⊥) → (v : Viewed i) (w : Viewed j) → (0 < count i (children_of w)) ↔ (parent_of v ≡ Some j)
    -- "and then once"
    pub once : (i j : ℕ) → (i ≡ j → ⊥) → (v : Viewed i) (w : Viewed j) → 0 < count i (children_of w) → count i (children_of w) ≡ 1
    -- "No view lists its own id"
    pub not_own : (i : ℕ) (v : Viewed i) → count i (children_of v) ≡ 0
    -- so where all views are accepted, each validator but the root is a child of exactly one
    pub child_of_one : (every : (j : ℕ) → j < length stakes → Viewed j) (i : ℕ) → i < length stakes → (i ≡ root → ⊥) → ChildOfOne every i
    -- and the root of none
    pub root_no_child : (j : ℕ) (w : Viewed j) → count root (children_of w) ≡ 0

-- all views of any list
abbrev pub ViewsConsistent : Type 0
ViewsConsistent = (stakes : List ℕ) (fanout : ℕ) (ws : List ℕ) → Consistent stakes fanout ws
