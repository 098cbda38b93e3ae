-- The ways through the nodes of a tree, step by step: a search down from the root, and removals on the way up from a leaf.
use Rattle.std.proofs.Common.{◌≡◌, ℕ, zero, suc, ◌+◌, ◌-◌, ◌/◌, ◌%◌, ◌≤◌, ◌<◌, List, [], ◌∷◌, ◌++◌, length, take, get_or, set, sum, replicate, refl, sym, ap, subst, ◌∙◌, arith, append_assoc, append-nil, Bool, true, false, ltb-true, ltb-false}
use Rattle.std.specs.Prelude.{nat_lt, ◌==◌, if◌then◌else◌}
use Rattle.std.proofs.lemmas.Bool.{eqb-true, eqb-false}
use Rattle.std.proofs.lemmas.List.{get_or-set_other, get_or_append_left, set-append_left, length-set, length-append, length-replicate, length-take-le, take_all, take_more}
use Rattle.std.proofs.Math.Seq.{set-append_seam}
use Rattle.tree.specs.declared.node.Node.{Node}
use Rattle.tree.specs.Node.{field_of}
use Rattle.tree.specs.Sizes.{first_leaf, tree_size}
use Rattle.tree.specs.Tree.{no_node, zero_node, sum_at, HasSums}
use Rattle.tree.specs.Walks.{Spot, root, below, down, put_sum, lowered, up, Enough}
use Rattle.tree.specs.Laws.{HasTree, Finds, removed, Removes}
use Rattle.tree.proofs.SumLemmas.{falls_of}
use Rattle.tree.proofs.FindLemmas.{Reached, reached_root, reached_within, reached_next, reached_leaf}
use Rattle.tree.proofs.ChangeLemmas.{Changed, changed_none, changed_sums, one_up}
use Rattle.tree.proofs.ZeroLemmas.{zeros_have_sums, either_order}

-- down
module _ (ws : List ℕ) (nodes more : List Node) (v : ℕ) (tree : HasSums ws nodes) (chooses : v < sum ws) where
  at_end : (at : Spot) → Reached ws v at.index at.val at.weight → length nodes ≤ at.index → Finds ws v at
  at_end at to past = let leaf = reached_leaf ws nodes v tree at.index at.val at.weight to chooses past in record { index_is = leaf.index_is; weight_is = leaf.weight_is }

  one_down : (at : Spot) → Reached ws v at.index at.val at.weight → at.index < length nodes →
      Reached ws v (below (get_or (nodes ++ more) at.index no_node) at).index (below (get_or (nodes ++ more) at.index no_node) at).val (below (get_or (nodes ++ more) at.index no_node) at).weight
  one_down at to within =
      let there = reached_within ws nodes v tree at.index at.val at.weight to within in
      let field = field_of (get_or nodes at.index no_node).sums at.val in
      rw (get_or_append_left nodes more no_node at.index within)
      (reached_next ws nodes v tree at.index at.val at.weight to within field _ (falls_of _ at.val field there.full there.low refl) refl)

  finds : (steps : ℕ) (at : Spot) → length nodes ≤ at.index + steps → Reached ws v at.index at.val at.weight → Finds ws v (down steps (nodes ++ more) (length nodes) at)
  finds zero at room to = at_end at to (omega arith)
  finds (suc steps) at room to = go (nat_lt at.index (length nodes)) refl (λ next. finds steps (below (get_or (nodes ++ more) at.index no_node) at) (omega arith) next)
    where
      go : (b : Bool) → nat_lt at.index (length nodes) ≡ b →
          (Reached ws v (below (get_or (nodes ++ more) at.index no_node) at).index (below (get_or (nodes ++ more) at.index no_node) at).val (below (get_or (nodes ++ more) at.index no_node) at).weight →
          Finds ws v (down steps (nodes ++ more) (length nodes) (below (get_or (nodes ++ more) at.index no_node) at))) →
          Finds ws v (if b then down steps (nodes ++ more) (length nodes) (below (get_or (nodes ++ more) at.index no_node) at) else at)
      go true e rest = rest (one_down at to (ltb-true at.index (length nodes) e))
      go false e rest = at_end at to (ltb-false at.index (length nodes) e)

pub search_finds : (ws : List ℕ) (nodes more : List Node) (v : ℕ) → HasSums ws nodes → v < sum ws → Finds ws v (down (length nodes) (nodes ++ more) (length nodes) (root v))
search_finds ws nodes more v tree chooses = finds ws nodes more v tree chooses (length nodes) (root v) (omega arith) (reached_root ws v chooses)

-- up, where the nodes past the tree stay
module _ (nodes more : List Node) (i : ℕ) (within : i < length nodes) where
  sum_past : (j : ℕ) → sum_at (nodes ++ more) i j ≡ sum_at nodes i j
  sum_past j = rw (get_or_append_left nodes more no_node i within)

  put_past : (j y : ℕ) → put_sum (nodes ++ more) i j y ≡ put_sum nodes i j y ++ more
  put_past j y = rw (get_or_append_left nodes more no_node i within) (set-append_left nodes more i (record { sums = set (get_or nodes i no_node).sums j y }) within)

-- what a way up from an index leaves
record Gone (ws : List ℕ) (p steps index : ℕ) (nodes more : List Node) : Type 0 where
  pub enough : Enough steps (nodes ++ more) index (get_or ws p 0)
  pub left : List Node
  pub is : up steps (nodes ++ more) index (get_or ws p 0) ≡ left ++ more
  pub sums : HasSums (set ws p 0) left

gone : (ws : List ℕ) (p steps index : ℕ) (nodes more : List Node) → p < length ws → index ≤ steps → Changed ws p 0 nodes index → Gone ws p steps index nodes more
gone ws p zero index nodes more within room c = record { enough = omega arith; left = nodes; is = refl; sums = changed_sums ws p 0 nodes index c (omega arith) }
gone ws p (suc steps) index nodes more within room c = go (index == 0) refl (λ nodes' index' less next. gone ws p steps index' nodes' more within less next)
  where
    go : (b : Bool) → (index == 0) ≡ b → ((nodes' : List Node) (index' : ℕ) → index' ≤ steps → Changed ws p 0 nodes' index' → Gone ws p steps index' nodes' more) →
        Gone ws p (suc steps) index nodes more
    go true e rest =
        let end : index ≡ 0 = eqb-true index 0 e in
        record { enough = λ some. absurd (omega arith); left = nodes; is = rw e refl; sums = changed_sums ws p 0 nodes index c end }
    go false e rest =
        let i = (index - 1) / 16 in
        let j = (index - 1) % 16 in
        let w = get_or ws p 0 in
        let some : 0 < index = omega (arith, eqb-false index 0 e) in
        let one = one_up ws p 0 within nodes index c some in
        let low = sum_past nodes more i one.over.within j in
        let N = put_sum nodes i j (sum_at nodes i j - w) in
        let lower : lowered (nodes ++ more) index w ≡ N ++ more = put_past nodes more i one.over.within j (sum_at (nodes ++ more) i j - w) ∙ ap (λ (s : ℕ). put_sum nodes i j (s - w) ++ more) low in
        let higher = rest N i (omega arith) (one.next (sum_at nodes i j - w) (omega arith)) in
        record {
          enough = λ some. (omega (arith, one.over.within, length-append nodes more), (omega (arith, low, one.over.enough), subst (λ (ns : List Node). Enough steps ns i w) (sym lower) higher.enough));
          left = higher.left;
          is = rw e (ap (λ (ns : List Node). up steps ns i w) lower ∙ higher.is);
          sums = higher.sums;
        }

pub removal_takes : (ws : List ℕ) (nodes more : List Node) (p : ℕ) → HasSums ws nodes → p < length ws → Removes ws nodes more p
removal_takes ws nodes more p tree within =
    let leaf = first_leaf (length ws) + p in
    let g = gone ws p leaf leaf nodes more within (omega arith) (changed_none ws p 0 nodes leaf refl tree within) in
    record { enough = g.enough; left = g.left; is = g.is; sums = g.sums }

-- one after the other
record Both (ws : List ℕ) (nodes more : List Node) (p q : ℕ) : Type 0 where
  pub left : List Node
  pub is : removed ws (removed ws (nodes ++ more) p) q ≡ left ++ more
  pub sums : HasSums (set (set ws p 0) q 0) left

both : (ws : List ℕ) (nodes more : List Node) (p q : ℕ) → HasSums ws nodes → p < length ws → q < length ws → (p ≡ q → ⊥) → Both ws nodes more p q
both ws nodes more p q tree hp hq apart =
    let long = length-set ws p 0 in
    let kept : get_or (set ws p 0) q 0 ≡ get_or ws q 0 = get_or-set_other ws p q 0 0 (λ e. apart (sym e)) in
    let first = removal_takes ws nodes more p tree hp in
    let second = removal_takes (set ws p 0) first.left more q first.sums (omega (arith, long)) in
    let same : removed ws (first.left ++ more) q ≡ removed (set ws p 0) (first.left ++ more) q =
    sym (ap (λ (k : ℕ). up (first_leaf k + q) (first.left ++ more) (first_leaf k + q) (get_or (set ws p 0) q 0)) long
    ∙ ap (λ (w : ℕ). up (first_leaf (length ws) + q) (first.left ++ more) (first_leaf (length ws) + q) w) kept) in
    record { left = second.left; is = ap (λ (ns : List Node). removed ws ns q) first.is ∙ same ∙ second.is; sums = second.sums }

pub removals_commute : (ws : List ℕ) (nodes more : List Node) (p q : ℕ) → HasSums ws nodes → p < length ws → q < length ws → (p ≡ q → ⊥) →
    removed ws (removed ws (nodes ++ more) q) p ≡ removed ws (removed ws (nodes ++ more) p) q
removals_commute ws nodes more p q tree hp hq apart =
    let one = both ws nodes more q p tree hq hp (λ e. apart (sym e)) in
    let other = both ws nodes more p q tree hp hq apart in
    one.is ∙ ap (λ (ns : List Node). ns ++ more) (either_order ws q p one.left other.left one.sums other.sums) ∙ sym other.is

-- a weight changed on the whole way up
raised : (ws : List ℕ) (p x steps index : ℕ) (nodes : List Node) → p < length ws → index ≤ steps → Changed ws p x nodes index → HasTree (set ws p x)
raised ws p x zero index nodes within room c = record { nodes = nodes; sums = changed_sums ws p x nodes index c (omega arith) }
raised ws p x (suc steps) index nodes within room c = go (index == 0) refl (λ nodes' index' less next. raised ws p x steps index' nodes' within less next)
  where
    go : (b : Bool) → (index == 0) ≡ b → ((nodes' : List Node) (index' : ℕ) → index' ≤ steps → Changed ws p x nodes' index' → HasTree (set ws p x)) → HasTree (set ws p x)
    go true e rest = record { nodes = nodes; sums = changed_sums ws p x nodes index c (eqb-true index 0 e) }
    go false e rest =
        let one = one_up ws p x within nodes index c (omega (arith, eqb-false index 0 e)) in
        let y = sum_at nodes ((index - 1) / 16) ((index - 1) % 16) - get_or ws p 0 + x in
        rest (put_sum nodes ((index - 1) / 16) ((index - 1) % 16) y) ((index - 1) / 16) (omega arith) (one.next y refl)

-- so a tree of zeros is filled with one weight after the other
front_filled : (ws : List ℕ) (k : ℕ) → k ≤ length ws → HasTree (take k ws ++ replicate (length ws - k) 0)
front_filled ws zero room =
    let all : length ws - 0 ≡ length ws = omega arith in
    rw all (record { nodes = replicate (tree_size (length ws)) zero_node; sums = zeros_have_sums (length ws) (replicate (tree_size (length ws)) zero_node) refl })
front_filled ws (suc k) room =
    let t = front_filled ws k (omega arith) in
    let n = length ws in
    let xs = take k ws ++ replicate (n - k) 0 in
    let here : length (take k ws) ≡ k = length-take-le k ws (omega arith) in
    let long : length xs ≡ n = omega (arith, length-append (take k ws) (replicate (n - k) 0), here, length-replicate {A = ℕ} (n - k) 0) in
    let leaf = first_leaf (length xs) + k in
    let seam : n - k ≡ suc (n - suc k) = omega arith in
    let next : suc k ≡ k + 1 = omega arith in
    let w = get_or ws k 0 in
    let is : set xs k w ≡ take (suc k) ws ++ replicate (n - suc k) 0 =
    ap (λ (m : ℕ). set (take k ws ++ replicate m 0) k w) seam
    ∙ ap (λ (m : ℕ). set (take k ws ++ 0 ∷ replicate (n - suc k) 0) m w) (sym here)
    ∙ set-append_seam (take k ws) 0 (replicate (n - suc k) 0) w
    ∙ sym (append_assoc (take k ws) (w ∷ []) (replicate (n - suc k) 0))
    ∙ ap (λ (ys : List ℕ). ys ++ replicate (n - suc k) 0) (sym (ap (λ (m : ℕ). take m ws) next ∙ take_more ws k 0 (omega arith))) in
    subst HasTree is (raised xs k w leaf leaf t.nodes (omega (arith, long)) (omega arith) (changed_none xs k w t.nodes leaf refl t.sums (omega (arith, long))))

pub each_has_tree : (ws : List ℕ) → HasTree ws
each_has_tree ws =
    let none : length ws - length ws ≡ 0 = omega arith in
    subst HasTree (ap (λ (m : ℕ). take (length ws) ws ++ replicate m 0) none ∙ append-nil (take (length ws) ws) ∙ take_all (length ws) ws (omega arith)) (front_filled ws (length ws) (omega arith))
