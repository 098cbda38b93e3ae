-- All views of one list.
use Rattle.std.proofs.Common.{◌≡◌, ℕ, zero, suc, ◌-◌, ◌/◌, ◌<◌, Some, Result, Ok, Err, List, length, get_or, take, drop, refl, sym, ap, subst, ◌∙◌, arith, take_at}
use Rattle.refusals.specs.declared.refusal.Refusal.{Refusal}
use Rattle.refusals.specs.Refusal.{first_of}
use Rattle.draws.specs.Call.{or_no_word}
use Rattle.draws.proofs.CallLemmas.{accepted, drawn}
use Rattle.draws.proofs.DrawLemmas.{went}
use Rattle.weighted_shuffle.specs.Order.{order}
use Rattle.laws.specs.Counts.{count}
use Rattle.laws.specs.Orders.{Permutation, ids_from}
use Rattle.shuffle_laws.proofs.TotalLemmas.{orders_whole_by_totals}
use Rattle.turbine.specs.declared.turbine_tree.TurbineTree.{TurbineTree}
use Rattle.turbine.specs.declared.turbine_tree.View.{View}
use Rattle.turbine.specs.View.{position_of, root_of, parent_at, children_at, Neighborhood, neighborhood}
use Rattle.turbine.specs.Calls.{view_checks, seen_by, view, tree_of, answered}
use Rattle.view_laws.specs.Views.{positions, root, Viewed, parent_of, children_of, Names, ChildOfOne, ViewsConsistent}
use Rattle.view_laws.proofs.TreeLemmas.{id_of, place_lt, id_at, id_lt, place_of, lists, listed, names_none, names_some, names, named, parent_before}
use Rattle.view_laws.proofs.TreeLemmas as tree
use Rattle.view_laws.proofs.AdmittedLemmas.{view_admitted}

none_of : (c : ℕ) → (0 < c → ⊥) → c ≡ 0
none_of zero h = refl
none_of (suc c) h = absurd (h (omega arith))

module _ (stakes : List ℕ) (fanout : ℕ) (ws : List ℕ) where
  abbrev n : ℕ
  n = length stakes

  abbrev ids : List ℕ
  ids = positions (order stakes ws).0

  -- what is known of an accepted view
  record Saw (own : ℕ) (v : Viewed stakes fanout ws own) : Type 0 where
    below : own < n
    some : 0 < fanout
    permutes : Permutation (ids_from 0 n) ids
    root_is : v.view.tree.root ≡ root_of ids
    parent_is : v.view.tree.parent ≡ parent_at fanout ids (position_of own ids)
    children_are : children_of stakes fanout ws v ≡ children_at fanout ids (position_of own ids)

  saw : (own : ℕ) (v : Viewed stakes fanout ws own) → Saw own v
  saw own v = go (view stakes fanout own v.held ws) refl v.accepts
    where
      go : (o : Result Neighborhood Refusal × List ℕ) → view stakes fanout own v.held ws ≡ o → (answered n v.held ws o).0 ≡ Ok v.view → Saw own v
      go (Err r, left) q e = cc
      go (Ok s, left) q e =
          let call = accepted (first_of (view_checks n fanout own v.held)) ws (or_no_word (seen_by fanout own (order stakes ws))) s
          (ap (λ (o : Result Neighborhood Refusal × List ℕ). o.0) q) in
          let u = went (order stakes ws) (λ ps rest. (Some (neighborhood fanout own ps), rest)) s (drawn (seen_by fanout own (order stakes ws)) s call.is) in
          let a = view_admitted n fanout own v.held call.passed in
          let is : ◌≡◌ {A = View} (record { tree = tree_of s; words_read = length ws - length left }) v.view = cc in
          let ids-are : ids ≡ u.value = ap positions u.first in
          let seen : neighborhood fanout own ids ≡ s = ap (neighborhood fanout own) ids-are ∙ cc in
          let tree_is : v.view.tree ≡ tree_of (neighborhood fanout own ids) = ap (λ (x : View). x.tree) (sym is) ∙ ap tree_of (sym seen) in
          record {
            below = a.own_below;
            some = a.fanout_some;
            permutes = subst (λ (ps : List ℕ). Permutation (ids_from 0 n) ps) (sym ids-are) (orders_whole_by_totals stakes ws u.value u.first).permutation;
            root_is = ap (λ (t : TurbineTree). t.root) tree_is;
            parent_is = ap (λ (t : TurbineTree). t.parent) tree_is;
            children_are =
                ap (λ (o : Result Neighborhood Refusal × List ℕ). take v.view.tree.children (answered n v.held ws o).3) q
                ∙ take_at s.children (drop (length s.children) v.held.2) v.view.tree.children (ap (λ (x : View). x.tree.children) is)
                ∙ ap (λ (x : Neighborhood). x.children) (sym seen);
          }

  module _ (own : ℕ) (v : Viewed stakes fanout ws own) where
    abbrev permutes : Permutation (ids_from 0 n) ids
    permutes = (saw own v).permutes

    some_ids : 0 < n
    some_ids = omega (arith, (saw own v).below)

    root-lt : root stakes fanout ws < n
    root-lt = id_lt n ids permutes 0 some_ids

    root_first : position_of (root stakes fanout ws) ids ≡ 0
    root_first = place_of n ids permutes 0 some_ids

    -- whoever is not the root stands after it
    after_root : (own ≡ root stakes fanout ws → ⊥) → 0 < position_of own ids
    after_root ne =
        let apart : position_of own ids ≡ 0 → ⊥ = λ e. ne (sym (id_at n ids permutes own (saw own v).below) ∙ ap (λ (p : ℕ). get_or ids p 0) e) in
        omega arith

    names_one : (own ≡ root stakes fanout ws → ⊥) → Names stakes fanout ws own v
    names_one ne =
        let some = (saw own v).some in
        let p = position_of own ids in
        let pos = after_root ne in
        let lower = parent_before n ids permutes fanout some p pos in
        let q-lt : (p - 1) / fanout < n = omega (arith, lower, place_lt n ids permutes own (saw own v).below) in
        record {
          id = get_or ids ((p - 1) / fanout) 0;
          is = (saw own v).parent_is ∙ names_some n ids permutes fanout some own pos;
          below = id_lt n ids permutes ((p - 1) / fanout) q-lt;
          other = λ e. omega (arith, lower, place_of n ids permutes ((p - 1) / fanout) q-lt, ap (λ (i : ℕ). position_of i ids) e);
        }

  module _ (i j : ℕ) (v : Viewed stakes fanout ws i) (w : Viewed stakes fanout ws j) where
    to_parent : 0 < count i (children_of stakes fanout ws w) → parent_of stakes fanout ws v ≡ Some j
    to_parent h =
        let a = saw i v in
        let b = saw j w in
        let c = listed n ids a.permutes fanout a.some i j a.below (omega (arith, h, ap (count i) b.children_are)) in
        a.parent_is ∙ names n ids a.permutes fanout a.some i j b.below c

    to_child : parent_of stakes fanout ws v ≡ Some j → count i (children_of stakes fanout ws w) ≡ 1
    to_child e =
        let a = saw i v in
        let b = saw j w in
        ap (count i) b.children_are ∙ lists n ids a.permutes fanout a.some i j a.below (named n ids a.permutes fanout a.some i j a.below (sym a.parent_is ∙ e))

  module _ (every : (j : ℕ) → j < n → Viewed stakes fanout ws j) (i : ℕ) (h : i < n) (ne : i ≡ root stakes fanout ws → ⊥) where
    abbrev named_one : Names stakes fanout ws i (every i h)
    named_one = names_one i (every i h) ne

    one : ChildOfOne stakes fanout ws every i
    one = record {
      parent = named_one.id;
      below = named_one.below;
      lists = to_child i named_one.id (every i h) (every named_one.id named_one.below) named_one.is;
      no_other = λ j b other. none_of _ (λ c. other (ap id_of (sym (to_parent i j (every i h) (every j b) c) ∙ named_one.is)));
    }

  root_listed_by_none : (j : ℕ) (w : Viewed stakes fanout ws j) → count (root stakes fanout ws) (children_of stakes fanout ws w) ≡ 0
  root_listed_by_none j w =
      let b = saw j w in
      none_of _ (λ c.
      let l = listed n ids b.permutes fanout b.some (root stakes fanout ws) j (root-lt j w) (omega (arith, c, ap (count (root stakes fanout ws)) b.children_are)) in
      omega (arith, l.after_root, root_first j w))

-- the claim
pub views_consistent : ViewsConsistent
views_consistent stakes fanout ws = record {
  own_below = λ i v. (saw stakes fanout ws i v).below;
  root_named = λ i v. (saw stakes fanout ws i v).root_is;
  root_below = root-lt stakes fanout ws;
  root_alone = λ v.
      (saw stakes fanout ws (root stakes fanout ws) v).parent_is
      ∙ names_none (length stakes) _ (saw stakes fanout ws (root stakes fanout ws) v).permutes fanout (saw stakes fanout ws (root stakes fanout ws) v).some (root stakes fanout ws)
      (root_first stakes fanout ws (root stakes fanout ws) v);
  others = names_one stakes fanout ws;
  match = λ i j ne v w. (to_parent stakes fanout ws i j v w, λ e. let c : count i (children_of stakes fanout ws w) ≡ 1 = to_child stakes fanout ws i j v w e in omega arith);
  once = λ i j ne v w h. to_child stakes fanout ws i j v w (to_parent stakes fanout ws i j v w h);
  not_own = λ i v.
      ap (count i) (saw stakes fanout ws i v).children_are
      ∙ tree.not_own (length stakes) _ (saw stakes fanout ws i v).permutes fanout (saw stakes fanout ws i v).some i (saw stakes fanout ws i v).below;
  child_of_one = one stakes fanout ws;
  root_no_child = root_listed_by_none stakes fanout ws;
}
