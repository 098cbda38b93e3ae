-- The arithmetic of fixed seats and kept stake: what the fixed seats leave of s × k, and what is left of that.
use Rattle.std.proofs.Common.{◌≡◌, ℕ, suc, ◌+◌, ◌*◌, ◌/◌, ◌%◌, ◌≤◌, ◌<◌, List, [], ◌∷◌, map, get_or, sym, ap, ◌∙◌, arith, mod-lt, mul-le-mul_right}
use Rattle.std.specs.Prelude.{sum}
use native.Mathlib.Nat.{div-add-mod', div-mul-le_self, mul-mod_left, le_of_mul-le-mul_right, le_of_mul-le-mul_left, lt_of_mul-lt-mul_right, zero-mul, zero-div, zero-mod}
use lib.ListN.{get_or-map}
use Rattle.laws.specs.Sums.{total, sum_of}
use Rattle.laws.proofs.Sums.{total_at}
use Rattle.laws.proofs.Std.{total_is_sum}
use Rattle.fixed_seats.specs.Fixed.{fixed, kept, fixed_of, kept_of, further}
use Rattle.fixed_seats.proofs.SeatLemmas.{sum-cons, fixed_few}
use Rattle.fixed_seats.proofs.KeptLemmas.{all_seated_or_kept}
use Rattle.partition.specs.Partition.{capacity}
use Rattle.partition.proofs.PieceLaws.{capacity_fits}

-- what the fixed seats leave of s × k
abbrev pub rest : ℕ → ℕ → ℕ → ℕ
rest k T s = s * k % T

-- an element of a list that is computed by a function which leaves 0 as it is
at_map : (f : ℕ → ℕ) → f 0 ≡ 0 → (xs : List ℕ) (i : ℕ) → get_or (map f xs) i 0 ≡ f (get_or xs i 0)
at_map f z xs i = ap (get_or (map f xs) i) (sym z) ∙ get_or-map f xs i 0

module _ (k T : ℕ) where
  fixed-rest : (s : ℕ) → fixed k T s * T + rest k T s ≡ s * k
  fixed-rest s = div-add-mod' (s * k) T

  sum_rest : (xs : List ℕ) → sum (map (fixed k T) xs) * T + sum_of (rest k T) xs ≡ sum xs * k
  sum_rest [] = omega arith
  sum_rest (x ∷ xs) =
      omega (arith, sum_rest xs, fixed-rest x, ap (◌* k) (sum-cons x xs), ap (◌* T) (sum-cons (fixed k T x) (map (fixed k T) xs)))

  module _ (seat : 0 < k) where
    kept_times : (s : ℕ) → kept k T s * k ≡ rest k T s + fixed k T s * T % k
    kept_times s =
        let within : fixed k T s * T / k ≤ s = le_of_mul-le-mul_right {k = k} (omega (arith, div-mul-le_self (fixed k T s * T) k, fixed-rest s)) seat in
        let whole : fixed k T s * T / k + kept k T s ≡ s = omega (arith, within) in
        omega (arith, ap (◌* k) whole, fixed-rest s, div-add-mod' (fixed k T s * T) k)

    -- where T divides s × k nothing is kept
    pub kept_none : (s : ℕ) → s * k % T ≡ 0 → kept k T s ≡ 0
    kept_none s h =
        let all : fixed k T s * T ≡ s * k = omega (arith, fixed-rest s) in
        let none : fixed k T s * T % k ≡ 0 = ap (◌% k) all ∙ mul-mod_left s k in
        let z : kept k T s * k ≤ 0 * k = omega (arith, kept_times s) in
        omega (arith, le_of_mul-le-mul_right {k = k} z seat)

-- ---- of a whole list

module _ (k : ℕ) (list : List ℕ) (seat : 0 < k) (some : 0 < total list) where
  abbrev T : ℕ
  T = total list

  T_is : T ≡ sum list
  T_is = total_is_sum list

  pub fixed_at : (i : ℕ) → get_or (fixed_of k list) i 0 ≡ fixed k T (get_or list i 0)
  fixed_at i = rw T_is (at_map (fixed k (sum list)) (rw (zero-mul, zero-div)) list i)

  pub kept_at : (i : ℕ) → get_or (kept_of k list) i 0 ≡ kept k T (get_or list i 0)
  kept_at i = rw T_is (at_map (kept k (sum list)) (omega arith) list i)

  -- the fixed seats are k at the most
  pub fixed_le : sum (fixed_of k list) ≤ k
  fixed_le = rw (← T_is) (fixed_few k T list some T_is)

  -- what they leave is k' times the total
  pub rest_sum : sum_of (rest k (total list)) list ≡ further k list * total list
  rest_sum =
      let whole : sum (map (fixed k T) list) + further k list ≡ k = omega (arith, fixed_le, ap (λ t. sum (map (fixed k t) list)) T_is) in
      omega (arith, sum_rest k T list, ap (◌* T) whole, ap (◌* k) T_is)

  -- where no further seat is drawn, nobody keeps anything
  pub nobody : further k list ≡ 0 → (i : ℕ) → kept k T (get_or list i 0) ≡ 0
  nobody z i =
      let none : sum_of (rest k T) list ≡ 0 = omega (arith, rest_sum, ap (◌* T) z) in
      kept_none k T seat (get_or list i 0)
      (omega (arith, at_map (rest k T) (rw (zero-mul, zero-mod)) list i, total_at (map (rest k T) list) i))

  -- no stake keeps more than a bin holds, in the list or not
  pub kept_le : 0 < further k list → (s : ℕ) → kept k T s ≤ capacity (sum (kept_of k list)) (further k list)
  kept_le drawn s =
      let b = further k list in
      let c = capacity (sum (kept_of k list)) b in
      let enough : b * T ≤ sum (kept_of k list) * k =
      let whole : sum (fixed_of k list) + b ≡ k = omega (arith, fixed_le) in
      omega (arith, all_seated_or_kept k (sum list) list, ap (◌* sum list) whole, ap (b *◌) T_is) in
      let wide : b * T ≤ b * (c * k) = omega (arith, enough, mul-le-mul_right k (capacity_fits (sum (kept_of k list)) b drawn)) in
      let cap : T ≤ c * k = le_of_mul-le-mul_left {k = b} wide drawn in
      let less : kept k T s * k < suc c * k = omega (arith, kept_times k T seat s, mod-lt (s * k) some, mod-lt (fixed k T s * T) seat) in
      omega (arith, lt_of_mul-lt-mul_right k less)
