-- Laws of a buffer that is filled from the front, over any element.
use Prim.Native.Nat.{ℕ, suc, ◌+◌, ◌≤◌, ◌<◌}
use mathlib.Core.Path.{◌≡◌, sym, ap, ◌∙◌, subst}
use mathlib.Core.List.{List, ◌++◌, append-nil}
use native.Mathlib.Numerals.{add-one}
use native.Mathlib.Omega.{arith}
use lib.ListN.{length, get_or, set, take, drop, replicate, length-set, length-replicate, get_or-replicate, drop_of_length-le}
use lib.Seq.{append_snoc, drop-cons, take-suc, set_at, length-take-le, take_all, get_or-append-add, get_or-drop}

-- the first i values stand before what the buffer held; one store adds the next value
pub store_next : {A : Type 0} (d : A) (values held : List A) (i : ℕ) → i < length values → i < length held →
    set (take i values ++ drop i held) i (get_or values i d) ≡ take (i + 1) values ++ drop (i + 1) held
store_next d values held i h g =
    rw (add-one, drop-cons held i d g, take-suc values i d h)
    (set_at (take i values) (get_or held i d) (drop (suc i) held) (get_or values i d) i (length-take-le i values (omega arith))
    ∙ sym (append_snoc (take i values) (get_or values i d) (drop (suc i) held)))

-- so far i of the values are stored
pub record Stored {A : Type 0} (values held buffer : List A) (i : ℕ) : Type 0 where
  pub within : i ≤ length values
  pub long : length buffer ≡ length held
  pub holds : buffer ≡ take i values ++ drop i held

pub stored_next : {A : Type 0} (d : A) {values held buffer : List A} {i : ℕ} → i < length values → length values ≤ length held →
    Stored values held buffer i → Stored values held (set buffer i (get_or values i d)) (i + 1)
stored_next d {values} {held} {buffer} {i} l r s = record {
  within = omega arith;
  long = simp length-set s.long;
  holds = ap (λ (b : List _). set b i (get_or values i d)) s.holds ∙ store_next d values held i l (omega arith);
}

-- one value is stored to every place; no proof cites it; docs/TRACE.md names it as a promise
pub filled_next : {A : Type 0} (a : A) {held buffer : List A} {i : ℕ} → i < length buffer → Stored (replicate (length held) a) held buffer i →
    Stored (replicate (length held) a) held (set buffer i a) (i + 1)
filled_next a {held} {buffer} {i} l s =
    let n = length-replicate (length held) a in
    subst (λ b. Stored (replicate (length held) a) held (set buffer i b) (i + 1)) (get_or-replicate (length held) i a a (omega (arith, s.long)))
    (stored_next a (omega (arith, n, s.long)) (omega (arith, n)) s)

-- what is not stored over yet
pub stored_ahead : {A : Type 0} (d : A) {values held buffer : List A} {i : ℕ} → Stored values held buffer i →
    get_or buffer i d ≡ get_or held i d
stored_ahead d {values} {held} {buffer} {i} s =
    let l : i ≡ length (take i values) + 0 = omega (arith, length-take-le i values s.within) in
    let z : i + 0 ≡ i = omega arith in
    ap (λ (xs : List _). get_or xs i d) s.holds
    ∙ ap (λ (n : ℕ). get_or (take i values ++ drop i held) n d) l
    ∙ get_or-append-add (take i values) (drop i held) 0 d
    ∙ get_or-drop i held 0 d
    ∙ ap (λ (n : ℕ). get_or held n d) z

-- and then all of them are stored
pub stored_all : {A : Type 0} {values held buffer : List A} {i : ℕ} → length values ≤ i → Stored values held buffer i →
    buffer ≡ values ++ drop (length values) held
stored_all {values = values} {held = held} {i = i} l s =
    let e : i ≡ length values = omega (arith, s.within) in
    s.holds
    ∙ ap (λ (j : ℕ). take j values ++ drop j held) e
    ∙ ap (λ (xs : List _). xs ++ drop (length values) held) (take_all (length values) values (omega arith))

-- where they are as many as the places, nothing else is left
pub stored_whole : {A : Type 0} {values held buffer : List A} {i : ℕ} → length values ≡ length held → length held ≤ i →
    Stored values held buffer i → buffer ≡ values
stored_whole {values = values} {held = held} e l s =
    stored_all (omega arith) s
    ∙ ap (λ (xs : List _). values ++ xs) (drop_of_length-le held {i = length values} (omega arith))
    ∙ append-nil values

-- one value then stands at every place
pub filled_all : {A : Type 0} (a : A) {held buffer : List A} {i : ℕ} → length buffer ≤ i →
    Stored (replicate (length held) a) held buffer i → buffer ≡ replicate (length held) a
filled_all a {held} {buffer} {i} l s = stored_whole (length-replicate (length held) a) (omega (arith, s.long)) s
