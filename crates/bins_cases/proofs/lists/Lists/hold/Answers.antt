use Rattle.std.proofs.Common.{rules}
use Rattle.bins_cases.proofs.lists.Lists.hold.Goals.{then-holds, else-holds, then-holds-2, else-holds-2}
use Rattle.bins_cases.proofs.lists.Lists.hold.Goals as goal

pub returns-then-holds-3 : goal.returns-then-holds-3
returns-then-holds-3 c = elim c.if-holds.branch [
  | then-holds v ↦ elim c.if-holds-2.branch [
    | then-holds-2 w ↦
        let seats = c.holds.ensures (λ n. n) (λ x n e. e) in
        let bins = v.holds-then-holds.ensures (λ n. n) (λ x n e. e) in
        let validators = w.holds-then-holds-2.ensures (λ n. n) (λ x n e. e) in
        let stakes = c.holds-then-holds-3.ensures (λ n. n) (λ x n e. e) in
        search rules
    | else-holds-2 w ↦ search rules
  ]
  | else-holds v ↦ search rules
]
