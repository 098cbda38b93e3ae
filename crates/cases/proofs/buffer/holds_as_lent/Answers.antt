use Rattle.std.proofs.Common.{◌≡◌, length, take, rules, refl}
use Rattle.std.proofs.lemmas.List.{take_min}
use Rattle.cases.proofs.buffer.holds_as_lent.Goals as goal

pub returns : goal.returns
returns g c = λ number gives.
    let held = c.holds.ensures number gives in
    let cut : take c.min-within.result c.args.front.now ≡ take (length c.args.buffer.now) c.args.front.now =
    rw (c.min-within.ensures, take_min) refl in
    rw (← cut) (search rules)
