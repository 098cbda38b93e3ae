use Rattle.draws.proofs.SumsLemmas.{held_alone}
use Rattle.draws.proofs.weighted.Weights.of_sums.Goals as goal

pub invariant_of-result : goal.invariant_of-result
invariant_of-result c = (held_alone c.args.weights.now c.args.sums.now c.requires.sums c.requires.some).are_sums

pub returns : goal.returns
returns c = (held_alone c.args.weights.now c.args.sums.now c.requires.sums c.requires.some).shown
