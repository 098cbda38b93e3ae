use Rattle.tree.proofs.WalkLemmas.{each_has_tree, search_finds, removal_takes, removals_commute}
use Rattle.tree.proofs.theorems.ways_follow_from_weights.Goals as goal

pub returns-clause-each : goal.returns-clause-each
returns-clause-each c = each_has_tree

pub returns-clause-search : goal.returns-clause-search
returns-clause-search c = search_finds

pub returns-clause-removal : goal.returns-clause-removal
returns-clause-removal c = removal_takes

pub returns-clause-commute : goal.returns-clause-commute
returns-clause-commute c = removals_commute
