use Rattle.std.proofs.Common.{◌≡◌, length, arith, rules}
use Rattle.tree.proofs.SumLemmas.{found_here, found_none}
use Rattle.tree.proofs.node.Node.find.Goals as goal

pub returns-then-left-weight : goal.returns-then-left-weight
returns-then-left-weight c =
    let full : length c.args.self.now.sums ≡ 16 = search rules in
    found_here c.args.self.now.sums c.args.val c.loop-offset.offset c.loop-offset.left full c.loop-offset.invariant (omega arith) (omega arith)

pub returns : goal.returns
returns c =
    let full : length c.args.self.now.sums ≡ 16 = search rules in
    found_none c.args.self.now.sums c.args.val c.loop-offset.offset c.loop-offset.left full c.loop-offset.invariant (omega arith)
