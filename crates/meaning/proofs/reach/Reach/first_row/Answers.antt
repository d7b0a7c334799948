-- One set more is that of one command more.
use Rattle.std.proofs.Common.{◌+◌, [], get_or, take, arith}
use Rattle.std.proofs.lemmas.List.{take_more}
use Rattle.meaning.specs.Agreeing.{AgreeingSet}
use Rattle.meaning.proofs.Agreement.{agreeing_right}
use Rattle.meaning.proofs.Passing.{row_pushed}
use Rattle.meaning.proofs.reach.Reach.first_row.Goals as goal

pub loop-command-preserved : goal.loop-command-preserved
loop-command-preserved c =
    let self = c.args.self.now in
    let right = c.args.right.now.commands.now in
    let i = c.loop-command.command-index in
    let so_far = c.loop-command.invariant in
    let told : AgreeingSet self [] (take (i + 1) right) c.unreached-agreeing.result = rw (take_more right i 0 (omega arith))
    (agreeing_right self c.loop-command.agreeing c.unreached-agreeing.result (get_or right i 0) c.unreached-agreeing.ensures (take i right) so_far.1) in (
      omega (arith, c.push-in-loop-command.ensures.len),
      told,
      rw c.push-in-loop-command.ensures.items (row_pushed (λ k set. AgreeingSet self [] (take k right) set) c.loop-command.row.items i c.unreached-agreeing.result so_far.0 so_far.2 told),
    )
