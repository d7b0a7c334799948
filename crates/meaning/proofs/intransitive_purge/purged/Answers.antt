-- One step back keeps the sources and what was kept as IP has them.
use Rattle.std.proofs.Common.{length, reverse, sym, ◌∙◌, arith}
use Rattle.std.proofs.lemmas.Iterator.Adapters.{YieldsList-from_rev_slice}
use Rattle.std.proofs.lemmas.Iterator.Consumers.{YieldsList-turn}
use Rattle.std.proofs.lemmas.List.{length_push}
use Rattle.meaning.specs.Reach.{flow_of, giver_of}
use Rattle.meaning.proofs.Gathering.{carried_kept, carried_left, back_more}
use Rattle.meaning.proofs.intransitive_purge.purged.Goals as goal

pub loop-command-preserved-then-has : goal.loop-command-preserved-then-has
loop-command-preserved-then-has c =
    let reach = c.args.reach.now in
    let p = c.args.sequence.now.commands.now in
    let so_far = c.loop-command.yielded in
    let turn = YieldsList-turn (YieldsList-from_rev_slice p cc) so_far _ c.loop-command.yielded_by _ _ c.in-Some.command c.in-Some.is c.next.ensures.steps in
    let longer = length_push so_far c.in-Some.command in (
      omega (arith, longer, c.push.ensures.len),
      rw (back_more (reverse p) (length so_far) _ c.in-Some.command.now longer turn, c.push.ensures.items)
          (carried_kept (flow_of reach) (giver_of reach) c.args.console c.in-Some.command.now c.giver-giver.result c.giver-giver.ensures _ _ _ _ c.with_source-sources.ensures c.loop-command.invariant.1 (sym c.has.ensures ∙ c.if-has.true)),
    )

pub loop-command-preserved : goal.loop-command-preserved
loop-command-preserved c =
    let reach = c.args.reach.now in
    let p = c.args.sequence.now.commands.now in
    let so_far = c.loop-command.yielded in
    let turn = YieldsList-turn (YieldsList-from_rev_slice p cc) so_far _ c.loop-command.yielded_by _ _ c.in-Some.command c.in-Some.is c.next.ensures.steps in
    let longer = length_push so_far c.in-Some.command in (
      omega (arith, longer),
      rw (back_more (reverse p) (length so_far) _ c.in-Some.command.now longer turn)
          (carried_left (flow_of reach) (giver_of reach) c.args.console c.in-Some.command.now c.giver-giver.result c.giver-giver.ensures _ _ _ _ c.with_source-sources.ensures c.loop-command.invariant.1 (sym c.has.ensures ∙ c.if-has.false)),
    )
