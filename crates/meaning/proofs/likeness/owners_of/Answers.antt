-- One console more is that of the next command.
use Rattle.std.proofs.Common.{arith}
use Rattle.std.proofs.lemmas.List.FromFn.{map-range_with_len_more}
use Rattle.theory.specs.Control.{owner_of}
use Rattle.meaning.proofs.likeness.owners_of.Goals as goal

pub loop-command-preserved : goal.loop-command-preserved
loop-command-preserved g c =
    let n = c.loop-command.command in (
      omega (arith, c.push.ensures.len),
      rw (map-range_with_len_more (owner_of (g.C.Control.value c.args.control.now)) 0 n n (omega arith)) (cc),
    )
