-- The lines of the pairs passed that are flows are written.
use Rattle.std.proofs.Common.{◌+◌, ◌*◌}
use Rattle.policy.specs.Flows.{may_affect}
use Rattle.sheet.specs.Plan.{tabulate}
use Rattle.sheet.specs.Text.{listed, pairs_kept, flows_text}
use Rattle.sheet.specs.Written.{Writes}
use Rattle.sheet.proofs.lines.flows.Given as goal

abbrev pub invariant-loop-from : goal.invariant-loop-from
invariant-loop-from g l =
    let k = (g.C.Control.value l.control).consoles in
    Writes l.fn.out (flows_text k (pairs_kept (listed k (may_affect l.flows)) (tabulate 0 (l.from * k) (λ p. p)))) l.out

abbrev pub invariant-loop-to : goal.invariant-loop-to
invariant-loop-to g l =
    let k = (g.C.Control.value l.control).consoles in
    Writes l.fn.out (flows_text k (pairs_kept (listed k (may_affect l.flows)) (tabulate 0 (l.from * k + l.to) (λ p. p)))) l.out
