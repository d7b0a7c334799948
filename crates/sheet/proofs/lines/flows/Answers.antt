-- One pair of consoles more is passed, and its line is written where it is a flow.
use Rattle.std.proofs.Common.{◌<◌, ◌&&◌, not, sym, ap, ◌∙◌, arith}
use Rattle.std.proofs.lemmas.Bool.{eq-eqb, and_right}
use Rattle.policy.specs.Flows.{may_affect}
use Rattle.sheet.proofs.Blocks.{flow_written, flow_passed}
use Rattle.sheet.proofs.lines.flows.Goals as goal
use Rattle.sheet.proofs.lines.flows.Goals.{then-from-to+then-may_affect, else-from-to, else-from-to-via-then-from-to+else-may_affect, else-from-to-via-else-from-to}

pub loop-to-preserved : goal.loop-to-preserved
loop-to-preserved g c =
    let k = (g.C.Control.value c.args.control.now).consoles in
    let F = may_affect c.args.flows.now in
    let within : c.loop-to.to < k = omega (arith, c.consoles-to-end.ensures.value, c.loop-to-test.true) in
    elim c.if-from-to.branch [
      | then-from-to+then-may_affect w ↦
          rw w.out-is (flow_written F k _ _ within w.if-from-to.true (sym w.may_affect.ensures ∙ w.if-may_affect.true) c.loop-to.invariant w.number.ensures w.number-then-may_affect.ensures)
      | else-from-to w ↦
          rw w.out-is (flow_passed F k _ _ within (elim w.else-from-to.branch [
            | else-from-to-via-then-from-to+else-may_affect x ↦ and_right _ _ (sym x.may_affect.ensures ∙ x.if-may_affect.false)
            | else-from-to-via-else-from-to x ↦ ap (λ b. not b && F c.loop-from.from c.loop-to.to) (eq-eqb _ _ x.if-from-to.false)
          ]) c.loop-to.invariant)
    ]
