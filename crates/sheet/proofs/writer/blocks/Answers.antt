-- Block after block, each behind its names, is the text of the sheet.
use Rattle.std.proofs.Common.{◌++◌, sym, ap}
use Rattle.policy.specs.Flows.{may_affect}
use Rattle.sheet.specs.Plan.{counts_title, owners_title, steps_title, displays_title, flows_title}
use Rattle.sheet.specs.Text.{row_text, counts_text, flows_text, flow_pairs}
use Rattle.sheet.specs.Written.{owner_rows, step_rows, display_rows}
use Rattle.sheet.proofs.Writing.{writes_more, writes_as}
use Rattle.sheet.proofs.Blocks.{blocks_text}
use Rattle.sheet.proofs.writer.blocks.Goals as goal

pub returns : goal.returns
returns g c =
    let kind = g.C.Display.DisplayKind.kind in
    let mark = g.C.Display.DisplayKind.marked in
    let v = g.C.Control.value c.args.control.now in
    let flows = flows_text v.consoles (flow_pairs v.consoles (may_affect c.args.permitted.now)) in
    writes_as (ap (λ l. row_text kind mark v counts_title ++ (counts_text kind mark v ++ l)) (sym (blocks_text kind mark v owners_title steps_title displays_title flows_title (owner_rows v) (step_rows v) (display_rows v) flows)))
    (writes_more _ _ c.text.ensures
    (writes_more _ _ c.counts.ensures
    (writes_more _ _ c.text-2.ensures
    (writes_more _ _ c.owners.ensures
    (writes_more _ _ c.text-3.ensures
    (writes_more _ _ c.steps.ensures
    (writes_more _ _ c.text-4.ensures
    (writes_more _ _ c.displays.ensures
    (writes_more _ _ c.text-5.ensures c.flows.ensures)))))))))
