-- A console of the left side shows what the left side shows.
use Rattle.std.proofs.Common.{sym, ◌∙◌}
use Rattle.control.proofs.Beside.{display_left}
use Rattle.control.proofs.side_by_side.SideBySideControl.display.Goals as goal

pub returns-then-console-first : goal.returns-then-console-first
returns-then-console-first g c =
    display_left (g.L.Control.lawful c.args.self.now.left) (g.R.Control.lawful c.args.self.now.right) (sym c.fits.ensures ∙ c.if-not-fits.false)
    c.args.state c.states.ensures.value c.read_number-state.ensures c.states-width.ensures.value
    c.args.console c.consoles.ensures.value c.read_number-console.ensures c.consoles-first.ensures.value
    c.if-console-first.true c.display-then-console-first.ensures
