-- A command of either side moves that side alone.
use Rattle.std.proofs.Common.{sym, ◌∙◌}
use Rattle.control.proofs.Beside.{next_left, next_right}
use Rattle.control.proofs.side_by_side.SideBySideControl.next.Goals as goal

pub returns-then-command-first : goal.returns-then-command-first
returns-then-command-first g c =
    next_left (g.L.Control.lawful c.args.self.now.left) (g.R.Control.lawful c.args.self.now.right) (sym c.fits.ensures ∙ c.if-not-fits.false)
    c.args.state c.states.ensures.value c.read_number-state.ensures c.states-width.ensures.value
    c.args.command c.commands.ensures.value c.read_number-command.ensures c.commands-first.ensures.value
    c.if-command-first.true c.next-then-command-first.ensures.value

pub returns-else-command-first : goal.returns-else-command-first
returns-else-command-first g c =
    next_right (g.L.Control.lawful c.args.self.now.left) (g.R.Control.lawful c.args.self.now.right) (sym c.fits.ensures ∙ c.if-not-fits.false)
    c.args.state c.states.ensures.value c.read_number-state.ensures c.states-width.ensures.value
    c.args.command c.commands.ensures.value c.read_number-command.ensures c.commands-first.ensures.value
    c.if-command-first.false c.next-else-command-first.ensures.value
