-- How far a walk has come after some of its commands.
use Rattle.std.proofs.Common.{◌≡◌, take}
use Rattle.theory.specs.Control.{next_of}
use Rattle.theory.specs.Runs.{leads}
use Rattle.policy.specs.Lockouts.{locks}
use Rattle.control.proofs.replay.walk.Given as goal

-- the state is where the commands so far lead
abbrev pub invariant-loop-command : goal.invariant-loop-command
invariant-loop-command g l =
    let v = g.C.Control.value l.control in
    l.state ≡ leads (next_of v) (locks l.lockouts) v.start (take l.command-index l.sequence)
