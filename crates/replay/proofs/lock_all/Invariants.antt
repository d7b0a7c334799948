-- The commands to come lock the board so far as all of them lock the board before.
use Rattle.std.proofs.Common.{◌≡◌, drop}
use Rattle.policy.specs.Board.{value_of}
use Rattle.replay.specs.Replays.{all_locked}
use Rattle.replay.proofs.lock_all.Given as goal

abbrev pub invariant-loop-command : goal.invariant-loop-command
invariant-loop-command l = all_locked (value_of l.board) (drop l.command-index l.commands) ≡ all_locked (value_of l.fn.board) l.commands
