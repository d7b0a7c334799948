-- The two parts of a board, and what they say as one value.
use Rattle.theory.specs.Boards.{BoardValue}
use Rattle.policy.specs.Flows.{consoles_of, may_affect}
use Rattle.policy.specs.Lockouts.{commands_of, locks}
use Rattle.policy.specs.declared.board.Board.{Board}
use Rattle.policy.specs.declared.flows.Flows.{Flows}
use Rattle.policy.specs.declared.lockouts.Lockouts.{Lockouts}

abbrev pub flows_of : Board → Flows
flows_of b = b.flows

abbrev pub lockouts_of : Board → Lockouts
lockouts_of b = b.lockouts

abbrev pub value_of : Board → BoardValue
value_of b = record {
  consoles = consoles_of b.flows;
  commands = commands_of b.lockouts;
  flows = may_affect b.flows;
  locked = locks b.lockouts;
}
