-- A bare board is bare in each of its parts.
use Rattle.policy.proofs.board.Board.bare.Goals as goal

pub returns-clause-bare : goal.returns-clause-bare
returns-clause-bare c =
    let f = c.in_ok-flows.ensures.bare in
    let l = c.in_ok-lockouts.ensures.bare in
    λ i. record { consoles = f.0 i; commands = l.0 i; flows = λ u v. f.1 u v i; locked = λ a. l.1 a i }
