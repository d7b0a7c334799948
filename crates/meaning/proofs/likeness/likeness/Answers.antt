-- Where every check passes, the answer is the meaning's for the control's own consoles.
use Rattle.std.proofs.Common.{Ok, ap, ◌∙◌, arith, rules}
use Rattle.policy.specs.Board.{flows_of, value_of}
use Rattle.policy.specs.Flows.{consoles_of}
use Rattle.meaning.proofs.Answering.{asked_answered}
use Rattle.meaning.proofs.likeness.likeness.Goals as goal

pub returns : goal.returns
returns g c =
    let m = g.M.Meaning.meaning c.args.meaning.now in
    let v = g.C.Control.value c.args.control.now in
    let board = c.args.board.now in
    let u = c.args.console in
    let p = c.args.left.now in
    let q = c.args.right.now in
    let asked = asked_answered m (g.met.M.Meaning.lawful c.args.meaning.now) (value_of board) (flows_of board).selves v (g.C.Control.lawful c.args.control.now) u (omega (arith, ap consoles_of c.flows.ensures)) p q (search rules) (search rules) (search rules) (omega arith) (omega arith) in
    ap Ok (c.alike.ensures ∙ rw (c.flows-2.ensures, c.deref.ensures.0, c.owners_of-owners.ensures)) ∙ asked
