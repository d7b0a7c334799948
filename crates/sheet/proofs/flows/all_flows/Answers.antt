-- Each flow that is read is allowed, since its consoles are consoles of the board.
use Rattle.std.proofs.Common.{◌*◌, ◌<◌, ◌≤◌, is_ok, Ok, sym, refl, ap, ◌∙◌, arith}
use Rattle.std.proofs.lemmas.Bool.{cond-true}
use Rattle.sheet.specs.Calls.{refusal_of}
use Rattle.sheet.specs.Reading.{flows_at}
use Rattle.sheet.specs.Boards.{flow_next}
use Rattle.sheet.proofs.Going.{left_as}
use Rattle.sheet.proofs.Listing.{lists_none, lists_more, came, none_came, refused, listing_start, listing_more, listing_fault, listing_end, board_refused, board_listed}
use Rattle.sheet.proofs.flows.all_flows.Goals as goal

pub loop-pair-init : goal.loop-pair-init
loop-pair-init c =
    let bare = c.in_ok-board.ensures.bare in
    record {
      listing = listing_start c.args.heading.now.counts c.args.cursor.now.sheet.now c.args.line c.args.cursor.now.at c.in_ok-board.board (lists_none c.args.heading.now.counts c.in_ok-board.board (ap (λ b. b.consoles) bare) (ap (λ b. b.commands) bare) (λ u v. ap (λ b. b.flows u v) bare) (λ a. ap (λ b. b.locked a) bare));
      sheet = refl;
    }

pub returns-in_err-pair : goal.returns-in_err-pair
returns-in_err-pair c =
    let n = c.args.heading.now.counts in
    let s = c.args.cursor.now.sheet.now in
    let l = c.loop-pair in
    let f = c.in_err-pair.field-0.0 in
    let stop = refused n.consoles l.low l.row s l.cursor.at f (c.in_err-pair.ensures.read ∙ ap (λ b. flow_next n.consoles l.low l.row b.now l.cursor.at) l.invariant.sheet) in
    board_refused n c.from_residual-in_err-pair.result (flows_at n.consoles s (n.consoles * n.consoles) 0 c.args.line c.args.cursor.now.at) f
    (left_as c.from_residual-in_err-pair.result (refusal_of f) c.from_residual-in_err-pair.ensures.1)
    (listing_fault n s c.args.line c.args.cursor.now.at l.board l.low l.row l.cursor.at l.invariant.listing f stop.0 stop.1)

pub loop-pair-preserved : goal.loop-pair-preserved
loop-pair-preserved c =
    let n = c.args.heading.now.counts in
    let s = c.args.cursor.now.sheet.now in
    let l = c.loop-pair in
    let p = c.in-Some.pair in
    let at = c.next_flow.new.cursor.at in
    let some : 0 < n.consoles = omega (arith, c.args.heading.now.within.consoles.0) in
    let bound : (l.low ≤ p) × (p < n.consoles * n.consoles) = rw c.in-Some.is at c.in_ok-pair.ensures.bound in
    let next = came n.consoles l.low l.row s l.cursor.at p at (ap (λ o. Ok (o, at)) (sym c.in-Some.is) ∙ c.in_ok-pair.ensures.read ∙ ap (λ b. flow_next n.consoles l.low l.row b.now l.cursor.at) l.invariant.sheet) in
    let board = c.allow.ensures.board ∙ cond-true _ _ _ (ap is_ok (sym c.allow.ensures.answer ∙ c.in_ok-allow.was)) in
    record {
      listing = listing_more n s c.args.line c.args.cursor.now.at l.board l.low l.row l.cursor.at l.invariant.listing c.allow.new.self (p, at) next.0 next.1 bound.0 bound.1
          (lists_more n l.board c.allow.new.self l.invariant.listing.so_far p l.invariant.listing.lists some (ap (λ b. b.consoles) board) c.allow.ensures.lockouts (λ u v. ap (λ b. b.flows u v) board));
      sheet = c.in_ok-pair.ensures.sheet ∙ l.invariant.sheet;
    }

pub returns : goal.returns
returns c =
    let n = c.args.heading.now.counts in
    let s = c.args.cursor.now.sheet.now in
    let l = c.loop-pair in
    let at = c.next_flow.new.cursor.at in
    let last = none_came n.consoles l.low l.row s l.cursor.at at (ap (λ o. Ok (o, at)) (sym c.in_default.is) ∙ c.in_ok-pair.ensures.read ∙ ap (λ b. flow_next n.consoles l.low l.row b.now l.cursor.at) l.invariant.sheet) in
    board_listed n (Ok l.board) (flows_at n.consoles s (n.consoles * n.consoles) 0 c.args.line c.args.cursor.now.at) l.board l.invariant.listing.so_far refl
    (listing_end n s c.args.line c.args.cursor.now.at l.board l.low l.row l.cursor.at l.invariant.listing last)
    l.invariant.listing.lists
