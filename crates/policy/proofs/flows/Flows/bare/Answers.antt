-- Each turn adds one console's own flow, and the flows of all turns are within the consoles.
use Rattle.std.proofs.Common.{ℕ, ◌∙◌, ap, sym, ◌||◌, ◌&&◌, eqb, ltb, arith, length-set}
use Rattle.policy.proofs.Bare.{bare_itself, bare_more, bare_within, has_room}
use Rattle.policy.proofs.flows.Flows.bare.Goals as goal

pub loop-u-preserved : goal.loop-u-preserved
loop-u-preserved c =
    let alone = λ (j : ℕ). c.with.ensures j ∙ ap (λ b. b || (eqb j c.loop-u.u && ltb j 32)) (c.none.ensures j) ∙ has_room j c.loop-u.u (omega arith) in
    (length-set _ _ _ ∙ c.loop-u.invariant.0, bare_more _ _ _ (omega arith) alone c.loop-u.invariant.1)

pub invariant_of-result : goal.invariant_of-result
invariant_of-result c =
    let flows = c.loop-u.invariant.1 in
    record { count = omega arith; selves = λ u h. flows u u ∙ bare_itself _ u (omega arith); within = λ u v e. bare_within c.loop-u.u _ u v (omega arith) (sym (flows u v) ∙ e) }
