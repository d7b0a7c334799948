-- The set of the sources grows as their list does.
use Rattle.std.proofs.Common.{◌<◌, sym, ◌∙◌, arith}
use Rattle.policy.specs.Flows.{may_affect}
use Rattle.meaning.proofs.Gathering.{any_affected, any_below, set_with}
use Rattle.meaning.proofs.intransitive_purge.with_source.Goals as goal

pub returns-then-affects_one : goal.returns-then-affects_one
returns-then-affects_one c s stands =
    let flows = c.args.flows.now in
    let w = c.args.from in
    let affected = sym c.affects_one.ensures ∙ c.if-affects_one.true in
    let small : w < 32 = omega (arith, any_below (may_affect flows) flows.consoles flows.within w c.args.sources affected, flows.count.1) in
    rw (sym (any_affected (may_affect flows) flows.consoles flows.within w s c.args.sources stands) ∙ affected) (set_with w s c.args.sources c.with.result small stands c.with.ensures)

pub returns-else-affects_one : goal.returns-else-affects_one
returns-else-affects_one c s stands =
    let flows = c.args.flows.now in
    rw (sym (any_affected (may_affect flows) flows.consoles flows.within c.args.from s c.args.sources stands) ∙ sym c.affects_one.ensures ∙ c.if-affects_one.false) stands
