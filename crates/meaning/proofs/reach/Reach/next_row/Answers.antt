-- One set more is that of the corner of one command more.
use Rattle.std.proofs.Common.{◌≡◌, ◌+◌, [], ◌∷◌, ◌++◌, get_or, length, take, sym, ap, ◌∙◌, arith}
use Rattle.std.specs.List.{slice_range}
use Rattle.std.proofs.lemmas.List.{take_more, length_push}
use Rattle.std.proofs.lemmas.List.Edits.{get_or-between}
use Rattle.std.proofs.lemmas.Slice.Zip.{zip_turn}
use Rattle.policy.specs.Rows.{nobody}
use Rattle.meaning.specs.Agreeing.{AgreeingSet}
use Rattle.meaning.proofs.Passing.{row_pushed}
use Rattle.meaning.proofs.reach.Reach.next_row.Goals as goal

pub loop-other-preserved : goal.loop-other-preserved
loop-other-preserved c =
    let self = c.args.self.now in
    let right = c.args.right.now.commands.now in
    let before = c.args.before.now in
    let a = c.args.command in
    let so_far = c.loop-other.yielded in
    let j = length so_far in
    let held = c.loop-other.invariant in
    let set = c.agreeing_at-beside.result in
    let longer = length_push so_far (c.in-Some.other, c.in-Some.above) in
    let turn = zip_turn right (slice_range before 1 (length before)) so_far _ _ c.next.new.self _ (cc) (cc) c.loop-other.yielded_by _ c.in-Some.is c.next.ensures.steps in
    let over : c.in-Some.above.now ≡ get_or before (j + 1) nobody =
    turn.3 nobody ∙ get_or-between before 1 (length before) j nobody (omega (arith, turn.0, c.requires)) ∙ ap (λ k. get_or before k nobody) (omega arith) in
    let grown : take (j + 1) right ≡ take j right ++ c.in-Some.other.now ∷ [] = rw (turn.2 0) (take_more right j 0 turn.0) in (
      omega (arith, c.push-in-loop-other.ensures.len, longer),
      rw longer over,
      λ p above.
          let told : AgreeingSet self (p ++ a ∷ []) (take (j + 1) right) set = rw grown
          (c.agreeing_at-beside.ensures p (take j right)
          record { above = rw (sym grown, over) (above (j + 1) (omega (arith, turn.0))); beside = (held.2 p above).0; across = rw held.1 (above j (omega (arith, turn.0))) }) in (
            rw longer told,
            rw (longer, c.push-in-loop-other.ensures.items) (row_pushed (λ k s. AgreeingSet self (p ++ a ∷ []) (take k right) s) c.loop-other.row.items j set held.0 (held.2 p above).1 told),
          ),
    )
