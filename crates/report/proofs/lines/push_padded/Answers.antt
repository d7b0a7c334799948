-- Blanks, and then the word.
use Rattle.std.proofs.Common.{◌≡◌, ℕ, ◌-◌, length, replicate, vec_items, Ok, ◌∙◌}
use Rattle.std.proofs.lemmas.Iterator.Adapters.{YieldsList-from_repeat_n, items_from_extend}
use Rattle.report.proofs.Appending.{then}
use Rattle.report.proofs.lines.push_padded.Goals as goal

pub returns : goal.returns
returns c =
    let count = c.args.width - length c.args.word.now in
    let blanks = YieldsList-from_repeat_n (λ x y. y ≡ x) count 32 (c.repeat_n.ensures.count ∙ c.saturating_sub.ensures) c.repeat_n.ensures.item (λ y e. e) in
    then (vec_items c.args.text.now) (replicate count 32) c.args.word.now (items_from_extend {E = ℕ} (Ok tt) c.in_ok-extend.ensures.ran blanks).0 c.in_ok-extend_from_slice.ensures.items
