-- One piece of text after another.
use Rattle.std.proofs.Common.{◌≡◌, ℕ, ◌+◌, List, ◌++◌, Result, sym, ap, ◌∙◌, append_assoc, add-one}
use Rattle.std.specs.Prelude.{OnOk}
use Rattle.std.proofs.lemmas.Result.{on_ok_weaker}
use Rattle.report.specs.Lines.{upto}
use Rattle.report.proofs.Columns.{number_column, effect_column}

-- a text that has y after x, and then z
pub then : {a b : List ℕ} (x y z : List ℕ) → a ≡ x ++ y → b ≡ a ++ z → b ≡ x ++ (y ++ z)
then x y z before after = after ∙ ap (λ t. t ++ z) before ∙ append_assoc x y z

-- three pieces after x
pub three_pieces : (x a b c p q r : List ℕ) → a ≡ x ++ p → b ≡ a ++ q → c ≡ b ++ r → c ≡ x ++ (p ++ (q ++ r))
three_pieces x a b c p q r first second third = then x (p ++ q) r (then x p q first second) third ∙ ap (λ t. x ++ t) (append_assoc p q r)

-- four pieces and nothing before
pub four_pieces : (a b c d p q r s : List ℕ) → a ≡ p → b ≡ a ++ q → c ≡ b ++ r → d ≡ c ++ s → d ≡ p ++ (q ++ (r ++ s))
four_pieces a b c d p q r s first second third fourth = three_pieces p b c d q r s (second ∙ ap (λ x. x ++ q) first) third fourth

-- what is written behind three pieces, if it is written
pub behind_three : {T E : Type 0} (done : Result T E) (x a b p q r s : List ℕ) → a ≡ x ++ (p ++ (q ++ r)) → OnOk done (b ≡ a ++ s) → OnOk done (b ≡ x ++ (p ++ (q ++ (r ++ s))))
behind_three done x a b p q r s before written = on_ok_weaker done (λ after. then x (p ++ (q ++ r)) s before after ∙ simp append_assoc) written

-- the text of one number more
pub upto_more : (x a b : List ℕ) (f : ℕ → List ℕ) (n : ℕ) → a ≡ x ++ upto f n → b ≡ a ++ f n → b ≡ x ++ upto f (n + 1)
upto_more x a b f n before after = then x (upto f n) (f n) before after ∙ sym (ap (λ k. x ++ upto f k) (add-one n))

-- the steps of a text that is made piece by piece
pub ruleset texts = (upto_more, three_pieces, behind_three, append_assoc, number_column, effect_column)
