-- Columns of text, and texts of the numbers below n one after the other.
use Rattle.std.specs.Prelude.{◌≡◌, ℕ, zero, suc, ◌-◌, ◌<◌, List, [], ◌++◌, Result, String, OnOk, length, replicate, string_bytes}
use Rattle.std.specs.Borrow.{MutBor}

-- blanks before the word, so that it ends at the width; a longer word is not cut
abbrev pub padded : ℕ → List ℕ → List ℕ
padded width word = replicate (width - length word) 32 ++ word

-- f of the numbers below n, one after the other
abbrev pub upto : (ℕ → List ℕ) → ℕ → List ℕ
upto f zero = []
upto f (suc n) = upto f n ++ f n

-- whatever follows from `pushed`, of a number below n and a text, has what is said of the number behind the text
abbrev pub Pushes : {A E : Type 0} → (MutBor (String A) → ℕ → Result (Unit {0}) E → MutBor (String A) → Type 0) → (ℕ → List ℕ) → ℕ → Type 0
Pushes {A} {E} pushed said n =
    (text : MutBor (String A)) (i : ℕ) (r : Result (Unit {0}) E) (after : MutBor (String A)) → i < n → pushed text i r after → OnOk r (string_bytes after.now ≡ string_bytes text.now ++ said i)
