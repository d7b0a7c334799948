-- Words of std on the elements of a sequence, and equality of sequences as a test.
use Rattle.std.specs.Prelude.{ℕ, ◌<◌, Bool, List, nat_eq}
use Rattle.std.specs.Cmp.Lexicographic.{pointwise}
-- by recursion, and not by index as `All` of std is, since a link is taken apart one command at a time
pub use Rattle.std.specs.List.{AllByRecursion as Every, list_any as some_of}

-- a sequence of the commands below n
abbrev pub Below : ℕ → List ℕ → Type 0
Below n p = Every (λ c. c < n) p

abbrev pub same_sequence : List ℕ → List ℕ → Bool
same_sequence p q = pointwise nat_eq p q
