-- What is read of a count or a number is in range.
use Rattle.std.specs.Prelude.{◌≡◌, ℕ, ◌<◌, ◌≤◌}
use Rattle.std.proofs.Common.{arith}
use Rattle.std.proofs.lemmas.Bool.Decides.{nat_tests}
use Rattle.theory.specs.Limits.{Count, count_read, number_read}

pub count_read_counts : (most n : ℕ) → 1 ≤ most → Count most (count_read most n)
count_read_counts most n some = (grind (arith, nat_tests), grind (arith, nat_tests))

pub number_read_below : (count n : ℕ) → 1 ≤ count → number_read count n < count
number_read_below count n some = grind (arith, nat_tests)

-- a number in range is read as it is
pub number_within : (count n : ℕ) → n < count → number_read count n ≡ n
number_within count n h = grind (arith, nat_tests)
