-- The theorem is that of Decimals.
use Rattle.mark.proofs.Decimals.{number_in_decimal, decimal_alone}
use Rattle.mark.proofs.token.numbers_are_decimals.Goals as goal

pub returns : goal.returns
returns c = record { written = number_in_decimal; alone = decimal_alone }
