-- What was read are digits; the number so far has no more digits than that, and with what is left it makes the whole number.
use Rattle.std.proofs.Common.{◌≡◌, ◌^◌, ◌<◌, drop}
use Rattle.mark.specs.Runs.{each, digit, number_after}
use Rattle.mark.proofs.token.number.Given as goal

abbrev pub invariant-loop-byte : goal.invariant-loop-byte
invariant-loop-byte l = (each digit l.run ≡ each digit (drop l.byte-index l.run)) × (number_after l.value (drop l.byte-index l.run) ≡ number_after 0 l.run) × (l.value < 10 ^ l.byte-index)
