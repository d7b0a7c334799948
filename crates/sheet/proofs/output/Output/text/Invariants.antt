-- The first bytes are written.
use Rattle.std.proofs.Common.{take}
use Rattle.sheet.specs.Written.{Writes}
use Rattle.sheet.proofs.output.Output.text.Given as goal

abbrev pub invariant-loop-byte : goal.invariant-loop-byte
invariant-loop-byte l = Writes l.initial.self (take l.byte-index l.bytes) l.self
