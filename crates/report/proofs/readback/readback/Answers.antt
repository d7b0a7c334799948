-- The four pieces of the readback, one after the other.
use Rattle.std.proofs.Common.{codes, rules}
use Rattle.std.specs.Prelude.{string_bytes}
use Rattle.report.proofs.Appending.{four_pieces}
use Rattle.report.proofs.readback.readback.Goals as goal

pub returns : goal.returns
returns c =
    four_pieces (string_bytes c.writeln.new.self) (string_bytes c.push_each.new.text) (string_bytes c.writeln-2.new.self) _ (codes "Permitted flows:\n") _ (codes "Seen from each console:\n") _
    (search rules) (search rules) (search rules) (search rules)
