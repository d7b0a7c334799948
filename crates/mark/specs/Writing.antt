-- The bytes of a mark that is being written.
use Rattle.std.specs.Prelude.{ℕ, List, take}
use Rattle.mark.specs.declared.writing.Mark.{Mark}

abbrev pub text_of : Mark → List ℕ
text_of m = take m.length m.bytes
