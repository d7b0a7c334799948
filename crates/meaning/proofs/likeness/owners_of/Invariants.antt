-- The commands passed so far have their consoles.
use Rattle.std.proofs.Common.{◌≡◌, length, map}
use Rattle.std.specs.List.{range_with_len}
use Rattle.theory.specs.Control.{owner_of}
use Rattle.meaning.proofs.likeness.owners_of.Given as goal

abbrev pub invariant-loop-command : goal.invariant-loop-command
invariant-loop-command g l =
    (length l.owners.items ≡ l.command) × (l.owners.items ≡ map (owner_of (g.C.Control.value l.control)) (range_with_len 0 l.command))
