-- Whether a refused sheet names readings where the refusal stands.
use Rattle.std.specs.Prelude.{ℕ, Bool, false, ◌&&◌, List, drop, codes, ◌==◌}
use Rattle.mark.specs.Runs.{same_bytes}
use Rattle.mark.specs.declared.cause.Cause.TheVariants.{NotDue}
use Rattle.policy.specs.declared.refusal.Refusal.{Refusal}
use Rattle.policy.specs.declared.refusal.Refusal.TheVariants.{Fault}
use Rattle.sheet.specs.Marks.{run_of}

-- another mark than the one due, on line 2 of block 1, at the name of the kind of readings
abbrev pub readings_named : List ℕ → Refusal → Bool
readings_named sheet (Fault NotDue place line block) =
    (line == 2) && (block == 1 && same_bytes (run_of (drop place sheet)) (codes "reading"))
readings_named sheet _ = false
