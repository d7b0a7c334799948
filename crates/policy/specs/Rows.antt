-- What a row of sets for each console says: whether one console may affect another.
use Rattle.std.specs.Prelude.{List, slice_index_or}
use Rattle.theory.specs.Flows.{Flow}
use Rattle.policy.specs.Members.{holds}
use Rattle.policy.specs.declared.members.Members.{Members}

abbrev pub nobody : Members
nobody = record { word = 0 }

abbrev pub affects : List Members → Flow
affects rows u v = holds (slice_index_or rows u nobody) v
