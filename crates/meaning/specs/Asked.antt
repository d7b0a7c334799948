-- What a meaning answers for any numbers handed in: its value where all are in range, and no elsewhere.
use Rattle.std.specs.Prelude.{ℕ, Bool, ◌&&◌, List, length, nat_le, nat_lt, slice_index}
use Rattle.theory.specs.Flows.{Flow}
use Rattle.theory.specs.Runs.{all_below}
use Rattle.links.specs.Meaning.{MeaningValue}

-- the most commands of a sequence that is compared
abbrev pub most_compared : ℕ
most_compared = 64

-- m is the meaning, k the number of consoles and F the flows among them
module _ (m : MeaningValue) (k : ℕ) (F : Flow) where
  abbrev pub may_drop : ℕ → ℕ → Bool
  may_drop u v = nat_lt u k && (nat_lt v k && m.drop F u v)

  abbrev pub may_follow_drop : ℕ → ℕ → ℕ → Bool
  may_follow_drop u v z = nat_lt u k && (nat_lt v k && (nat_lt z k && m.after_drop F u v z))

  abbrev pub may_exchange : ℕ → ℕ → ℕ → Bool
  may_exchange u v w = nat_lt u k && (nat_lt v k && (nat_lt w k && m.exchange F u v w))

  abbrev pub may_follow_exchange : ℕ → ℕ → ℕ → ℕ → Bool
  may_follow_exchange u v w z = nat_lt u k && (nat_lt v k && (nat_lt w k && (nat_lt z k && m.after_exchange F u v w z)))

-- a sequence that can be compared: of commands below n, and of at most 64
abbrev pub comparable : ℕ → List ℕ → Bool
comparable n p = nat_le (length p) most_compared && all_below n p

-- `owners` has the console of each command, so that there are as many commands as entries
abbrev pub owner_in : List ℕ → ℕ → ℕ
owner_in owners c = slice_index owners c

abbrev pub alike_asked : MeaningValue → ℕ → Flow → List ℕ → ℕ → List ℕ → List ℕ → Bool
alike_asked m k F owners u p q =
    nat_lt u k && (all_below k owners && (comparable (length owners) p && (comparable (length owners) q && m.alike F (owner_in owners) u p q)))
