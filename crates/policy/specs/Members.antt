-- What a set of numbers holds.
use Rattle.std.specs.Prelude.{ℕ, Bool, ◌&&◌, ◌==◌, nat_lt}
use Rattle.std.specs.Int.{bit_at}
use Rattle.policy.specs.declared.members.Members.{Members}

-- bit k of n
abbrev pub bit : ℕ → ℕ → Bool
bit n k = bit_at n k == 1

-- a set has room for the numbers below 32
abbrev pub holds : Members → ℕ → Bool
holds m k = nat_lt k 32 && bit m.word k
