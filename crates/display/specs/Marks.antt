-- Which bytes a mark may hold.
use Rattle.std.specs.Prelude.{ℕ, Bool, not, ◌&&◌, ◌==◌, nat_lt}

-- neither blank nor newline
abbrev pub mark_byte : ℕ → Bool
mark_byte b = nat_lt b 256 && (not (b == 32) && not (b == 10))
