-- Flows and lockouts as yes/no answers for every number, and what each call does to them.
use Rattle.std.specs.Prelude.{◌≡◌, ℕ, ◌<◌, Bool, true, false, not, ◌&&◌, ◌||◌, ◌==◌, nat_lt}

-- A flow from u to v says that console u may affect console v. Nothing completes a list of
-- flows: from u to v and from v to w does not give from u to w.
abbrev pub Flow : Type 0
Flow = ℕ → ℕ → Bool

-- every console may affect itself
abbrev pub SelfFlows : ℕ → Flow → Type 0
SelfFlows consoles F = (u : ℕ) → u < consoles → F u u ≡ true

-- no flow names a console that there is not
abbrev pub FlowsWithin : ℕ → Flow → Type 0
FlowsWithin consoles F = (u v : ℕ) → F u v ≡ true → (u < consoles) × (v < consoles)

-- the flows of a bare board: each console to itself, and no other
abbrev pub bare_flows : ℕ → Flow
bare_flows consoles u v = u == v && nat_lt u consoles

abbrev pub this_flow : ℕ → ℕ → Flow
this_flow from to u v = u == from && v == to

abbrev pub with_flow : Flow → ℕ → ℕ → Flow
with_flow F from to u v = F u v || this_flow from to u v

abbrev pub without_flow : Flow → ℕ → ℕ → Flow
without_flow F from to u v = F u v && not (this_flow from to u v)

-- A locked command may still be given, and moves nothing.
abbrev pub Lockout : Type 0
Lockout = ℕ → Bool

-- no lockout names a command that there is not
abbrev pub LocksWithin : ℕ → Lockout → Type 0
LocksWithin commands L = (c : ℕ) → L c ≡ true → c < commands

abbrev pub no_lockout : Lockout
no_lockout c = false

abbrev pub with_lock : Lockout → ℕ → Lockout
with_lock L command c = L c || c == command

abbrev pub without_lock : Lockout → ℕ → Lockout
without_lock L command c = L c && not (c == command)
