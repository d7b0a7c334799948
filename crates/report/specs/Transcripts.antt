-- The transcript of a replay: a line for the start, one for each command, and the closing state.
use Rattle.std.specs.Prelude.{ℕ, ◌+◌, Bool, cond, List, [], ◌∷◌, ◌++◌, codes, decimal}
use Rattle.theory.specs.Control.{ControlValue, display_of, next_of}
use Rattle.theory.specs.Flows.{Lockout}
use Rattle.theory.specs.Runs.{moved}
use Rattle.report.specs.Lines.{padded, upto}

-- the widths of the columns
abbrev pub step_width : ℕ
step_width = 5

abbrev pub command_width : ℕ
command_width = 9

abbrev pub effect_width : ℕ
effect_width = 8

abbrev pub state_width : ℕ
state_width = 7

abbrev pub console_width : ℕ
console_width = 12

-- one column for each console below n
abbrev pub columns : (ℕ → List ℕ) → ℕ → List ℕ
columns word n = upto (λ u. padded console_width (word u)) n

abbrev pub heading : ℕ → List ℕ
heading consoles =
    padded step_width (codes "step")
    ++ (padded command_width (codes "command")
    ++ (padded effect_width (codes "effect")
    ++ (padded state_width (codes "state")
    ++ (columns (λ u. codes "console " ++ decimal u) consoles ++ (10 ∷ [])))))

-- the end of a line: a state, and what each console shows there
abbrev pub state_columns : {D : Type 0} → (D → List ℕ) → ControlValue D → ℕ → List ℕ
state_columns mark v s = padded state_width (decimal s) ++ (columns (λ u. mark (display_of v s u)) v.consoles ++ (10 ∷ []))

-- a line: three words, the state, and what each console shows there
abbrev pub line : {D : Type 0} → (D → List ℕ) → ControlValue D → List ℕ → List ℕ → List ℕ → ℕ → List ℕ
line mark v step command effect s =
    padded step_width step
    ++ (padded command_width command
    ++ (padded effect_width effect
    ++ state_columns mark v s))

-- a locked command is shown as locked, and moves nothing
abbrev pub effect_of : Bool → List ℕ
effect_of locked = cond locked (codes "locked") (codes "given")

abbrev pub closing : ℕ → List ℕ
closing s = codes "closing state " ++ (decimal s ++ (10 ∷ []))

-- the lines of the commands from the one numbered i on, given at state s, and the closing state
abbrev pub lines : {D : Type 0} → (D → List ℕ) → ControlValue D → Lockout → ℕ → ℕ → List ℕ → List ℕ
lines mark v L i s [] = closing s
lines mark v L i s (c ∷ p) =
    line mark v (decimal i) (decimal c) (effect_of (L c)) (moved (next_of v) L s c) ++ lines mark v L (i + 1) (moved (next_of v) L s c) p

abbrev pub transcript_text : {D : Type 0} → (D → List ℕ) → ControlValue D → Lockout → List ℕ → List ℕ
transcript_text mark v L p = heading v.consoles ++ (line mark v (codes "start") [] [] v.start ++ lines mark v L 1 v.start p)
