-- How long a sheet of a control can be.
use Rattle.std.proofs.Common.{◌≡◌, ℕ, zero, suc, ◌+◌, ◌*◌, ◌/◌, ◌%◌, ◌<◌, ◌≤◌, true, List, [], ◌∷◌, ◌++◌, length, decimal, arith}
use Rattle.std.proofs.lemmas.Nat.{div_below, mod_below, mul-le}
use Rattle.std.proofs.lemmas.Fmt.{length-decimal-le}
use Rattle.std.proofs.lemmas.List.{length-append}
use Rattle.mark.specs.Runs.{is_name}
use Rattle.theory.specs.Limits.{Count, most_consoles}
use Rattle.theory.specs.Control.{ControlValue, Lawful}
use Rattle.theory.specs.Flows.{Flow}
use Rattle.sheet.specs.Plan.{Row, title, owner, step, shown, tabulate, counts_title, owners_title, steps_title, displays_title, flows_title, plan}
use Rattle.sheet.specs.Text.{line_of, row_text, rows_text, counts_text, flows_text, flow_pairs, sheet_text}
use Rattle.sheet.specs.Reading.{Counted}
use Rattle.sheet.specs.Exact.{SheetsFit, most_bytes}
use Rattle.sheet.proofs.ExactDues.{name_marks}
use Rattle.sheet.proofs.ExactFlows.{ListedFrom, pairs_listed}
use Rattle.sheet.proofs.ExactSheets.{names_of, counts_of, displays_on, steps_on}

two_words : (a b : List ℕ) → length (line_of (a ∷ (b ∷ []))) ≡ length a + length b + 2
two_words a b = simp length-append (omega arith)

three_words : (a b c : List ℕ) → length (line_of (a ∷ (b ∷ (c ∷ [])))) ≡ length a + length b + length c + 3
three_words a b c = simp length-append (omega arith)

two_digits : (n : ℕ) → n < 100 → length (decimal n) ≤ 2
two_digits n h = length-decimal-le 2 n (omega arith) h (omega arith)

module _ {D : Type 0} (kind : List ℕ) (mark : D → List ℕ) (v : ControlValue D) where
  rows_length : (f : ℕ → Row) (b : ℕ) (rest : List Row) (a n : ℕ) → ((r : ℕ) → r < a + n → length (row_text kind mark v (f r)) ≤ b)
      → length (rows_text kind mark v (tabulate a n f ++ rest)) ≤ n * b + length (rows_text kind mark v rest)
  rows_length f b rest a zero h = omega arith
  rows_length f b rest a (suc n) h =
      omega (arith, length-append (row_text kind mark v (f a)) (rows_text kind mark v (tabulate (a + 1) n f ++ rest)), h a (omega arith), rows_length f b rest (a + 1) n (λ r l. h r (omega arith)))

  -- a block: the names of its columns and n rows of at most b bytes each
  block_length : (t : ℕ) (ws : List (List ℕ)) (f : ℕ → Row) (b n : ℕ) (rest : List Row) → ((r : ℕ) → r < n → length (row_text kind mark v (f r)) ≤ b)
      → length (rows_text kind mark v (title t ws ∷ (tabulate 0 n f ++ rest))) ≤ length (line_of ws) + n * b + length (rows_text kind mark v rest)
  block_length t ws f b n rest h =
      omega (arith, length-append (line_of ws) (rows_text kind mark v (tabulate 0 n f ++ rest)), rows_length f b rest 0 n (λ r l. h r (omega (arith, l))))

-- flows listed in order are no more than the pairs that are left
flows_length : (k low : ℕ) → Count most_consoles k → low ≤ k * k → (ps : List ℕ) → ListedFrom k low ps → length (flows_text k ps) + low * 6 ≤ k * k * 6
flows_length k low c h [] l = omega arith
flows_length k low c h (p ∷ ps) l =
    let from = two_digits (p / k) (omega (arith, c.1, div_below p k k c.0 l.1)) in
    let to = two_digits (p % k) (omega (arith, c.1, mod_below p k c.0)) in
    omega (arith, length-append (line_of (decimal (p / k) ∷ (decimal (p % k) ∷ []))) (flows_text k ps), two_words (decimal (p / k)) (decimal (p % k)), from, to, l.0, flows_length k (p + 1) c (omega (arith, l.1)) ps l.3)

module _ {D : Type 0} (kind : List ℕ) (mark : D → List ℕ) (named : is_name kind ≡ true) (short : (x : D) → length (mark x) ≤ 8) (v : ControlValue D) (lawful : Lawful v) where
  state_digits : (s : ℕ) → s < v.states → length (decimal s) ≤ 2
  state_digits s h = two_digits s (omega (arith, lawful.states_count.1))

  command_digits : (c : ℕ) → c < v.commands → length (decimal c) ≤ 2
  command_digits c h = two_digits c (omega (arith, lawful.commands_count.1))

  console_digits : (u : ℕ) → u < v.consoles → length (decimal u) ≤ 2
  console_digits u h = two_digits u (omega (arith, lawful.consoles_count.1))

  owner_length : (c : ℕ) → c < v.commands → length (row_text kind mark v (owner c)) ≤ 6
  owner_length c h = omega (arith, two_words (decimal c) (decimal (v.owner c)), command_digits c h, console_digits (v.owner c) (lawful.owned c h))

  step_length : (r : ℕ) → r < v.states * v.commands → length (row_text kind mark v (step (r / v.commands) (r % v.commands))) ≤ 9
  step_length r h =
      let s : ℕ = r / v.commands in
      let c : ℕ = r % v.commands in
      let row : s < v.states = div_below r v.commands v.states lawful.commands_count.0 h in
      let column : c < v.commands = mod_below r v.commands lawful.commands_count.0 in
      omega (arith, three_words (decimal s) (decimal c) (decimal (v.step s c)), state_digits s row, command_digits c column, state_digits (v.step s c) (lawful.stays s c row column))

  shown_length : (r : ℕ) → r < v.states * v.consoles → length (row_text kind mark v (shown (r / v.consoles) (r % v.consoles))) ≤ 15
  shown_length r h =
      let s : ℕ = r / v.consoles in
      let u : ℕ = r % v.consoles in
      let row : s < v.states = div_below r v.consoles v.states lawful.consoles_count.0 h in
      let column : u < v.consoles = mod_below r v.consoles lawful.consoles_count.0 in
      omega (arith, three_words (decimal s) (decimal u) (mark (v.shows s u)), state_digits s row, console_digits u column, short (v.shows s u))

  counts_length : length (counts_text kind mark v) ≤ 22
  counts_length =
      let states = length-decimal-le 3 v.states (omega arith) (omega (arith, lawful.states_count.1)) (omega (arith, lawful.states_count.1)) in
      let commands = two_digits v.commands (omega (arith, lawful.commands_count.1)) in
      let consoles = two_digits v.consoles (omega (arith, lawful.consoles_count.1)) in
      simp length-append (omega (arith, states, commands, consoles, state_digits v.start lawful.starts, (name_marks kind named).2))

  plan_length : length (rows_text kind mark v (plan v.states v.commands v.consoles)) ≤ 39809
  plan_length =
      let c : Counted = counts_of v in
      added
      (block_length kind mark v 2 (names_of owners_title) owner 6 v.commands (steps_title ∷ steps_on c) owner_length)
      (block_length kind mark v 3 (names_of steps_title) (λ r. step (r / v.commands) (r % v.commands)) 9 (v.states * v.commands) (displays_title ∷ displays_on c) step_length)
      (block_length kind mark v 4 (names_of displays_title) (λ r. shown (r / v.consoles) (r % v.consoles)) 15 (v.states * v.consoles) (flows_title ∷ []) shown_length)
    where
      added : {a b c : ℕ} → a ≤ 16 + v.commands * 6 + b → b ≤ 19 + v.states * v.commands * 9 + c → c ≤ 22 + v.states * v.consoles * 15 + 8 → a ≤ 39809
      added owners steps displays =
          omega (arith, lawful.commands_count.1, mul-le v.states v.commands 100 24 lawful.states_count.1 lawful.commands_count.1, mul-le v.states v.consoles 100 12 lawful.states_count.1 lawful.consoles_count.1)

  text_length : (F : Flow) → length (sheet_text kind mark v F) ≤ most_bytes
  text_length F =
      let k : ℕ = v.consoles in
      let flows : List ℕ = flows_text k (flow_pairs k F) in
      let rows : List ℕ = rows_text kind mark v (plan v.states v.commands k) in
      added (length flows)
      (length-append (row_text kind mark v counts_title) (counts_text kind mark v ++ (rows ++ flows)))
      (length-append (counts_text kind mark v) (rows ++ flows))
      (length-append rows flows)
      (flows_length k 0 lawful.consoles_count (omega arith) (flow_pairs k F) (pairs_listed k F))
    where
      added : {a b d : ℕ} (f : ℕ) → a ≡ 39 + b → b ≡ length (counts_text kind mark v) + d → d ≡ length (rows_text kind mark v (plan v.states v.commands v.consoles)) + f → f + 0 * 6 ≤ v.consoles * v.consoles * 6 → a ≤ most_bytes
      added f titles counts rows flows = omega (arith, counts_length, plan_length, mul-le v.consoles v.consoles 12 12 lawful.consoles_count.1 lawful.consoles_count.1)

pub all_fit : {D : Type 0} (kind : List ℕ) (mark : D → List ℕ) → is_name kind ≡ true → ((x : D) → length (mark x) ≤ 8) → SheetsFit kind mark
all_fit kind mark named short v F lawful = text_length kind mark named short v lawful F
