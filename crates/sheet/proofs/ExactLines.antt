-- One line of a sheet, read exactly: titles, the counts, rows of numbers with a value, and flows.
use Rattle.std.proofs.Common.{◌≡◌, ℕ, ◌+◌, ◌-◌, ◌*◌, ◌/◌, ◌%◌, ◌<◌, ◌≤◌, Bool, true, false, ◌&&◌, List, [], ◌∷◌, ◌++◌, drop, Ok, decimal, Result, sym, refl, ap, ◌∙◌, subst, append_assoc, arith}
use Rattle.std.proofs.lemmas.Nat.{div-mul-add, mod-mul-add, mul-add-lt, div_below, mod_below, div-add-mod'}
use Rattle.std.proofs.lemmas.Bool.{and_parts, false≢true}
use Rattle.mark.specs.Runs.{is_name}
use Rattle.mark.specs.declared.cause.Cause.{Cause}
use Rattle.theory.specs.Limits.{Count, most_states, most_commands, most_consoles}
use Rattle.sheet.specs.Faults.{on}
use Rattle.sheet.specs.Marks.{blank, newline, item_at, number_reads, exact_reads, name_reads}
use Rattle.sheet.specs.Text.{line_of}
use Rattle.sheet.specs.Reading.{Counted, names_at, exacts_at, row_at, counts_at, flow_at}
use Rattle.sheet.proofs.ExactItems.{on_ok, ok_same, ok_pair}
use Rattle.sheet.proofs.ExactDues.{Due, due_read, due_known, number_due, exact_due, name_due}

-- a reader of the sheet from a place on reads just the texts of the values that are `due`
pub record Exactly {A F : Type 0} (sheet : List ℕ) (R : ℕ → Result (A × ℕ) F) (due : A → Type 0) (text : A → List ℕ) : Type 0 where
  pub reads : (x : A) → due x → (i : ℕ) (more : List ℕ) → drop i sheet ≡ text x ++ more → (j : ℕ) × (R i ≡ Ok (x, j)) × (drop j sheet ≡ more)
  pub knows : (i j : ℕ) (x : A) → R i ≡ Ok (x, j) → due x × (drop i sheet ≡ text x ++ drop j sheet)

-- the words of a title are names, at least one
abbrev pub all_names : List (List ℕ) → Bool
all_names [] = false
all_names (w ∷ []) = is_name w
all_names (w ∷ (x ∷ ws)) = is_name w && all_names (x ∷ ws)

module _ (sheet : List ℕ) where
  pub names_complete : (ws : List (List ℕ)) → all_names ws ≡ true → (i : ℕ) (more : List ℕ) → drop i sheet ≡ line_of ws ++ more → (j : ℕ) × (names_at ws sheet i ≡ Ok j) × (drop j sheet ≡ more)
  names_complete [] n i more e = absurd (false≢true n)
  names_complete (w ∷ []) n i more e =
      let d = due_read (name_due w n) newline sheet i tt tt refl more (e ∙ append_assoc w (newline ∷ []) more) in
      (d.0, rw d.1, d.2)
  names_complete (w ∷ (x ∷ ws)) n i more e =
      let p = and_parts (is_name w) (all_names (x ∷ ws)) n in
      let d = due_read (name_due w p.0) blank sheet i tt tt refl (line_of (x ∷ ws) ++ more) (e ∙ append_assoc w (blank ∷ line_of (x ∷ ws)) more) in
      let r = names_complete (x ∷ ws) p.1 d.0 more d.2 in
      (r.0, rw d.1 r.1, r.2)

  pub names_sound : (ws : List (List ℕ)) → all_names ws ≡ true → (i j : ℕ) → names_at ws sheet i ≡ Ok j → drop i sheet ≡ line_of ws ++ drop j sheet
  names_sound [] n i j e = absurd (false≢true n)
  names_sound (w ∷ []) n i j e =
      let y = on_ok (item_at (name_reads w) newline sheet i) _ j e in
      (due_known (name_due w n) newline sheet i y.0.0 y.0.1 y.1).1
      ∙ ap (λ k. w ++ (newline ∷ drop k sheet)) (ok_same y.0.1 j y.2)
      ∙ sym (append_assoc w (newline ∷ []) (drop j sheet))
  names_sound (w ∷ (x ∷ ws)) n i j e =
      let p = and_parts (is_name w) (all_names (x ∷ ws)) n in
      let y = on_ok (item_at (name_reads w) blank sheet i) _ j e in
      (due_known (name_due w p.0) blank sheet i y.0.0 y.0.1 y.1).1
      ∙ ap (λ l. w ++ (blank ∷ l)) (names_sound (x ∷ ws) p.1 y.0.1 j y.2)
      ∙ sym (append_assoc w (blank ∷ line_of (x ∷ ws)) (drop j sheet))

-- the line of a row that begins with given numbers, and ends with a text
abbrev pub row_line : List ℕ → List ℕ → List ℕ
row_line [] t = t ++ (newline ∷ [])
row_line (n ∷ ns) t = decimal n ++ (blank ∷ row_line ns t)

-- each number has a decimal text that is read
abbrev pub Small : List ℕ → Type 0
Small [] = Unit
Small (n ∷ ns) = (n < 100000) × Small ns

module _ {A : Type 0} {reads : List ℕ → Result A Cause} {due : A → Type 0} {text : A → List ℕ} (d : Due reads due text) (sheet : List ℕ) where
  row_complete : (ns : List ℕ) → Small ns → (x : A) → due x → (i : ℕ) (more : List ℕ) → drop i sheet ≡ row_line ns (text x) ++ more → (j : ℕ) × (row_at ns reads sheet i ≡ Ok (x, j)) × (drop j sheet ≡ more)
  row_complete [] small x h i more e = due_read d newline sheet i x h refl more (e ∙ append_assoc (text x) (newline ∷ []) more)
  row_complete (n ∷ ns) small x h i more e =
      let f = due_read (exact_due n small.0) blank sheet i n refl refl (row_line ns (text x) ++ more) (e ∙ append_assoc (decimal n) (blank ∷ row_line ns (text x)) more) in
      let r = row_complete ns small.1 x h f.0 more f.2 in
      (r.0, rw f.1 r.1, r.2)

  row_sound : (ns : List ℕ) → Small ns → (i j : ℕ) (x : A) → row_at ns reads sheet i ≡ Ok (x, j) → due x × (drop i sheet ≡ row_line ns (text x) ++ drop j sheet)
  row_sound [] small i j x e =
      let k = due_known d newline sheet i x j e in
      (k.0, k.1 ∙ sym (append_assoc (text x) (newline ∷ []) (drop j sheet)))
  row_sound (n ∷ ns) small i j x e =
      let y = on_ok (exacts_at (n ∷ ns) sheet i) (item_at reads newline sheet) (x, j) e in
      let z = on_ok (item_at (exact_reads n) blank sheet i) (λ a. exacts_at ns sheet a.1) y.0 y.1 in
      let k = due_known (exact_due n small.0) blank sheet i z.0.0 z.0.1 z.1 in
      let r = row_sound ns small.1 z.0.1 j x (ap (λ a. on a (item_at reads newline sheet)) z.2 ∙ y.2) in (
        r.0,
        k.1
            ∙ ap (λ a. decimal a ++ (blank ∷ drop z.0.1 sheet)) k.0
            ∙ ap (λ l. decimal n ++ (blank ∷ l)) r.1
            ∙ sym (append_assoc (decimal n) (blank ∷ row_line ns (text x)) (drop j sheet)),
      )

  pub row_exactly : (ns : List ℕ) → Small ns → Exactly sheet (row_at ns reads sheet) due (λ x. row_line ns (text x))
  row_exactly ns small = record { reads = row_complete ns small; knows = row_sound ns small }

-- the counts and the start of a control
abbrev pub CountsDue : Counted → Type 0
CountsDue c = Count most_states c.states × Count most_commands c.commands × Count most_consoles c.consoles × (c.start < c.states)

abbrev pub counts_line : List ℕ → Counted → List ℕ
counts_line kind c = line_of (decimal c.states ∷ (decimal c.commands ∷ (decimal c.consoles ∷ (decimal c.start ∷ (kind ∷ [])))))

module _ (kind : List ℕ) (named : is_name kind ≡ true) (sheet : List ℕ) where
  states_due : Due (number_reads 1 most_states) (λ n. (1 ≤ n) × (n ≤ most_states)) decimal
  states_due = number_due 1 most_states (omega arith)

  commands_due : Due (number_reads 1 most_commands) (λ n. (1 ≤ n) × (n ≤ most_commands)) decimal
  commands_due = number_due 1 most_commands (omega arith)

  consoles_due : Due (number_reads 1 most_consoles) (λ n. (1 ≤ n) × (n ≤ most_consoles)) decimal
  consoles_due = number_due 1 most_consoles (omega arith)

  start_due : (n : ℕ) → n ≤ most_states → Due (number_reads 0 (n - 1)) (λ s. (0 ≤ s) × (s ≤ n - 1)) decimal
  start_due n h = number_due 0 (n - 1) (omega arith)

  counts_complete : (c : Counted) → CountsDue c → (i : ℕ) (more : List ℕ) → drop i sheet ≡ counts_line kind c ++ more → (j : ℕ) × (counts_at kind sheet i ≡ Ok (c, j)) × (drop j sheet ≡ more)
  counts_complete c h i more e =
      let below : c.start ≤ c.states - 1 = omega (arith, h.3) in
      let fifth : List ℕ = line_of (kind ∷ []) in
      let fourth : List ℕ = decimal c.start ++ (blank ∷ fifth) in
      let third : List ℕ = decimal c.consoles ++ (blank ∷ fourth) in
      let second : List ℕ = decimal c.commands ++ (blank ∷ third) in
      let n = due_read states_due blank sheet i c.states h.0 refl (second ++ more) (e ∙ append_assoc (decimal c.states) (blank ∷ second) more) in
      let m = due_read commands_due blank sheet n.0 c.commands h.1 refl (third ++ more) (n.2 ∙ append_assoc (decimal c.commands) (blank ∷ third) more) in
      let k = due_read consoles_due blank sheet m.0 c.consoles h.2 refl (fourth ++ more) (m.2 ∙ append_assoc (decimal c.consoles) (blank ∷ fourth) more) in
      let s = due_read (start_due c.states h.0.1) blank sheet k.0 c.start (omega arith, below) refl (fifth ++ more) (k.2 ∙ append_assoc (decimal c.start) (blank ∷ fifth) more) in
      let y = due_read (name_due kind named) newline sheet s.0 tt tt refl more (s.2 ∙ append_assoc kind (newline ∷ []) more) in
      (y.0, rw (n.1, m.1, k.1, s.1, y.1), y.2)

  counts_sound : (i j : ℕ) (c : Counted) → counts_at kind sheet i ≡ Ok (c, j) → CountsDue c × (drop i sheet ≡ counts_line kind c ++ drop j sheet)
  counts_sound i j c e =
      let n = on_ok (item_at (number_reads 1 most_states) blank sheet i) _ (c, j) e in
      let m = on_ok (item_at (number_reads 1 most_commands) blank sheet n.0.1) _ (c, j) n.2 in
      let k = on_ok (item_at (number_reads 1 most_consoles) blank sheet m.0.1) _ (c, j) m.2 in
      let s = on_ok (item_at (number_reads 0 (n.0.0 - 1)) blank sheet k.0.1) _ (c, j) k.2 in
      let y = on_ok (item_at (name_reads kind) newline sheet s.0.1) _ (c, j) s.2 in
      let p = ok_same _ (c, j) y.2 in
      let states = due_known states_due blank sheet i n.0.0 n.0.1 n.1 in
      let first : Counted = record { states = n.0.0; commands = m.0.0; consoles = k.0.0; start = s.0.0 } in
      let all = told first n.0.1 m.0.1 k.0.1 s.0.1 y.0.1
      states
      (due_known commands_due blank sheet n.0.1 m.0.0 m.0.1 m.1)
      (due_known consoles_due blank sheet m.0.1 k.0.0 k.0.1 k.1)
      (due_known (start_due n.0.0 states.0.1) blank sheet k.0.1 s.0.0 s.0.1 s.1)
      (due_known (name_due kind named) newline sheet s.0.1 y.0.0 y.0.1 y.1).1 in
      subst (λ (a : Counted × ℕ). CountsDue a.0 × (drop i sheet ≡ counts_line kind a.0 ++ drop a.1 sheet)) p all
    where
      told : (c : Counted) (i1 i2 i3 i4 i5 : ℕ)
          → ((1 ≤ c.states) × (c.states ≤ most_states)) × (drop i sheet ≡ decimal c.states ++ (blank ∷ drop i1 sheet))
          → ((1 ≤ c.commands) × (c.commands ≤ most_commands)) × (drop i1 sheet ≡ decimal c.commands ++ (blank ∷ drop i2 sheet))
          → ((1 ≤ c.consoles) × (c.consoles ≤ most_consoles)) × (drop i2 sheet ≡ decimal c.consoles ++ (blank ∷ drop i3 sheet))
          → ((0 ≤ c.start) × (c.start ≤ c.states - 1)) × (drop i3 sheet ≡ decimal c.start ++ (blank ∷ drop i4 sheet))
          → drop i4 sheet ≡ kind ++ (newline ∷ drop i5 sheet)
          → CountsDue c × (drop i sheet ≡ counts_line kind c ++ drop i5 sheet)
      told c i1 i2 i3 i4 i5 n m k s y =
          let fifth : List ℕ = line_of (kind ∷ []) in
          let fourth : List ℕ = decimal c.start ++ (blank ∷ fifth) in
          let third : List ℕ = decimal c.consoles ++ (blank ∷ fourth) in
          let second : List ℕ = decimal c.commands ++ (blank ∷ third) in
          let e5 : drop i4 sheet ≡ fifth ++ drop i5 sheet = y ∙ sym (append_assoc kind (newline ∷ []) (drop i5 sheet)) in
          let e4 : drop i3 sheet ≡ fourth ++ drop i5 sheet = s.1 ∙ ap (λ l. decimal c.start ++ (blank ∷ l)) e5 ∙ sym (append_assoc (decimal c.start) (blank ∷ fifth) (drop i5 sheet)) in
          let e3 : drop i2 sheet ≡ third ++ drop i5 sheet = k.1 ∙ ap (λ l. decimal c.consoles ++ (blank ∷ l)) e4 ∙ sym (append_assoc (decimal c.consoles) (blank ∷ fourth) (drop i5 sheet)) in
          let e2 : drop i1 sheet ≡ second ++ drop i5 sheet = m.1 ∙ ap (λ l. decimal c.commands ++ (blank ∷ l)) e3 ∙ sym (append_assoc (decimal c.commands) (blank ∷ third) (drop i5 sheet)) in
          ((n.0, m.0, k.0, omega (arith, s.0.1, n.0.0)), n.1 ∙ ap (λ l. decimal c.states ++ (blank ∷ l)) e2 ∙ sym (append_assoc (decimal c.states) (blank ∷ second) (drop i5 sheet)))

  pub counts_exactly : Exactly sheet (counts_at kind sheet) CountsDue (counts_line kind)
  counts_exactly = record { reads = counts_complete; knows = counts_sound }

-- the line of a pair of k consoles
abbrev pub flow_line : ℕ → ℕ → List ℕ
flow_line k p = line_of (decimal (p / k) ∷ (decimal (p % k) ∷ []))

module _ (k : ℕ) (counts : Count most_consoles k) (sheet : List ℕ) where
  console_due : Due (number_reads 0 (k - 1)) (λ s. (0 ≤ s) × (s ≤ k - 1)) decimal
  console_due = number_due 0 (k - 1) (omega (arith, counts.1))

  flow_complete : (p : ℕ) → p < k * k → (i : ℕ) (more : List ℕ) → drop i sheet ≡ flow_line k p ++ more → (j : ℕ) × (flow_at k sheet i ≡ Ok (p, j)) × (drop j sheet ≡ more)
  flow_complete p h i more e =
      let from : p / k < k = div_below p k k counts.0 h in
      let to : p % k < k = mod_below p k counts.0 in
      let last : List ℕ = line_of (decimal (p % k) ∷ []) in
      let u = due_read console_due blank sheet i (p / k) (omega arith, omega arith) refl (last ++ more) (e ∙ append_assoc (decimal (p / k)) (blank ∷ last) more) in
      let v = due_read console_due newline sheet u.0 (p % k) (omega arith, omega arith) refl more (u.2 ∙ append_assoc (decimal (p % k)) (newline ∷ []) more) in
      (v.0, rw (u.1, v.1) (ap (λ q. Ok (q, v.0)) (div-add-mod' p k)), v.2)

  flow_sound : (i j p : ℕ) → flow_at k sheet i ≡ Ok (p, j) → (p < k * k) × (drop i sheet ≡ flow_line k p ++ drop j sheet)
  flow_sound i j p e =
      let u = on_ok (item_at (number_reads 0 (k - 1)) blank sheet i) _ (p, j) e in
      let v = on_ok (item_at (number_reads 0 (k - 1)) newline sheet u.0.1) _ (p, j) u.2 in
      told u.0.0 v.0.0 u.0.1 v.0.1 (due_known console_due blank sheet i u.0.0 u.0.1 u.1) (due_known console_due newline sheet u.0.1 v.0.0 v.0.1 v.1) (ok_pair (u.0.0 * k + v.0.0) p v.0.1 j v.2)
    where
      told : (a b i2 i3 : ℕ) → ((0 ≤ a) × (a ≤ k - 1)) × (drop i sheet ≡ decimal a ++ (blank ∷ drop i2 sheet)) → ((0 ≤ b) × (b ≤ k - 1)) × (drop i2 sheet ≡ decimal b ++ (newline ∷ drop i3 sheet)) → (a * k + b ≡ p) × (i3 ≡ j) → (p < k * k) × (drop i sheet ≡ flow_line k p ++ drop j sheet)
      told a b i2 i3 u v q =
          let a_small : a < k = omega (arith, u.0.1, counts.0) in
          let b_small : b < k = omega (arith, v.0.1, counts.0) in
          let from : a ≡ p / k = sym (div-mul-add a k b b_small) ∙ ap (λ n. n / k) q.0 in
          let to : b ≡ p % k = sym (mod-mul-add a k b b_small) ∙ ap (λ n. n % k) q.0 in (
            omega (arith, mul-add-lt a k b k a_small b_small, q.0),
            u.1
                ∙ ap (λ n. decimal n ++ (blank ∷ drop i2 sheet)) from
                ∙ ap (λ l. decimal (p / k) ++ (blank ∷ l)) (v.1 ∙ ap (λ n. decimal n ++ (newline ∷ drop i3 sheet)) to ∙ ap (λ n. decimal (p % k) ++ (newline ∷ drop n sheet)) q.1 ∙ sym (append_assoc (decimal (p % k)) (newline ∷ []) (drop j sheet)))
                ∙ sym (append_assoc (decimal (p / k)) (blank ∷ line_of (decimal (p % k) ∷ [])) (drop j sheet)),
          )

  pub flow_exactly : Exactly sheet (flow_at k sheet) (λ p. p < k * k) (flow_line k)
  flow_exactly = record { reads = flow_complete; knows = flow_sound }
