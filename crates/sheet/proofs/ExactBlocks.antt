-- The rows of a block, read exactly: a title, and a run of rows numbered from a row on.
use Rattle.std.proofs.Common.{◌≡◌, ℕ, zero, suc, ◌+◌, ◌<◌, ◌≤◌, true, List, [], ◌∷◌, ◌++◌, length, drop, Ok, Err, Result, sym, refl, ap, ◌∙◌, append_assoc, arith}
use Rattle.std.specs.List.{All}
use Rattle.std.proofs.lemmas.List.Elements.{All-nil, All-cons, All-head, All-tail}
use Rattle.mark.specs.declared.cause.Cause.{Cause}
use Rattle.sheet.specs.Faults.{on, on_line}
use Rattle.sheet.specs.Plan.{Row, title, tabulate, block_of}
use Rattle.sheet.specs.Text.{line_of}
use Rattle.sheet.specs.Reading.{Counted, Entries, Value, nothing, with_value, names_at, value_at, rows_at}
use Rattle.sheet.specs.declared.fault.MarkFault.{MarkFault}
use Rattle.sheet.proofs.ExactItems.{on_ok, ok_pair}
use Rattle.sheet.proofs.ExactLines.{Exactly, all_names, names_complete, names_sound}

-- the lines of the values of rows a, a + 1 and so on
abbrev pub lines_from : {X : Type 0} → (ℕ → X → List ℕ) → ℕ → List X → List ℕ
lines_from text a [] = []
lines_from text a (x ∷ xs) = text a x ++ lines_from text (a + 1) xs

-- values in front of the entries of the rows behind them
abbrev pub added : {D X : Type 0} → (X → Value D) → List X → Entries D → Entries D
added put [] e = e
added put (x ∷ xs) e = with_value (put x) (added put xs e)

pub on_line_ok : {A : Type 0} (line block : ℕ) (r : Result A MarkFault) (x : A) → on_line line block r ≡ Ok x → r ≡ Ok x
on_line_ok line block (Ok y) x e = cc
on_line_ok line block (Err f) x e = grind arith

module _ {D : Type 0} (reads : List ℕ → Result D Cause) (c : Counted) (sheet : List ℕ) where
  -- rows f 0 to f (n - 1) are read as just the values that are due there
  pub record Rowed {X : Type 0} (f : ℕ → Row) (put : X → Value D) (due : X → Type 0) (text : ℕ → X → List ℕ) (n : ℕ) : Type 0 where
    pub reads_row : (r : ℕ) → r < n → (x : X) → due x → (i : ℕ) (more : List ℕ) → drop i sheet ≡ text r x ++ more → (j : ℕ) × (value_at reads c sheet (f r) i ≡ Ok (put x, j)) × (drop j sheet ≡ more)
    pub knows_row : (r : ℕ) → r < n → (i j : ℕ) (w : Value D) → value_at reads c sheet (f r) i ≡ Ok (w, j) → (x : X) × (put x ≡ w) × due x × (drop i sheet ≡ text r x ++ drop j sheet)

  -- a row that reads a value and puts it
  module _ {X : Type 0} (put : X → Value D) (R : ℕ → Result (X × ℕ) MarkFault) {due : X → Type 0} {text : X → List ℕ} (exact : Exactly sheet R due text) where
    abbrev pub putting : ℕ → Result (Value D × ℕ) MarkFault
    putting i = on (R i) (λ y. Ok (put y.0, y.1))

    pub putting_reads : (x : X) → due x → (i : ℕ) (more : List ℕ) → drop i sheet ≡ text x ++ more → (j : ℕ) × (putting i ≡ Ok (put x, j)) × (drop j sheet ≡ more)
    putting_reads x h i more e =
        let r = exact.reads x h i more e in
        (r.0, ap (λ a. on a (λ y. Ok (put y.0, y.1))) r.1, r.2)

    pub putting_knows : (i j : ℕ) (w : Value D) → putting i ≡ Ok (w, j) → (x : X) × (put x ≡ w) × due x × (drop i sheet ≡ text x ++ drop j sheet)
    putting_knows i j w e =
        let y = on_ok (R i) (λ y. Ok (put y.0, y.1)) (w, j) e in
        let p = ok_pair (put y.0.0) w y.0.1 j y.2 in
        let k = exact.knows i y.0.1 y.0.0 y.1 in
        (y.0.0, p.0, k.0, k.1 ∙ ap (λ a. text y.0.0 ++ drop a sheet) p.1)

  -- how reading goes on from a place where `more` stands
  abbrev pub GoesOn : List Row → Entries D → List ℕ → List ℕ → Type 0
  GoesOn rows e more final = (line i : ℕ) → drop i sheet ≡ more → (j : ℕ) × (rows_at reads c sheet rows line i ≡ Ok (e, j)) × (drop j sheet ≡ final)

  pub title_reads : (b : ℕ) (ws : List (List ℕ)) → all_names ws ≡ true → (rest : List Row) (e : Entries D) (more final : List ℕ) → GoesOn rest e more final → GoesOn (title b ws ∷ rest) e (line_of ws ++ more) final
  title_reads b ws n rest e more final go line i s =
      let t = names_complete sheet ws n i more s in
      let r = go (line + 1) t.0 t.2 in
      (r.0, rw (t.1, r.1), r.2)

  module _ {X : Type 0} {f : ℕ → Row} {put : X → Value D} {due : X → Type 0} {text : ℕ → X → List ℕ} {n : ℕ} (rowed : Rowed f put due text n) (rest : List Row) where
    pub block_reads : (e : Entries D) (more final : List ℕ) → GoesOn rest e more final → (a m : ℕ) (xs : List X) → length xs ≡ m → a + m ≤ n → All due xs → GoesOn (tabulate a m f ++ rest) (added put xs e) (lines_from text a xs ++ more) final
    block_reads e more final go a zero [] l h all line i s = go line i s
    block_reads e more final go a zero (x ∷ xs) l h all line i s = absurd (omega arith)
    block_reads e more final go a (suc m) [] l h all line i s = absurd (omega arith)
    block_reads e more final go a (suc m) (x ∷ xs) l h all line i s =
        let d = rowed.reads_row a (omega arith) x (All-head due x xs all) i (lines_from text (a + 1) xs ++ more) (s ∙ append_assoc (text a x) (lines_from text (a + 1) xs) more) in
        let r = block_reads e more final go (a + 1) m xs (omega arith) (omega arith) (All-tail due x xs all) (line + 1) d.0 d.2 in
        (r.0, rw (d.1, r.1), r.2)

  -- the first row of those that were read, and the rest
  first_row : (r : Row) (rs : List Row) (line i j : ℕ) (e : Entries D) → rows_at reads c sheet (r ∷ rs) line i ≡ Ok (e, j)
      → (w : Value D) × (k : ℕ) × (z : Entries D) × (value_at reads c sheet r i ≡ Ok (w, k)) × (rows_at reads c sheet rs (line + 1) k ≡ Ok (z, j)) × (with_value w z ≡ e)
  first_row r rs line i j e q =
      let y = on_ok (on_line line (block_of r) (value_at reads c sheet r i)) _ (e, j) q in
      let z = on_ok (rows_at reads c sheet rs (line + 1) y.0.1) _ (e, j) y.2 in
      let p = ok_pair (with_value y.0.0 z.0.0) e z.0.1 j z.2 in
      (y.0.0, y.0.1, z.0.0, on_line_ok line (block_of r) (value_at reads c sheet r i) y.0 y.1, z.1 ∙ ap (λ a. Ok (z.0.0, a)) p.1, p.0)

  pub title_knows : (b : ℕ) (ws : List (List ℕ)) → all_names ws ≡ true → (rest : List Row) (line i j : ℕ) (e : Entries D) → rows_at reads c sheet (title b ws ∷ rest) line i ≡ Ok (e, j)
      → (k : ℕ) × (rows_at reads c sheet rest (line + 1) k ≡ Ok (e, j)) × (drop i sheet ≡ line_of ws ++ drop k sheet)
  title_knows b ws n rest line i j e q =
      let t = first_row (title b ws) rest line i j e q in
      let y = on_ok (names_at ws sheet i) (λ k. Ok (nothing, k)) (t.0, t.1) t.3 in
      let p = ok_pair nothing t.0 y.0 t.1 y.2 in
      (t.1, t.4 ∙ ap (λ z. Ok (z, j)) (ap (λ v. with_value v t.2) p.0 ∙ t.5), names_sound sheet ws n i t.1 (y.1 ∙ ap Ok p.1))

  -- what the rows of a block were read as: their values, and where the rest begins
  pub record Block {X : Type 0} (put : X → Value D) (due : X → Type 0) (text : ℕ → X → List ℕ) (rest : List Row) (a m i j : ℕ) (e : Entries D) : Type 0 where
    pub values : List X
    pub many : length values ≡ m
    pub all : All due values
    pub others : Entries D
    pub entries : added put values others ≡ e
    pub line : ℕ
    pub place : ℕ
    pub goes_on : rows_at reads c sheet rest line place ≡ Ok (others, j)
    pub stands : drop i sheet ≡ lines_from text a values ++ drop place sheet

  module _ {X : Type 0} {f : ℕ → Row} {put : X → Value D} {due : X → Type 0} {text : ℕ → X → List ℕ} {n : ℕ} (rowed : Rowed f put due text n) (rest : List Row) where
    pub block_knows : (a m : ℕ) → a + m ≤ n → (line i j : ℕ) (e : Entries D) → rows_at reads c sheet (tabulate a m f ++ rest) line i ≡ Ok (e, j) → Block put due text rest a m i j e
    block_knows a zero h line i j e q = record { values = []; many = refl; all = All-nil due; others = e; entries = refl; line = line; place = i; goes_on = q; stands = refl }
    block_knows a (suc m) h line i j e q =
        let t = first_row (f a) (tabulate (a + 1) m f ++ rest) line i j e q in
        let k = rowed.knows_row a (omega arith) i t.1 t.0 t.3 in
        let b = block_knows (a + 1) m (omega arith) (line + 1) t.1 j t.2 t.4 in
        record {
          values = k.0 ∷ b.values;
          many = ap suc b.many;
          all = All-cons due k.0 b.values k.2 b.all;
          others = b.others;
          entries = ap (λ z. with_value (put k.0) z) b.entries ∙ ap (λ w. with_value w t.2) k.1 ∙ t.5;
          line = b.line;
          place = b.place;
          goes_on = b.goes_on;
          stands = k.3 ∙ ap (λ l. text a k.0 ++ l) b.stands ∙ sym (append_assoc (text a k.0) (lines_from text (a + 1) b.values) (drop b.place sheet));
        }
