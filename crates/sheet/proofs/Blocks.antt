-- The rows of a block, one after the other: what one row more adds to the text of the rows so far.
use Rattle.std.proofs.Common.{◌≡◌, ℕ, zero, suc, ◌+◌, ◌*◌, ◌/◌, ◌%◌, ◌<◌, Bool, true, false, cond, not, ◌&&◌, eqb, ltb, List, [], ◌∷◌, ◌++◌, decimal, sym, refl, ap, ◌∙◌, ap₂, append_assoc, add-zero, zero-add, add-one, arith}
use Rattle.std.proofs.lemmas.Nat.{div-mul-add, mod-mul-add}
use Rattle.std.proofs.lemmas.List.{append-nil}
use Rattle.std.proofs.lemmas.Bool.{lt-ltb, ne_eqb, cond-true}
use Rattle.theory.specs.Limits.{number_read}
use Rattle.theory.specs.Control.{ControlValue}
use Rattle.theory.specs.Flows.{Flow}
use Rattle.sheet.specs.Marks.{blank, newline}
use Rattle.sheet.specs.Plan.{tabulate, Row}
use Rattle.sheet.specs.Text.{line_of, row_text, rows_text, listed, pairs_kept, flows_text}
use Rattle.sheet.specs.Written.{Writes}
use Rattle.sheet.specs.declared.output.Output.{Output}
use Rattle.sheet.proofs.Writing.{writes_more, writes_as, word_then}

-- a number in range is read as it is
pub number_within : (count n : ℕ) → n < count → number_read count n ≡ n
number_within count n h = cond-true (ltb n count) n 0 (lt-ltb n count h)

-- and so are the two numbers of an entry
pub entry_within : {A : Type 0} (f : ℕ → ℕ → A) (states width s c : ℕ) → s < states → c < width → f (number_read states s) (number_read width c) ≡ f s c
entry_within f states width s c row column = ap₂ f (number_within states s row) (number_within width c column)

tabulate_more : {A : Type 0} (i n : ℕ) (f : ℕ → A) → tabulate i (suc n) f ≡ tabulate i n f ++ (f (i + n) ∷ [])
tabulate_more i zero f = ap (λ k. f k ∷ []) (sym (add-zero i))
tabulate_more i (suc n) f =
    let next : (i + 1) + n ≡ i + suc n = omega arith in
    ap (λ l. f i ∷ l) (tabulate_more (i + 1) n f ∙ ap (λ k. tabulate (i + 1) n f ++ (f k ∷ [])) next)

-- one number more
tabulate_next : {A : Type 0} (f : ℕ → A) (n : ℕ) → tabulate 0 (n + 1) f ≡ tabulate 0 n f ++ (f n ∷ [])
tabulate_next f n = ap (λ k. tabulate 0 k f) (add-one n) ∙ tabulate_more 0 n f ∙ ap (λ k. tabulate 0 n f ++ (f k ∷ [])) (zero-add n)

module _ {D : Type 0} (kind : List ℕ) (mark : D → List ℕ) (v : ControlValue D) where
  rows_append : (rs ts : List Row) → rows_text kind mark v (rs ++ ts) ≡ rows_text kind mark v rs ++ rows_text kind mark v ts
  rows_append [] ts = refl
  rows_append (r ∷ rs) ts = ap (λ l. row_text kind mark v r ++ l) (rows_append rs ts) ∙ sym (append_assoc (row_text kind mark v r) _ _)

  pub rows_more : (f : ℕ → Row) (n : ℕ) → rows_text kind mark v (tabulate 0 n f) ++ row_text kind mark v (f n) ≡ rows_text kind mark v (tabulate 0 (n + 1) f)
  rows_more f n =
      ap (λ l. rows_text kind mark v (tabulate 0 n f) ++ l) (sym (append-nil (row_text kind mark v (f n))))
      ∙ sym (rows_append (tabulate 0 n f) (f n ∷ []))
      ∙ ap (rows_text kind mark v) (sym (tabulate_next f n))

  -- blocks one after the other, each with a row of its own at its head
  pub blocks_text : (r2 r3 r4 r5 : Row) (a b c : List Row) (rest : List ℕ)
      → rows_text kind mark v (r2 ∷ (a ++ (r3 ∷ (b ++ (r4 ∷ (c ++ (r5 ∷ []))))))) ++ rest
      ≡ row_text kind mark v r2 ++ (rows_text kind mark v a ++ (row_text kind mark v r3 ++ (rows_text kind mark v b ++ (row_text kind mark v r4 ++ (rows_text kind mark v c ++ (row_text kind mark v r5 ++ rest))))))
  blocks_text r2 r3 r4 r5 a b c rest = simp (rows_append, append_assoc, append-nil)

  -- Entry c of row s of a table whose rows have `width` entries, written behind those before it:
  -- both numbers and a word.
  module _ (g : ℕ → ℕ → Row) (width s c : ℕ) (within : c < width) where
    abbrev rows : ℕ → List ℕ
    rows n = rows_text kind mark v (tabulate 0 n (λ r. g (r / width) (r % width)))

    rows_next : rows (s * width + c) ++ row_text kind mark v (g s c) ≡ rows (s * width + (c + 1))
    rows_next =
        let next : s * width + c + 1 ≡ s * width + (c + 1) = omega arith in
        let numbered : g s c ≡ g ((s * width + c) / width) ((s * width + c) % width) = sym (ap₂ g (div-mul-add s width c within) (mod-mul-add s width c within)) in
        ap (λ row. rows (s * width + c) ++ row_text kind mark v row) numbered ∙ rows_more (λ r. g (r / width) (r % width)) (s * width + c) ∙ ap rows next

    pub entry_written : {was half first second is : Output} {w word : List ℕ} → w ≡ word → line_of (decimal s ∷ (decimal c ∷ (word ∷ []))) ≡ row_text kind mark v (g s c)
        → Writes was (rows (s * width + c)) half → Writes half (decimal s ++ (blank ∷ [])) first → Writes first (decimal c ++ (blank ∷ [])) second → Writes second (w ++ (newline ∷ [])) is
        → Writes was (rows (s * width + (c + 1))) is
    entry_written {w = w} known line before state column last =
        writes_as (ap (λ l. rows (s * width + c) ++ l) (ap (λ x. line_of (decimal s ∷ (decimal c ∷ (x ∷ [])))) known ∙ line) ∙ rows_next)
        (writes_more _ _ before (word_then _ blank _ state (word_then _ blank _ column last)))

-- the flows of k consoles, of which f says which are listed
module _ (f : ℕ → Bool) (k : ℕ) where
  kept_append : (ps qs : List ℕ) → pairs_kept f (ps ++ qs) ≡ pairs_kept f ps ++ pairs_kept f qs
  kept_append [] qs = refl
  kept_append (p ∷ ps) qs = ap (λ l. cond (f p) (p ∷ l) l) (kept_append ps qs) ∙ either (f p)
    where
      either : (b : Bool) → cond b (p ∷ (pairs_kept f ps ++ pairs_kept f qs)) (pairs_kept f ps ++ pairs_kept f qs) ≡ cond b (p ∷ pairs_kept f ps) (pairs_kept f ps) ++ pairs_kept f qs
      either true = refl
      either false = refl

  flows_append : (ps qs : List ℕ) → flows_text k (ps ++ qs) ≡ flows_text k ps ++ flows_text k qs
  flows_append [] qs = refl
  flows_append (p ∷ ps) qs = ap (λ l. line_of (decimal (p / k) ∷ (decimal (p % k) ∷ [])) ++ l) (flows_append ps qs) ∙ sym (append_assoc (line_of (decimal (p / k) ∷ (decimal (p % k) ∷ []))) _ _)

  -- the text of the first n pairs
  abbrev passed : ℕ → List ℕ
  passed n = flows_text k (pairs_kept f (tabulate 0 n (λ p. p)))

  passed_more : (n : ℕ) → passed n ++ flows_text k (cond (f n) (n ∷ []) []) ≡ passed (n + 1)
  passed_more n =
      sym (flows_append (pairs_kept f (tabulate 0 n (λ p. p))) (cond (f n) (n ∷ []) []))
      ∙ ap (flows_text k) (sym (kept_append (tabulate 0 n (λ p. p)) (n ∷ [])) ∙ ap (pairs_kept f) (sym (tabulate_next (λ p. p) n)))

-- the flow from one of k consoles to another, behind the pairs before it
module _ (F : Flow) (k from to : ℕ) (within : to < k) where
  abbrev so_far : ℕ → List ℕ
  so_far = passed (listed k F) k

  listed_pair : listed k F (from * k + to) ≡ (not (eqb from to) && F from to)
  listed_pair = ap₂ (λ u v. not (eqb u v) && F u v) (div-mul-add from k to within) (mod-mul-add from k to within)

  flow_next : (b : Bool) → (not (eqb from to) && F from to) ≡ b → so_far (from * k + to) ++ flows_text k (cond b ((from * k + to) ∷ []) []) ≡ so_far (from * k + (to + 1))
  flow_next b e =
      let next : from * k + to + 1 ≡ from * k + (to + 1) = omega arith in
      ap (λ a. so_far (from * k + to) ++ flows_text k (cond a ((from * k + to) ∷ []) [])) (sym (listed_pair ∙ e)) ∙ passed_more (listed k F) k (from * k + to) ∙ ap so_far next

  pub flow_written : {was half first is : Output} → (from ≡ to → ⊥) → F from to ≡ true
      → Writes was (so_far (from * k + to)) half → Writes half (decimal from ++ (blank ∷ [])) first → Writes first (decimal to ++ (newline ∷ [])) is
      → Writes was (so_far (from * k + (to + 1))) is
  flow_written other flow before left right =
      writes_as (ap (λ l. so_far (from * k + to) ++ l) line ∙ flow_next true (ap₂ (λ a b. not a && b) (ne_eqb from to other) flow)) (writes_more _ _ before (word_then _ blank _ left right))
    where
      line : line_of (decimal from ∷ (decimal to ∷ [])) ≡ flows_text k ((from * k + to) ∷ [])
      line = sym (append-nil _ ∙ ap₂ (λ u v. line_of (decimal u ∷ (decimal v ∷ []))) (div-mul-add from k to within) (mod-mul-add from k to within))

  pub flow_passed : {was is : Output} → (not (eqb from to) && F from to) ≡ false → Writes was (so_far (from * k + to)) is → Writes was (so_far (from * k + (to + 1))) is
  flow_passed none before = writes_as (sym (append-nil _) ∙ flow_next false none) before
