-- One item of a sheet, read exactly: a run, and the separator behind it.
use Rattle.std.proofs.Common.{◌≡◌, ℕ, ◌+◌, ◌<◌, ◌≤◌, Bool, true, false, ◌||◌, eqb, leb, List, [], ◌∷◌, ◌++◌, length, get_or, drop, Ok, Err, Result, sym, refl, ap, ◌∙◌, arith}
use Rattle.std.proofs.lemmas.List.{length-append, length-drop, drop-drop, drop_at, drop_more}
use Rattle.std.proofs.lemmas.Bool.{and_parts, cond_both, cond-true, cond-false, lt-leb, leb-false, eqb-true, eq-eqb}
use Rattle.std.proofs.lemmas.Bool.Decides.{nat_tests}
use Rattle.mark.specs.Runs.{each}
use Rattle.mark.specs.declared.cause.Cause.{Cause}
use Rattle.display.specs.Marks.{mark_byte}
use Rattle.sheet.specs.Faults.{on}
use Rattle.sheet.specs.Marks.{blank, newline, run_of, mark_at, byte_at, item_at}

-- where reading went on, there was something to go on with
pub on_ok : {A B F : Type 0} (r : Result A F) (next : A → Result B F) (z : B) → on r next ≡ Ok z → (x : A) × (r ≡ Ok x) × (next x ≡ Ok z)
on_ok (Ok x) next z e = (x, refl, e)
on_ok (Err f) next z e = grind arith

pub ok_same : {A F : Type 0} (x y : A) → ◌≡◌ {A = Result A F} (Ok x) (Ok y) → x ≡ y
ok_same x y e = cc

pub ok_pair : {A B F : Type 0} (a b : A) (c d : B) → ◌≡◌ {A = Result (A × B) F} (Ok (a, c)) (Ok (b, d)) → (a ≡ b) × (c ≡ d)
ok_pair a b c d e = (grind arith, grind arith)

abbrev pub separates : ℕ → Bool
separates b = eqb b blank || eqb b newline

pub run_first : (bs : List ℕ) → bs ≡ run_of bs ++ drop (length (run_of bs)) bs
run_first [] = refl
run_first (b ∷ bs) = cond_both (separates b) [] (b ∷ run_of bs) (λ t. b ∷ bs ≡ t ++ drop (length t) (b ∷ bs)) (λ e. refl) (λ e. ap (λ l. b ∷ l) (run_first bs))

-- a run is a text without separators that stands before one
pub run_whole : (t : List ℕ) (b : ℕ) (more : List ℕ) → each mark_byte t ≡ true → separates b ≡ true → run_of (t ++ (b ∷ more)) ≡ t
run_whole [] b more clean s = cond-true (separates b) [] (b ∷ run_of more) s
run_whole (a ∷ t) b more clean s =
    let p = and_parts (mark_byte a) (each mark_byte t) clean in
    cond-false (separates a) [] (a ∷ run_of (t ++ (b ∷ more))) (let m = p.0 in grind (arith, nat_tests)) ∙ ap (λ l. a ∷ l) (run_whole t b more p.1 s)

-- what stands at a place, and what stands behind it
module _ (sheet : List ℕ) (i : ℕ) (t more : List ℕ) (stands : drop i sheet ≡ t ++ more) where
  pub behind : drop (i + length t) sheet ≡ more
  behind = sym (drop-drop (length t) i sheet) ∙ ap (drop (length t)) stands ∙ drop_at t more (length t) refl

  pub before_end : 1 ≤ length t → i < length sheet
  before_end some = omega (arith, length-append t more, length-drop i sheet, ap length stands)

pub first_there : (sheet : List ℕ) (i b : ℕ) (more : List ℕ) → drop i sheet ≡ b ∷ more → (i < length sheet) × (get_or sheet i 0 ≡ b) × (drop (i + 1) sheet ≡ more)
first_there sheet i b more e =
    let here : i < length sheet = before_end sheet i (b ∷ []) more e (omega arith) in
    let q = drop_more sheet i 0 here in
    (here, cc, behind sheet i (b ∷ []) more e)

module _ (b : ℕ) (sheet : List ℕ) (i : ℕ) where
  pub byte_complete : (more : List ℕ) → drop i sheet ≡ b ∷ more → (byte_at b sheet i ≡ Ok (i + 1)) × (drop (i + 1) sheet ≡ more)
  byte_complete more e =
      let f = first_there sheet i b more e in
      let h = lt-leb (length sheet) i f.0 in
      let q = eq-eqb (get_or sheet i 0) b f.1 in
      (rw (h, q), f.2)

  pub byte_sound : (j : ℕ) → byte_at b sheet i ≡ Ok j → drop i sheet ≡ b ∷ drop j sheet
  byte_sound j e =
      let k : (leb (length sheet) i ≡ false) × (eqb (get_or sheet i 0) b ≡ true) × (i + 1 ≡ j) = (grind arith, grind arith, grind arith) in
      drop_more sheet i 0 (leb-false (length sheet) i k.0)
      ∙ ap (λ a. a ∷ drop (i + 1) sheet) (eqb-true (get_or sheet i 0) b k.1)
      ∙ ap (λ n. b ∷ drop n sheet) k.2

module _ {A : Type 0} (reads : List ℕ → Result A Cause) (sheet : List ℕ) (i : ℕ) where
  pub mark_complete : (t more : List ℕ) (b : ℕ) (x : A) → each mark_byte t ≡ true → 1 ≤ length t → separates b ≡ true → reads t ≡ Ok x → drop i sheet ≡ t ++ (b ∷ more) → mark_at reads sheet i ≡ Ok (x, i + length t)
  mark_complete [] more b x clean some s r e = absurd (omega arith)
  mark_complete (a ∷ t) more b x clean some s r e =
      let h = lt-leb (length sheet) i (before_end sheet i (a ∷ t) (b ∷ more) e some) in
      let q : run_of (drop i sheet) ≡ a ∷ t = ap run_of e ∙ run_whole (a ∷ t) b more clean s in
      rw (h, q, r)

  pub mark_sound : (x : A) (k : ℕ) → mark_at reads sheet i ≡ Ok (x, k) → (reads (run_of (drop i sheet)) ≡ Ok x) × (k ≡ i + length (run_of (drop i sheet)))
  mark_sound x k = within (leb (length sheet) i) refl
    where
      judged : (a : ℕ) (t : List ℕ) → leb (length sheet) i ≡ false → run_of (drop i sheet) ≡ a ∷ t → (r : Result A Cause) → reads (a ∷ t) ≡ r → mark_at reads sheet i ≡ Ok (x, k) → (reads (a ∷ t) ≡ Ok x) × (k ≡ i + length (a ∷ t))
      judged a t h q (Ok y) w e = let p = ok_pair y x (i + length (a ∷ t)) k (rw (h, q, w) at e) in (w ∙ ap Ok p.0, sym p.1)
      judged a t h q (Err c) w e = let e' = rw (h, q, w) at e in grind arith

      run : leb (length sheet) i ≡ false → (t : List ℕ) → run_of (drop i sheet) ≡ t → mark_at reads sheet i ≡ Ok (x, k) → (reads t ≡ Ok x) × (k ≡ i + length t)
      run h [] q e = let e' = rw (h, q) at e in grind arith
      run h (a ∷ t) q e = judged a t h q (reads (a ∷ t)) refl e

      within : (t : Bool) → leb (length sheet) i ≡ t → mark_at reads sheet i ≡ Ok (x, k) → (reads (run_of (drop i sheet)) ≡ Ok x) × (k ≡ i + length (run_of (drop i sheet)))
      within true h e = let e' = rw h at e in grind arith
      within false h e = run h (run_of (drop i sheet)) refl e

module _ {A : Type 0} (reads : List ℕ → Result A Cause) (b : ℕ) (sheet : List ℕ) (i : ℕ) where
  pub item_complete : (t more : List ℕ) (x : A) → each mark_byte t ≡ true → 1 ≤ length t → separates b ≡ true → reads t ≡ Ok x → drop i sheet ≡ t ++ (b ∷ more) → (j : ℕ) × (item_at reads b sheet i ≡ Ok (x, j)) × (drop j sheet ≡ more)
  item_complete t more x clean some s r e =
      let m = mark_complete reads sheet i t more b x clean some s r e in
      let c = byte_complete b sheet (i + length t) more (behind sheet i t (b ∷ more) e) in
      (i + length t + 1, rw (m, c.0), c.1)

  pub item_sound : (x : A) (j : ℕ) → item_at reads b sheet i ≡ Ok (x, j) → (t : List ℕ) × (reads t ≡ Ok x) × (drop i sheet ≡ t ++ (b ∷ drop j sheet))
  item_sound x j e =
      let m = on_ok (mark_at reads sheet i) _ (x, j) e in
      let c = on_ok (byte_at b sheet m.0.1) _ (x, j) m.2 in
      let p = ok_pair m.0.0 x c.0 j c.2 in
      let k = mark_sound reads sheet i m.0.0 m.0.1 m.1 in
      let rest : drop (length (run_of (drop i sheet))) (drop i sheet) ≡ b ∷ drop j sheet =
      drop-drop (length (run_of (drop i sheet))) i sheet ∙ ap (λ n. drop n sheet) (sym k.1) ∙ byte_sound b sheet m.0.1 c.0 c.1 ∙ ap (λ n. b ∷ drop n sheet) p.1 in
      (run_of (drop i sheet), k.0 ∙ ap Ok p.0, run_first (drop i sheet) ∙ ap (λ l. run_of (drop i sheet) ++ l) rest)
