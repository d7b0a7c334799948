-- Which runs are accepted where a number, a name or a display is due: its text, and no other.
use Rattle.std.proofs.Common.{◌≡◌, ℕ, ◌<◌, ◌≤◌, Bool, true, false, not, ◌&&◌, ◌||◌, eqb, leb, List, [], ◌∷◌, ◌++◌, length, drop, Some, None, Ok, decimal, Decides, Option, Result, refl, ap, ◌∙◌, arith, rules}
use Rattle.std.proofs.lemmas.Slice.Eq.{compares_Decides}
use Rattle.std.proofs.lemmas.Bool.{le-leb, leb-true, eqb-true, eq-eqb}
use Rattle.std.proofs.lemmas.Bool.Decides.{nat_tests}
use Rattle.mark.specs.Runs.{each, small_letter, digit, same_bytes, is_name, is_number, number_in}
use Rattle.mark.specs.Tokens.{Sort, name, number, negative, no_mark, sort_of}
use Rattle.mark.specs.declared.cause.Cause.{Cause}
use Rattle.mark.proofs.Decimals.{decimal_alone, number_in_decimal}
use Rattle.mark.proofs.Sorts.{sort_decimal}
use Rattle.display.specs.Marks.{mark_byte}
use Rattle.display.specs.MarksLemmas.{decimal_marks, decimal_length, each_weaker}
use Rattle.sheet.specs.Marks.{item_at, number_reads, exact_reads, name_reads}
use Rattle.sheet.specs.Exact.{KindLaws}
use Rattle.sheet.proofs.ExactItems.{item_complete, item_sound, separates}

-- `reads` accepts just the texts of the values that are `due`
pub record Due {A : Type 0} (reads : List ℕ → Result A Cause) (due : A → Type 0) (text : A → List ℕ) : Type 0 where
  pub back : (x : A) → due x → reads (text x) ≡ Ok x
  pub clean : (x : A) → due x → each mark_byte (text x) ≡ true
  pub some : (x : A) → due x → 1 ≤ length (text x)
  pub alone : (bs : List ℕ) (x : A) → reads bs ≡ Ok x → due x × (bs ≡ text x)

module _ {A : Type 0} {reads : List ℕ → Result A Cause} {due : A → Type 0} {text : A → List ℕ} (d : Due reads due text) (b : ℕ) (sheet : List ℕ) (i : ℕ) where
  pub due_read : (x : A) → due x → separates b ≡ true → (more : List ℕ) → drop i sheet ≡ text x ++ (b ∷ more) → (j : ℕ) × (item_at reads b sheet i ≡ Ok (x, j)) × (drop j sheet ≡ more)
  due_read x h s more e = item_complete reads b sheet i (text x) more x (d.clean x h) (d.some x h) s (d.back x h) e

  pub due_known : (x : A) (j : ℕ) → item_at reads b sheet i ≡ Ok (x, j) → due x × (drop i sheet ≡ text x ++ (b ∷ drop j sheet))
  due_known x j e =
      let k = item_sound reads b sheet i x j e in
      let a = d.alone k.0 x k.1 in
      (a.0, k.2 ∙ ap (λ t. t ++ (b ∷ drop j sheet)) a.1)

pub number_due : (least most : ℕ) → most < 100000 → Due (number_reads least most) (λ n. (least ≤ n) × (n ≤ most)) decimal
number_due least most small = record {
  back = λ n h. let s = sort_decimal n (omega arith) in let q = number_in_decimal n (omega arith) in rw (s, q, le-leb least n h.0, le-leb n most h.1);
  clean = λ n h. decimal_marks n (omega arith);
  some = λ n h. (decimal_length n (omega arith)).0;
  alone = λ bs n. sorted bs n (sort_of bs) refl;
}
  where
    from : (bs : List ℕ) (n : ℕ) → sort_of bs ≡ number → (o : Option ℕ) → number_in bs ≡ o → number_reads least most bs ≡ Ok n → ((least ≤ n) × (n ≤ most)) × (bs ≡ decimal n)
    from bs n s None q e = let e' = rw (s, q) at e in grind arith
    from bs n s (Some m) q e =
        let e' = rw (s, q) at e in
        let j : (leb least m ≡ true) × (leb m most ≡ true) × (m ≡ n) = (grind arith, grind arith, grind arith) in
        ((omega (arith, leb-true least m j.0, j.2), omega (arith, leb-true m most j.1, j.2)), (decimal_alone bs m q).1 ∙ ap decimal j.2)

    sorted : (bs : List ℕ) (n : ℕ) (s : Sort) → sort_of bs ≡ s → number_reads least most bs ≡ Ok n → ((least ≤ n) × (n ≤ most)) × (bs ≡ decimal n)
    sorted bs n name s e = let e' = rw s at e in grind arith
    sorted bs n number s e = from bs n s (number_in bs) refl e
    sorted bs n negative s e = let e' = rw s at e in grind arith
    sorted bs n no_mark s e = let e' = rw s at e in grind arith

pub exact_due : (n : ℕ) → n < 100000 → Due (exact_reads n) (λ k. k ≡ n) decimal
exact_due n small = record {
  back = λ k h. let s = sort_decimal k (omega arith) in let q = number_in_decimal k (omega arith) in rw (s, q, eq-eqb k n h);
  clean = λ k h. decimal_marks k (omega arith);
  some = λ k h. (decimal_length k (omega arith)).0;
  alone = λ bs k. sorted bs k (sort_of bs) refl;
}
  where
    from : (bs : List ℕ) (k : ℕ) → sort_of bs ≡ number → (o : Option ℕ) → number_in bs ≡ o → exact_reads n bs ≡ Ok k → (k ≡ n) × (bs ≡ decimal k)
    from bs k s None q e = let e' = rw (s, q) at e in grind arith
    from bs k s (Some m) q e =
        let e' = rw (s, q) at e in
        let j : (eqb m n ≡ true) × (m ≡ k) = (grind arith, grind arith) in
        (omega (arith, eqb-true m n j.0, j.1), (decimal_alone bs m q).1 ∙ ap decimal j.1)

    sorted : (bs : List ℕ) (k : ℕ) (s : Sort) → sort_of bs ≡ s → exact_reads n bs ≡ Ok k → (k ≡ n) × (bs ≡ decimal k)
    sorted bs k name s e = let e' = rw s at e in grind arith
    sorted bs k number s e = from bs k s (number_in bs) refl e
    sorted bs k negative s e = let e' = rw s at e in grind arith
    sorted bs k no_mark s e = let e' = rw s at e in grind arith

-- a name is not a number: its first byte is a letter
pub sort_name : (w : List ℕ) → is_name w ≡ true → sort_of w ≡ name
sort_name w h = let q = number_not w h in rw (q, h)
  where
    number_not : (bs : List ℕ) → is_name bs ≡ true → is_number bs ≡ false
    number_not [] e = refl
    number_not (b ∷ bs) e = letter b (length (b ∷ bs)) (each small_letter bs) (each digit bs) e
      where
        letter : (b n : ℕ) (r q : Bool) → (leb 1 n && (leb n 8 && (small_letter b && r))) ≡ true → (leb 1 n && (leb n 5 && ((leb n 1 || not (eqb b 48)) && (digit b && q)))) ≡ false
        letter b n r q e = grind (arith, nat_tests)

pub name_marks : (w : List ℕ) → is_name w ≡ true → (each mark_byte w ≡ true) × (1 ≤ length w) × (length w ≤ 8)
name_marks w h =
    let p = parts (length w) (each small_letter w) h in
    (each_weaker small_letter mark_byte letter w p.2, p.0, p.1)
  where
    letter : (b : ℕ) → small_letter b ≡ true → mark_byte b ≡ true
    letter b e = grind (arith, nat_tests)

    parts : (n : ℕ) (rest : Bool) → (leb 1 n && (leb n 8 && rest)) ≡ true → (1 ≤ n) × (n ≤ 8) × (rest ≡ true)
    parts n rest e = (grind (arith, nat_tests), grind (arith, nat_tests), grind (arith, nat_tests))

same_bytes_decides : (bs cs : List ℕ) → Decides (same_bytes bs cs) (bs ≡ cs)
same_bytes_decides = compares_Decides same_bytes (search rules)

pub name_due : (w : List ℕ) → is_name w ≡ true → Due (name_reads w) (λ u. Unit {0}) (λ u. w)
name_due w named = record {
  back = λ u h. let s = sort_name w named in let q = (same_bytes_decides w w).1 refl in rw (s, q);
  clean = λ u h. (name_marks w named).0;
  some = λ u h. (name_marks w named).1;
  alone = λ bs u e. (tt, sorted bs u (sort_of bs) refl e);
}
  where
    sorted : (bs : List ℕ) (u : Unit {0}) (s : Sort) → sort_of bs ≡ s → name_reads w bs ≡ Ok u → bs ≡ w
    sorted bs u name s e = let e' = rw s at e in (same_bytes_decides bs w).0 (grind arith)
    sorted bs u number s e = let e' = rw s at e in grind arith
    sorted bs u negative s e = let e' = rw s at e in grind arith
    sorted bs u no_mark s e = let e' = rw s at e in grind arith

pub display_due : {D : Type 0} {kind : List ℕ} {mark : D → List ℕ} {reads : List ℕ → Result D Cause} → KindLaws kind mark reads → Due reads (λ x. Unit {0}) mark
display_due laws = record {
  back = λ x h. laws.back x;
  clean = λ x h. laws.bytes x;
  some = λ x h. laws.some x;
  alone = λ bs x e. (tt, laws.alone bs x e);
}
