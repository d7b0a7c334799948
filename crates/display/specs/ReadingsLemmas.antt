-- A reading of tenths is known by its count, and is what its mark is read as, and no other run.
use Rattle.std.specs.Prelude.{◌≡◌, ℕ, zero, suc, ◌-◌, ◌<◌, ◌≤◌, Bool, true, false, cond, List, [], ◌∷◌, ◌++◌, length, take, drop, ℤ, pos, negsuc, neg_ℤ, Some, None, Ok, Err, codes, decimal, Decides, Option, Result, MatchResult, ◌≢◌, int_lt, slice_index, unsigned_abs, refl}
use Rattle.std.proofs.Common.{sym, ap, ◌∙◌, subst, arith}
use Rattle.std.proofs.Math.Bool.{Bool-set}
use mathlib.Core.HLevel.{is_prop→PathP}
use Rattle.std.specs.Option.{ok_or, unwrap_or}
use Rattle.std.specs.Result.{IsOkAnd, result_map_both}
use Rattle.mark.specs.declared.cause.Cause.{Cause}
use Rattle.std.specs.Fmt.{signed_decimal}
use Rattle.std.proofs.lemmas.Fmt.{decimal_digit}
use Rattle.std.proofs.lemmas.List.{get_or-drop, take_all, take_rest}
use Rattle.std.proofs.lemmas.Bool.{both_ways, le-ltb, leb-true, ltb-true}
use Rattle.std.proofs.lemmas.Bool.Decides.{Decides-int_eq, same_from_decides}
use Rattle.std.specs.Cmp.Lexicographic.{bytes_decides, same_text}
use Rattle.mark.proofs.Decimals.{decimal_alone, number_in_decimal}
use Rattle.mark.proofs.Sorts.{minus_first, minus_then, negative_sorted, sort_decimal, sort_minus}
use Rattle.mark.specs.Runs.{each, number_in, same_bytes}
use Rattle.mark.specs.Tokens.{Sort, name, number, negative, no_mark, sort_of}
use Rattle.mark.specs.declared.cause.Cause.TheVariants.{NotDue, OutOfRange}
use Rattle.display.specs.MarksLemmas.{decimal_length, decimal_marks}
use Rattle.display.specs.Marks.{mark_byte}
use Rattle.display.specs.Ranges.{in_range}
use Rattle.display.specs.Readings.{Reading, ReadingSamenessIsEquality, tenths_at, tenths_by, tenths_when, reading_mark, reading_from, reading_sorted, reading_reads, reading_cell, reading_stored}
use Rattle.display.specs.declared.reading.Tenths.{Tenths}

pub tenths_same : (x y : Tenths) → x.count ≡ y.count → x ≡ y
tenths_same x y e i = record {
  count = e i;
  range = is_prop→PathP (λ k. in_range (e k) ≡ true) (λ k. Bool-set (in_range (e k)) true) x.range y.range i;
}

pub readings_same_equal : ReadingSamenessIsEquality
readings_same_equal None None = (λ e. refl, λ e. refl)
readings_same_equal None (Some y) = (λ e. grind arith, λ e. grind arith)
readings_same_equal (Some x) None = (λ e. grind arith, λ e. grind arith)
readings_same_equal (Some x) (Some y) =
    (λ e. ap (λ t. Some t) (tenths_same x y ((Decides-int_eq x.count y.count).0 e)), λ e. let q : x ≡ y = cc in (Decides-int_eq x.count y.count).1 (ap (λ t. t.count) q))

module _ {A : Type 0} (z : ℤ) (then : Tenths → A) (else : A) where
  pub tenths_when_fits : (x : Tenths) → x.count ≡ z → tenths_when z then else ≡ then x
  tenths_when_fits x e = by (in_range z) refl
    where
      by : (b : Bool) (h : in_range z ≡ b) → tenths_by z b h then else ≡ then x
      by true h = ap then (tenths_same (record { count = z; range = h }) x (sym e))
      by false h = absurd (both_ways (in_range z) h (subst (λ (a : ℤ). in_range a ≡ true) e x.range))

  -- what is done with the answer can be done in both cases
  pub tenths_when_then : {B : Type 0} (f : A → B) → f (tenths_when z then else) ≡ tenths_when z (λ x. f (then x)) (f else)
  tenths_when_then f = by (in_range z) refl
    where
      by : (b : Bool) (h : in_range z ≡ b) → f (tenths_by z b h then else) ≡ tenths_by z b h (λ x. f (then x)) (f else)
      by true h = refl
      by false h = refl

-- the tenths that are found make the reading
pub reading_found : (z y : ℤ) (r : Result Tenths Cause) (s : Result Reading Cause) → r ≡ tenths_when z Ok (Err OutOfRange) → MatchResult r (λ x. IsOkAnd s (λ t. t ≡ Some x)) (λ e. s ≡ Err e) → z ≡ y → s ≡ tenths_when y (λ x. Ok (Some x)) (Err OutOfRange)
reading_found z y r s e m q =
    found r s m
    ∙ ap (result_map_both Some (λ e. e)) e
    ∙ tenths_when_then z Ok (Err OutOfRange) (result_map_both Some (λ e. e))
    ∙ ap (λ a. tenths_when a (λ x. Ok (Some x)) (Err OutOfRange)) q
  where
    found : (r : Result Tenths Cause) (s : Result Reading Cause) → MatchResult r (λ x. IsOkAnd s (λ t. t ≡ Some x)) (λ e. s ≡ Err e) → s ≡ result_map_both Some (λ e. e) r
    found (Ok x) (Ok y) m = ap Ok m
    found (Ok x) (Err e) m = absurd m
    found (Err e) s m = m

tenths_when_ok : (z : ℤ) (x : Reading) → tenths_when z (λ t. Ok (Some t)) (Err OutOfRange) ≡ Ok x → reading_mark x ≡ signed_decimal z
tenths_when_ok z x = by (in_range z) refl
  where
    by : (b : Bool) (h : in_range z ≡ b) → tenths_by z b h (λ t. Ok (Some t)) (Err OutOfRange) ≡ Ok x → reading_mark x ≡ signed_decimal z
    by true h e = let q : Some (tenths_at z h) ≡ x = cc in sym (ap reading_mark q)
    by false h e = grind arith

pub readings_keep : (x : Reading) → reading_stored (reading_cell x) ≡ x
readings_keep None = refl
readings_keep (Some x) = ap Some (tenths_when_fits x.count (λ y. y) _ x refl)

counts_read_back : (x : Tenths) (z : ℤ) → x.count ≡ z → in_range z ≡ true → reading_reads (signed_decimal z) ≡ Ok (Some x)
counts_read_back x (pos n) e h =
    let small : n < 100000 = omega (arith, leb-true n 1200 h) in
    ap (λ s. reading_sorted s (decimal n)) (sort_decimal n small)
    ∙ ap (reading_from pos) (number_in_decimal n small)
    ∙ tenths_when_fits (pos n) (λ t. Ok (Some t)) (Err OutOfRange) x e
counts_read_back x (negsuc n) e h =
    let small : suc n < 100000 = omega (arith, ltb-true n 1200 h) in
    ap (λ s. reading_sorted s (45 ∷ decimal (suc n))) (sort_minus (suc n) (omega arith) small)
    ∙ ap (reading_from (λ m. neg_ℤ (pos m))) (number_in_decimal (suc n) small)
    ∙ tenths_when_fits (negsuc n) (λ t. Ok (Some t)) (Err OutOfRange) x e

pub readings_read_back : (x : Reading) → reading_reads (reading_mark x) ≡ Ok x
readings_read_back None = refl
readings_read_back (Some x) = counts_read_back x x.count refl x.range

-- a run that writes the number n is read as n tenths, and one that writes it after a minus as n tenths below zero
module _ (bs : List ℕ) (n : ℕ) (z : ℤ) (r : Result Reading Cause) (given : r ≡ tenths_when z (λ x. Ok (Some x)) (Err OutOfRange)) where
  pub reads_number : sort_of bs ≡ number → number_in bs ≡ Some n → z ≡ pos n → r ≡ reading_reads bs
  reads_number s e q = given ∙ ap (λ a. tenths_when a (λ x. Ok (Some x)) (Err OutOfRange)) q ∙ ap (reading_from pos) (sym e) ∙ ap (λ t. reading_sorted t bs) (sym s)

  pub reads_negative : sort_of bs ≡ negative → number_in (drop 1 bs) ≡ Some n → z ≡ neg_ℤ (pos n) → r ≡ reading_reads bs
  reads_negative s e q = given ∙ ap (λ a. tenths_when a (λ x. Ok (Some x)) (Err OutOfRange)) q ∙ ap (reading_from (λ m. neg_ℤ (pos m))) (sym e) ∙ ap (λ t. reading_sorted t bs) (sym s)

-- a run that sorts as negative is read by what stands after its first byte
pub reads_below : (run bs : List ℕ) → run ≡ bs → negative ≡ sort_of bs → reading_from (λ n. neg_ℤ (pos n)) (number_in (take (length run - 1) (drop 1 run))) ≡ reading_reads bs
reads_below run bs q s =
    ap (λ l. reading_from (λ n. neg_ℤ (pos n)) (number_in l)) (take_rest run 1 ∙ ap (drop 1) q)
    ∙ ap (λ t. reading_sorted t bs) s

-- what is answered of the reading of z tenths, where there is one
pub counted_from : (o : Option Reading) (z y : ℤ) → o ≡ tenths_when z (λ x. Some (Some x)) None → z ≡ y → ok_or o OutOfRange ≡ tenths_when y (λ x. Ok (Some x)) (Err OutOfRange)
counted_from o z y e q =
    ap (λ p. ok_or p OutOfRange) e
    ∙ tenths_when_then z (λ x. Some (Some x)) None (λ p. ok_or p OutOfRange)
    ∙ ap (λ a. tenths_when a (λ x. Ok (Some x)) (Err OutOfRange)) q

pub stored_from : (o : Option Reading) (x : Reading) (z y : ℤ) → o ≡ tenths_when z (λ t. Some (Some t)) None → z ≡ y → x ≡ reading_stored (Some (pos 0)) → unwrap_or o x ≡ reading_stored (Some y)
stored_from o x z y e q r =
    ap (λ p. unwrap_or p x) e
    ∙ tenths_when_then z (λ t. Some (Some t)) None (λ p. unwrap_or p x)
    ∙ ap (λ a. tenths_when a (λ t. Some t) x) q
    ∙ ap (tenths_when y (λ t. Some t)) r
    ∙ sym (tenths_when_then y (λ t. t) (tenths_at (pos 0) refl) Some)

pub told_as_bytes : (bs cs : List ℕ) (r : Bool) → Decides r (bs ≡ cs) → same_bytes bs cs ≡ r
told_as_bytes bs cs r h = same_from_decides (same_bytes bs cs) r (bytes_decides bs cs) h

below_zero : (bs : List ℕ) (n : ℕ) → (slice_index bs 0 ≡ 45) × (slice_index bs 1 ≢ 48) → drop 1 bs ≡ decimal n → bs ≡ signed_decimal (neg_ℤ (pos n))
below_zero bs zero h e = absurd (h.1 (sym (get_or-drop 1 bs 0 0) ∙ ap (λ ds. slice_index ds 0) (e ∙ decimal_digit 0 (omega arith))))
below_zero bs (suc n) h e = minus_then bs h.0 ∙ ap (λ ds. 45 ∷ ds) e

pub readings_read_alone : (bs : List ℕ) (x : Reading) → reading_reads bs ≡ Ok x → bs ≡ reading_mark x
readings_read_alone bs x = sorted (sort_of bs) refl
  where
    named : (b : Bool) → same_bytes bs (codes "none") ≡ b → cond b (Ok None) (Err NotDue) ≡ Ok x → bs ≡ reading_mark x
    named true e r = let q : None ≡ x = cc in same_text bs (codes "none") (sym e) ∙ ap reading_mark q
    named false e r = grind arith

    above : (o : Option ℕ) → number_in bs ≡ o → reading_from pos o ≡ Ok x → bs ≡ reading_mark x
    above None e r = grind arith
    above (Some n) e r = (decimal_alone bs n e).1 ∙ sym (tenths_when_ok (pos n) x r)

    below : sort_of bs ≡ negative → (o : Option ℕ) → number_in (drop 1 bs) ≡ o → reading_from (λ n. neg_ℤ (pos n)) o ≡ Ok x → bs ≡ reading_mark x
    below s None e r = grind arith
    below s (Some n) e r = below_zero bs n (minus_first bs (negative_sorted bs s)) (decimal_alone (drop 1 bs) n e).1 ∙ sym (tenths_when_ok (neg_ℤ (pos n)) x r)

    sorted : (s : Sort) → sort_of bs ≡ s → reading_sorted s bs ≡ Ok x → bs ≡ reading_mark x
    sorted name s r = named (same_bytes bs (codes "none")) refl r
    sorted number s r = above (number_in bs) refl r
    sorted negative s r = below s (number_in (drop 1 bs)) refl r
    sorted no_mark s r = grind arith

module _ (z : ℤ) (h : in_range z ≡ true) where
  pub signed_length : (1 ≤ length (signed_decimal z)) × (length (signed_decimal z) ≤ 6)
  signed_length = by z h
    where
      by : (a : ℤ) → in_range a ≡ true → (1 ≤ length (signed_decimal a)) × (length (signed_decimal a) ≤ 6)
      by (pos n) r = let d = decimal_length n (omega (arith, leb-true n 1200 r)) in (d.0, omega (arith, d.1))
      by (negsuc n) r = let d = decimal_length (suc n) (omega (arith, ltb-true n 1200 r)) in (omega arith, omega (arith, d.1))

  pub signed_marks : each mark_byte (signed_decimal z) ≡ true
  signed_marks = by z h
    where
      by : (a : ℤ) → in_range a ≡ true → each mark_byte (signed_decimal a) ≡ true
      by (pos n) r = decimal_marks n (omega (arith, leb-true n 1200 r))
      by (negsuc n) r = decimal_marks (suc n) (omega (arith, ltb-true n 1200 r))

  pub signed_whole : take 8 (signed_decimal z) ≡ signed_decimal z
  signed_whole = take_all 8 (signed_decimal z) (omega (arith, signed_length.1))

-- a minus where z is below zero, and then its digits
pub signed_written : (before : List ℕ) (n : ℕ) (z : ℤ) → in_range z ≡ true → before ≡ cond (int_lt z (pos 0)) (45 ∷ []) [] → n ≡ unsigned_abs z → take 8 (before ++ decimal n) ≡ signed_decimal z
signed_written before n z h e q =
    ap (λ l. take 8 (l ++ decimal n)) e
    ∙ ap (λ m. take 8 (cond (int_lt z (pos 0)) (45 ∷ []) [] ++ decimal m)) q
    ∙ ap (take 8) (joined z)
    ∙ take_all 8 (signed_decimal z) (omega (arith, (signed_length z h).1))
  where
    joined : (a : ℤ) → cond (int_lt a (pos 0)) (45 ∷ []) [] ++ decimal (unsigned_abs a) ≡ signed_decimal a
    joined (pos m) = ap (λ b. cond b (45 ∷ []) [] ++ decimal m) (le-ltb m 0 (omega arith))
    joined (negsuc m) = refl
