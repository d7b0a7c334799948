-- A code is known by its number, and is what its decimal text is read as, and no other run.
use Rattle.std.specs.Prelude.{◌≡◌, ℕ, ◌<◌, Bool, true, false, ltb, List, Some, None, Ok, Err, decimal, Option, Result, MatchResult, nat_lt, refl}
use Rattle.std.specs.Result.{OkIff, IsOkAnd, result_or}
use Rattle.std.proofs.Common.{sym, ap, ◌∙◌, arith}
use mathlib.Core.HLevel.{is_prop→PathP}
use Rattle.std.proofs.Math.Bridge.{le_prop}
use Rattle.std.proofs.lemmas.Bool.{eq-eqb, eqb-true, ltb-false, ltb-true}
use Rattle.mark.proofs.Decimals.{decimal_alone, number_in_decimal}
use Rattle.mark.proofs.Sorts.{sort_decimal}
use Rattle.mark.specs.Runs.{number_in}
use Rattle.mark.specs.Tokens.{Sort, name, number, negative, no_mark, sort_of}
use Rattle.mark.specs.declared.cause.Cause.TheVariants.{OutOfRange}
use Rattle.display.specs.Codes.{CodeSamenessIsEquality, code_at, code_by, code_when, code_from, code_sorted, code_reads, code_mark, code_stored}
use Rattle.display.specs.declared.code.Code.{Code}

pub code_same : (x y : Code) → x.number ≡ y.number → x ≡ y
code_same x y e i = record {
  number = e i;
  fits = is_prop→PathP (λ k. e k < 65536) (λ k. le_prop) x.fits y.fits i;
}

pub codes_same_equal : CodeSamenessIsEquality
codes_same_equal x y = (λ e. code_same x y (eqb-true x.number y.number e), λ e. eq-eqb x.number y.number (ap (λ c. c.number) e))

module _ {A : Type 0} (n : ℕ) (then : Code → A) (else : A) where
  pub code_when_fits : (x : Code) → x.number ≡ n → code_when n then else ≡ then x
  code_when_fits x e = by (nat_lt n 65536) refl
    where
      by : (b : Bool) (h : ltb n 65536 ≡ b) → code_by n b h then else ≡ then x
      by true h = ap then (code_same (code_at n (ltb-true n 65536 h)) x (sym e))
      by false h = absurd (omega (arith, ltb-false n 65536 h, x.fits))

  pub code_when_past : (n < 65536 → ⊥) → code_when n then else ≡ else
  code_when_past p = by (nat_lt n 65536) refl
    where
      by : (b : Bool) (h : ltb n 65536 ≡ b) → code_by n b h then else ≡ else
      by true h = absurd (p (ltb-true n 65536 h))
      by false h = refl

-- the code of a number that fits 16 bits, or out of range
pub code_tried : {E : Type 0} (n : ℕ) (r : Result ℕ E) (s : Result Code E) → OkIff r (n < 65536) n → MatchResult r (λ x. IsOkAnd s (λ y. y ≡ code_stored x)) (λ e. s ≡ Err e) → result_or s (Err OutOfRange) ≡ code_when n Ok (Err OutOfRange)
code_tried n (Ok x) (Ok y) p q =
    let stored : code_stored x ≡ code_at x (omega arith) = code_when_fits x (λ c. c) _ (code_at x (omega arith)) refl in
    sym (code_when_fits n Ok (Err OutOfRange) y (ap (λ c. c.number) (q ∙ stored) ∙ p.1))
code_tried n (Ok x) (Err e) p q = absurd q
code_tried n (Err e) s p q = ap (λ t. result_or t (Err OutOfRange)) q ∙ sym (code_when_past n Ok (Err OutOfRange) p)

code_when_ok : (n : ℕ) (x : Code) → code_when n Ok (Err OutOfRange) ≡ Ok x → x.number ≡ n
code_when_ok n x = by (nat_lt n 65536) refl
  where
    by : (b : Bool) (h : ltb n 65536 ≡ b) → code_by n b h Ok (Err OutOfRange) ≡ Ok x → x.number ≡ n
    by true h e = let q : code_at n (ltb-true n 65536 h) ≡ x = cc in sym (ap (λ c. c.number) q)
    by false h e = grind arith

pub codes_read_back : (x : Code) → code_reads (code_mark x) ≡ Ok x
codes_read_back x =
    ap (λ s. code_sorted s (code_mark x)) (sort_decimal x.number (omega (arith, x.fits)))
    ∙ ap code_from (number_in_decimal x.number (omega (arith, x.fits)))
    ∙ code_when_fits x.number Ok (Err OutOfRange) x refl

pub codes_read_alone : (bs : List ℕ) (x : Code) → code_reads bs ≡ Ok x → bs ≡ code_mark x
codes_read_alone bs x = sorted (sort_of bs)
  where
    from : (o : Option ℕ) → number_in bs ≡ o → code_from o ≡ Ok x → bs ≡ code_mark x
    from None e r = grind arith
    from (Some n) e r = (decimal_alone bs n e).1 ∙ ap decimal (sym (code_when_ok n x r))

    sorted : (s : Sort) → code_sorted s bs ≡ Ok x → bs ≡ code_mark x
    sorted name r = grind arith
    sorted number r = from (number_in bs) refl r
    sorted negative r = grind arith
    sorted no_mark r = grind arith
