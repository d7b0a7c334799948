-- What a mark of at most eight bytes holds after a byte more, and after the digits of a number.
use Rattle.std.proofs.Common.{◌≡◌, ℕ, zero, suc, ◌+◌, ◌/◌, ◌%◌, ◌^◌, ◌<◌, ◌≤◌, List, [], ◌∷◌, ◌++◌, length, get_or, take, drop, set, decimal, sym, refl, ap, ◌∙◌, append_assoc, mod-eq_of_lt, arith}
use Rattle.std.proofs.lemmas.Fmt.{decimal_step, decimal_digit}
use Rattle.std.proofs.lemmas.List.{append-nil, drop_all, drop_more, length_push, length-take, length-take-le, take_all, take_more_set}
use Rattle.mark.specs.Writing.{text_of}
use Rattle.mark.specs.declared.writing.Mark.{Mark}

pub one_more : (bytes : List ℕ) (n b : ℕ) → length bytes ≡ 8 → n < 8 → take (n + 1) (set bytes n b) ≡ take 8 (take n bytes ++ (b ∷ []))
one_more bytes n b e h =
    take_more_set bytes n b (omega arith) ∙ sym (take_all 8 (take n bytes ++ (b ∷ [])) (omega (arith, length_push (take n bytes) b, length-take-le n bytes (omega arith))))

-- what the first part lacks of k bytes is taken after it, however much it was cut before
pub take_cut : {X : Type 0} (k : ℕ) (xs ys : List X) → take k (take k xs ++ ys) ≡ take k (xs ++ ys)
take_cut zero xs ys = refl
take_cut (suc k) [] ys = refl
take_cut (suc k) (x ∷ xs) ys = ap (λ l. x ∷ l) (take_cut k xs ys)

pub last_digit : (before text : List ℕ) (n : ℕ) → 10 ≤ n → n < 2 ^ 64 → before ≡ take 8 (text ++ decimal (n / 10)) → take 8 (before ++ ((48 + n % 10) ∷ [])) ≡ take 8 (text ++ decimal n)
last_digit before text n h fits e =
    ap (λ l. take 8 (l ++ ((48 + n % 10) ∷ []))) e
    ∙ take_cut 8 (text ++ decimal (n / 10)) _
    ∙ ap (take 8) (append_assoc text (decimal (n / 10)) _ ∙ ap (λ l. text ++ l) (sym (decimal_step n h fits)))

pub only_digit : (before text : List ℕ) (n : ℕ) → n < 10 → before ≡ text → take 8 (before ++ ((48 + n % 10) ∷ [])) ≡ take 8 (text ++ decimal n)
only_digit before text n h e = ap (take 8) (ap (λ l. l ++ ((48 + n % 10) ∷ [])) e ∙ ap (λ l. text ++ l) (ap (λ d. (48 + d) ∷ []) (mod-eq_of_lt h) ∙ sym (decimal_digit n h)))

-- after the byte at i is written, what is left gives the same text
pub byte_on : (after text bs : List ℕ) (i : ℕ) → i < length bs → after ≡ take 8 (text ++ (get_or bs i 0 ∷ [])) → take 8 (after ++ drop (i + 1) bs) ≡ take 8 (text ++ drop i bs)
byte_on after text bs i h e =
    ap (λ l. take 8 (l ++ drop (i + 1) bs)) e
    ∙ take_cut 8 (text ++ (get_or bs i 0 ∷ [])) _
    ∙ ap (take 8) (append_assoc text (get_or bs i 0 ∷ []) _ ∙ ap (λ l. text ++ l) (sym (drop_more bs i 0 h)))

pub all_on : (m : Mark) (bs : List ℕ) (i : ℕ) → length bs ≤ i → take 8 (text_of m ++ drop i bs) ≡ text_of m
all_on m bs i h =
    ap (λ l. take 8 (text_of m ++ l)) (drop_all i bs h)
    ∙ ap (take 8) (append-nil (text_of m))
    ∙ take_all 8 (text_of m) (omega (arith, length-take m.length m.bytes, m.room))
