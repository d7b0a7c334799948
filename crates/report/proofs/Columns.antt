-- What a format writes for a column is the word with blanks before it.
use Rattle.std.proofs.Common.{◌≡◌, ℕ, zero, suc, ◌-◌, ◌^◌, Bool, true, false, List, [], ◌∷◌, length, replicate, refl, ap, arith}
use Rattle.std.specs.Fmt as fmt
use Rattle.std.specs.Fmt.{padded_integral, styled_text, format_spec, char_count, take_chars}
use Rattle.std.specs.List.{repeat}
use Rattle.std.proofs.lemmas.List.{append-nil}
use Rattle.report.specs.Lines.{padded}
use Rattle.report.specs.Transcripts.{effect_of}

blanks : (n : ℕ) → repeat {A = ℕ} n (32 ∷ []) ≡ replicate n 32
blanks zero = refl
blanks (suc n) = ap (λ t. 32 ∷ t) (blanks n)

pub number_column : (width : ℕ) (word : List ℕ) → padded_integral (format_spec 32 3 0 width (2 ^ 64 - 1)) false [] word ≡ padded width word
unfolding padded_integral char_count lib.Utf8.encode
number_column width word =
    let same : fmt.number_padding (format_spec 32 3 0 width (2 ^ 64 - 1)) false [] (length word) ≡ width - length word = omega arith in
    let none : width - length word - (width - length word) ≡ 0 = omega arith in
    simp (blanks, same, none, append-nil)

pub effect_column : (locked : Bool) → styled_text (format_spec 32 3 0 8 (2 ^ 64 - 1)) (effect_of locked) ≡ padded 8 (effect_of locked)
unfolding fmt.padded char_count take_chars lib.Utf8.encode
effect_column true = refl
effect_column false = refl
