-- A text that is written behind another is written with it as one text.
use Rattle.std.proofs.Common.{◌≡◌, ℕ, suc, ◌+◌, ◌<◌, ◌≤◌, List, [], ◌∷◌, ◌++◌, length, set, sym, refl, ap, ◌∙◌, subst, ⊎_elim, append_assoc, add-zero, arith, length-append}
use lib.Seq.{sets, length-sets}
use Rattle.std.proofs.lemmas.List.{set_past}
use Rattle.std.proofs.lemmas.Bool.{cases_lt}
use Rattle.sheet.specs.Written.{last_place, Wrote, Writes}
use Rattle.sheet.specs.declared.output.Output.{Output}

sets_append : (out : List ℕ) (i : ℕ) (xs ys : List ℕ) → sets (sets out i xs) (i + length xs) ys ≡ sets out i (xs ++ ys)
sets_append out i [] ys = ap (λ k. sets out k ys) (add-zero i)
sets_append out i (x ∷ xs) ys =
    let same : i + suc (length xs) ≡ suc i + length xs = omega arith in
    ap (λ k. sets (sets (set out i x) (suc i) xs) k ys) same ∙ sets_append (set out i x) (suc i) xs ys

-- past its end an output stays as it is
sets_past : (out : List ℕ) (i : ℕ) (xs : List ℕ) → length out ≤ i → sets out i xs ≡ out
sets_past out i [] h = refl
sets_past out i (x ∷ xs) h = ap (λ o. sets o (suc i) xs) (set_past out i x h) ∙ sets_past out (suc i) xs (omega arith)

pub wrote_none : (out : List ℕ) (at : ℕ) → length out ≤ last_place → at ≤ last_place → Wrote out at [] out at
wrote_none out at h k = record { room = h; place = omega arith; output = refl }

pub wrote_more : {was half is : List ℕ} {at i behind : ℕ} (xs ys : List ℕ) → Wrote was at xs half i → Wrote half i ys is behind → Wrote was at (xs ++ ys) is behind
wrote_more {was} {half} {is} {at} {i} {behind} xs ys first second = record {
  room = first.room;
  place = simp length-append (omega (arith, first.place, second.place));
  output = second.output ∙ ap (λ o. sets o i ys) first.output ∙ ⊎_elim within past (cases_lt (at + length xs) last_place) ∙ sets_append was at xs ys;
}
  where
    within : at + length xs < last_place → sets (sets was at xs) i ys ≡ sets (sets was at xs) (at + length xs) ys
    within h = let same : i ≡ at + length xs = omega (arith, first.place) in ap (λ k. sets (sets was at xs) k ys) same

    past : last_place ≤ at + length xs → sets (sets was at xs) i ys ≡ sets (sets was at xs) (at + length xs) ys
    past h =
        let long = length-sets was at xs in
        sets_past (sets was at xs) i ys (omega (arith, first.place, first.room, long))
        ∙ sym (sets_past (sets was at xs) (at + length xs) ys (omega (arith, first.room, long)))

-- the same text, written in another way
pub wrote_as : {was is : List ℕ} {at behind : ℕ} {xs ys : List ℕ} → xs ≡ ys → Wrote was at xs is behind → Wrote was at ys is behind
wrote_as {was} {is} {at} {behind} same w = subst (λ text. Wrote was at text is behind) same w

pub wrote_now : {was is held : List ℕ} {at behind place : ℕ} {text : List ℕ} → held ≡ is → place ≡ behind → Wrote was at text is behind → Wrote was at text held place
wrote_now e f w = record { room = w.room; place = f ∙ w.place; output = e ∙ w.output }

-- one text behind the other, in the same lent bytes
pub writes_more : {was half is : Output} (xs ys : List ℕ) → Writes was xs half → Writes half ys is → Writes was (xs ++ ys) is
writes_more xs ys first second = record { lent = second.lent ∙ first.lent; wrote = wrote_more xs ys first.wrote second.wrote }

-- the same text, written in another way
pub writes_as : {was is : Output} {xs ys : List ℕ} → xs ≡ ys → Writes was xs is → Writes was ys is
writes_as same w = record { lent = w.lent; wrote = wrote_as same w.wrote }

-- a word and the byte b behind it, and what follows
pub word_then : {was half is : Output} (w : List ℕ) (b : ℕ) (rest : List ℕ) → Writes was (w ++ (b ∷ [])) half → Writes half rest is → Writes was (w ++ (b ∷ rest)) is
word_then w b rest first second = writes_as (append_assoc w (b ∷ []) rest) (writes_more _ _ first second)
