-- A run that is cut from a sheet ends at the first blank or newline, or where the bytes end: found at once, or byte by byte.
use Rattle.std.proofs.Common.{◌≡◌, ℕ, suc, ◌+◌, ◌<◌, ◌≤◌, Bool, true, false, cond, not, ◌||◌, eqb, ◌⊎◌, List, [], ◌∷◌, ◌++◌, length, get_or, Some, None, take, drop, position, sym, refl, ap, ◌∙◌, arith}
use Rattle.std.specs.List.{between, position_or_len}
use Rattle.std.proofs.lemmas.List.Edits.{between_more}
use Rattle.std.proofs.lemmas.List.{append_assoc, append-nil, at_drop_more, at_drop_all}
use Rattle.std.proofs.lemmas.Grind.{common_steps}
use Rattle.std.proofs.lemmas.Bool.Decides.{nat_tests}
use Rattle.sheet.specs.Marks.{ends_run, run_of}

one_more : (b n : ℕ) (bs rest : List ℕ) → take n bs ≡ rest → (t : Bool) → take (cond (not t) (1 + n) 0) (b ∷ bs) ≡ cond t [] (b ∷ rest)
one_more b n bs rest e true = refl
one_more b n bs rest e false = let one : 1 + n ≡ suc n = omega arith in rw one (ap (λ l. b ∷ l) e)

taken : (bs : List ℕ) → take (position_or_len ends_run bs) bs ≡ run_of bs
taken [] = refl
taken (b ∷ bs) = one_more b _ bs _ (taken bs) (ends_run b)

pub run_before_stop : (bs : List ℕ) (end : ℕ) → position ends_run bs ≡ Some end → take end bs ≡ run_of bs
run_before_stop bs end e = let t = taken bs in grind (arith, nat_tests)

pub run_without_stop : (bs : List ℕ) → position ends_run bs ≡ None → bs ≡ run_of bs
run_without_stop bs e = let t = taken bs in grind (arith, nat_tests, common_steps)

pub ruleset cut = (run_before_stop, run_without_stop)

goes_on : {A : Type 0} (b : ℕ) (x y : A) → (b ≡ 32 → ⊥) → (b ≡ 10 → ⊥) → cond (eqb b 32 || eqb b 10) x y ≡ y
goes_on b x y p q = grind (arith, nat_tests)

stops : {A : Type 0} (b : ℕ) (x y : A) → (b ≡ 32) ⊎ (b ≡ 10) → cond (eqb b 32 || eqb b 10) x y ≡ x
stops b x y p = grind (arith, nat_tests)

module _ (s : List ℕ) (a i : ℕ) where
  pub run_more : a ≤ i → i < length s → (get_or s i 0 ≡ 32 → ⊥) → (get_or s i 0 ≡ 10 → ⊥) → between a i s ++ run_of (drop i s) ≡ run_of (drop a s) → between a (i + 1) s ++ run_of (drop (i + 1) s) ≡ run_of (drop a s)
  run_more l h p q e =
      ap (λ xs. xs ++ run_of (drop (i + 1) s)) (between_more s a i 0 l h)
      ∙ append_assoc (between a i s) (get_or s i 0 ∷ []) (run_of (drop (i + 1) s))
      ∙ ap (λ xs. between a i s ++ xs) (sym (at_drop_more run_of s i 0 h ∙ goes_on (get_or s i 0) [] _ p q))
      ∙ e

  pub run_stops : i < length s → (get_or s i 0 ≡ 32) ⊎ (get_or s i 0 ≡ 10) → between a i s ++ run_of (drop i s) ≡ run_of (drop a s) → between a i s ≡ run_of (drop a s)
  run_stops h p e =
      sym (append-nil (between a i s))
      ∙ ap (λ xs. between a i s ++ xs) (sym (at_drop_more run_of s i 0 h ∙ stops (get_or s i 0) [] _ p))
      ∙ e

  pub run_ends : length s ≤ i → between a i s ++ run_of (drop i s) ≡ run_of (drop a s) → between a i s ≡ run_of (drop a s)
  run_ends h e =
      sym (append-nil (between a i s))
      ∙ ap (λ xs. between a i s ++ xs) (sym (at_drop_all run_of s i h))
      ∙ e
