-- A store that held one entry throughout reads, behind what was written in front, as that entry.
use Rattle.std.proofs.Common.{◌≡◌, ℕ, zero, suc, ◌<◌, ◌≤◌, List, [], ◌∷◌, ◌++◌, map, length, get_or, replicate, refl, sym, ap, ap₂, ◌∙◌, ⊎_elim}
use Rattle.std.proofs.lemmas.List.{drop-replicate, get_or_append_left, get_or-append_right, get_or_past, get_or-replicate, length-replicate}
use Rattle.std.proofs.lemmas.Bool.{cases_lt}
use Rattle.sheet.specs.Calls.{overwritten}

same_throughout : {A : Type 0} (n i : ℕ) (d : A) → get_or (replicate n d) i d ≡ d
same_throughout n i d = ⊎_elim (λ h. get_or-replicate n i d d h) (λ h. get_or_past (replicate n d) i d (simp length-replicate h)) (cases_lt i n)

behind : {A : Type 0} (xs : List A) (k i : ℕ) (d : A) → get_or (xs ++ replicate k d) i d ≡ get_or xs i d
behind xs k i d = ⊎_elim within past (cases_lt i (length xs))
  where
    within : i < length xs → get_or (xs ++ replicate k d) i d ≡ get_or xs i d
    within h = get_or_append_left xs (replicate k d) d i h

    past : length xs ≤ i → get_or (xs ++ replicate k d) i d ≡ get_or xs i d
    past h = get_or-append_right xs (replicate k d) (length xs) i d refl h ∙ same_throughout k _ d ∙ sym (get_or_past xs i d h)

-- numbers in front of zeros
pub numbers_in_front : (xs : List ℕ) (n i : ℕ) → get_or (overwritten xs (replicate n 0)) i 0 ≡ get_or xs i 0
numbers_in_front xs n i = ap (λ t. get_or (xs ++ t) i 0) (drop-replicate (length xs) n 0) ∙ behind xs _ i 0

module _ {C D : Type 0} (stored : C → D) (cell : D → C) (keeps : (x : D) → stored (cell x) ≡ x) where
  stored_cells : (ds : List D) (k : ℕ) (d : D) → map stored (map cell ds ++ replicate k (cell d)) ≡ ds ++ replicate k d
  stored_cells [] zero d = refl
  stored_cells [] (suc k) d = ap₂ (λ x xs. x ∷ xs) (keeps d) (stored_cells [] k d)
  stored_cells (x ∷ xs) k d = ap₂ (λ x xs. x ∷ xs) (keeps x) (stored_cells xs k d)

  -- displays in front of one display, as a store keeps them
  pub displays_in_front : (ds : List D) (n i : ℕ) (d : D) → get_or (map stored (overwritten (map cell ds) (replicate n (cell d)))) i d ≡ get_or ds i d
  displays_in_front ds n i d =
      ap (λ t. get_or (map stored (map cell ds ++ t)) i d) (drop-replicate (length (map cell ds)) n (cell d))
      ∙ ap (λ t. get_or t i d) (stored_cells ds _ d)
      ∙ behind ds _ i d
