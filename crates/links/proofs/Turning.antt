-- For TA read from the last command back: what consoles know after a turned sequence, whose last command stands first.
use Rattle.std.proofs.Common.{◌≡◌, ℕ, true, false, List, [], ◌∷◌, ◌++◌, map, refl, ap, ◌∙◌}
use mathlib.Core.List.{reverse_aux}
use Rattle.std.proofs.lemmas.List.{reverse-reverse}
use Rattle.std.proofs.lemmas.Bool.{cond-true, cond-false, cond_both}
use Rattle.theory.specs.Flows.{Flow}
use Rattle.links.specs.Sequences.{Every}
use Rattle.links.specs.Transmitted.{Told, nothing, told, hears, hears_all, ta}
use Rattle.links.specs.Meaning.{MeaningValue}
use Rattle.links.specs.Links.{Linked}
use Rattle.links.proofs.Sequences.{Below}
use Rattle.links.proofs.Chains.{linked_later}

-- a turned sequence put back in front of another
abbrev pub onto : List ℕ → List ℕ → List ℕ
onto s r = reverse_aux s r

-- a sequence turned twice is itself
pub turned_back : (p : List ℕ) → onto (onto p []) [] ≡ p
turned_back p = reverse-reverse p

pub below_onto : (n : ℕ) (s r : List ℕ) → Below n s → Below n r → Below n (onto s r)
below_onto n [] r hs hr = hr
below_onto n (a ∷ s) r hs hr = below_onto n s (a ∷ r) hs.1 (hs.0, hr)

pub linked_onto : {m : MeaningValue} {n : ℕ} {F : Flow} {owner : ℕ → ℕ} {u : ℕ} (s : List ℕ) {p q : List ℕ} → Linked m n F owner u p q → Linked m n F owner u (onto s p) (onto s q)
linked_onto [] c = c
linked_onto (a ∷ s) c = linked_onto s (linked_later a c)

-- the consoles whose knowledge counts where r is still to come: u and the givers in r
abbrev pub watched : (ℕ → ℕ) → ℕ → List ℕ → List ℕ
watched owner u r = map owner r ++ (u ∷ [])

pub all_watched : (P : ℕ → Type 0) (owner : ℕ → ℕ) (u : ℕ) (r : List ℕ) → Every P (watched owner u r) → P u × Every (λ c. P (owner c)) r
all_watched P owner u [] h = (h.0, tt)
all_watched P owner u (c ∷ r) h = let rest = all_watched P owner u r h.1 in (rest.0, (h.0, rest.1))

-- what each console knows after a turned sequence
abbrev pub knows : Flow → (ℕ → ℕ) → List ℕ → ℕ → Told
knows F owner [] u = nothing
knows F owner (a ∷ s) u = hears F owner (knows F owner s) a u

module _ (F : Flow) (owner : ℕ → ℕ) where
  knows_ta : (s r : List ℕ) (u : ℕ) → hears_all F owner (knows F owner s) r u ≡ ta F owner u (onto s r)
  knows_ta [] r u = refl
  knows_ta (a ∷ s) r u = knows_ta s (a ∷ r) u

  pub turned_ta : (p : List ℕ) (u : ℕ) → knows F owner (onto p []) u ≡ ta F owner u p
  turned_ta p u = knows_ta (onto p []) [] u ∙ ap (ta F owner u) (turned_back p)

  -- what holds of a console that hears one more command, and of one that does not
  pub one_more : (b : ℕ) (s : List ℕ) (x : ℕ) (P : Told → Type 0)
      → (F (owner b) x ≡ true → P (told (knows F owner s x) (knows F owner s (owner b)) b)) → (F (owner b) x ≡ false → P (knows F owner s x)) → P (knows F owner (b ∷ s) x)
  one_more b s x = cond_both (F (owner b) x) (told (knows F owner s x) (knows F owner s (owner b)) b) (knows F owner s x)

  pub knows_told : (b : ℕ) (s : List ℕ) (x : ℕ) → F (owner b) x ≡ true → knows F owner (b ∷ s) x ≡ told (knows F owner s x) (knows F owner s (owner b)) b
  knows_told b s x e = cond-true (F (owner b) x) _ _ e

  pub knows_untold : (b : ℕ) (s : List ℕ) (x : ℕ) → F (owner b) x ≡ false → knows F owner (b ∷ s) x ≡ knows F owner s x
  knows_untold b s x e = cond-false (F (owner b) x) _ _ e
