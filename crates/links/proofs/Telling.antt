-- For TA: how what consoles know runs through a sequence, and that a link keeps what the console was told.
use Rattle.std.proofs.Common.{◌≡◌, ℕ, true, false, cond, not, List, [], ◌∷◌, refl, ap, ap₂, arith}
use Rattle.std.proofs.lemmas.Bool.{not-true, cond-false}
use Rattle.std.proofs.lemmas.List.Sums.{fold_push}
use Rattle.theory.specs.Flows.{Flow}
use Rattle.links.specs.Sequences.{Every}
use Rattle.links.specs.Transmitted.{Told, nothing, told, hears, hears_all}
use Rattle.links.specs.Links.{Link, drops, exchanges, later}
use Rattle.links.specs.Three.{both, transmitted_meaning}
use Rattle.links.specs.Growth.{TaGrows}
use Rattle.links.proofs.Sequences.{all_map}

module _ (F : Flow) (owner : ℕ → ℕ) where
  -- a command keeps agreement where the console and the giver have it
  pub hears_agrees : (f g : ℕ → Told) (a z : ℕ) → f z ≡ g z → f (owner a) ≡ g (owner a) → hears F owner f a z ≡ hears F owner g a z
  hears_agrees f g a z at-z at-giver = ap₂ (λ x y. cond (F (owner a) z) (told x y a) x) at-z at-giver

  -- and so does a sequence, where the console and each giver have it
  hears_all_agrees : (f g : ℕ → Told) (u : ℕ) (r : List ℕ) → f u ≡ g u → Every (λ c. f (owner c) ≡ g (owner c)) r → hears_all F owner f r u ≡ hears_all F owner g r u
  hears_all_agrees f g u [] at-u h = at-u
  hears_all_agrees f g u (c ∷ r) at-u h =
      hears_all_agrees (hears F owner f c) (hears F owner g c) u r (hears_agrees f g c u at-u h.0) (all_map (λ d e. hears_agrees f g c (owner d) e h.0) r h.1)

  -- Neighbours may be exchanged where neither giver may affect the other and not both may affect the console.
  pub exchange_agrees : (f : ℕ → Told) (a b z : ℕ) → F (owner a) (owner b) ≡ false → F (owner b) (owner a) ≡ false → both F (owner a) (owner b) z ≡ false
      → hears F owner (hears F owner f a) b z ≡ hears F owner (hears F owner f b) a z
  exchange_agrees f a b z ab ba not_both = grind arith

  -- what a yes to the exchange question says
  exchange_parts : (u v w : ℕ) → transmitted_meaning.exchange F u v w ≡ true → (F v w ≡ false) × (F w v ≡ false) × (both F v w u ≡ false)
  exchange_parts u v w e = (grind arith, grind arith, grind arith)

  -- so a link keeps what the console is told, whatever each console knew before
  pub link_keeps_told : {n u : ℕ} {p q : List ℕ} → Link transmitted_meaning n F owner u p q → (f : ℕ → Told) → hears_all F owner f p u ≡ hears_all F owner f q u
  link_keeps_told {u} (drops a r _ dropped after) f =
      hears_all_agrees (hears F owner f a) f u r (untold u dropped) (all_map (λ c. untold (owner c)) r after)
    where
      untold : (z : ℕ) → not (F (owner a) z) ≡ true → hears F owner f a z ≡ f z
      untold z e = cond-false (F (owner a) z) _ _ (not-true (F (owner a) z) e)
  link_keeps_told {u} (exchanges a b r exchanged after) f =
      let parts = exchange_parts u (owner a) (owner b) exchanged in
      hears_all_agrees (hears F owner (hears F owner f a) b) (hears F owner (hears F owner f b) a) u r
      (exchange_agrees f a b u parts.0 parts.1 parts.2)
      (all_map (λ c e. exchange_agrees f a b (owner c) parts.0 parts.1 (not-true (both F (owner a) (owner b) (owner c)) e)) r after)
  link_keeps_told (later c l) f = link_keeps_told l (hears F owner f c)

pub ta_grows : TaGrows
ta_grows F owner u r a = (refl, ap (λ knows. knows u) (fold_push (hears F owner) (λ _. nothing) r a))
