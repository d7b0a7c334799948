-- For TA: what watched consoles know while a command is looked for in a turned sequence, and what it says of the consoles of the commands passed.
use Rattle.std.proofs.Common.{◌≡◌, ℕ, ◌≤◌, true, false, List, ◌∷◌, sym, refl, ap, ◌∙◌, arith}
use Rattle.std.proofs.lemmas.Bool.{both_ways, eq-eqb, ne_eqb, false_from_ne_true}
use Rattle.theory.specs.Flows.{Flow}
use Rattle.links.specs.Transmitted.{Told, told}
use Rattle.links.specs.Three.{both}
use Rattle.links.proofs.Turning.{knows, knows_told, knows_untold}
use Rattle.links.proofs.Counting.{counted, acts, spine, most, spine_most, spine_acts, most_acts, most_kept, most_giver}

-- What t, the knowledge of a console x, says of a command a that is looked for: `side` is what the giver of a knew
-- before it, and `count` how many commands the giver had given before it.
pub record Shows (F : Flow) (owner : ℕ → ℕ) (a : ℕ) (side : Told) (count x : ℕ) (t : Told) : Type 0 where
  -- whom the giver may affect was told of a last, and before it of no fewer commands of the giver
  pub hit : F (owner a) x ≡ true → (before : Told) × (t ≡ told before side a) × (count ≤ spine owner (owner a) before)
  -- any other was not told of a
  pub miss : F (owner a) x ≡ false → most owner (owner a) t ≤ count
  -- none knows more commands of a console that may affect the giver than the giver knew
  pub low : (d : ℕ) → (d ≡ owner a → ⊥) → F d (owner a) ≡ true → most owner d t ≤ spine owner d side

module _ (F : Flow) (owner : ℕ → ℕ) where
  -- where a comes last, each console shows it
  pub shows_last : (a : ℕ) (s : List ℕ) (x : ℕ) → Shows F owner a (knows F owner s (owner a)) (acts owner (owner a) s) x (knows F owner (a ∷ s) x)
  shows_last a s x = record {
    hit = λ affects. (knows F owner s x, knows_told F owner a s x affects, omega (arith, spine_acts F owner (owner a) x affects s));
    miss = λ unaffected. rw (knows_untold F owner a s x unaffected) (most_acts F owner (owner a) x s);
    low = λ d other affects. omega (arith, most_acts F owner d x (a ∷ s), spine_acts F owner d (owner a) affects s, ap counted (ne_eqb (owner a) d (λ same. other (sym same))));
  }

  module _ (a : ℕ) (side : Told) (count : ℕ) (b : ℕ) (t : List ℕ) where
    -- x shows a before b too, unless the givers of both may affect x
    pub shows_before : (x : ℕ) → both F (owner a) (owner b) x ≡ false → Shows F owner a side count x (knows F owner (b ∷ t) x) → Shows F owner a side count x (knows F owner t x)
    shows_before x not_both h = record {
      hit = λ affects. let seen = h.hit affects in (seen.0, sym (knows_untold F owner b t x (rw affects at not_both)) ∙ seen.1, seen.2);
      miss = λ unaffected. omega (arith, h.miss unaffected, most_kept F owner (owner a) b t x);
      low = λ d other affects. omega (arith, h.low d other affects, most_kept F owner d b t x);
    }

    -- Let x be told of b and not of a, and y of a before b.
    module _ (x y : ℕ) (b_to_x : F (owner b) x ≡ true) (not_both : both F (owner a) (owner b) x ≡ false)
        (at_x : Shows F owner a side count x (knows F owner (b ∷ t) x)) (a_to_y : F (owner a) y ≡ true) (at_y : Shows F owner a side count y (knows F owner t y)) where
      a_to_x : F (owner a) x ≡ false
      a_to_x = grind arith

      -- The giver of a does not affect that of b: else the latter had heard more commands of it than x may know.
      giver_unaffected : F (owner a) (owner b) ≡ false
      giver_unaffected =
          let w = owner a in
          let seen = at_y.hit a_to_y in
          false_from_ne_true (F w (owner b)) (λ affects. omega (
            arith,
            at_x.miss a_to_x,
            most_giver F owner w b t x b_to_x,
            spine_most owner w (knows F owner t (owner b)),
            spine_acts F owner w (owner b) affects t,
            spine_acts F owner w y a_to_y t,
            ap (spine owner w) seen.1,
            seen.2,
            ap counted (eq-eqb w w refl),
          ))

      -- Nor the other way round: else the giver of a had heard b as well, and so one command more than there are before b.
      giver_not_affecting : F (owner b) (owner a) ≡ false
      giver_not_affecting =
          let v = owner b in
          let seen = at_y.hit a_to_y in
          false_from_ne_true (F v (owner a)) (λ affects. omega (
            arith,
            at_x.low v (λ same. cc) affects,
            spine_most owner v (knows F owner (b ∷ t) x),
            spine_acts F owner v x b_to_x (b ∷ t),
            ap counted (eq-eqb v v refl),
            spine_most owner v side,
            ap (most owner v) seen.1,
            most_acts F owner v y t,
          ))

      -- And the giver of b shows a, since x was told what it knew.
      pub giver_shows : (F (owner a) (owner b) ≡ false) × (F (owner b) (owner a) ≡ false) × Shows F owner a side count (owner b) (knows F owner t (owner b))
      giver_shows = (
        giver_unaffected,
        giver_not_affecting,
        record {
          hit = λ affects. absurd (both_ways (F (owner a) (owner b)) giver_unaffected affects);
          miss = λ _. omega (arith, at_x.miss a_to_x, most_giver F owner (owner a) b t x b_to_x);
          low = λ d other affects. omega (arith, at_x.low d other affects, most_giver F owner d b t x b_to_x);
        },
      )
