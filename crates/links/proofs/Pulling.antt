-- For TA: the command with which one sequence ends is pulled, by links, to the end of another of which watched consoles know the same.
use Rattle.std.proofs.Common.{◌≡◌, ℕ, ◌<◌, true, false, List, [], ◌∷◌, ap, ◌∙◌, subst, inl, inr, arith}
use Rattle.std.proofs.lemmas.Bool.{not_from_false, and_parts, or_right, ne_eqb, cases_Bool}
use Rattle.theory.specs.Flows.{Flow}
use Rattle.links.specs.Sequences.{Every, some_of}
use Rattle.links.specs.Transmitted.{Told}
use Rattle.links.specs.Links.{drops, exchanges, Linked, done, there}
use Rattle.links.specs.Laws.{Setting}
use Rattle.links.specs.Three.{both, transmitted_meaning}
use Rattle.links.proofs.Sequences.{Below, all_given, all_map, all_with, none_passes, one_passes}
use Rattle.links.proofs.Chains.{joined}
use Rattle.links.proofs.Telling.{hears_agrees, exchange_agrees}
use Rattle.links.proofs.Turning.{onto, linked_onto, watched, all_watched, knows, knows_told, knows_untold}
use Rattle.links.proofs.Showing.{Shows, shows_before, giver_shows}

module _ {k n : ℕ} {F : Flow} {owner : ℕ → ℕ} {u : ℕ} (setting : Setting k n F owner u) where
  abbrev Chain : List ℕ → List ℕ → Type 0
  Chain p q = Linked transmitted_meaning n F owner u p q

  -- P holds of each console watched before r
  abbrev Each : (ℕ → Type 0) → List ℕ → Type 0
  Each P r = Every P (watched owner u r)

  -- some console watched before r may be affected by the giver of c
  abbrev Heard : ℕ → List ℕ → Type 0
  Heard c r = some_of (F (owner c)) (watched owner u r) ≡ true

  abbrev Unheard : ℕ → List ℕ → Type 0
  Unheard c r = Each (λ x. F (owner c) x ≡ false) r

  -- none may be affected by the givers of both
  abbrev Apart : ℕ → ℕ → List ℕ → Type 0
  Apart a b r = Each (λ x. both F (owner a) (owner b) x ≡ false) r

  pub dropped : (b : ℕ) (t r : List ℕ) → b < n → Unheard b r → Chain (onto (b ∷ t) r) (onto t r)
  dropped b t r below unheard =
      let parts = all_watched (λ x. F (owner b) x ≡ false) owner u r unheard in
      let after = all_map (λ c. not_from_false (F (owner b) (owner c))) r parts.1 in
      linked_onto t (there (drops b r below (not_from_false (F (owner b) u) parts.0) after) done)

  -- that a giver affects itself and not the other says that the two differ
  exchanged : (a b : ℕ) (t r : List ℕ) → a < n → F (owner a) (owner b) ≡ false → F (owner b) (owner a) ≡ false → Apart a b r → Chain (onto (b ∷ (a ∷ t)) r) (onto (a ∷ (b ∷ t)) r)
  exchanged a b t r below ab ba apart =
      let v = owner a in
      let w = owner b in
      let parts = all_watched (λ x. both F v w x ≡ false) owner u r apart in
      let differ = ne_eqb v w (λ same. let self = setting.selves v (setting.owned a below) in cc) in
      let after = all_map (λ c. not_from_false (both F v w (owner c))) r parts.1 in
      linked_onto t (there (exchanges a b r (rw (differ, ab, ba, parts.0)) after) done)

  -- a chain leads from t to a sequence that ends with a, and watched consoles know the same of both
  pub record Pulled (a : ℕ) (t r : List ℕ) : Type 0 where
    pub rest : List ℕ
    pub below : Below n rest
    pub chain : Chain (onto t r) (onto (a ∷ rest) r)
    pub agrees : Each (λ x. knows F owner t x ≡ knows F owner (a ∷ rest) x) r

  module _ (a : ℕ) (a_below : a < n) (side : Told) (count : ℕ) where
    abbrev Shown : List ℕ → List ℕ → Type 0
    Shown t r = Each (λ x. Shows F owner a side count x (knows F owner t x)) r

    -- a command b that no watched console hears is dropped
    pull_past_unheard : (b : ℕ) (t r : List ℕ) → b < n → Unheard b r → Pulled a t r → Pulled a (b ∷ t) r
    pull_past_unheard b t r below unheard pulled = record {
      rest = pulled.rest;
      below = pulled.below;
      chain = joined (dropped b t r below unheard) pulled.chain;
      agrees = all_with (λ x un e. knows_untold F owner b t x un ∙ e) (watched owner u r) unheard pulled.agrees;
    }

    pull_found : (b : ℕ) (t r : List ℕ) → Below n t → b ≡ a → Pulled a (b ∷ t) r
    pull_found b t r below same = record {
      rest = t;
      below = below;
      chain = subst (λ c. Chain (onto (b ∷ t) r) (onto (c ∷ t) r)) same done;
      agrees = all_given (λ x. ap (λ c. knows F owner (c ∷ t) x) same) (watched owner u r);
    }

    -- any other is exchanged with a, which was pulled up to it
    pull_past_exchanged : (b : ℕ) (t r : List ℕ) → b < n → F (owner a) (owner b) ≡ false → F (owner b) (owner a) ≡ false → Apart a b r → Pulled a t (b ∷ r) → Pulled a (b ∷ t) r
    pull_past_exchanged b t r below ab ba apart pulled =
        let s = pulled.rest in
        record {
          rest = b ∷ s;
          below = (below, pulled.below);
          chain = joined pulled.chain (exchanged a b s r a_below ab ba apart);
          agrees = all_with (λ x not_both e.
              hears_agrees F owner (knows F owner t) (knows F owner (a ∷ s)) b x e pulled.agrees.0
              ∙ exchange_agrees F owner (knows F owner s) a b x ab ba not_both) (watched owner u r) apart pulled.agrees.1;
        }

    pull_past_heard : (b : ℕ) (t r : List ℕ) → b < n → Apart a b r → Heard a r → Heard b r → Shown (b ∷ t) r → Shown t r → (Heard a (b ∷ r) → Shown t (b ∷ r) → Pulled a t (b ∷ r)) → Pulled a (b ∷ t) r
    pull_past_heard b t r below apart a-heard b-heard shown before on =
        let apart_and_shown : Each (λ x. (both F (owner a) (owner b) x ≡ false) × Shows F owner a side count x (knows F owner (b ∷ t) x)) r =
        all_with (λ x not_both h. (not_both, h)) (watched owner u r) apart shown in
        let (x, b_to_x, at_x) = one_passes (F (owner b)) (watched owner u r) b-heard apart_and_shown in
        let (y, a_to_y, at_y) = one_passes (F (owner a)) (watched owner u r) a-heard before in
        let (ab, ba, giver) = giver_shows F owner a side count b t x y b_to_x at_x.0 at_x.1 a_to_y at_y in
        pull_past_exchanged b t r below ab ba apart (on (or_right (F (owner a) (owner b)) _ a-heard) (giver, before))

    pub pull : (t r : List ℕ) → Below n t → Heard a r → Shown t r → Pulled a t r
    pull [] r below a-heard shown =
        let (x, a_to_x, at_x) = one_passes (F (owner a)) (watched owner u r) a-heard shown in
        let seen = (at_x.hit a_to_x).1 in
        let never : ◌≡◌ {A = ℕ} 0 1 = cc in
        absurd (omega arith)
    pull (b ∷ t) r below a-heard shown =
        elim (cases_Bool (some_of (both F (owner a) (owner b)) (watched owner u r))) [
          | inl found ↦
              let (x, to-x, at_x) = one_passes (both F (owner a) (owner b)) (watched owner u r) found shown in
              let parts = and_parts (F (owner a) x) (F (owner b) x) to-x in
              let seen = (at_x.hit parts.0).1 in
              let here = knows_told F owner b t x parts.1 in
              pull_found b t r below.1 (cc)
          | inr none ↦
              let apart = none_passes (both F (owner a) (owner b)) (watched owner u r) none in
              let before = all_with (shows_before F owner a side count b t) (watched owner u r) apart shown in
              elim (cases_Bool (some_of (F (owner b)) (watched owner u r))) [
                | inl b-heard ↦ pull_past_heard b t r below.0 apart a-heard b-heard shown before (pull t (b ∷ r) below.1)
                | inr unheard ↦ pull_past_unheard b t r below.0 (none_passes (F (owner b)) (watched owner u r) unheard) (pull t r below.1 a-heard before)
              ]
        ]
