-- For TA: sequences of which a console is told the same are linked, one last command after the other.
use Rattle.std.proofs.Common.{◌≡◌, ℕ, Bool, true, false, cond, List, [], ◌∷◌, sym, refl, ◌∙◌, subst, inl, inr}
use Rattle.std.proofs.lemmas.Bool.{false≢true, cases_Bool}
use Rattle.theory.specs.Flows.{Flow}
use Rattle.links.specs.Sequences.{Every, some_of}
use Rattle.links.specs.Transmitted.{Told, nothing, told, ta}
use Rattle.links.specs.Links.{Linked, done}
use Rattle.links.specs.Laws.{Setting, Faithful, MeaningLaws}
use Rattle.links.specs.Three.{transmitted_meaning}
use Rattle.links.proofs.Sequences.{Below, all_map, all_with, none_passes, one_passes}
use Rattle.links.proofs.Chains.{joined, turned}
use Rattle.links.proofs.Likeness.{transmitted_alike}
use Rattle.links.proofs.Faithful.{faithful}
use Rattle.links.proofs.Antitone.{laws, transmitted_questions}
use Rattle.links.proofs.Evenhanded.{transmitted_evenhanded}
use Rattle.links.proofs.Telling.{link_keeps_told}
use Rattle.links.proofs.Turning.{onto, turned_back, below_onto, watched, knows, turned_ta, knows_untold}
use Rattle.links.proofs.Counting.{acts}
use Rattle.links.proofs.Showing.{Shows, shows_last}
use Rattle.links.proofs.Pulling.{dropped, pull}

-- Where a console knows the same after a last command a, it knew the same before; and so did the giver, where the console was told.
last_agrees : (a : ℕ) (e : Bool) (p s q t : Told) → cond e (told p s a) p ≡ cond e (told q t a) q → (p ≡ q) × (e ≡ true → s ≡ t)
last_agrees a true p s q t same = (cc, λ _. cc)
last_agrees a false p s q t same = (same, λ never. absurd (false≢true never))

-- who knows nothing was not told of a command
nothing_unheard : (e : Bool) (p s : Told) (b : ℕ) → nothing ≡ cond e (told p s b) p → e ≡ false
nothing_unheard true p s b never = cc
nothing_unheard false p s b _ = refl

module _ {k n : ℕ} {F : Flow} {owner : ℕ → ℕ} {u : ℕ} (setting : Setting k n F owner u) where
  -- of a sequence that tells no watched console anything, each command is dropped
  emptied : (t r : List ℕ) → Below n t → Every (λ x. nothing ≡ knows F owner t x) (watched owner u r) → Linked transmitted_meaning n F owner u r (onto t r)
  emptied [] r below silent = done
  emptied (b ∷ t) r below silent =
      let unheard = all_map (λ x. nothing_unheard (F (owner b) x) (knows F owner t x) (knows F owner t (owner b)) b) (watched owner u r) silent in
      let on = emptied t r below.1 (all_with (λ x e un. e ∙ knows_untold F owner b t x un) (watched owner u r) silent unheard) in
      joined on (turned (dropped setting b t r below.0 unheard))

  -- The last command of s is dropped where no watched console hears it; else it is pulled to the end of t,
  -- and what comes before it is linked with its giver watched too.
  linked : (s t r : List ℕ) → Below n s → Below n t → Every (λ x. knows F owner s x ≡ knows F owner t x) (watched owner u r) → Linked transmitted_meaning n F owner u (onto s r) (onto t r)
  linked [] t r _ below agrees = emptied t r below agrees
  linked (a ∷ s) t r s-below t-below agrees =
      elim (cases_Bool (some_of (F (owner a)) (watched owner u r))) [
        | inl heard ↦
            let side = knows F owner s (owner a) in
            let count = acts owner (owner a) s in
            let shown = all_map (λ x e. subst (Shows F owner a side count x) e (shows_last F owner a s x)) (watched owner u r) agrees in
            let pulled = pull setting a s-below.0 side count t r t-below heard shown in
            let parts = all_with (λ x e f. last_agrees a (F (owner a) x) _ _ _ _ (e ∙ f)) (watched owner u r) agrees pulled.agrees in
            let (x, a_to_x, at_x) = one_passes (F (owner a)) (watched owner u r) heard parts in
            let on = linked s pulled.rest (a ∷ r) s-below.1 pulled.below (at_x.1 a_to_x, all_map (λ _ part. part.0) (watched owner u r) parts) in
            joined on (turned pulled.chain)
        | inr none ↦
            let unheard = none_passes (F (owner a)) (watched owner u r) none in
            let on = linked s t r s-below.1 t-below (all_with (λ x e un. sym (knows_untold F owner a s x un) ∙ e) (watched owner u r) agrees unheard) in
            joined (dropped setting a s r s-below.0 unheard) on
      ]

  told_same_linked : (p q : List ℕ) → Below n p → Below n q → ta F owner u p ≡ ta F owner u q → Linked transmitted_meaning n F owner u p q
  told_same_linked p q p_below q_below same =
      let agrees = turned_ta F owner p u ∙ same ∙ sym (turned_ta F owner q u) in
      rw (← turned_back p, ← turned_back q) (linked (onto p []) (onto q []) [] (below_onto n p [] p_below tt) (below_onto n q [] q_below tt) (agrees, tt))

transmitted_faithful : Faithful transmitted_meaning
transmitted_faithful =
    faithful transmitted_meaning ta transmitted_alike
    (λ k n F owner u setting p q hp hq l. link_keeps_told F owner l (λ _. nothing))
    (λ k n F owner u setting. told_same_linked setting)

pub transmitted_laws : MeaningLaws transmitted_meaning
transmitted_laws = laws transmitted_faithful transmitted_questions transmitted_evenhanded
