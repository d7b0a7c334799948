-- For TA: how agreement of a console on two sequences follows from agreement on shorter ones.
use Rattle.std.proofs.Common.{◌≡◌, ℕ, ◌<◌, Bool, true, false, cond, not, ◌&&◌, eqb, List, [], ◌∷◌, ◌++◌, sym, refl, ap, ◌∙◌, ap₂, ⊎_elim}
use Rattle.std.specs.Prelude.{◌==◌}
use Rattle.std.proofs.lemmas.Bool.{cases_eq, ne_eqb, cond-true, cond-false, cond_both}
use Rattle.policy.specs.Flows.{consoles_of}
use Rattle.policy.specs.Members.{holds}
use Rattle.policy.specs.declared.members.Members.{Members}
use Rattle.links.specs.Transmitted.{Told, nothing, told, ta, same_told}
use Rattle.links.proofs.Telling.{ta_grows}
use Rattle.meaning.specs.Agreeing.{told_alike, AgreeingSet, Known, corner_alike}
use Rattle.meaning.specs.Reach.{flow_of, giver_of}
use Rattle.meaning.specs.declared.reach.Reach.{Reach}
use Rattle.meaning.specs.declared.transmitted.Corner.{Corner}

-- a test of what is told against nothing
told_or_not : (b : Bool) (t s : Told) (a : ℕ) → (same_told (cond b (told t s a) t) nothing ≡ (same_told t nothing && not b)) × (same_told nothing (cond b (told t s a) t) ≡ (same_told nothing t && not b))
told_or_not true nothing s a = (refl, refl)
told_or_not true (told _ _ _) s a = (refl, refl)
told_or_not false nothing s a = (refl, refl)
told_or_not false (told _ _ _) s a = (refl, refl)

module _ (r : Reach) (x : ℕ) where
  knows : List ℕ → Told
  knows p = ta (flow_of r) (giver_of r) x p

  reached : ℕ → Bool
  reached a = flow_of r (giver_of r a) x

  grows : (p : List ℕ) (a : ℕ) → knows (p ++ (a ∷ [])) ≡ cond (reached a) (told (knows p) (ta (flow_of r) (giver_of r) (giver_of r a) p) a) (knows p)
  unfolding knows reached
  grows p a = (ta_grows (flow_of r) (giver_of r) x p a).1

  -- a last command that does not reach x makes no difference
  unheard_left : (p q : List ℕ) (a : ℕ) → flow_of r (giver_of r a) x ≡ false → told_alike r x p q ≡ told_alike r x (p ++ (a ∷ [])) q
  unfolding knows reached
  unheard_left p q a unheard = ap (λ t. same_told t (knows q)) (sym (grows p a ∙ cond-false (reached a) _ _ unheard))

  unheard_right : (p q : List ℕ) (b : ℕ) → flow_of r (giver_of r b) x ≡ false → told_alike r x p q ≡ told_alike r x p (q ++ (b ∷ []))
  unfolding knows reached
  unheard_right p q b unheard = ap (same_told (knows p)) (sym (grows q b ∙ cond-false (reached b) _ _ unheard))

  -- two that do reach it have to be one command, of a console that was told the same
  heard_both : (p q : List ℕ) (a b : ℕ) → flow_of r (giver_of r a) x ≡ true → flow_of r (giver_of r b) x ≡ true
      → told_alike r x (p ++ (a ∷ [])) (q ++ (b ∷ []))
      ≡ (eqb a b && (told_alike r x p q && same_told (ta (flow_of r) (giver_of r) (giver_of r a) p) (ta (flow_of r) (giver_of r) (giver_of r b) q)))
  unfolding knows reached
  heard_both p q a b heard-a heard-b =
      ap₂ same_told (grows p a ∙ cond-true (reached a) _ _ heard-a) (grows q b ∙ cond-true (reached b) _ _ heard-b)

  -- and one that does differs from none
  alone_left : (p : List ℕ) (a : ℕ) → told_alike r x (p ++ (a ∷ [])) [] ≡ (told_alike r x p [] && not (flow_of r (giver_of r a) x))
  unfolding knows reached
  alone_left p a = ap (λ t. same_told t nothing) (grows p a) ∙ (told_or_not (reached a) (knows p) _ a).0

  alone_right : (q : List ℕ) (b : ℕ) → told_alike r x [] (q ++ (b ∷ [])) ≡ (told_alike r x [] q && not (flow_of r (giver_of r b) x))
  unfolding knows reached
  alone_right q b = ap (same_told nothing) (grows q b) ∙ (told_or_not (reached b) (knows q) _ b).1

-- what is right where two commands are one is all that their test asks for
where_one : (a b : ℕ) (s t : Bool) → (a ≡ b → s ≡ t) → (eqb a b && s) ≡ (eqb a b && t)
where_one a b s t same = ⊎_elim (λ (e : a ≡ b). ap (λ v. eqb a b && v) (same e)) (λ (apart : a ≡ b → ⊥). rw (ne_eqb a b apart)) (cases_eq a b)

-- a corner whose neighbours are right is read off rightly
pub corner_told : (r : Reach) (p q : List ℕ) (corner : Corner) → Known r p q corner → (x : ℕ) → x < consoles_of r.flows.now
    → corner_alike r corner x ≡ told_alike r x (p ++ (corner.left ∷ [])) (q ++ (corner.right ∷ []))
corner_told r p q corner known x below =
    let a = corner.left in
    let b = corner.right in
    let told_so : Bool → Type 0 = λ t. t ≡ told_alike r x (p ++ (a ∷ [])) (q ++ (b ∷ [])) in
    let same : Bool = a == b && (holds corner.across x && holds corner.across (giver_of r a)) in
    cond_both (flow_of r (giver_of r a) x) (cond (flow_of r (giver_of r b) x) same (holds corner.beside x)) (holds corner.above x) told_so
    (λ heard. cond_both (flow_of r (giver_of r b) x) same (holds corner.beside x) told_so
    (λ heard_too.
    where_one a b _ _ (λ e. ap₂ ◌&&◌ (known.across x below) (known.across (giver_of r a) (r.flows.now.within (giver_of r a) x heard).0 ∙ ap (λ c. same_told (ta (flow_of r) (giver_of r) (giver_of r a) p) (ta (flow_of r) (giver_of r) (giver_of r c) q)) e))
    ∙ sym (heard_both r x p q a b heard heard_too))
    (λ unheard. known.beside x below ∙ unheard_right r x (p ++ (a ∷ [])) q b unheard))
    (λ unheard. known.above x below ∙ unheard_left r x p (q ++ (b ∷ [])) a unheard)

-- who agrees on a sequence and none, with one command more
module _ (r : Reach) (set rest : Members) (a : ℕ) (left_over : (x : ℕ) → x < consoles_of r.flows.now → holds rest x ≡ (holds set x && not (flow_of r (giver_of r a) x))) where
  pub agreeing_left : (p : List ℕ) → AgreeingSet r p [] set → AgreeingSet r (p ++ (a ∷ [])) [] rest
  agreeing_left p right x below = left_over x below ∙ ap (λ b. b && not (flow_of r (giver_of r a) x)) (right x below) ∙ sym (alone_left r x p a)

  pub agreeing_right : (q : List ℕ) → AgreeingSet r [] q set → AgreeingSet r [] (q ++ (a ∷ [])) rest
  agreeing_right q right x below = left_over x below ∙ ap (λ b. b && not (flow_of r (giver_of r a) x)) (right x below) ∙ sym (alone_right r x q a)
