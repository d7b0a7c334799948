-- The rows of flows, read exactly: ascending pairs without self flows, to the end of the sheet.
use Rattle.std.proofs.Common.{◌≡◌, ℕ, zero, suc, ◌+◌, ◌*◌, ◌/◌, ◌%◌, ◌<◌, ◌≤◌, Bool, true, false, cond, not, ◌&&◌, ◌||◌, eqb, ltb, leb, ◌⊎◌, List, [], ◌∷◌, ◌++◌, length, drop, Ok, Err, decimal, Result, sym, refl, ap, ◌∙◌, subst, inl, inr, ⊎_elim, arith}
use Rattle.std.proofs.lemmas.Nat.{div-add-mod', mod_below}
use Rattle.std.proofs.lemmas.List.{length-append, length-drop, drop_all}
use Rattle.std.proofs.lemmas.Bool.{and_from, and_parts, true≢false, cond_both, lt-leb, le-leb, leb-true, or_from, or_left, or_cases, ne_eqb, eq-eqb, eqb-true, cond-true, cond-false, cases_eq}
use Rattle.std.proofs.lemmas.Bool.Decides.{nat_tests}
use Rattle.theory.specs.Limits.{Count, most_consoles}
use Rattle.theory.specs.Flows.{Flow}
use Rattle.sheet.specs.Faults.{on_line}
use Rattle.sheet.specs.Marks.{blank}
use Rattle.sheet.specs.Plan.{tabulate}
use Rattle.sheet.specs.Text.{flows_text, line_of, listed, pairs_kept, flow_pairs}
use Rattle.sheet.specs.Reading.{flow_at, flows_at, may_come}
use Rattle.sheet.specs.Exact.{among}
use Rattle.sheet.proofs.ExactItems.{on_ok, ok_same, before_end}
use Rattle.sheet.proofs.ExactLines.{flow_line, flow_exactly}
use Rattle.sheet.proofs.ExactBlocks.{on_line_ok}

-- pairs that may be listed from `low` on, ascending
abbrev pub ListedFrom : ℕ → ℕ → List ℕ → Type 0
ListedFrom k low [] = Unit
ListedFrom k low (p ∷ ps) = (low ≤ p) × (p < k * k) × (p / k ≡ p % k → ⊥) × ListedFrom k (p + 1) ps

end_here : (sheet : List ℕ) (i : ℕ) → drop i sheet ≡ [] → leb (length sheet) i ≡ true
end_here sheet i e = le-leb (length sheet) i (omega (arith, length-drop i sheet, ap length e))

flow_line_some : (k p : ℕ) → 1 ≤ length (flow_line k p)
flow_line_some k p = omega (arith, length-append (decimal (p / k)) (blank ∷ line_of (decimal (p % k) ∷ [])))

cond_ok : {A F : Type 0} (t : Bool) (x : A) (r : Result A F) (z : A) → cond t (Ok x) r ≡ Ok z → ((t ≡ true) × (x ≡ z)) ⊎ ((t ≡ false) × (r ≡ Ok z))
cond_ok true x r z e = inl (refl, cc)
cond_ok false x r z e = inr (refl, e)

cond_pass : {A F : Type 0} (t : Bool) (r : Result A F) (f : F) (z : A) → cond t r (Err f) ≡ Ok z → (t ≡ true) × (r ≡ Ok z)
cond_pass t r f z e = (grind arith, grind arith)

module _ (k : ℕ) (counts : Count most_consoles k) (sheet : List ℕ) where
  pub flows_complete : (room low : ℕ) → k * k ≤ room + low → (ps : List ℕ) → ListedFrom k low ps → (line i : ℕ) → drop i sheet ≡ flows_text k ps → flows_at k sheet room low line i ≡ Ok ps
  flows_complete zero low h [] l line i e = rw (end_here sheet i e)
  flows_complete zero low h (p ∷ ps) l line i e = absurd (omega (arith, l.0, l.1))
  flows_complete (suc room) low h [] l line i e = rw (end_here sheet i e)
  flows_complete (suc room) low h (p ∷ ps) l line i e =
      let here = lt-leb (length sheet) i (before_end sheet i (flow_line k p) (flows_text k ps) e (flow_line_some k p)) in
      let f = (flow_exactly k counts sheet).reads p l.1 i (flows_text k ps) e in
      let m : may_come k low p ≡ true = and_from _ _ (le-leb low p l.0) (ap not (ne_eqb (p / k) (p % k) l.2)) in
      let r = flows_complete room (p + 1) (omega (arith, l.0)) ps l.3 (line + 1) f.0 f.2 in
      rw (f.1, here, m, r)

  -- nothing more where the sheet ends
  ended : (i low : ℕ) (ps : List ℕ) → (leb (length sheet) i ≡ true) × ([] ≡ ps) → ListedFrom k low ps × (drop i sheet ≡ flows_text k ps)
  ended i low ps d = subst (λ (l : List ℕ). ListedFrom k low l × (drop i sheet ≡ flows_text k l)) d.1 (tt, drop_all i sheet (leb-true (length sheet) i d.0))

  pub flows_sound : (room low line i : ℕ) (ps : List ℕ) → flows_at k sheet room low line i ≡ Ok ps → ListedFrom k low ps × (drop i sheet ≡ flows_text k ps)
  flows_sound zero low line i ps e =
      ⊎_elim
      (ended i low ps)
      (λ d. let y = on_ok (on_line line 5 (flow_at k sheet i)) _ ps d.1 in let n = y.2 in grind arith)
      (cond_ok (leb (length sheet) i) [] _ ps e)
  flows_sound (suc room) low line i ps e =
      ⊎_elim
      (ended i low ps)
      (λ d.
      let y = on_ok (on_line line 5 (flow_at k sheet i)) _ ps d.1 in
      let c = cond_pass (may_come k low y.0.0) _ _ ps y.2 in
      let r = on_ok (flows_at k sheet room (y.0.0 + 1) (line + 1) y.0.1) _ ps c.1 in
      let f = (flow_exactly k counts sheet).knows i y.0.1 y.0.0 (on_line_ok line 5 (flow_at k sheet i) y.0 y.1) in
      let m = and_parts (leb low y.0.0) (not (eqb (y.0.0 / k) (y.0.0 % k))) c.0 in
      let s = flows_sound room (y.0.0 + 1) (line + 1) y.0.1 r.0 r.1 in
      subst (λ (l : List ℕ). ListedFrom k low l × (drop i sheet ≡ flows_text k l)) (ok_same (y.0.0 ∷ r.0) ps r.2)
      ((leb-true low y.0.0 m.0, f.0, λ q. true≢false (sym m.1 ∙ ap not (eq-eqb (y.0.0 / k) (y.0.0 % k) q)), s.0), f.1 ∙ ap (λ l. flow_line k y.0.0 ++ l) s.1))
      (cond_ok (leb (length sheet) i) [] _ ps e)

-- pairs that may be listed from a later one on may be listed from an earlier one on
listed_earlier : (k low below : ℕ) (ps : List ℕ) → below ≤ low → ListedFrom k low ps → ListedFrom k below ps
listed_earlier k low below [] h l = tt
listed_earlier k low below (p ∷ ps) h l = (omega (arith, l.0), l.1, l.2, l.3)

kept_listed : (k : ℕ) (F : Flow) (a n : ℕ) → a + n ≤ k * k → ListedFrom k a (pairs_kept (listed k F) (tabulate a n (λ p. p)))
kept_listed k F a zero h = tt
kept_listed k F a (suc n) h =
    let rest : List ℕ = pairs_kept (listed k F) (tabulate (a + 1) n (λ p. p)) in
    let l = kept_listed k F (a + 1) n (omega arith) in
    cond_both (listed k F a) (a ∷ rest) rest (ListedFrom k a) (λ e. (omega arith, omega arith, parted (a / k) (a % k) (F (a / k) (a % k)) e, l)) (λ e. listed_earlier k (a + 1) a rest (omega arith) l)
  where
    parted : (u v : ℕ) (t : Bool) → (not (eqb u v) && t) ≡ true → u ≡ v → ⊥
    parted u v t e q = grind (arith, nat_tests)

-- the pairs of flows are listed ascending, without self flows
pub pairs_listed : (k : ℕ) (F : Flow) → ListedFrom k 0 (flow_pairs k F)
pairs_listed k F = kept_listed k F 0 (k * k) (omega arith)

among_below : (k low : ℕ) (ps : List ℕ) (r : ℕ) → ListedFrom k low ps → r < low → among r ps ≡ false
among_below k low [] r l h = refl
among_below k low (p ∷ ps) r l h = or_from (eqb r p) (among r ps) (ne_eqb r p (λ e. omega (arith, l.0))) (among_below k (p + 1) ps r l.3 (omega (arith, l.0)))

among_self : (k low : ℕ) (ps : List ℕ) (r : ℕ) → ListedFrom k low ps → r / k ≡ r % k → among r ps ≡ false
among_self k low [] r l e = refl
among_self k low (p ∷ ps) r l e =
    or_from (eqb r p) (among r ps) (ne_eqb r p (λ q. l.2 (ap (λ n. n / k) (sym q) ∙ e ∙ ap (λ n. n % k) q))) (among_self k (p + 1) ps r l.3 e)

pub among_within : (k low : ℕ) (ps : List ℕ) (r : ℕ) → ListedFrom k low ps → among r ps ≡ true → r < k * k
among_within k low [] r l e = grind arith
among_within k low (p ∷ ps) r l e = ⊎_elim (λ (q : eqb r p ≡ true). omega (arith, l.1, eqb-true r p q)) (among_within k (p + 1) ps r l.3) (or_cases (eqb r p) (among r ps) e)

-- a test that holds of just the pairs listed keeps just those
module _ (k : ℕ) (f : ℕ → Bool) where
  kept_are : (a n : ℕ) (ps : List ℕ) → ListedFrom k a ps → a + n ≡ k * k → ((p : ℕ) → a ≤ p → p < k * k → f p ≡ among p ps) → pairs_kept f (tabulate a n (λ p. p)) ≡ ps
  kept_are a zero [] l h same = refl
  kept_are a zero (p ∷ ps) l h same = absurd (omega (arith, l.0, l.1))
  kept_are a (suc n) [] l h same =
      cond-false (f a) _ _ (same a (omega arith) (omega arith)) ∙ kept_are (a + 1) n [] tt (omega arith) (λ p low high. same p (omega arith) high)
  kept_are a (suc n) (p ∷ ps) l h same =
      ⊎_elim
      (λ (q : a ≡ p).
      cond-true (f a) _ _ (same a (omega arith) (omega arith) ∙ or_left (eqb a p) (among a ps) (eq-eqb a p q))
      ∙ ap (λ r. a ∷ r) (kept_are (a + 1) n ps (listed_earlier k (p + 1) (a + 1) ps (omega arith) l.3) (omega arith) (λ r low high. same r (omega arith) high ∙ other r p (among r ps) (λ e. omega arith)))
      ∙ ap (λ r. r ∷ ps) q)
      (λ (q : a ≡ p → ⊥).
      let later : a + 1 ≤ p = omega (arith, l.0, q) in
      cond-false (f a) _ _ (same a (omega arith) (omega arith) ∙ among_below k (a + 1) (p ∷ ps) a (later, l.1, l.2, l.3) (omega arith))
      ∙ kept_are (a + 1) n (p ∷ ps) (later, l.1, l.2, l.3) (omega arith) (λ r low high. same r (omega arith) high))
      (cases_eq a p)
    where
      other : (r p : ℕ) (t : Bool) → (r ≡ p → ⊥) → (eqb r p || t) ≡ t
      other r p t h = grind (arith, nat_tests)

-- the flows that are said by pairs in order, with all self flows, are listed as those pairs
pub said_pairs : (k : ℕ) → 1 ≤ k → (ps : List ℕ) → ListedFrom k 0 ps → flow_pairs k (λ u v. (eqb u v && ltb u k) || (ltb v k && among (u * k + v) ps)) ≡ ps
said_pairs k some ps l = kept_are k _ 0 (k * k) ps l (omega arith) (λ p low high. ap (λ q. not (eqb (p / k) (p % k)) && ((eqb (p / k) (p % k) && ltb (p / k) k) || (ltb (p % k) k && among q ps))) (div-add-mod' p k) ∙ said (p / k) (p % k) k (among p ps) (mod_below p k some) (among_self k 0 ps p l))
  where
    said : (u v k : ℕ) (t : Bool) → v < k → (u ≡ v → t ≡ false) → (not (eqb u v) && ((eqb u v && ltb u k) || (ltb v k && t))) ≡ t
    said u v k t h n = ⊎_elim (λ (e : u ≡ v). let f = n e in grind (arith, nat_tests)) (λ (e : u ≡ v → ⊥). grind (arith, nat_tests)) (cases_eq u v)
