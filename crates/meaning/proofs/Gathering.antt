-- For sets of consoles that stand for lists: one is affected in both or in neither, and sources grow in both alike.
use Rattle.std.proofs.Common.{◌≡◌, ℕ, ◌+◌, ◌<◌, Bool, true, false, ◌&&◌, ◌||◌, eqb, ltb, List, [], ◌∷◌, ◌++◌, reverse, length, get_or, take, Decides, sym, refl, ap, ◌∙◌, inl, inr, arith}
use Rattle.std.proofs.lemmas.List.{reverse-append, take_more}
use Rattle.std.specs.List.{list_any, range_with_len}
use Rattle.std.proofs.lemmas.List.FromFn.{length-range_with_len, get_or-range_with_len}
use Rattle.std.proofs.lemmas.List.Folds.{list_any_at}
use Rattle.std.proofs.lemmas.Bool.{false≢true, eqb-true, eq-eqb, or_cases, or_left, or_right, and_from, and_parts, cond-true, cond-false}
use Rattle.std.proofs.lemmas.Bool.Decides.{nat_tests, same_from_decides}
use Rattle.theory.specs.Flows.{Flow, FlowsWithin}
use Rattle.policy.specs.Members.{holds}
use Rattle.policy.specs.declared.members.Members.{Members}
use Rattle.links.specs.Sequences.{some_of}
use Rattle.links.specs.Sources.{sources, intransitive_purge}
use Rattle.meaning.specs.Sets.{SetOf, source_added}

-- where some element passes, one does
one_passes : (f : ℕ → Bool) (s : List ℕ) → some_of f s ≡ true → (x : ℕ) × (some_of (eqb x) s ≡ true) × (f x ≡ true)
one_passes f [] e = absurd (false≢true e)
one_passes f (y ∷ s) e =
    elim (or_cases (f y) (some_of f s) e) [
      | inl here ↦ (y, or_left (eqb y y) (some_of (eqb y) s) (eq-eqb y y refl), here)
      | inr on ↦ let (x, within, passes) = one_passes f s on in (x, or_right (eqb x y) (some_of (eqb x) s) within, passes)
    ]

-- and where one does, some does
some_passes : (f : ℕ → Bool) (s : List ℕ) (x : ℕ) → some_of (eqb x) s ≡ true → f x ≡ true → some_of f s ≡ true
some_passes f [] x within passes = absurd (false≢true within)
some_passes f (y ∷ s) x within passes =
    elim (or_cases (eqb x y) (some_of (eqb x) s) within) [
      | inl here ↦ or_left (f y) (some_of f s) (ap f (sym (eqb-true x y here)) ∙ passes)
      | inr on ↦ or_right (f y) (some_of f s) (some_passes f s x on passes)
    ]

-- one of the list that a set stands for is affected just where a console of the set is
pub decides_affects : (F : Flow) (w : ℕ) (s : List ℕ) (set : Members) → SetOf s set → Decides (some_of (F w) s) ((x : ℕ) × (holds set x ≡ true) × (F w x ≡ true))
decides_affects F w s set stands = (found, (λ one. some_passes (F w) s one.0 (sym (stands one.0) ∙ one.1) one.2))
  where
    found : some_of (F w) s ≡ true → (x : ℕ) × (holds set x ≡ true) × (F w x ≡ true)
    found e = let (x, within, affected) = one_passes (F w) s e in (x, stands x ∙ within, affected)

any_passes : (f : ℕ → Bool) (s : List ℕ) → list_any f s ≡ true → (x : ℕ) × (f x ≡ true)
any_passes f [] e = absurd (false≢true e)
any_passes f (y ∷ s) e = elim (or_cases (f y) (list_any f s) e) [ inl here ↦ (y, here) | inr on ↦ any_passes f s on ]

-- w may affect a console of the set just where it may affect one of the list that the set stands for
pub any_affected : (F : Flow) (k : ℕ) → FlowsWithin k F → (w : ℕ) (s : List ℕ) (set : Members) → SetOf s set
    → list_any (λ x. holds set x && F w x) (range_with_len 0 k) ≡ some_of (F w) s
any_affected F k within w s set stands =
    same_from_decides {P = some_of (F w) s ≡ true} (list_any test (range_with_len 0 k)) (some_of (F w) s) (listed, found) ((λ e. e), (λ e. e))
  where
    test : ℕ → Bool
    test x = holds set x && F w x

    listed : list_any test (range_with_len 0 k) ≡ true → some_of (F w) s ≡ true
    listed e = let (x, both) = any_passes test (range_with_len 0 k) e in
        let parts = and_parts (holds set x) (F w x) both in (decides_affects F w s set stands).1 (x, parts.0, parts.1)

    found : some_of (F w) s ≡ true → list_any test (range_with_len 0 k) ≡ true
    found e = let (x, one, affected) = (decides_affects F w s set stands).0 e in
        let below : x < k = (within w x affected).1 in
        let at : get_or (range_with_len 0 k) x 0 ≡ x = get_or-range_with_len 0 k x 0 below ∙ omega arith in
        list_any_at test (range_with_len 0 k) x 0 (omega (arith, length-range_with_len 0 k))
        (ap test at ∙ and_from (holds set x) (F w x) one affected)

-- and then it is one of the k consoles
pub any_below : (F : Flow) (k : ℕ) → FlowsWithin k F → (w : ℕ) (set : Members) → list_any (λ x. holds set x && F w x) (range_with_len 0 k) ≡ true → w < k
any_below F k within w set e =
    let (x, both) = any_passes (λ x. holds set x && F w x) (range_with_len 0 k) e in
    (within w x (and_parts (holds set x) (F w x) both).1).0

room : (x w : ℕ) (g : Bool) → w < 32 → (g || (eqb x w && ltb x 32)) ≡ (eqb x w || g)
room x w g small = grind (arith, nat_tests)

-- one console more in the set is one more in the list, where the set has room for it
pub set_with : (w : ℕ) (s : List ℕ) (set more : Members) → w < 32 → SetOf s set → ((x : ℕ) → holds more x ≡ (holds set x || (eqb x w && ltb x 32))) → SetOf (w ∷ s) more
set_with w s set more small stands added x = added x ∙ room x w (holds set x) small ∙ ap (λ g. eqb x w || g) (stands x)

-- a sequence gone through from the back: the set has its sources, and what it kept, the last first, is what IP keeps
pub record Carried (F : Flow) (owner : ℕ → ℕ) (u : ℕ) (r kept : List ℕ) (set : Members) : Type 0 where
  pub stands : SetOf (sources F owner u r) set
  pub keeps : kept ≡ reverse (intransitive_purge F owner u r)

module _ (F : Flow) (owner : ℕ → ℕ) (u a w : ℕ) (of-a : w ≡ owner a) (r kept : List ℕ) (set more : Members)
    (grown : (s : List ℕ) → SetOf s set → SetOf (source_added F w s) more) (before : Carried F owner u r kept set) where
  around : SetOf (sources F owner u (a ∷ r)) more
  around = rw of-a at (grown (sources F owner u r) before.stands)

  marked : some_of (eqb (owner a)) (sources F owner u (a ∷ r)) ≡ holds more w
  marked = sym (around (owner a)) ∙ ap (holds more) (sym of-a)

  left : List ℕ
  left = intransitive_purge F owner u r

  -- one step on, where the command is kept and where it is not
  pub carried_kept : holds more w ≡ true → Carried F owner u (a ∷ r) (kept ++ (a ∷ [])) more
  unfolding left
  carried_kept has = record {
    stands = around;
    keeps = ap (λ l. l ++ (a ∷ [])) before.keeps ∙ sym (reverse-append (a ∷ []) left) ∙ ap reverse (sym (cond-true _ (a ∷ left) left (marked ∙ has)));
  }

  pub carried_left : holds more w ≡ false → Carried F owner u (a ∷ r) kept more
  unfolding left
  carried_left has = record { stands = around; keeps = before.keeps ∙ ap reverse (sym (cond-false _ (a ∷ left) left (marked ∙ has))) }

-- one command more of those that were passed from the back
pub back_more : (q : List ℕ) (n m a : ℕ) → m ≡ n + 1 → (n < length q) × (a ≡ get_or q n a) → reverse (take m q) ≡ a ∷ reverse (take n q)
back_more q n m a one_more (inside, here) =
    ap (λ i. reverse (take i q)) one_more ∙ ap reverse (take_more q n a inside ∙ ap (λ x. take n q ++ (x ∷ [])) (sym here)) ∙ reverse-append (take n q) (a ∷ [])
