-- For IP: a link keeps the sources, and the intransitive purge selects the commands whose consoles may affect one.
use Rattle.std.proofs.Common.{◌≡◌, ℕ, ◌<◌, Bool, true, false, cond, eqb, List, [], ◌∷◌, refl, ap, inl, inr}
use Rattle.std.proofs.lemmas.Bool.{false≢true, not-true, not_from_false, eq-eqb, ne_eqb, or_left, cond-false, cond_both, cases_Bool}
use Rattle.theory.specs.Flows.{Flow}
use Rattle.links.specs.Sequences.{Every, some_of}
use Rattle.links.specs.Sources.{sources, intransitive_purge}
use Rattle.links.specs.Links.{Link, drops, exchanges, later}
use Rattle.links.specs.Laws.{Setting, MeaningLaws}
use Rattle.links.specs.Three.{intransitive_purge_meaning}
use Rattle.links.proofs.Sequences.{Below, all_map, none_passes, all_fail}
use Rattle.links.proofs.Likeness.{intransitive_purge_alike}
use Rattle.links.proofs.Selecting.{Selects, selecting_faithful}
use Rattle.links.proofs.Antitone.{laws, intransitive_purge_questions}
use Rattle.links.proofs.Evenhanded.{intransitive_purge_evenhanded}

-- A console put in front of s where it may affect one of s stands in the result exactly then. This is the only use of self flows:
-- one that may not affect itself could stand in s all the same.
added_where_affecting : (F : Flow) (w : ℕ) → F w w ≡ true → (s : List ℕ) (b : Bool) → some_of (F w) s ≡ b → some_of (eqb w) (cond b (w ∷ s) s) ≡ b
added_where_affecting F w self s true e = or_left (eqb w w) (some_of (eqb w) s) (eq-eqb w w refl)
added_where_affecting F w self s false e =
    all_fail (eqb w) s (all_map (λ x unaffected. ne_eqb w x (λ same. cc)) s (none_passes (F w) s e))

module _ {k n : ℕ} {F : Flow} {owner : ℕ → ℕ} {u : ℕ} (setting : Setting k n F owner u) where
  -- a command is kept where its console may affect a source of what follows
  purge_step : (a : ℕ) (r : List ℕ) → a < n
      → intransitive_purge F owner u (a ∷ r) ≡ cond (some_of (F (owner a)) (sources F owner u r)) (a ∷ intransitive_purge F owner u r) (intransitive_purge F owner u r)
  purge_step a r below =
      let w = owner a in
      let s = sources F owner u r in
      rw (added_where_affecting F w (setting.selves w (setting.owned a below)) s (some_of (F w) s) refl)

  -- what holds of the console and of each giver holds of each source
  all_of_sources : (P : ℕ → Type 0) → P u → (r : List ℕ) → Every (λ c. P (owner c)) r → Every P (sources F owner u r)
  all_of_sources P at-u [] h = (at-u, tt)
  all_of_sources P at-u (a ∷ r) h =
      let s = sources F owner u r in
      let on = all_of_sources P at-u r h.1 in
      cond_both (some_of (F (owner a)) s) (owner a ∷ s) s (Every P) (λ e. (h.0, on)) (λ e. on)

  -- and the other way round, of the console and of each giver of what is left
  all_from_sources : (P : ℕ → Type 0) (r : List ℕ) → Below n r → Every P (sources F owner u r) → P u × Every (λ c. P (owner c)) (intransitive_purge F owner u r)
  all_from_sources P [] below h = (h.0, tt)
  all_from_sources P (a ∷ r) below h =
      elim (cases_Bool (some_of (F (owner a)) (sources F owner u r))) [
        | inl kept ↦
            let here = rw kept at h in
            let rest = all_from_sources P r below.1 here.1 in
            rw (purge_step a r below.0, kept) (rest.0, (here.0, rest.1))
        | inr unkept ↦ rw (purge_step a r below.0, unkept) (all_from_sources P r below.1 (rw unkept at h))
      ]

  -- a console of which a command may be dropped affects no source of what follows
  affects_no_source : (w : ℕ) (r : List ℕ) → intransitive_purge_meaning.drop F u w ≡ true
      → Every (λ c. intransitive_purge_meaning.after_drop F u w (owner c) ≡ true) r → some_of (F w) (sources F owner u r) ≡ false
  affects_no_source w r dropped after =
      all_fail (F w) (sources F owner u r)
      (all_of_sources (λ x. F w x ≡ false) (not-true (F w u) dropped) r (all_map (λ c. not-true (F w (owner c))) r after))

  link_keeps_sources : {p q : List ℕ} → Link intransitive_purge_meaning n F owner u p q → sources F owner u p ≡ sources F owner u q
  link_keeps_sources (drops a r below dropped after) =
      cond-false (some_of (F (owner a)) (sources F owner u r)) _ _ (affects_no_source (owner a) r dropped after)
  link_keeps_sources (exchanges a b r never _) = absurd (false≢true never)
  link_keeps_sources (later c l) = ap (λ s. cond (some_of (F (owner c)) s) (owner c ∷ s) s) (link_keeps_sources l)

  selects : Selects intransitive_purge_meaning n F owner u (λ a r. some_of (F (owner a)) (sources F owner u r)) (intransitive_purge F owner u)
  selects = record {
    empty = refl;
    step = purge_step;
    never = λ v w. refl;
    same = λ a l. ap (some_of (F (owner a))) (link_keeps_sources l);
    unkept = λ a r. affects_no_source (owner a) r;
    droppable = λ a r below e.
        let unaffected = all_from_sources (λ x. F (owner a) x ≡ false) r below (none_passes (F (owner a)) (sources F owner u r) e) in (
          not_from_false (F (owner a) u) unaffected.0,
          all_map (λ c. not_from_false (F (owner a) (owner c))) (intransitive_purge F owner u r) unaffected.1,
        );
  }

pub intransitive_purge_laws : MeaningLaws intransitive_purge_meaning
intransitive_purge_laws =
    laws
    (selecting_faithful intransitive_purge_meaning intransitive_purge
    (λ F owner u a r. some_of (F (owner a)) (sources F owner u r)) intransitive_purge_alike (λ k n F owner u setting. selects setting))
    intransitive_purge_questions
    intransitive_purge_evenhanded
