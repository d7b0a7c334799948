-- For chains under other flows or other owners: where each yes to a question stays one, links stay links, and sequences stay alike.
use Rattle.std.proofs.Common.{◌≡◌, ℕ, ◌<◌, true, List}
use Rattle.theory.specs.Flows.{Flow}
use Rattle.links.specs.Meaning.{MeaningValue}
use Rattle.links.specs.Links.{Link, drops, exchanges, later, Linked, done, there, back}
use Rattle.links.specs.Laws.{Setting, Faithful}
use Rattle.links.proofs.Sequences.{Below, all_with}
use Rattle.links.proofs.Chains.{there_within, back_within}

-- Each yes under F and owner, on the consoles of commands below n, is one under G and giver.
pub record Carries (m : MeaningValue) (n : ℕ) (F G : Flow) (owner giver : ℕ → ℕ) (u : ℕ) : Type 0 where
  pub drop : (a : ℕ) → a < n → m.drop F u (owner a) ≡ true → m.drop G u (giver a) ≡ true
  pub after_drop : (a c : ℕ) → a < n → c < n → m.after_drop F u (owner a) (owner c) ≡ true → m.after_drop G u (giver a) (giver c) ≡ true
  pub exchange : (a b : ℕ) → a < n → b < n → m.exchange F u (owner a) (owner b) ≡ true → m.exchange G u (giver a) (giver b) ≡ true
  pub after_exchange : (a b c : ℕ) → a < n → b < n → c < n → m.after_exchange F u (owner a) (owner b) (owner c) ≡ true → m.after_exchange G u (giver a) (giver b) (giver c) ≡ true

module _ {m : MeaningValue} {n : ℕ} {F G : Flow} {owner giver : ℕ → ℕ} {u : ℕ} (carries : Carries m n F G owner giver u) where
  link_carried : {p q : List ℕ} → Link m n F owner u p q → Below n p → Link m n G giver u p q
  link_carried (drops a r below dropped after) h =
      drops a r below (carries.drop a below dropped) (all_with (λ c. carries.after_drop a c below) r h.1 after)
  link_carried (exchanges a b r exchanged after) h =
      exchanges a b r (carries.exchange a b h.0 h.1.0 exchanged) (all_with (λ c. carries.after_exchange a b c h.0 h.1.0) r h.1.1 after)
  link_carried (later c l) h = later c (link_carried l h.1)

  linked_carried : {p q : List ℕ} → Linked m n F owner u p q → Below n p → Linked m n G giver u p q
  linked_carried done h = done
  linked_carried (there l c) h = there (link_carried l h) (linked_carried c (there_within l h))
  linked_carried (back l c) h = let g = back_within l h in back (link_carried l g) (linked_carried c g)

-- so the link theorem carries `alike` too
pub alike_carried : {m : MeaningValue} {k n : ℕ} {F G : Flow} {owner giver : ℕ → ℕ} {u : ℕ} → Faithful m → Setting k n F owner u → Setting k n G giver u → Carries m n F G owner giver u
    → (p q : List ℕ) → Below n p → Below n q → m.alike F owner u p q ≡ true → m.alike G giver u p q ≡ true
alike_carried {k} {n} {F} {G} {owner} {giver} {u} faith before after carries p q hp hq yes_alike =
    faith.likened k n G giver u after p q hp hq (linked_carried carries (faith.linked k n F owner u before p q hp hq yes_alike) hp)
