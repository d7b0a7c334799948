-- The meaning that each of the three published ones is, and its name.
use Rattle.std.specs.Prelude.{◌≡◌, ◌↔◌, ℕ, List, Ok, Result, codes}
use Rattle.links.specs.Meaning.{MeaningValue}
use Rattle.links.specs.Three.{purge_meaning, intransitive_purge_meaning, transmitted_meaning}
use Rattle.meaning.specs.declared.published.NoSuchMeaning.{NoSuchMeaning}
use Rattle.meaning.specs.declared.published.Published.{Published}
use Rattle.meaning.specs.declared.published.Published.TheVariants.{P, Ip, Ta}

abbrev pub published_meaning : Published → MeaningValue
published_meaning P = purge_meaning
published_meaning Ip = intransitive_purge_meaning
published_meaning Ta = transmitted_meaning

abbrev pub meaning_name : Published → List ℕ
meaning_name P = codes "P"
meaning_name Ip = codes "IP"
meaning_name Ta = codes "TA"

-- a text is read as just the meaning whose name it is
abbrev pub NameRead : List ℕ → Result Published NoSuchMeaning → Type 0
NameRead text r = (m : Published) → (r ≡ Ok m) ↔ (text ≡ meaning_name m)
