-- For the answers of the three meanings: two sequences are alike exactly when what is left of them is equal.
use Rattle.std.proofs.Common.{◌≡◌, true, refl, arith}
use Rattle.std.proofs.lemmas.Bool.Decides.{nat_tests}
use Rattle.std.proofs.lemmas.Bool.{eq-eqb}
use Rattle.std.specs.Cmp.Lexicographic.{bytes_decides}
use Rattle.links.specs.Purge.{purge}
use Rattle.links.specs.Sources.{intransitive_purge}
use Rattle.links.specs.Transmitted.{Told, nothing, told, ta, same_told}
use Rattle.links.specs.Three.{purge_meaning, intransitive_purge_meaning, transmitted_meaning}
use Rattle.links.specs.Equality.{AlikeWhereEqual}

same_told_to_equal : (x y : Told) → same_told x y ≡ true → x ≡ y
same_told_to_equal nothing nothing e = refl
same_told_to_equal nothing (told f g b) e = cc
same_told_to_equal (told d h a) nothing e = cc
same_told_to_equal (told d h a) (told f g b) e = grind (arith, nat_tests, same_told_to_equal d f, same_told_to_equal h g)

same_told_as_itself : (x : Told) → same_told x x ≡ true
same_told_as_itself nothing = refl
same_told_as_itself (told d h a) = rw (eq-eqb a a refl, same_told_as_itself d) (same_told_as_itself h)

pub purge_alike : AlikeWhereEqual purge_meaning purge
purge_alike F owner u p q = bytes_decides (purge F owner u p) (purge F owner u q)

pub intransitive_purge_alike : AlikeWhereEqual intransitive_purge_meaning intransitive_purge
intransitive_purge_alike F owner u p q = bytes_decides (intransitive_purge F owner u p) (intransitive_purge F owner u q)

pub transmitted_alike : AlikeWhereEqual transmitted_meaning ta
transmitted_alike F owner u p q = (same_told_to_equal (ta F owner u p) (ta F owner u q), λ e. rw (← e) (same_told_as_itself (ta F owner u p)))
